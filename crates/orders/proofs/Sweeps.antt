-- A loop that changes each row and adds up what can be moved.
use Rattle.std.proofs.Common.{◌≡◌, ℕ, ◌+◌, ◌-◌, ◌^◌, ◌≤◌, min, List, ◌++◌, map, take, drop, sum_by}
use Rattle.orders.specs.declared.row.OrderRow.{OrderRow}
use Rattle.orders.specs.Tables.{available}

-- the rows below i are done, and `total` is what they had, or the most that it can be
pub record Swept (f : OrderRow → OrderRow) (from : List OrderRow) (i total : ℕ) (rows : List OrderRow) : Type 0 where
  pub same : take i rows ++ map f (drop i rows) ≡ map f from
  pub sum : min (total + sum_by available (drop i rows)) (2 ^ 64 - 1) ≡ min (sum_by available from) (2 ^ 64 - 1)
  pub fits : total ≤ 2 ^ 64 - 1
