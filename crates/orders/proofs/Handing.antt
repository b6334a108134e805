-- A loop that hands shares out in the order of the rows, by any change g of a row.
use Rattle.std.proofs.Common.{◌≡◌, ℕ, ◌+◌, ◌-◌, ◌≤◌, min, List, ◌++◌, take, drop, sum_by}
use Rattle.orders.specs.declared.row.OrderRow.{OrderRow}
use Rattle.orders.specs.Tables.{available, handed}

-- the rows below i are done, with `left` of k still to hand out
pub record Going (g : ℕ → OrderRow → OrderRow) (k : ℕ) (from : List OrderRow) (i left : ℕ) (rows : List OrderRow) : Type 0 where
  pub same : take i rows ++ handed g left (drop i rows) ≡ handed g k from
  pub within : left ≤ k
  pub sum : (k - left) + min left (sum_by available (drop i rows)) ≡ min k (sum_by available from)
