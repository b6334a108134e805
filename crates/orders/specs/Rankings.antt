-- Which of two orders of a side goes ahead.
use Rattle.std.specs.Prelude.{ℕ, Bool, cond, ◌==◌, nat_lt}
use Rattle.orders.specs.declared.row.OrderRow.{OrderRow}
use Rattle.orders.specs.Rows.{level_of}

-- the better price, by its level, then the lower class, then the lower number
abbrev pub row_ahead : (ℕ → ℕ → Bool) → OrderRow → OrderRow → Bool
row_ahead better a b =
    let p : ℕ = (level_of a).price in
    let q : ℕ = (level_of b).price in
    cond (p == q)
    (cond (a.class == b.class) (nat_lt a.number b.number) (nat_lt a.class b.class))
    (better p q)
