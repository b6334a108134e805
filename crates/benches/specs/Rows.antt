use Rattle.std.specs.Prelude.{Bool, cond, ◌==◌, nat_lt}
use Rattle.benches.specs.declared.row.Row.{Row}

-- the higher price, then the lower class, then the lower number
abbrev pub row_ahead : Row → Row → Bool
row_ahead a b = cond (a.price == b.price)
    (cond (a.class == b.class) (nat_lt a.number b.number) (nat_lt a.class b.class))
    (nat_lt b.price a.price)
