-- What rests at a price, one row on.
use Rattle.std.proofs.Common.{◌≡◌, ℕ, ◌+◌, cond, leb, List, [], ◌∷◌, refl}
use Rattle.std.proofs.lemmas.List.Sums.{sum_by-cons}
use Rattle.pricing.specs.Books.{at_or_above, at_or_below}
use Rattle.orders.specs.declared.row.OrderRow.{OrderRow}
use Rattle.orders.specs.Rows.{level_of}
use Rattle.orders.specs.Tables.{rest_levels}

pub above_cons : (q : ℕ) (w : OrderRow) (ws : List OrderRow)
    → at_or_above q (rest_levels (w ∷ ws)) ≡ cond (leb q (level_of w).price) (level_of w).shares 0 + at_or_above q (rest_levels ws)
unfolding at_or_above
above_cons q w ws = sum_by-cons (λ l. cond (leb q l.price) l.shares 0) (level_of w) (rest_levels ws)

pub above_none : (q : ℕ) → at_or_above q [] ≡ 0
unfolding at_or_above
above_none q = refl

pub below_cons : (q : ℕ) (w : OrderRow) (ws : List OrderRow)
    → at_or_below q (rest_levels (w ∷ ws)) ≡ cond (leb (level_of w).price q) (level_of w).shares 0 + at_or_below q (rest_levels ws)
unfolding at_or_below
below_cons q w ws = sum_by-cons (λ l. cond (leb l.price q) l.shares 0) (level_of w) (rest_levels ws)

pub below_none : (q : ℕ) → at_or_below q [] ≡ 0
unfolding at_or_below
below_none q = refl
