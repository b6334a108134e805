-- The rows of one side: where a number stands, what rests at a price, and how each change leaves every row.
use Rattle.std.specs.Prelude.{ℕ, ◌-◌, cond, not, List, [], ◌∷◌, map, length, Some, None, Option, ◌==◌, nat_lt, slice_index_or, slice_set}
use Rattle.std.specs.List.{prefix_len}
use Rattle.pricing.specs.declared.level.Level.{Level}
use Rattle.orders.specs.declared.row.OrderRow.{OrderRow}
use Rattle.orders.specs.Rows.{empty_row, level_of, is_whole}

-- how many rows stand before the first with a number, and so its place, if any
abbrev pub before : ℕ → List OrderRow → ℕ
before n ws = prefix_len (λ w. not (w.number == n)) ws

abbrev pub place_of : ℕ → List OrderRow → Option ℕ
place_of n ws = cond (nat_lt (before n ws) (length ws)) (Some (before n ws)) None

-- the row at a place, counted from 0; an empty one past the end
abbrev pub nth_row : List OrderRow → ℕ → OrderRow
nth_row ws place = slice_index_or ws place empty_row

-- what rests at which price
abbrev pub rest_levels : List OrderRow → List Level
rest_levels ws = map level_of ws

-- the rest that can be moved, and a change: only where the counts add up
abbrev pub available : OrderRow → ℕ
available w = cond (is_whole w) w.rest 0

abbrev pub if_whole : (OrderRow → OrderRow) → OrderRow → OrderRow
if_whole f w = cond (is_whole w) (f w) w

-- a change of the row at a place; none past the end
abbrev pub changed_at : (OrderRow → OrderRow) → ℕ → List OrderRow → List OrderRow
changed_at f place ws = slice_set ws place (if_whole f (nth_row ws place))

-- k shares handed out in the order of the rows: each gets what it has, or what is left
abbrev pub handed : (ℕ → OrderRow → OrderRow) → ℕ → List OrderRow → List OrderRow
handed g k [] = []
handed g k (w ∷ ws) = if_whole (g k) w ∷ handed g (k - available w) ws
