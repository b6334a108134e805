-- Shares on a line: each entry of a ranked list has an interval, which begins where the ones ahead of it end.
use Rattle.std.specs.Prelude.{ℕ, zero, suc, ◌+◌, ◌-◌, min, max, cond, List, [], ◌∷◌, ◌++◌, take, sum, ◌==◌, slice_index}

-- shares that tie the order at a place to the quote at a place
pub record Tie : Type 0 where
  pub order : ℕ
  pub quote : ℕ
  pub shares : ℕ

-- the shares ahead of the i-th, which is where it starts
abbrev pub shares_before : List ℕ → ℕ → ℕ
shares_before xs i = sum (take i xs)

-- what an order with rest r and a shares ahead of it gets of k
abbrev pub share : ℕ → ℕ → ℕ → ℕ
share k r a = min r (k - a)

-- what each order gets of k, with a shares ahead of the first
abbrev pub given : ℕ → ℕ → List ℕ → List ℕ
given k a [] = []
given k a (r ∷ rs) = share k r a ∷ given k (a + r) rs

-- what ties the order at [a, a + r) to the quote at [b, b + s), within the first n shares
abbrev pub cell : ℕ → ℕ → ℕ → ℕ → ℕ → ℕ
cell n a r b s = min (min (a + r) (b + s)) n - max a b

-- the sum of an order's cells, with b ahead of the first quote
abbrev pub across : ℕ → ℕ → ℕ → ℕ → List ℕ → ℕ
across n a r b [] = 0
across n a r b (s ∷ ss) = cell n a r b s + across n a r (b + s) ss

-- the sum of a quote's cells, with a ahead of the first order
abbrev pub down : ℕ → ℕ → List ℕ → ℕ → ℕ → ℕ
down n a [] b s = 0
down n a (r ∷ rs) b s = cell n a r b s + down n (a + r) rs b s

-- a tie of c shares in front, where c is not 0
abbrev pub put : ℕ → ℕ → ℕ → List Tie → List Tie
put i j zero ts = ts
put i j (suc c) ts = record { order = i; quote = j; shares = suc c } ∷ ts

-- the ties of order i, which stands at [a, a + r), with the quotes from the j-th, which starts at b
abbrev pub line : ℕ → ℕ → ℕ → ℕ → ℕ → ℕ → List ℕ → List Tie
line n i a r j b [] = []
line n i a r j b (s ∷ ss) = put i j (cell n a r b s) (line n i a r (j + 1) (b + s) ss)

-- the ties of the orders from the i-th, which starts at a, with the quotes from the j-th, which starts at b
abbrev pub lines : ℕ → ℕ → ℕ → List ℕ → ℕ → ℕ → List ℕ → List Tie
lines n i a [] j b ss = []
lines n i a (r ∷ rs) j b ss = line n i a r j b ss ++ lines n (i + 1) (a + r) rs j b ss

abbrev pub ties : ℕ → List ℕ → List ℕ → List Tie
ties n rs ss = lines n 0 0 rs 0 0 ss

-- the shares on the ties of order i
abbrev pub of_order : ℕ → List Tie → ℕ
of_order i [] = 0
of_order i (t ∷ ts) = cond (t.order == i) t.shares 0 + of_order i ts

-- the shares on the ties of quote j
abbrev pub of_quote : ℕ → List Tie → ℕ
of_quote j [] = 0
of_quote j (t ∷ ts) = cond (t.quote == j) t.shares 0 + of_quote j ts

-- the shares on all ties
abbrev pub of_all : List Tie → ℕ
of_all [] = 0
of_all (t ∷ ts) = t.shares + of_all ts

-- what some ties leave of the order at a place, which has its rest, and of the quote at a place, which has its size
abbrev pub order_left : List ℕ → List Tie → ℕ → ℕ
order_left rs ts i = slice_index rs i - of_order i ts

abbrev pub quote_left : List ℕ → List Tie → ℕ → ℕ
quote_left ss ts j = slice_index ss j - of_quote j ts

-- how many of n shares can still go from an order to a quote: as many as are left of the order, of the quote and of n
abbrev pub room : ℕ → List ℕ → List ℕ → List Tie → ℕ → ℕ → ℕ
room n rs ss ts i j = min (min (order_left rs ts i) (quote_left ss ts j)) (n - of_all ts)
