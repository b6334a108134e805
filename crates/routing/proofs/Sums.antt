-- Sums of shares on the line.
use Rattle.std.proofs.Common.{◌≡◌, ℕ, zero, suc, ◌+◌, ◌-◌, ◌<◌, ◌≤◌, min, max, List, [], ◌∷◌, length, get_or, take, sum, arith}
use Rattle.std.proofs.lemmas.List.Sums.{sum_by-cons}
use Rattle.routing.specs.Shares.{shares_before, share, given, across, down}
use Rattle.routing.specs.Laws.{HandedOut, AheadFirst}

-- one entry more in front
pub sum-cons : (x : ℕ) (xs : List ℕ) → sum (x ∷ xs) ≡ x + sum xs
sum-cons x xs = sum_by-cons (λ n. n) x xs

pub shares_before-cons : (x : ℕ) (xs : List ℕ) (i : ℕ) → shares_before (x ∷ xs) (suc i) ≡ x + shares_before xs i
shares_before-cons x xs i = sum-cons x (take i xs)

sum-given : (k a : ℕ) (rs : List ℕ) → sum (given k a rs) ≡ min (k - a) (sum rs)
sum-given k a [] = omega arith
sum-given k a (r ∷ rs) = omega (arith, sum-cons (share k r a) (given k (a + r) rs), sum-cons r rs, sum-given k (a + r) rs)

pub handed_out_lem : HandedOut
handed_out_lem k rs = omega (arith, sum-given k 0 rs)

-- an order ends where the next starts, or before
pub start_after : (rs : List ℕ) (i j : ℕ) → i < j → j < length rs → shares_before rs i + get_or rs i 0 ≤ shares_before rs j
start_after [] i j h l = omega arith
start_after (r ∷ rs) i zero h l = omega arith
start_after (r ∷ rs) zero (suc j) h l = omega (arith, shares_before-cons r rs j)
start_after (r ∷ rs) (suc i) (suc j) h l = omega (
  arith,
  shares_before-cons r rs i,
  shares_before-cons r rs j,
  start_after rs i j (omega arith) (omega arith),
)

pub ahead_first : AheadFirst
ahead_first k rs i j h l p = omega (arith, start_after rs i j h l)

pub across_is : (n a r b : ℕ) (ss : List ℕ) → across n a r b ss ≡ min (min (a + r) (b + sum ss)) n - max a b
across_is n a r b [] = omega arith
across_is n a r b (s ∷ ss) = grind (arith, sum-cons s ss, across_is n a r (b + s) ss)

pub down_is : (n a : ℕ) (rs : List ℕ) (b s : ℕ) → down n a rs b s ≡ min (min (a + sum rs) (b + s)) n - max a b
down_is n a [] b s = omega arith
down_is n a (r ∷ rs) b s = grind (arith, sum-cons r rs, down_is n (a + r) rs b s)
