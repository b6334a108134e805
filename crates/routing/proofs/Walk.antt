-- The walk gives the ties.
use Rattle.std.proofs.Common.{◌≡◌, ℕ, zero, suc, ◌+◌, ◌-◌, ◌<◌, ◌≤◌, min, cond, leb, List, [], ◌∷◌, ◌++◌, length, sym, refl, ◌∙◌, inl, inr, arith}
use Rattle.std.proofs.lemmas.Bool.{cases_Bool, leb-true, leb-false}
use Rattle.routing.specs.Shares.{Tie, cell, put, line, lines, ties}

-- the walk: each tie is as large as what is left of the order, of the quote and of n allows; fuel f
abbrev pub walk : ℕ → ℕ → ℕ → List ℕ → ℕ → List ℕ → List Tie
walk zero n i rs j ss = []
walk (suc f) n i [] j ss = []
walk (suc f) n i (r ∷ rs) j [] = []
walk (suc f) n i (r ∷ rs) j (s ∷ ss) =
    put i j (min (min r s) n)
    (cond (leb s r) (walk f (n - s) i ((r - s) ∷ rs) (j + 1) ss) (walk f (n - r) (i + 1) rs j ((s - r) ∷ ss)))

pub put_append : (i j c : ℕ) (xs ys : List Tie) → put i j c xs ++ ys ≡ put i j c (xs ++ ys)
put_append i j zero xs ys = refl
put_append i j (suc c) xs ys = refl

pub put_none : (i j c : ℕ) (ts : List Tie) → c ≡ 0 → put i j c ts ≡ ts
put_none i j c ts h = rw h

-- an order has no ties with quotes past its end
pub line_late : (n i a r j b : ℕ) (ss : List ℕ) → a + r ≤ b → line n i a r j b ss ≡ []
line_late n i a r j b [] h = refl
line_late n i a r j b (s ∷ ss) h =
    put_none i j (cell n a r b s) (line n i a r (j + 1) (b + s) ss) (omega arith) ∙ line_late n i a r (j + 1) (b + s) ss (omega arith)

-- what of an order lies before the quotes does not matter
line_shift : (n i a r c q j b : ℕ) (ss : List ℕ) → a + r ≡ c + q → a ≤ b → c ≤ b → line n i a r j b ss ≡ line n i c q j b ss
line_shift n i a r c q j b [] e h k = refl
line_shift n i a r c q j b (s ∷ ss) e h k =
    let x : cell n a r b s ≡ cell n c q b s = grind arith in
    let y = line_shift n i a r c q (j + 1) (b + s) ss e (omega arith) (omega arith) in
    cc

-- a quote before the orders has no ties with them
lines_skip : (n i a : ℕ) (rs : List ℕ) (j b s : ℕ) (ss : List ℕ) → b + s ≤ a
    → lines n i a rs j b (s ∷ ss) ≡ lines n i a rs (j + 1) (b + s) ss
lines_skip n i a [] j b s ss h = refl
lines_skip n i a (r ∷ rs) j b s ss h =
    let x = put_none i j (cell n a r b s) (line n i a r (j + 1) (b + s) ss) (omega arith) in
    let y = lines_skip n (i + 1) (a + r) rs j b s ss (omega arith) in
    cc

-- what of a quote lies before the orders does not matter
lines_trim : (n i a : ℕ) (rs : List ℕ) (j b s c q : ℕ) (ss : List ℕ) → b + s ≡ c + q → b ≤ a → c ≤ a
    → lines n i a rs j b (s ∷ ss) ≡ lines n i a rs j c (q ∷ ss)
lines_trim n i a [] j b s c q ss e h k = refl
lines_trim n i a (r ∷ rs) j b s c q ss e h k =
    let x : cell n a r b s ≡ cell n a r c q = grind arith in
    let y = lines_trim n (i + 1) (a + r) rs j b s c q ss e (omega arith) (omega arith) in
    cc

pub lines_none : (n i a : ℕ) (rs : List ℕ) (j b : ℕ) → lines n i a rs j b [] ≡ []
lines_none n i a [] j b = refl
lines_none n i a (r ∷ rs) j b = lines_none n (i + 1) (a + r) rs j b

-- the walk from the p-th share on
walk_is : (f n p i : ℕ) (rs : List ℕ) (j : ℕ) (ss : List ℕ) → length rs + length ss ≤ f
    → walk f (n - p) i rs j ss ≡ lines n i p rs j p ss
walk_is zero n p i [] j ss h = refl
walk_is zero n p i (r ∷ rs) j ss h = absurd (omega arith)
walk_is (suc f) n p i [] j ss h = refl
walk_is (suc f) n p i (r ∷ rs) j [] h = sym (lines_none n (i + 1) (p + r) rs j p)
walk_is (suc f) n p i (r ∷ rs) j (s ∷ ss) h =
    let size : min (min r s) (n - p) ≡ cell n p r p s = grind arith in
    elim (cases_Bool (leb s r)) [
      | inl t ↦
          let le : s ≤ r = leb-true s r t in
          let left : (n - p) - s ≡ n - (p + s) = omega arith in
          let end : (p + s) + (r - s) ≡ p + r = omega arith in
          let ih = walk_is f n (p + s) i ((r - s) ∷ rs) (j + 1) ss (omega arith) in
          let same = line_shift n i (p + s) (r - s) p r (j + 1) (p + s) ss end (omega arith) (omega arith) in
          let skip = lines_skip n (i + 1) (p + r) rs j p s ss (omega arith) in
          let out = put_append i j (cell n p r p s) (line n i p r (j + 1) (p + s) ss) (lines n (i + 1) (p + r) rs j p (s ∷ ss)) in
          cc
      | inr t ↦
          let lt : r < s = leb-false s r t in
          let left : (n - p) - r ≡ n - (p + r) = omega arith in
          let ih = walk_is f n (p + r) (i + 1) rs j ((s - r) ∷ ss) (omega arith) in
          let late = line_late n i p r (j + 1) (p + s) ss (omega arith) in
          let trim = lines_trim n (i + 1) (p + r) rs j p s (p + r) (s - r) ss (omega arith) (omega arith) (omega arith) in
          let out = put_append i j (cell n p r p s) (line n i p r (j + 1) (p + s) ss) (lines n (i + 1) (p + r) rs j p (s ∷ ss)) in
          cc
    ]

pub walk_ties : (n : ℕ) (rs ss : List ℕ) → walk (length rs + length ss) n 0 rs 0 ss ≡ ties n rs ss
walk_ties n rs ss =
    let e : n - 0 ≡ n = omega arith in
    let w = walk_is (length rs + length ss) n 0 0 rs 0 ss (omega arith) in
    cc
