-- The walk over two lists, of which parts are done.
use Rattle.std.proofs.Common.{◌≡◌, ℕ, zero, suc, ◌+◌, ◌-◌, ◌<◌, ◌≤◌, min, List, [], ◌∷◌, length, get_or, drop, refl, arith}
use Rattle.std.proofs.lemmas.List.{drop_more, drop_all}
use Rattle.std.proofs.lemmas.Bool.{le-leb, lt-leb}
use Rattle.routing.specs.Shares.{Tie, put, ties}
use Rattle.routing.proofs.Walk.{walk, walk_ties}

-- the list with d taken off its head
abbrev pub less : ℕ → List ℕ → List ℕ
less d [] = []
less d (x ∷ xs) = (x - d) ∷ xs

less_none : (xs : List ℕ) → less 0 xs ≡ xs
less_none [] = refl
less_none (x ∷ xs) = let e : x - 0 ≡ x = omega arith in cc

-- what is left of the walk
abbrev pub onward : ℕ → List ℕ → ℕ → ℕ → List ℕ → ℕ → ℕ → List Tie
onward n rs i filled ss j spent =
    walk ((length rs - i) + (length ss - j)) n i (less filled (drop i rs)) j (less spent (drop j ss))

pub onward_start : (n : ℕ) (rs ss : List ℕ) → onward n rs 0 0 ss 0 0 ≡ ties n rs ss
onward_start n rs ss =
    let a : length rs - 0 ≡ length rs = omega arith in
    let b : length ss - 0 ≡ length ss = omega arith in
    rw (a, b, less_none rs, less_none ss) (walk_ties n rs ss)

walk_no_orders : (f n i j : ℕ) (ss : List ℕ) → walk f n i [] j ss ≡ []
walk_no_orders zero n i j ss = refl
walk_no_orders (suc f) n i j ss = refl

walk_no_quotes : (f n i j : ℕ) (rs : List ℕ) → walk f n i rs j [] ≡ []
walk_no_quotes zero n i j rs = refl
walk_no_quotes (suc f) n i j [] = refl
walk_no_quotes (suc f) n i j (r ∷ rs) = refl

module _ (n : ℕ) (rs : List ℕ) (i filled : ℕ) (ss : List ℕ) (j spent : ℕ) where
  pub onward_no_orders : length rs ≤ i → onward n rs i filled ss j spent ≡ []
  onward_no_orders h = rw (drop_all i rs h) (walk_no_orders _ n i j (less spent (drop j ss)))

  pub onward_no_quotes : length ss ≤ j → onward n rs i filled ss j spent ≡ []
  onward_no_quotes h = rw (drop_all j ss h) (walk_no_quotes _ n i j (less filled (drop i rs)))

  module _ (r s : ℕ) (in-orders : i < length rs) (in-quotes : j < length ss)
      (r-is : r ≡ get_or rs i 0 - filled) (s-is : s ≡ get_or ss j 0 - spent) where
    -- the quote ends first, or both end
    pub onward_quote : s ≤ r → onward n rs i filled ss j spent ≡ put i j (min (min r s) n) (onward (n - s) rs i (filled + s) ss (j + 1) 0)
    onward_quote h =
        let f : (length rs - i) + (length ss - j) ≡ suc ((length rs - i) + (length ss - (j + 1))) = omega arith in
        let d = drop_more rs i 0 in-orders in
        let e = drop_more ss j 0 in-quotes in
        let l : get_or rs i 0 - (filled + s) ≡ r - s = omega arith in
        let z = less_none (drop (j + 1) ss) in
        let t = le-leb s r h in
        rw (f, d, e, ← r-is, ← s-is, t, l, z)

    -- the order ends first
    pub onward_order : r < s → onward n rs i filled ss j spent ≡ put i j (min (min r s) n) (onward (n - r) rs (i + 1) 0 ss j (spent + r))
    onward_order h =
        let f : (length rs - i) + (length ss - j) ≡ suc ((length rs - (i + 1)) + (length ss - j)) = omega arith in
        let d = drop_more rs i 0 in-orders in
        let e = drop_more ss j 0 in-quotes in
        let l : get_or ss j 0 - (spent + r) ≡ s - r = omega arith in
        let z = less_none (drop (i + 1) rs) in
        let t = lt-leb s r h in
        rw (f, d, e, ← r-is, ← s-is, t, l, z)
