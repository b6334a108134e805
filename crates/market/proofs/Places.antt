-- What the item at a place says of a list.
use Rattle.std.proofs.Common.{◌≡◌, ℕ, zero, suc, ◌+◌, ◌<◌, List, [], ◌∷◌, drop, take, refl, arith}
use Rattle.std.proofs.lemmas.List.{drop_all}
use Rattle.std.specs.List.{slice_get}
use Rattle.std.specs.Option.{MatchOption}

-- what is left of the first n items, by the item at a place
pub left_first : {X : Type 0} (xs : List X) (i n : ℕ) → i < n
    → MatchOption (slice_get xs i) ((drop i (take n xs) ≡ []) × (drop (i + 1) (take n xs) ≡ [])) (λ x. drop i (take n xs) ≡ x ∷ drop (i + 1) (take n xs))
left_first xs i zero h = absurd (omega arith)
left_first [] zero (suc n) h = (refl, refl)
left_first [] (suc i) (suc n) h = (refl, drop_all (suc i + 1) [] (omega arith))
left_first (y ∷ ys) zero (suc n) h = refl
left_first (y ∷ ys) (suc i) (suc n) h = let is : suc i + 1 ≡ suc (i + 1) = omega arith in rw is (left_first ys i n (omega arith))
