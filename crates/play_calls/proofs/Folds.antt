-- A digest of several values is one of all their numbers.
use Rattle.std.proofs.Common.{◌≡◌, ℕ, List, [], ◌∷◌, refl, sym, ◌∙◌}
use Rattle.std.specs.List.{fold, flat_map}
use Rattle.std.proofs.lemmas.List.Sums.{fold-append}
use Rattle.play_calls.specs.Digests.{step, mixed}

pub mixed-flat_map : {X : Type 0} (f : X → List ℕ) (digest : ℕ) (xs : List X) → fold (λ d x. mixed d (f x)) digest xs ≡ mixed digest (flat_map f xs)
mixed-flat_map f digest [] = refl
mixed-flat_map f digest (x ∷ xs) = mixed-flat_map f (mixed digest (f x)) xs ∙ sym (fold-append step digest (f x) (flat_map f xs))
