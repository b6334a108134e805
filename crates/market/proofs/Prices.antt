-- The best price, as a chain over the quotes finds it.
use Rattle.std.proofs.Common.{◌≡◌, ℕ, List, [], ◌∷◌, map, Some, None, Option, refl, ap, subst}
use Rattle.std.proofs.lemmas.Iterator.{YieldsList}
use Rattle.std.proofs.lemmas.Iterator.Consumers.{reduce_from_yields_List}
use Rattle.std.specs.Fn.{Called}
use Rattle.std.specs.Iterator.{FoldTurn, ReducesItems}
use Rattle.std.specs.List.{fold, reduce, FoldsTo}
use denote.Param.Members.{Mut}
use Rattle.market.specs.Best.{better_price, best_of, best_price}
use Rattle.market.specs.declared.quote.Quote.{Quote}
use Rattle.market.specs.declared.side.Side.{Side}

folded : (side : Side) (p : ℕ) (xs : List Quote) → fold (better_price side) p (map (λ x. x.price) xs) ≡ best_of side p xs
folded side p [] = refl
folded side p (x ∷ xs) = folded side (better_price side p x.price) xs

pub best_reduced : (side : Side) (xs : List Quote) → reduce (better_price side) (map (λ x. x.price) xs) ≡ best_price side xs
best_reduced side [] = refl
best_reduced side (x ∷ xs) = ap Some (folded side x.price xs)

-- `reduce` by a closure that gives h of its two items
module _ {A F : Type 0} (g : Mut F (A × (A × Unit {0})) A) (h : A → A → A) (f : F) (gives : (a x b : A) (q : F) → Called g f (a, (x, tt)) b q → (q ≡ f) × (b ≡ h a x)) where
  turns : (xs : List A) (p q : F × A) → p.0 ≡ f → FoldsTo (FoldTurn g) p xs q → FoldsTo (λ a x c. c ≡ h a x) p.1 xs q.1
  turns [] p q a e = ap (λ w. w.1) e
  turns (x ∷ xs) p q a c =
      let m = gives p.1 x c.0.1 c.0.0 (subst (λ w. Called g w (p.1, (x, tt)) c.0.1 c.0.0) a c.1) in
      (c.0.1, m.1, turns xs c.0 q m.0 c.2)

  pub reduce_called : {S : Type 0} {steps : S → Option A → S → Type 0} {all : List A} (s : S) (r : Option A) → ReducesItems steps g s f r → YieldsList steps (λ x. x) s all → r ≡ reduce h all
  reduce_called s None d e = reduce_from_yields_List h s None d e
  reduce_called s (Some y) d e = reduce_from_yields_List h s (Some y) (d.0, d.1, d.3, turns d.1 (f, d.0) (d.2, y) refl d.4) e
