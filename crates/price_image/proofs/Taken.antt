-- The prices below one, as a chain takes them from those of a book.
use Rattle.std.proofs.Common.{◌≡◌, ◌<◌, ◌≤◌, ℕ, Bool, true, false, List, [], ◌∷◌, Option, Some, None, is_some, MatchBool, MatchOption, inl, inr, sym, subst, ap, ltb, ltb-true, ltb-false, true≢false}
use Rattle.std.specs.Fn.{CalledAt}
use Rattle.std.specs.Iterator.{Yields}
use Rattle.std.specs.Iterator.Adapters.{take_while_steps}
use Rattle.std.specs.declared.iter.TakeWhile.{TakeWhile}
use denote.Param.Members.{Mut}
use denote.Ref.{Bor}
use Rattle.image.specs.Readers.{reader_book}
use Rattle.price_image.specs.declared.prices.Prices.{Prices}
use Rattle.price_image.specs.Prices.{StepsUp, PricesBetween}

module _ {F : Type 0} (g : Mut F (Bor ℕ × Unit {0}) Bool) (f : F) (high : ℕ)
    (asks : (x : ℕ) (b : Bool) (q : F) → CalledAt g f x b q → (q ≡ f) × (b ≡ ltb x high)) where
  abbrev Tests : TakeWhile Prices F → Option ℕ → TakeWhile Prices F → Option ℕ → Type 0
  Tests s r t o = MatchOption o ((r ≡ None) × (t.done ≡ false)) (λ x. (b : Bool) × CalledAt g s.p x b t.p × MatchBool b ((r ≡ Some x) × (t.done ≡ false)) ((r ≡ None) × (t.done ≡ true)))

  abbrev Turn : TakeWhile Prices F → Option ℕ → TakeWhile Prices F → Type 0
  Turn s r t = (o : Option ℕ) × StepsUp s.iter o t.iter × Tests s r t o

  open_turn : (s t : TakeWhile Prices F) (r : Option ℕ) → s.done ≡ false → take_while_steps StepsUp g s r t → Turn s r t
  open_turn s t r d p = subst (λ b. MatchBool b ((r ≡ None) × (t ≡ s)) (Turn s r t)) d p

  told : (s t : TakeWhile Prices F) (x : ℕ) (b : Bool) → s.p ≡ f → CalledAt g s.p x b t.p → (t.p ≡ f) × (b ≡ ltb x high)
  told s t x b a c = asks x b _ (subst (λ w. CalledAt g w x b t.p) a c)

  -- a price came: the book's next, and below the higher one
  came : (s t : TakeWhile Prices F) (x : ℕ) (o : Option ℕ) → s.p ≡ f → StepsUp s.iter o t.iter → Tests s (Some x) t o
      → StepsUp s.iter (Some x) t.iter × (x < high) × (t.p ≡ f) × (t.done ≡ false)
  came s t x None a p c = absurd (true≢false (ap is_some c.0))
  came s t x (Some y) a p (false, c, w) = absurd (true≢false (ap is_some w.0))
  came s t x (Some y) a p (true, c, w) =
      let e : y ≡ x = ap (λ (o : Option ℕ). elim o [ None ↦ x | Some z ↦ z ]) (sym w.0) in
      let q = told s t y true a c in
      (subst (λ z. StepsUp s.iter (Some z) t.iter) e p, subst (λ z. z < high) e (ltb-true y high (sym q.1)), q.0, w.1)

  -- nothing came: the book has no next price, or it is not below the higher one
  stopped : (s t : TakeWhile Prices F) (o : Option ℕ) → s.p ≡ f → StepsUp s.iter o t.iter → Tests s None t o → PricesBetween (reader_book s.iter.book) s.iter.above high []
  stopped s t None a p c = inr p
  stopped s t (Some y) a p (true, c, w) = absurd (true≢false (ap is_some (sym w.0)))
  stopped s t (Some y) a p (false, c, w) = inl (subst (λ z. high ≤ z) p.0 (ltb-false y high (sym (told s t y false a c).1)))

  pub taken : (xs : List ℕ) (s t u : TakeWhile Prices F) → s.p ≡ f → s.done ≡ false → Yields (take_while_steps StepsUp g) s xs t → take_while_steps StepsUp g t None u → PricesBetween (reader_book s.iter.book) s.iter.above high xs
  taken [] s t u a d y n =
      let q = open_turn s u None d (subst (λ w. take_while_steps StepsUp g w None u) (sym y) n) in
      stopped s u q.0 a q.1 q.2
  taken (x ∷ xs) s t u a d (j, one, y) n =
      let q = open_turn s j (Some x) d one in
      let c = came s j x q.0 a q.1 q.2 in
      let more = taken xs j t u c.2 c.3 y n in
      (c.0.0, c.0.1, c.1, subst (λ z. PricesBetween (reader_book s.iter.book) z high xs) c.0.3 (subst (λ b. PricesBetween (reader_book b) j.iter.above high xs) c.0.2 more))
