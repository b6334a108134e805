-- Lists made from a function of the place: the item at a place, and the steps of loops over them.
use Rattle.std.proofs.Common.{◌≡◌, ℕ, ◌+◌, ◌<◌, List, [], ◌∷◌, map, length, get_or, drop, Some, None, inl, inr, ap, ◌∙◌, arith}
use Rattle.std.specs.List.{slice_get, range_with_len}
use Rattle.std.proofs.lemmas.List.{at_drop_more, drop_all}
use Rattle.std.proofs.lemmas.Option.{slice_get-get_or, slice_get_within, slice_get_cases}
use Rattle.std.proofs.lemmas.List.FromFn.{length-map-range_with_len, get_or-map-range_with_len}
use Rattle.pricing.specs.declared.level.Level.{Level}
use Rattle.image.specs.Entries.{level_at, quote_at, length_in, levels_in, quotes_in}

module _ {X : Type 0} (f : ℕ → X) (n i : ℕ) where
  pub nth_counted : i < n → slice_get (map f (range_with_len 0 n)) i ≡ Some (f i)
  nth_counted h =
      let e = length-map-range_with_len f 0 n in
      slice_get-get_or (map f (range_with_len 0 n)) i (f i) (omega arith) ∙ ap Some (get_or-map-range_with_len f 0 n i i (f i) h (omega arith))

-- how many levels two parts hold
pub levels_len : (ps ss : List ℕ) → length (levels_in ps ss) ≡ length_in ps ss
levels_len ps ss = length-map-range_with_len (level_at ps ss) 0 (length_in ps ss)

-- an entry that is there, so its place lies within, and the same entry as a quote
pub entry_within : (ps ss : List ℕ) (place : ℕ) (l : Level) → slice_get (levels_in ps ss) place ≡ Some l → place < length_in ps ss
entry_within ps ss place l e = omega (arith, levels_len ps ss, slice_get_within (levels_in ps ss) place l e)

pub quote_there : (ps ss : List ℕ) (place : ℕ) (l : Level) → slice_get (levels_in ps ss) place ≡ Some l → slice_get (quotes_in ps ss) place ≡ Some (record { price = l.price; shares = l.shares; venue = place + 1 })
quote_there ps ss place l e =
    let h = entry_within ps ss place l e in
    let level = nth_counted (level_at ps ss) (length_in ps ss) place h in
    let same : level_at ps ss place ≡ l = cc in
    nth_counted (quote_at ps ss) (length_in ps ss) place h ∙ ap (λ x. Some (record { price = x.price; shares = x.shares; venue = place + 1 })) same

-- what is left of a list at an item, and past its end
pub left_more : {X : Type 0} (xs : List X) (i : ℕ) (x : X) → slice_get xs i ≡ Some x → drop i xs ≡ x ∷ drop (i + 1) xs
left_more xs i x e =
    let h = slice_get_within xs i x e in
    let there = slice_get-get_or xs i x h in
    let same : get_or xs i x ≡ x = cc in
    at_drop_more (λ l. l) xs i x h ∙ ap (λ y. y ∷ drop (i + 1) xs) same

pub left_none : {X : Type 0} (xs : List X) (i : ℕ) → slice_get xs i ≡ None → drop i xs ≡ []
left_none xs i e =
    elim (slice_get_cases xs i).1 [
      | inl there ↦ absurd (let z : ◌≡◌ {A = ℕ} 0 1 = (let t = there.2 in cc) in omega arith)
      | inr past ↦ drop_all i xs past.0
    ]
