-- Set, clear and best, said by venue and by price.
use Rattle.std.proofs.Common.{◌≡◌, ◌≢◌, ℕ, suc, ◌<◌, Bool, true, false, cond, eqb, List, [], ◌∷◌, Some, None, refl, sym, ◌∙◌, ◌⊎◌, inl, inr, arith}
use Rattle.std.specs.List.{Any, AllByRecursion}
use Rattle.std.proofs.ByRecursion.{All-weaker}
use Rattle.std.proofs.lemmas.Bool.Decides.{nat_tests}
use Rattle.market.specs.declared.quote.Quote.{Quote}
use Rattle.market.specs.declared.side.Side.{Side}
use Rattle.market.specs.declared.side.Side.TheVariants.{Buy, Sell}
use Rattle.market.specs.Best.{better_price, best_of}
use Rattle.market.specs.Listings.{Rising}
use Rattle.market.specs.Venues.{quoted, without}
use Rattle.market.specs.Laws.{quote_by, SetsVenue, ClearsVenue, is_better, BestIsBest}

set_own : (q : Quote) (xs : List Quote) → quote_by q.venue (quoted q xs) ≡ Some q
set_own q [] = grind (arith, nat_tests)
set_own q (x ∷ xs) = let ih = set_own q xs in grind (arith, nat_tests)

set_others : (q : Quote) (v : ℕ) → v ≢ q.venue → (xs : List Quote) → quote_by v (quoted q xs) ≡ quote_by v xs
set_others q v ne [] = grind (arith, nat_tests)
set_others q v ne (x ∷ xs) = let ih = set_others q v ne xs in grind (arith, nat_tests)

pub sets : SetsVenue
sets q xs = record { own = set_own q xs; others = λ v ne. set_others q v ne xs }

later : (v : ℕ) (xs : List Quote) → AllByRecursion (λ y. v < y.venue) xs → quote_by v xs ≡ None
later v [] a = refl
later v (x ∷ xs) a = let ih = later v xs a.1 in let lt = a.0 in grind (arith, nat_tests)

clear_own : (v : ℕ) (xs : List Quote) → Rising xs → quote_by v (without v xs) ≡ None
clear_own v [] r = refl
clear_own v (x ∷ xs) r = by_test (clear_own v xs r.1) (eqb x.venue v) refl
  where
    by_test : quote_by v (without v xs) ≡ None → (b : Bool) → eqb x.venue v ≡ b → quote_by v (cond b xs (x ∷ without v xs)) ≡ None
    by_test rest true e = later v xs (All-weaker (λ y. x.venue < y.venue) (λ y. v < y.venue) (λ y h. grind (arith, nat_tests)) xs r.0)
    by_test rest false e = rw e rest

clear_others : (u v : ℕ) → v ≢ u → (xs : List Quote) → quote_by v (without u xs) ≡ quote_by v xs
clear_others u v ne [] = refl
clear_others u v ne (x ∷ xs) = let ih = clear_others u v ne xs in grind (arith, nat_tests)

pub clears : ClearsVenue
clears u xs r = record { own = clear_own u xs r; others = λ v ne. clear_others u v ne xs }

-- the best of a price and some quotes' is no worse than any of them
no_better : (side : Side) (a b c : ℕ) → is_better side (better_price side a b) c ≡ false → (is_better side a c ≡ false) × (is_better side b c ≡ false)
no_better Buy a b c h = (grind (arith, nat_tests), grind (arith, nat_tests))
no_better Sell a b c h = (grind (arith, nat_tests), grind (arith, nat_tests))

either : (side : Side) (a b : ℕ) → (better_price side a b ≡ a) ⊎ (better_price side a b ≡ b)
either Buy a b = grind (arith, nat_tests)
either Sell a b = grind (arith, nat_tests)

itself : (side : Side) (a : ℕ) → is_better side a a ≡ false
itself Buy a = grind (arith, nat_tests)
itself Sell a = grind (arith, nat_tests)

at_front : (p : ℕ) (x : Quote) (xs : List Quote) → x.price ≡ p → Any (λ y. y.price ≡ p) (x ∷ xs)
at_front p x xs e = (0, x, omega arith, refl, e)

at_back : (p : ℕ) (x : Quote) (xs : List Quote) → Any (λ y. y.price ≡ p) xs → Any (λ y. y.price ≡ p) (x ∷ xs)
at_back p x xs (k, y, lt, is, e) = (suc k, y, omega (arith, lt), is, e)

found : (side : Side) (p : ℕ) (xs : List Quote) → (best_of side p xs ≡ p) ⊎ Any (λ x. x.price ≡ best_of side p xs) xs
found side p [] = inl refl
found side p (x ∷ xs) = elim (found side (better_price side p x.price) xs) [
  | inr later ↦ inr (at_back _ x xs later)
  | inl is ↦ elim (either side p x.price) [
    | inl first ↦ inl (is ∙ first)
    | inr second ↦ inr (at_front _ x xs (sym (is ∙ second)))
  ]
]

first_no_better : (side : Side) (p : ℕ) (xs : List Quote) → is_better side p (best_of side p xs) ≡ false
first_no_better side p [] = itself side p
first_no_better side p (x ∷ xs) = (no_better side p x.price (best_of side (better_price side p x.price) xs) (first_no_better side (better_price side p x.price) xs)).0

all_no_better : (side : Side) (p : ℕ) (xs : List Quote) → AllByRecursion (λ x. is_better side x.price (best_of side p xs) ≡ false) xs
all_no_better side p [] = tt
all_no_better side p (x ∷ xs) = (
  (no_better side p x.price (best_of side (better_price side p x.price) xs) (first_no_better side (better_price side p x.price) xs)).1,
  all_no_better side (better_price side p x.price) xs,
)

pub best_is : BestIsBest
best_is side [] = refl
best_is side (x ∷ xs) = record {
  quoted_there = elim (found side x.price xs) [
    | inl is ↦ at_front _ x xs (sym is)
    | inr there ↦ at_back _ x xs there
  ];
  none_better = (first_no_better side x.price xs, all_no_better side x.price xs);
}
