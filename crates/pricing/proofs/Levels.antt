-- Sums over shares at prices: how they move with the price.
use Rattle.std.proofs.Common.{◌≡◌, ℕ, ◌+◌, ◌-◌, ◌<◌, ◌≤◌, cond, ltb, leb, ◌⊎◌, List, [], ◌∷◌, map, sum_by, refl, ap, ◌∙◌, arith}
use Rattle.std.specs.List.{AllByRecursion}
use Rattle.std.proofs.lemmas.List.Sums.{sum_by-cons, sum_by-le-sum_by}
use Rattle.std.proofs.lemmas.Bool.Decides.{nat_tests}
use Rattle.market.proofs.Grid.{grid}
use Rattle.market.specs.Prices.{Permitted}
use Rattle.market.specs.Limits.{highest_price}
use Rattle.pricing.specs.declared.level.Level.{Level}
use Rattle.pricing.specs.Books.{at_or_above, at_or_below, above, below, AtPermitted}

-- a sum is the same where each part is, of elements that P holds of
pub sum_by_same : {X : Type 0} (P : X → Type 0) (f g : X → ℕ) → ((x : X) → P x → f x ≡ g x) → (xs : List X) → AllByRecursion P xs → sum_by f xs ≡ sum_by g xs
sum_by_same P f g h [] a = refl
sum_by_same P f g h (x ∷ xs) a = omega (arith, sum_by-cons f x xs, sum_by-cons g x xs, h x a.0, sum_by_same P f g h xs a.1)

sum_by_each : {X : Type 0} (f g : X → ℕ) → ((x : X) → f x ≡ g x) → (xs : List X) → sum_by f xs ≡ sum_by g xs
sum_by_each f g h [] = refl
sum_by_each f g h (x ∷ xs) = omega (arith, sum_by-cons f x xs, sum_by-cons g x xs, h x, sum_by_each f g h xs)

pub sum_by_none : {X : Type 0} (P : X → Type 0) (f : X → ℕ) → ((x : X) → P x → f x ≡ 0) → (xs : List X) → AllByRecursion P xs → sum_by f xs ≡ 0
sum_by_none P f h [] a = refl
sum_by_none P f h (x ∷ xs) a = omega (arith, sum_by-cons f x xs, h x a.0, sum_by_none P f h xs a.1)

pub sum_by_map : {X Y : Type 0} (f : Y → ℕ) (g : X → Y) (xs : List X) → sum_by f (map g xs) ≡ sum_by (λ x. f (g x)) xs
sum_by_map f g [] = refl
sum_by_map f g (x ∷ xs) = omega (arith, sum_by-cons f (g x) (map g xs), sum_by-cons (λ y. f (g y)) x xs, sum_by_map f g xs)

-- one entry's part
part_above_falls : (a b p s : ℕ) → a ≤ b → cond (leb b p) s 0 ≤ cond (leb a p) s 0
part_above_falls a b p s h = grind (arith, nat_tests)

part_below_rises : (a b p s : ℕ) → a ≤ b → cond (leb p a) s 0 ≤ cond (leb p b) s 0
part_below_rises a b p s h = grind (arith, nat_tests)

below_rises : (a b p s : ℕ) → a ≤ b → cond (ltb p a) s 0 ≤ cond (ltb p b) s 0
below_rises a b p s h = grind (arith, nat_tests)

above_is_part : (q p s : ℕ) → cond (ltb q p) s 0 ≡ cond (leb (q + 1) p) s 0
above_is_part q p s = grind (arith, nat_tests)

below_is_part : (q p s : ℕ) → cond (ltb p (q + 1)) s 0 ≡ cond (leb p q) s 0
below_is_part q p s = grind (arith, nat_tests)

gap_below_part : (a b p s : ℕ) → a < b → (p ≤ a) ⊎ (b ≤ p) → cond (ltb p b) s 0 ≡ cond (leb p a) s 0
gap_below_part a b p s lt h = grind (arith, nat_tests)

gap_above_part : (a b p s : ℕ) → a < b → (p ≤ a) ⊎ (b ≤ p) → cond (ltb a p) s 0 ≡ cond (leb b p) s 0
gap_above_part a b p s lt h = grind (arith, nat_tests)

none_below_part : (q p s : ℕ) → q ≤ p → cond (ltb p q) s 0 ≡ 0
none_below_part q p s h = grind (arith, nat_tests)

none_above_part : (q p s : ℕ) → p ≤ q → cond (ltb q p) s 0 ≡ 0
none_above_part q p s h = grind (arith, nat_tests)

-- what is at a price or higher falls as the price rises; what is at it or lower, and below it, rises
pub at_or_above_falls : (a b : ℕ) → a ≤ b → (ls : List Level) → at_or_above b ls ≤ at_or_above a ls
unfolding at_or_above
at_or_above_falls a b h ls = sum_by-le-sum_by _ _ ls (λ l. part_above_falls a b l.price l.shares h)

pub at_or_below_rises : (a b : ℕ) → a ≤ b → (ls : List Level) → at_or_below a ls ≤ at_or_below b ls
unfolding at_or_below
at_or_below_rises a b h ls = sum_by-le-sum_by _ _ ls (λ l. part_below_rises a b l.price l.shares h)

pub below_mono : (a b : ℕ) → a ≤ b → (ls : List Level) → below a ls ≤ below b ls
unfolding below
below_mono a b h ls = sum_by-le-sum_by _ _ ls (λ l. below_rises a b l.price l.shares h)

-- above q is at q + 1 or higher; below q + 1 is at q or lower
pub above_is : (q : ℕ) (ls : List Level) → above q ls ≡ at_or_above (q + 1) ls
unfolding above at_or_above
above_is q ls = sum_by_each _ _ (λ l. above_is_part q l.price l.shares) ls

pub below_is : (q : ℕ) (ls : List Level) → below (q + 1) ls ≡ at_or_below q ls
unfolding below at_or_below
below_is q ls = sum_by_each _ _ (λ l. below_is_part q l.price l.shares) ls

pub below_pred : (q : ℕ) → 0 < q → (ls : List Level) → below q ls ≡ at_or_below (q - 1) ls
below_pred q h ls = let e : q ≡ (q - 1) + 1 = omega arith in ap (λ x. below x ls) e ∙ below_is (q - 1) ls

-- between neighbours a and b nothing stands
module _ (a b : ℕ) (lt : a < b) (gap : (p : ℕ) → Permitted p → (p ≤ a) ⊎ (b ≤ p)) where
  pub gap_below : (ls : List Level) → AtPermitted ls → below b ls ≡ at_or_below a ls
  unfolding below at_or_below
  gap_below ls all = sum_by_same (λ l. Permitted l.price) _ _ (λ l h. gap_below_part a b l.price l.shares lt (gap l.price h)) ls all

  pub gap_above : (ls : List Level) → AtPermitted ls → above a ls ≡ at_or_above b ls
  unfolding above at_or_above
  gap_above ls all = sum_by_same (λ l. Permitted l.price) _ _ (λ l h. gap_above_part a b l.price l.shares lt (gap l.price h)) ls all

-- beyond the lowest and the highest price nothing stands
pub none_below : (ls : List Level) → AtPermitted ls → below 2 ls ≡ 0
unfolding below
none_below ls all = sum_by_none (λ l. Permitted l.price) _ (λ l h. none_below_part 2 l.price l.shares (grid l.price h).least) ls all

pub none_above : (ls : List Level) → AtPermitted ls → above highest_price ls ≡ 0
unfolding above
none_above ls all = sum_by_none (λ l. Permitted l.price) _ (λ l h. none_above_part highest_price l.price l.shares (grid l.price h).most) ls all
