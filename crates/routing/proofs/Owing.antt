-- Who owes to outside quotes, and how much.
use Rattle.std.proofs.Common.{◌≡◌, ℕ, ◌+◌, ◌<◌, ◌≤◌, min, max, true, false, cond, ltb, leb, ◌⊎◌, List, [], ◌∷◌, sum_by, sym, inl, inr, arith}
use Rattle.std.proofs.lemmas.List.Sums.{sum_by-cons, sum_by-le-sum_by}
use Rattle.std.proofs.lemmas.Bool.{cases_lt, le-leb, both_ways}
use Rattle.std.proofs.lemmas.Bool.Decides.{nat_tests}
use Rattle.market.specs.declared.quote.Quote.{Quote}
use Rattle.market.specs.declared.side.Side.{Side}
use Rattle.market.specs.declared.side.Side.TheVariants.{Buy, Sell}
use Rattle.market.specs.Best.{best_of, best_price}
use Rattle.pricing.specs.declared.level.Level.{Level}
use Rattle.pricing.specs.Books.{Book, quote_level, levels, at_or_above, at_or_below, above, below}
use Rattle.pricing.proofs.Levels.{sum_by_map}
use Rattle.pricing.specs.Outcomes.{touching, best_on}
use Rattle.routing.specs.Owed.{better_part, reach_part, quoted_better, reach, owed_of}
use Rattle.routing.specs.Laws.{OneSideOwes, OwedWithin, QuotedTo, Counted, Beyond}

-- one quote more in a sum
module _ (p : ℕ) (x : Quote) (xs : List Quote) where
  above_cons : at_or_above p (levels (x ∷ xs)) ≡ cond (leb p x.price) x.shares 0 + at_or_above p (levels xs)
  unfolding at_or_above
  above_cons = sum_by-cons (λ l. cond (leb p l.price) l.shares 0) (record { price = x.price; shares = x.shares }) (levels xs)

  below_cons : at_or_below p (levels (x ∷ xs)) ≡ cond (leb x.price p) x.shares 0 + at_or_below p (levels xs)
  unfolding at_or_below
  below_cons = sum_by-cons (λ l. cond (leb l.price p) l.shares 0) (record { price = x.price; shares = x.shares }) (levels xs)

-- the best of quotes is as good as each of them
best_start : (p : ℕ) (xs : List Quote) → p ≤ best_of Buy p xs
best_start p [] = omega arith
best_start p (x ∷ xs) = omega (arith, best_start (max p x.price) xs)

best_high : (p q : ℕ) (xs : List Quote) → 0 < at_or_above q (levels xs) → q ≤ best_of Buy p xs
unfolding at_or_above
best_high p q [] h = absurd (omega arith)
best_high p q (x ∷ xs) h = grind (arith, nat_tests, above_cons q x xs, best_high (max p x.price) q xs, best_start (max p x.price) xs)

best_start_low : (p : ℕ) (xs : List Quote) → best_of Sell p xs ≤ p
best_start_low p [] = omega arith
best_start_low p (x ∷ xs) = omega (arith, best_start_low (min p x.price) xs)

best_low : (p q : ℕ) (xs : List Quote) → 0 < at_or_below q (levels xs) → best_of Sell p xs ≤ q
unfolding at_or_below
best_low p q [] h = absurd (omega arith)
best_low p q (x ∷ xs) h = grind (arith, nat_tests, below_cons q x xs, best_low (min p x.price) q xs, best_start_low (min p x.price) xs)

-- bids at p or higher and offers at p or lower lock or cross the market
touch : (p : ℕ) (bids offers : List Quote) → 0 < at_or_above p (levels bids) → 0 < at_or_below p (levels offers) → touching (best_price Buy bids) (best_price Sell offers) ≡ true
unfolding at_or_above at_or_below
touch p [] offers h k = absurd (omega arith)
touch p (x ∷ xs) [] h k = absurd (omega arith)
touch p (x ∷ xs) (y ∷ ys) h k =
    let high : p ≤ best_of Buy x.price xs = grind (arith, nat_tests, above_cons p x xs, best_high x.price p xs, best_start x.price xs) in
    let low : best_of Sell y.price ys ≤ p = grind (arith, nat_tests, below_cons p y ys, best_low y.price p ys, best_start_low y.price ys) in
    le-leb (best_of Sell y.price ys) (best_of Buy x.price xs) (omega arith)

-- on a market that is apart, not both
one_quoted : (b : Book) (p : ℕ) → touching (best_on Buy b) (best_on Sell b) ≡ false → (at_or_above p (levels b.bids) ≡ 0) ⊎ (at_or_below p (levels b.offers) ≡ 0)
one_quoted b p apart =
    elim (cases_lt 0 (at_or_above p (levels b.bids))) [
      | inr none ↦ inl (omega arith)
      | inl bid ↦ elim (cases_lt 0 (at_or_below p (levels b.offers))) [
        | inr none ↦ inr (omega arith)
        | inl offer ↦ absurd (both_ways (touching (best_on Buy b) (best_on Sell b)) apart (touch p b.bids b.offers bid offer))
      ]
    ]

-- what is better than a price is at it or better
pub below_most : (p : ℕ) (ls : List Level) → below p ls ≤ at_or_below p ls
unfolding below at_or_below
below_most p ls = sum_by-le-sum_by _ _ ls (λ l. grind (arith, nat_tests))

pub above_most : (p : ℕ) (ls : List Level) → above p ls ≤ at_or_above p ls
unfolding above at_or_above
above_most p ls = sum_by-le-sum_by _ _ ls (λ l. grind (arith, nat_tests))

-- sums over quotes, with and without their venues
module _ (p : ℕ) (xs : List Quote) where
  pub better_below : quoted_better Buy p xs ≡ below p (levels xs)
  unfolding below
  better_below = sym (sum_by_map (λ l. cond (ltb l.price p) l.shares 0) quote_level xs)

  pub better_above : quoted_better Sell p xs ≡ above p (levels xs)
  unfolding above
  better_above = sym (sum_by_map (λ l. cond (ltb p l.price) l.shares 0) quote_level xs)

  pub reach_below : reach Buy p xs ≡ at_or_below p (levels xs)
  unfolding at_or_below
  reach_below = sym (sum_by_map (λ l. cond (leb l.price p) l.shares 0) quote_level xs)

  pub reach_above : reach Sell p xs ≡ at_or_above p (levels xs)
  unfolding at_or_above
  reach_above = sym (sum_by_map (λ l. cond (leb p l.price) l.shares 0) quote_level xs)

pub one_side_owes : OneSideOwes
one_side_owes b p apart h =
    let offers = below_most p (levels b.offers) in
    let bids = above_most p (levels b.bids) in
    let u = better_below p b.offers in
    let v = reach_below p b.offers in
    let x = better_above p b.bids in
    let y = reach_above p b.bids in
    elim (one_quoted b p apart) [
      | inl none ↦ omega arith
      | inr none ↦ omega arith
    ]

pub owed_within : OwedWithin
owed_within Buy b p apart clears =
    let offers = below_most p (levels b.offers) in
    let sellers = clears.sellers in
    let u = better_below p b.offers in
    let v = reach_below p b.offers in
    elim (one_quoted b p apart) [ inl none ↦ omega arith | inr none ↦ omega arith ]
owed_within Sell b p apart clears =
    let bids = above_most p (levels b.bids) in
    let buyers = clears.buyers in
    let x = better_above p b.bids in
    let y = reach_above p b.bids in
    elim (one_quoted b p apart) [ inl none ↦ omega arith | inr none ↦ omega arith ]

pub quoted_lem : QuotedTo
quoted_lem p xs = (better_below p xs, better_above p xs, reach_below p xs, reach_above p xs)

pub counted_lem : Counted
counted_lem b p apart clears =
    let offers = below_most p (levels b.offers) in
    let bids = above_most p (levels b.bids) in
    let buyers = clears.buyers in
    let sellers = clears.sellers in
    let u = better_below p b.offers in
    let v = reach_below p b.offers in
    let x = better_above p b.bids in
    let y = reach_above p b.bids in
    elim (one_quoted b p apart) [ inl none ↦ omega arith | inr none ↦ omega arith ]

pub beyond_lem : Beyond
beyond_lem b p = (λ more. omega arith, λ more. omega arith)

-- a side owes no more than is quoted
pub owed_quoted : (side : Side) (p own other : ℕ) (xs : List Quote) → owed_of (quoted_better side p xs) (reach side p xs) own other ≤ sum_by (λ x. x.shares) xs
owed_quoted side p own other xs = omega (
  arith,
  sum_by-le-sum_by (better_part side p) (λ x. x.shares) xs (part_most side),
  sum_by-le-sum_by (reach_part side p) (λ x. x.shares) xs (reach_most side),
)
  where
    part_most : (s : Side) (x : Quote) → better_part s p x ≤ x.shares
    part_most Buy x = grind (arith, nat_tests)
    part_most Sell x = grind (arith, nat_tests)

    reach_most : (s : Side) (x : Quote) → reach_part s p x ≤ x.shares
    reach_most Buy x = grind (arith, nat_tests)
    reach_most Sell x = grind (arith, nat_tests)
