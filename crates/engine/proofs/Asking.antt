-- What the questions of a call ask, in the words of the rules.
use Rattle.std.proofs.Common.{◌≡◌, ℕ, ◌+◌, ◌<◌, ◌≤◌, Bool, true, false, not, ◌&&◌, eqb, leb, ltb, List, length, get_or, Some, None, Option, ◌↔◌, refl, ap, ◌∙◌, subst, arith}
use Rattle.std.specs.List.{Any}
use Rattle.std.proofs.ByRecursion.{All-get_or}
use Rattle.std.proofs.lemmas.List.{get_or_default}
use Rattle.std.proofs.lemmas.Bool.{and_parts, and_from, false≢true, leb-true, le-leb, ltb-true, lt-ltb, eq-eqb}
use Rattle.std.proofs.lemmas.Bool.Decides.{nat_tests}
use Rattle.market.specs.declared.quote.Quote.{Quote}
use Rattle.market.specs.declared.side.Side.TheVariants.{Buy, Sell}
use Rattle.market.specs.Best.{best_price}
use Rattle.market.specs.Laws.{IsBest, is_better}
use Rattle.market.specs.Markets.{Market, no_quote}
use Rattle.market.proofs.Bests.{best_some, best_none, best_at}
use Rattle.engine.specs.Limits.{order_rows, day_end, first_start, last_start, quote_age, cycle_gap, shortest_acceptance, longest_acceptance}
use Rattle.engine.specs.Questions.{not_before, long_ago, ordered, at_most, at_least}
use Rattle.engine.proofs.Sizes.{sizes}
use Rattle.engine.specs.Laws.{TableSizesFit, TimesFit, StartsFit, AcceptanceFits, MinimumsFit, TwoSided, MarketsFit, ReachesFit, RoomFits}

pub table_sizes_fit : TableSizesFit
table_sizes_fit h = (λ fit. sizes h fit, λ r. rw (r.buys, r.sells, r.bids, r.offers, r.tickets) refl)

not_before_is : (o : Option ℕ) (time : ℕ) → not_before o time ≡ true ↔ ((last : ℕ) → o ≡ Some last → last ≤ time)
not_before_is None time = (λ h last e. absurd (let z : ⊥ = cc in z), λ f. refl)
not_before_is (Some k) time = (λ h last e. let same : k ≡ last = cc in subst (λ n. n ≤ time) same (leb-true k time h), λ f. le-leb k time (f k refl))

pub times_fit : TimesFit
times_fit e time = (
  λ h. let both = and_parts (leb time day_end) (not_before e.last_time time) h in
      record { of_day = leb-true time day_end both.0; after = (not_before_is e.last_time time).0 both.1 },
  λ t. and_from (leb time day_end) (not_before e.last_time time) (le-leb time day_end t.of_day) ((not_before_is e.last_time time).1 t.after),
)

known_is : (age : ℕ) (o : Option ℕ) (time : ℕ) → long_ago age o time false ≡ true ↔ ((since : ℕ) × (o ≡ Some since) × (since + age ≤ time))
known_is age None time = (λ h. absurd (false≢true h), λ s. absurd (let e = s.1 in let z : ⊥ = cc in z))
known_is age (Some k) time = (
  λ h. (k, refl, leb-true (k + age) time h),
  λ s. let e = s.1 in let same : s.0 ≡ k = cc in le-leb (k + age) time (subst (λ n. n + age ≤ time) same s.2),
)

since_is : (age : ℕ) (o : Option ℕ) (time : ℕ) → long_ago age o time true ≡ true ↔ ((ended : ℕ) → o ≡ Some ended → ended + age ≤ time)
since_is age None time = (λ h ended e. absurd (let z : ⊥ = cc in z), λ f. refl)
since_is age (Some k) time = (
  λ h ended e. let same : k ≡ ended = cc in subst (λ n. n + age ≤ time) same (leb-true (k + age) time h),
  λ f. le-leb (k + age) time (f k refl),
)

pub starts_fit : StartsFit
starts_fit e time facts =
    let hours : Bool = leb first_start time && leb time last_start in
    let ages : Bool = long_ago quote_age facts.first_quote time false && long_ago cycle_gap e.last_end time true in (
      λ h. let both = and_parts hours ages h in
          let in_hours = and_parts (leb first_start time) (leb time last_start) both.0 in
          let old = and_parts (long_ago quote_age facts.first_quote time false) (long_ago cycle_gap e.last_end time true) both.1 in
          record {
            first = leb-true first_start time in_hours.0;
            last = leb-true time last_start in_hours.1;
            quoted = (known_is quote_age facts.first_quote time).0 old.0;
            gap = (since_is cycle_gap e.last_end time).0 old.1;
          },
      λ s. and_from hours ages (and_from (leb first_start time) (leb time last_start) (le-leb first_start time s.first) (le-leb time last_start s.last))
          (and_from (long_ago quote_age facts.first_quote time false) (long_ago cycle_gap e.last_end time true) ((known_is quote_age facts.first_quote time).1 s.quoted) ((since_is cycle_gap e.last_end time).1 s.gap)),
    )

pub acceptance_lem : AcceptanceFits
acceptance_lem facts = (
  λ h. let both = and_parts (leb shortest_acceptance facts.acceptance) (leb facts.acceptance longest_acceptance) h in (leb-true shortest_acceptance facts.acceptance both.0, leb-true facts.acceptance longest_acceptance both.1),
  λ b. and_from (leb shortest_acceptance facts.acceptance) (leb facts.acceptance longest_acceptance) (le-leb shortest_acceptance facts.acceptance b.0) (le-leb facts.acceptance longest_acceptance b.1),
)

pub minimums_fit : MinimumsFit
minimums_fit price = record {
  below_dollar = λ h. grind (arith, nat_tests);
  from_1 = λ l h. grind (arith, nat_tests);
  from_5 = λ l h. grind (arith, nat_tests);
  from_25 = λ l h. grind (arith, nat_tests);
  from_50 = λ l h. grind (arith, nat_tests);
  from_100 = λ l h. grind (arith, nat_tests);
  from_500 = λ l. grind (arith, nat_tests);
  special = refl;
}

not_higher : (a p : ℕ) → is_better Buy a p ≡ false → a ≤ p
not_higher a p h = grind (arith, nat_tests)

not_lower : (a p : ℕ) → is_better Sell a p ≡ false → p ≤ a
not_lower a p h = grind (arith, nat_tests)

bid_most : (xs : List Quote) (p : ℕ) → IsBest Buy xs p → (i : ℕ) → i < length xs → (get_or xs i no_quote).price ≤ p
bid_most xs p b i l = not_higher _ p (All-get_or (λ x. is_better Buy x.price p ≡ false) xs i no_quote l b.none_better)

offer_least : (xs : List Quote) (p : ℕ) → IsBest Sell xs p → (i : ℕ) → i < length xs → p ≤ (get_or xs i no_quote).price
offer_least xs p b i l = not_lower _ p (All-get_or (λ x. is_better Sell x.price p ≡ false) xs i no_quote l b.none_better)

not_above : (bid offer : ℕ) → not (ltb offer bid) ≡ true → bid ≤ offer
not_above bid offer h = grind (arith, nat_tests)

above_not : (bid offer : ℕ) → bid ≤ offer → not (ltb offer bid) ≡ true
above_not bid offer l = grind (arith, nat_tests)

ordered_by : (m : Market) (bid offer : Option ℕ) → best_price Buy m.bids ≡ bid → best_price Sell m.offers ≡ offer → ordered bid offer ≡ true ↔ TwoSided m
ordered_by m None offer b o = (λ h. absurd (false≢true h), λ t. absurd (let none = best_none Buy m.bids b in let some = t.bid in omega (arith, ap length none)))
ordered_by m (Some bid) None b o = (λ h. absurd (false≢true h), λ t. absurd (let none = best_none Sell m.offers o in let some = t.offer in omega (arith, ap length none)))
ordered_by m (Some bid) (Some offer) b o =
    let best-bid = best_some Buy m.bids bid b in
    let best-offer = best_some Sell m.offers offer o in
    let at-bid = best_at Buy m.bids bid best-bid in
    let at-offer = best_at Sell m.offers offer best-offer in (
      λ h. let le = not_above bid offer h in
          record {
            bid = omega (arith, at-bid.1);
            offer = omega (arith, at-offer.1);
            none_above = λ i j li lj. omega (arith, le, bid_most m.bids bid best-bid i li, offer_least m.offers offer best-offer j lj);
          },
      λ t. above_not bid offer (omega (arith, at-bid.2, at-offer.2, t.none_above at-bid.0 at-offer.0 at-bid.1 at-offer.1)),
    )

pub markets_fit : MarketsFit
markets_fit m = ordered_by m (best_price Buy m.bids) (best_price Sell m.offers) refl refl

buy_reaches : (p : ℕ) (xs : List Quote) (best : Option ℕ) → best_price Sell xs ≡ best → at_most best p ≡ true ↔ Any (λ x. x.price ≤ p) xs
buy_reaches p xs None e = (λ h. absurd (false≢true h), λ a. absurd (let none = best_none Sell xs e in let l = a.2 in omega (arith, ap length none)))
buy_reaches p xs (Some q) e =
    let best = best_some Sell xs q e in
    let at = best_at Sell xs q best in (
      λ h. (at.0, get_or xs at.0 no_quote, at.1, get_or_default xs at.0 (get_or xs at.0 no_quote) no_quote at.1, omega (arith, leb-true q p h, at.2)),
      λ a. le-leb q p (omega (arith, offer_least xs q best a.0 a.2, ap (λ x. x.price) (get_or_default xs a.0 no_quote a.1 a.2 ∙ a.3), a.4)),
    )

sell_reaches : (p : ℕ) (xs : List Quote) (best : Option ℕ) → best_price Buy xs ≡ best → at_least best p ≡ true ↔ Any (λ x. p ≤ x.price) xs
sell_reaches p xs None e = (λ h. absurd (false≢true h), λ a. absurd (let none = best_none Buy xs e in let l = a.2 in omega (arith, ap length none)))
sell_reaches p xs (Some q) e =
    let best = best_some Buy xs q e in
    let at = best_at Buy xs q best in (
      λ h. (at.0, get_or xs at.0 no_quote, at.1, get_or_default xs at.0 (get_or xs at.0 no_quote) no_quote at.1, omega (arith, leb-true p q h, at.2)),
      λ a. le-leb p q (omega (arith, bid_most xs q best a.0 a.2, ap (λ x. x.price) (get_or_default xs a.0 no_quote a.1 a.2 ∙ a.3), a.4)),
    )

pub reaches_fit : ReachesFit
reaches_fit o m = record {
  buy = λ e. let is : eqb o.side 1 ≡ true = eq-eqb o.side 1 e in rw is (buy_reaches o.price m.offers (best_price Sell m.offers) refl);
  sell = λ e. let is : eqb o.side 1 ≡ false = ap (λ s. eqb s 1) e in rw is (sell_reaches o.price m.bids (best_price Buy m.bids) refl);
}

pub room_fits : RoomFits
room_fits e o = record {
  buy = λ k. let is : eqb o.side 1 ≡ true = eq-eqb o.side 1 k in rw is (λ t. ltb-true e.used.buys order_rows t, λ l. lt-ltb e.used.buys order_rows l);
  sell = λ k. let is : eqb o.side 1 ≡ false = ap (λ s. eqb s 1) k in rw is (λ t. ltb-true e.used.sells order_rows t, λ l. lt-ltb e.used.sells order_rows l);
}
