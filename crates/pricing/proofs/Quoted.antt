-- The reference, and a locked or crossed market, said of the quotes.
use Rattle.std.proofs.Common.{◌≡◌, ℕ, ◌<◌, ◌≤◌, true, false, List, [], length, get_or, Some, None, Option, ◌⊎◌, ◌↔◌, refl, ap, ◌∙◌, inl, inr, arith}
use Rattle.std.specs.List.{Any}
use Rattle.std.proofs.lemmas.List.{get_or_default}
use Rattle.std.proofs.lemmas.Bool.{false≢true, leb-true, le-leb, ltb-true, lt-ltb, eq-eqb, ne_eqb}
use Rattle.std.proofs.lemmas.Bool.Decides.{nat_tests}
use Rattle.market.specs.declared.quote.Quote.{Quote}
use Rattle.market.specs.declared.side.Side.TheVariants.{Buy, Sell}
use Rattle.market.specs.Best.{best_price}
use Rattle.market.specs.Markets.{no_quote}
use Rattle.market.specs.Laws.{is_better}
use Rattle.market.proofs.Bests.{best_some, best_none, best_at, none_beats, best_price_is}
use Rattle.pricing.specs.Outcomes.{is_crossed, touching, midpoint}
use Rattle.pricing.specs.Laws.{ReferenceIs, TouchingParts, CrossedIs, TouchingIs}

no_midpoint : (bids offers : List Quote) → (bids ≡ []) ⊎ (offers ≡ []) → midpoint (best_price Buy bids) (best_price Sell offers) ≡ None
no_midpoint bids offers (inl e) = rw e refl
no_midpoint bids offers (inr e) = rw e (one_side (best_price Buy bids))
  where
    one_side : (bid : Option ℕ) → midpoint bid None ≡ None
    one_side None = refl
    one_side (Some bid) = refl

pub reference_is : ReferenceIs
reference_is b last = record {
  sale = λ h. rw (ne_eqb last 0 (λ z. omega arith)) refl;
  midway = λ z bid offer best-bid best-offer. rw (eq-eqb last 0 z, best_price_is Buy b.bids bid best-bid, best_price_is Sell b.offers offer best-offer) refl;
  none = λ z either. rw (eq-eqb last 0 z) (no_midpoint b.bids b.offers either);
}

not_higher : (a p : ℕ) → is_better Buy a p ≡ false → a ≤ p
not_higher a p h = grind (arith, nat_tests)

not_lower : (a p : ℕ) → is_better Sell a p ≡ false → p ≤ a
not_lower a p h = grind (arith, nat_tests)

-- some item passes a test where the item at some place does
at_place : (test : Quote → Type 0) (xs : List Quote) (k : ℕ) → k < length xs → test (get_or xs k no_quote) → Any test xs
at_place test xs k l t = (k, get_or xs k no_quote, l, get_or_default xs k (get_or xs k no_quote) no_quote l, t)

touching_by : (bids offers : List Quote) (bid offer : Option ℕ) → best_price Buy bids ≡ bid → best_price Sell offers ≡ offer → touching bid offer ≡ true ↔ Any (λ x. Any (λ z. z.price ≤ x.price) offers) bids
touching_by bids offers None offer e f = (λ h. absurd (false≢true h), λ a. absurd (let none = best_none Buy bids e in let l = a.2 in omega (arith, ap length none)))
touching_by bids offers (Some bid) None e f = (λ h. absurd (false≢true h), λ a. absurd (let none = best_none Sell offers f in let l = a.4.2 in omega (arith, ap length none)))
touching_by bids offers (Some bid) (Some offer) e f =
    let best-bid = best_some Buy bids bid e in
    let best-offer = best_some Sell offers offer f in
    let at-bid = best_at Buy bids bid best-bid in
    let at-offer = best_at Sell offers offer best-offer in (
      λ h. at_place (λ x. Any (λ z. z.price ≤ x.price) offers) bids at-bid.0 at-bid.1
          (at_place (λ z. z.price ≤ (get_or bids at-bid.0 no_quote).price) offers at-offer.0 at-offer.1 (omega (arith, leb-true offer bid h, at-bid.2, at-offer.2))),
      λ a.
          let z = a.4 in
          le-leb offer bid (omega (
            arith,
            not_higher _ bid (none_beats Buy bids bid best-bid a.0 a.2),
            not_lower _ offer (none_beats Sell offers offer best-offer z.0 z.2),
            ap (λ x. x.price) (get_or_default bids a.0 no_quote a.1 a.2 ∙ a.3),
            ap (λ x. x.price) (get_or_default offers z.0 no_quote z.1 z.2 ∙ z.3),
            z.4,
          )),
    )

pub touching_is : TouchingIs
touching_is b = touching_by b.bids b.offers (best_price Buy b.bids) (best_price Sell b.offers) refl refl

crossed_by : (bids offers : List Quote) (bid offer : Option ℕ) → best_price Buy bids ≡ bid → best_price Sell offers ≡ offer → is_crossed bid offer ≡ true ↔ Any (λ x. Any (λ z. z.price < x.price) offers) bids
crossed_by bids offers None offer e f = (λ h. absurd (false≢true h), λ a. absurd (let none = best_none Buy bids e in let l = a.2 in omega (arith, ap length none)))
crossed_by bids offers (Some bid) None e f = (λ h. absurd (false≢true h), λ a. absurd (let none = best_none Sell offers f in let l = a.4.2 in omega (arith, ap length none)))
crossed_by bids offers (Some bid) (Some offer) e f =
    let best-bid = best_some Buy bids bid e in
    let best-offer = best_some Sell offers offer f in
    let at-bid = best_at Buy bids bid best-bid in
    let at-offer = best_at Sell offers offer best-offer in (
      λ h. at_place (λ x. Any (λ z. z.price < x.price) offers) bids at-bid.0 at-bid.1
          (at_place (λ z. z.price < (get_or bids at-bid.0 no_quote).price) offers at-offer.0 at-offer.1 (omega (arith, ltb-true offer bid h, at-bid.2, at-offer.2))),
      λ a.
          let z = a.4 in
          lt-ltb offer bid (omega (
            arith,
            not_higher _ bid (none_beats Buy bids bid best-bid a.0 a.2),
            not_lower _ offer (none_beats Sell offers offer best-offer z.0 z.2),
            ap (λ x. x.price) (get_or_default bids a.0 no_quote a.1 a.2 ∙ a.3),
            ap (λ x. x.price) (get_or_default offers z.0 no_quote z.1 z.2 ∙ z.3),
            z.4,
          )),
    )

pub crossed_is : CrossedIs
crossed_is b = crossed_by b.bids b.offers (best_price Buy b.bids) (best_price Sell b.offers) refl refl

pub touching_parts : TouchingParts
touching_parts None offer = record { either = refl; one = refl }
touching_parts (Some bid) None = record { either = refl; one = refl }
touching_parts (Some bid) (Some offer) = record { either = grind (arith, nat_tests); one = grind (arith, nat_tests) }
