-- What a table of venues lists, and what set and clear do to it, said by venue.
use Rattle.std.proofs.Common.{◌≡◌, ℕ, ◌+◌, ◌<◌, ◌≤◌, true, List, [], ◌∷◌, length, Some, None, Option, subst, sym, refl, arith}
use Rattle.std.specs.List.{AllByRecursion, list_all}
use Rattle.std.proofs.ByRecursion.{All-weaker}
use Rattle.std.proofs.lemmas.Bool.{and_from, le-leb}
use Rattle.market.specs.declared.quote.Quote.{Quote}
use Rattle.market.specs.declared.venues.VenueTable.{VenueTable}
use Rattle.market.specs.Fits.{quote_fits, side_fits}
use Rattle.market.specs.Limits.{venues, most_quotes}
use Rattle.market.specs.Listings.{Rising, OfVenue, WellListed}
use Rattle.market.specs.Markets.{Market}
use Rattle.market.specs.Venues.{market_in, quoted, without, changed}
use Rattle.market.specs.Laws.{Becomes, Changes, Tables}
use Rattle.market.proofs.Lawful.{sets, clears}

-- quotes by rising venue are as few as the venues from the first one on
few_from : (v : ℕ) (xs : List Quote) → Rising xs → AllByRecursion OfVenue xs → AllByRecursion (λ x. v ≤ x.venue) xs → v ≤ venues + 1 → v + length xs ≤ venues + 1
few_from v [] rise each from high = omega arith
few_from v (x ∷ xs) rise each from high =
    let first = from.0 in
    let last = each.0.last in
    let rest = few_from (v + 1) xs rise.1 each.1 (All-weaker (λ y. x.venue < y.venue) (λ y. v + 1 ≤ y.venue) (λ y h. omega arith) xs rise.0) (omega arith) in
    omega arith

each_fits : (xs : List Quote) → AllByRecursion OfVenue xs → list_all quote_fits xs ≡ true
each_fits [] each = refl
each_fits (x ∷ xs) each = and_from (quote_fits x) (list_all quote_fits xs) each.0.fit (each_fits xs each.1)

listed_fit : (xs : List Quote) → WellListed xs → side_fits xs ≡ true
listed_fit xs l =
    let few = few_from 1 xs l.rise l.each (All-weaker OfVenue (λ x. 1 ≤ x.venue) (λ x h. h.first) xs l.each) (omega arith) in
    and_from _ (list_all quote_fits xs) (le-leb (length xs) most_quotes (omega arith)) (each_fits xs l.each)

pub tables : Tables
tables t = record {
  bids = t.bids_listed;
  offers = t.offers_listed;
  fit = and_from _ _ (listed_fit _ t.bids_listed) (listed_fit _ t.offers_listed);
}

-- a market that differs from a table's by one list
changes : (venue side n : ℕ) (q : Option Quote) (f : List Quote → List Quote) (t : VenueTable) (after : Market) → ((xs : List Quote) → Rising xs → Becomes venue q xs (f xs)) → n ≡ side → after ≡ changed true n f (market_in t)
    → Changes venue side q (market_in t) after
changes venue side n q f t after becomes same e =
    subst (λ s. Changes venue s q (market_in t) after) same
    (subst (λ m. Changes venue n q (market_in t) m) (sym e) (record {
      bid = λ one. rw one (becomes _ t.bids_listed.rise, refl);
      offer = λ two. rw two (becomes _ t.offers_listed.rise, refl);
      halted = refl;
    }))

pub set_changes : (q : Quote) (side n : ℕ) (t : VenueTable) (after : Market) → n ≡ side → after ≡ changed true n (quoted q) (market_in t) → Changes q.venue side (Some q) (market_in t) after
set_changes q side n t after = changes q.venue side n (Some q) (quoted q) t after (λ xs rise. record { own = (sets q xs).own; others = (sets q xs).others })

pub clear_changes : (venue side n : ℕ) (t : VenueTable) (after : Market) → n ≡ side → after ≡ changed true n (without venue) (market_in t) → Changes venue side None (market_in t) after
clear_changes venue side n t after = changes venue side n None (without venue) t after (λ xs rise. record { own = (clears venue xs rise).own; others = (clears venue xs rise).others })
