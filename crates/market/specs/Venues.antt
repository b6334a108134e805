-- What a table of venues means, and what venues do to it.
use Rattle.std.specs.Prelude.{ℕ, Bool, cond, ◌&&◌, List, [], ◌∷◌, Some, None, Ok, Err, Option, Result, ◌==◌, nat_le, nat_lt}
use Rattle.market.specs.Limits.{venues}
use Rattle.market.specs.Prices.{fits}
use Rattle.market.specs.Markets.{Market}
use Rattle.market.specs.declared.quote.Quote.{Quote}
use Rattle.market.specs.declared.refusal.Refusal.{Refusal}
use Rattle.market.specs.declared.refusal.Refusal.TheVariants.{VenueOrSide, QuoteValue}
use Rattle.market.specs.Listings.{quote_of, quotes_listed, Rising}
use Rattle.market.specs.declared.terms.QuoteTerms.{QuoteTerms}
use Rattle.market.specs.declared.venues.VenueTable.{VenueTable}

-- what a table means as a source
abbrev pub market_in : VenueTable → Market
market_in t =
    record { bids = quotes_listed 1 t.bids; offers = quotes_listed 1 t.offers; halted = t.halted }

-- a list by venue with q in the place of its venue's quote, if there is one, or put in
abbrev pub quoted : Quote → List Quote → List Quote
quoted q [] = q ∷ []
quoted q (x ∷ xs) =
    cond (nat_lt x.venue q.venue)
    (x ∷ quoted q xs)
    (cond (x.venue == q.venue) (q ∷ xs) (q ∷ x ∷ xs))

-- a list without the quote of a venue
abbrev pub without : ℕ → List Quote → List Quote
without v [] = []
without v (x ∷ xs) = cond (x.venue == v) xs (x ∷ without v xs)

-- a list by venue, once a venue quotes by these terms in it, or by none
abbrev pub with_terms : ℕ → Option QuoteTerms → List Quote → List Quote
with_terms v (Some terms) = quoted (quote_of terms v)
with_terms v None = without v

-- a venue that a table has room for, and side 1, bids, or 2, offers
abbrev pub is_place : ℕ → ℕ → Bool
is_place venue side = (nat_le 1 venue && nat_le venue venues) && (nat_le 1 side && nat_le side 2)

-- what setting and clearing answer
abbrev pub set_answer : ℕ → ℕ → ℕ → ℕ → Result (Unit {0}) Refusal
set_answer venue side price shares =
    cond (is_place venue side) (cond (fits price shares) (Ok tt) (Err QuoteValue)) (Err VenueOrSide)

abbrev pub clear_answer : ℕ → ℕ → Result (Unit {0}) Refusal
clear_answer venue side = cond (is_place venue side) (Ok tt) (Err VenueOrSide)

-- the same answers in numbers, as a venue gets them
abbrev pub set_number : ℕ → ℕ → ℕ → ℕ → ℕ
set_number venue side price shares =
    cond ((nat_le 1 venue && nat_le venue venues) && (nat_le 1 side && nat_le side 2))
    (cond (fits price shares) 0 28)
    27

abbrev pub clear_number : ℕ → ℕ → ℕ
clear_number venue side =
    cond ((nat_le 1 venue && nat_le venue venues) && (nat_le 1 side && nat_le side 2)) 0 27

-- the market after a change of one side's list, if the call was granted
abbrev pub changed : Bool → ℕ → (List Quote → List Quote) → Market → Market
changed granted side change m = record m {
  bids = cond (granted && side == 1) (change m.bids) m.bids;
  offers = cond (granted && side == 2) (change m.offers) m.offers;
}

abbrev pub after_set : Bool → ℕ → ℕ → ℕ → ℕ → Market → Market
after_set granted venue side price shares m =
    changed granted side (quoted (record { price = price; shares = shares; venue = venue })) m

abbrev pub after_clear : Bool → ℕ → ℕ → Market → Market
after_clear granted venue side m = changed granted side (without venue) m

-- each side by rising venue
pub record ByVenue (m : Market) : Type 0 where
  pub bids_rise : Rising m.bids
  pub offers_rise : Rising m.offers
