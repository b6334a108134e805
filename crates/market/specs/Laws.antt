-- What holds of every price, list of quotes and table of venues, in the words of the rules.
use Rattle.std.specs.Prelude.{◌≡◌, ◌≢◌, ℕ, ◌%◌, ◌<◌, ◌≤◌, ◌↔◌, ◌⊎◌, Bool, true, false, List, [], length, Some, None, Option, ◌==◌, nat_lt}
use Rattle.std.specs.List.{find, Any, AllByRecursion}
use Rattle.std.specs.Option.{MatchOption}
use Rattle.market.specs.declared.quote.Quote.{Quote}
use Rattle.market.specs.declared.side.Side.{Side}
use Rattle.market.specs.declared.side.Side.TheVariants.{Buy, Sell}
use Rattle.market.specs.declared.venues.VenueTable.{VenueTable}
use Rattle.market.specs.Limits.{most_shares, most_quotes}
use Rattle.market.specs.Markets.{Market}
use Rattle.market.specs.Prices.{Permitted, fits}
use Rattle.market.specs.Fits.{quotes_fit}
use Rattle.market.specs.Best.{best_price}
use Rattle.market.specs.Rankings.{higher, lower, quote_ahead}
use Rattle.market.specs.Listings.{Rising, WellListed}
use Rattle.market.specs.Venues.{quoted, without, market_in}

-- the quote of a venue in a list
abbrev pub quote_by : ℕ → List Quote → Option Quote
quote_by venue xs = find (λ x. x.venue == venue) xs

-- setting a quote gives its venue that quote, and every other venue has what it had
pub record SetsOne (q : Quote) (xs : List Quote) : Type 0 where
  pub own : quote_by q.venue (quoted q xs) ≡ Some q
  pub others : (v : ℕ) → v ≢ q.venue → quote_by v (quoted q xs) ≡ quote_by v xs

-- clearing leaves its venue without one, and every other venue has what it had
pub record ClearsOne (venue : ℕ) (xs : List Quote) : Type 0 where
  pub own : quote_by venue (without venue xs) ≡ None
  pub others : (v : ℕ) → v ≢ venue → quote_by v (without venue xs) ≡ quote_by v xs

abbrev pub SetsVenue : Type 0
SetsVenue = (q : Quote) (xs : List Quote) → SetsOne q xs

abbrev pub ClearsVenue : Type 0
ClearsVenue = (venue : ℕ) (xs : List Quote) → Rising xs → ClearsOne venue xs

-- a list once the quote of a venue is another, or none: every other venue has what it had
pub record Becomes (venue : ℕ) (q : Option Quote) (before after : List Quote) : Type 0 where
  pub own : quote_by venue after ≡ q
  pub others : (v : ℕ) → v ≢ venue → quote_by v after ≡ quote_by v before

-- a market once the quote of a venue is another, or none, on side 1, the bids, or 2, the offers: all else is as it was
pub record Changes (venue side : ℕ) (q : Option Quote) (before after : Market) : Type 0 where
  pub bid : side ≡ 1 → Becomes venue q before.bids after.bids × (after.offers ≡ before.offers)
  pub offer : side ≡ 2 → Becomes venue q before.offers after.offers × (after.bids ≡ before.bids)
  pub halted : after.halted ≡ before.halted

-- whoever has a table knows what each side lists, and that its quotes fit, so there are no more than a source may list
pub record TableLaw (m : Market) : Type 0 where
  pub bids : WellListed m.bids
  pub offers : WellListed m.offers
  pub fit : quotes_fit m ≡ true

abbrev pub Tables : Type 0
Tables = (t : VenueTable) → TableLaw (market_in t)

-- a bid is better higher, an offer lower
abbrev pub is_better : Side → ℕ → ℕ → Bool
is_better Buy a b = nat_lt b a
is_better Sell a b = nat_lt a b

-- some quote has the price, and none has a better one
pub record IsBest (side : Side) (xs : List Quote) (p : ℕ) : Type 0 where
  pub quoted_there : Any (λ x. x.price ≡ p) xs
  pub none_better : AllByRecursion (λ x. is_better side x.price p ≡ false) xs

abbrev pub BestIsBest : Type 0
BestIsBest = (side : Side) (xs : List Quote)
    → MatchOption (best_price side xs) (xs ≡ []) (IsBest side xs)

-- bids go by higher price and offers by lower price, and quotes of one price by lower venue
pub record QuoteRanks (a b : Quote) : Type 0 where
  pub bids : b.price < a.price → quote_ahead higher a b ≡ true
  pub offers : a.price < b.price → quote_ahead lower a b ≡ true
  pub level_bids : a.price ≡ b.price → quote_ahead higher a b ≡ nat_lt a.venue b.venue
  pub level_offers : a.price ≡ b.price → quote_ahead lower a b ≡ nat_lt a.venue b.venue

abbrev pub QuotesRank : Type 0
QuotesRank = (a b : Quote) → QuoteRanks a b

-- even from 2 to 19,998 points
pub record BelowDollar (p : ℕ) : Type 0 where
  pub least : 2 ≤ p
  pub most : p ≤ 19998
  pub even : p % 2 ≡ 0

-- a multiple of 200 from 20,000 to 4,000,000,000 points
pub record FromDollar (p : ℕ) : Type 0 where
  pub least : 20000 ≤ p
  pub most : p ≤ 4000000000
  pub cents : p % 200 ≡ 0

abbrev pub PriceGrid : Type 0
PriceGrid = (p : ℕ) → Permitted p ↔ (BelowDollar p ⊎ FromDollar p)

-- an order or quote fits with a permitted price, and from one share to the most
abbrev pub EntryFits : Type 0
EntryFits = (price shares : ℕ)
    → fits price shares ≡ true ↔ Permitted price × (1 ≤ shares) × (shares ≤ most_shares)

-- a list of quotes fits with at most as many as a source may list, each of which fits
pub record ListFits (xs : List Quote) : Type 0 where
  pub few : length xs ≤ most_quotes
  pub each : AllByRecursion (λ x. Permitted x.price × (1 ≤ x.shares) × (x.shares ≤ most_shares)) xs

abbrev pub QuotesFit : Type 0
QuotesFit = (m : Market) → quotes_fit m ≡ true ↔ ListFits m.bids × ListFits m.offers
