-- What holds of every book, in the words of the rules.
use Rattle.std.specs.Prelude.{◌≡◌, ℕ, ◌+◌, ◌/◌, ◌%◌, ◌<◌, ◌≤◌, ◌↔◌, ◌⊎◌, Bool, true, false, ◌&&◌, ◌||◌, [], Some, None, Option}
use Rattle.std.specs.List.{Any}
use Rattle.market.specs.declared.side.Side.TheVariants.{Buy, Sell}
use Rattle.market.specs.Laws.{IsBest}
use Rattle.market.specs.Limits.{lowest_price, highest_price, dollar, fine_step}
use Rattle.market.specs.Markets.{Market}
use Rattle.market.specs.Prices.{Permitted}
use Rattle.pricing.specs.Limits.{permitted_prices, fine_prices}
use Rattle.pricing.specs.Books.{Book, Sound, count_at}
use Rattle.pricing.specs.Counting.{counting_book, counting_market}
use Rattle.pricing.specs.Candidates.{Clears, Candidate, SnapPrice}
use Rattle.pricing.specs.Outcomes.{Outcome, IsOutcome, Nothing, best_on, is_locked, is_crossed, touching, reference}
use Rattle.pricing.specs.Ranges.{price_at}

-- a price that clears, permitted or not, counts most among all prices
abbrev pub ClearingCountsMost : Type 0
ClearingCountsMost =
    (b : Book) (q : ℕ) → Clears b q → (other : ℕ) → count_at b other ≤ count_at b q

-- a book of permitted prices has a candidate
abbrev pub AlwaysACandidate : Type 0
AlwaysACandidate = (b : Book) → Sound b → (q : ℕ) × Candidate b q

-- under one reference a book has at most one SNAP Price
abbrev pub OnePrice : Type 0
OnePrice =
    (b : Book) (ref : Option ℕ) (p q : ℕ) → SnapPrice b ref p → SnapPrice b ref q → p ≡ q

-- the SNAP Price clears, even where it is not permitted itself
abbrev pub PriceClears : Type 0
PriceClears = (b : Book) (ref : Option ℕ) (p : ℕ) → SnapPrice b ref p → Clears b p

-- there is nothing to trade exactly where every price counts zero
abbrev pub NothingExactly : Type 0
NothingExactly =
    (b : Book) → Sound b
    → (Nothing b → (q : ℕ) → count_at b q ≡ 0) × (((q : ℕ) → count_at b q ≡ 0) → Nothing b)

-- a close has at most one outcome
abbrev pub OneOutcome : Type 0
OneOutcome =
    (halted : Bool) (b : Book) (last : ℕ) (x y : Outcome)
    → IsOutcome halted b last x → IsOutcome halted b last y → x ≡ y

-- the midpoint of two permitted prices is whole
abbrev pub MidpointWhole : Type 0
MidpointWhole = (bid offer : ℕ) → Permitted bid → Permitted offer → (bid + offer) % 2 ≡ 0

-- the only candidate is the price, whatever the reference
abbrev pub OnlyPrices : Type 0
OnlyPrices =
    (b : Book) (ref : Option ℕ) (p : ℕ)
    → Candidate b p → ((q : ℕ) → Candidate b q → q ≡ p) → SnapPrice b ref p

-- the reference is the last eligible sale, where there is one, else halfway between the best bid and the best offer; where one of
-- them is missing too, there is none
pub record References (b : Book) (last : ℕ) : Type 0 where
  pub sale : 1 ≤ last → reference b last ≡ Some last
  pub midway :
      last ≡ 0 → (bid offer : ℕ) → IsBest Buy b.bids bid → IsBest Sell b.offers offer
      → reference b last ≡ Some ((bid + offer) / 2)
  pub none : last ≡ 0 → (b.bids ≡ []) ⊎ (b.offers ≡ []) → reference b last ≡ None

abbrev pub ReferenceIs : Type 0
ReferenceIs = (b : Book) (last : ℕ) → References b last

-- the best bid reaches the best offer exactly where it equals it or is above it, which it never is at once
pub record Parts (bid offer : Option ℕ) : Type 0 where
  pub either : touching bid offer ≡ (is_locked bid offer || is_crossed bid offer)
  pub one : (is_locked bid offer && is_crossed bid offer) ≡ false

abbrev pub TouchingParts : Type 0
TouchingParts = (bid offer : Option ℕ) → Parts bid offer

-- the market is crossed exactly where some bid is above some offer
abbrev pub CrossedIs : Type 0
CrossedIs =
    (b : Book)
    → is_crossed (best_on Buy b) (best_on Sell b) ≡ true
    ↔ Any (λ x. Any (λ z. z.price < x.price) b.offers) b.bids

-- the market is locked or crossed exactly where some bid is at or above some offer
abbrev pub TouchingIs : Type 0
TouchingIs =
    (b : Book)
    → touching (best_on Buy b) (best_on Sell b) ≡ true
    ↔ Any (λ x. Any (λ z. z.price ≤ x.price) b.offers) b.bids

-- the book of what counts has the quotes of the market of what counts, and all orders
abbrev pub CountingIs : Type 0
CountingIs =
    (b : Book) (m : Market) → b.bids ≡ m.bids → b.offers ≡ m.offers
    → let counting = counting_market m in
    counting_book b ≡ record b { bids = counting.bids; offers = counting.offers }

-- the ladder of permitted prices: where it begins, passes a dollar, and ends
pub record LadderEnds : Type 0 where
  pub first : price_at 1 ≡ lowest_price
  pub fine : price_at fine_prices + fine_step ≡ dollar
  pub coarse : price_at (fine_prices + 1) ≡ dollar
  pub last : price_at permitted_prices ≡ highest_price
