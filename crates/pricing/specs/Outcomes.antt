-- What a close answers: a price and its count, or the cause why there is none.
use Rattle.std.specs.Prelude.{◌≡◌, ℕ, ◌+◌, ◌/◌, ◌<◌, ◌≤◌, Bool, true, false, cond, Some, None, Ok, Err, Option, Result, ◌==◌, nat_le, nat_lt}
use Rattle.market.specs.declared.side.Side.{Side}
use Rattle.market.specs.declared.side.Side.TheVariants.{Buy, Sell}
use Rattle.market.specs.Best.{best_price}
use Rattle.pricing.specs.declared.cause.Cause.{Cause}
use Rattle.pricing.specs.declared.cause.Cause.TheVariants.{NothingToTrade, LockedOrCrossed, NoReference, Halted}
use Rattle.pricing.specs.Books.{Book, count_at}
use Rattle.pricing.specs.Counting.{counting_book}
use Rattle.pricing.specs.Candidates.{Candidate, SnapPrice}

abbrev pub Outcome : Type 0
Outcome = Result (ℕ × ℕ) Cause

-- the number of each cause; a price has the number 0
abbrev pub cause_number : Cause → ℕ
cause_number NothingToTrade = 1
cause_number LockedOrCrossed = 2
cause_number NoReference = 3
cause_number Halted = 4

abbrev pub outcome_number : Outcome → ℕ
outcome_number (Ok x) = 0
outcome_number (Err cause) = cause_number cause

-- the price and the count of an outcome, 0 where there is no price
abbrev pub outcome_price : Outcome → ℕ
outcome_price (Ok x) = x.0
outcome_price (Err cause) = 0

abbrev pub outcome_count : Outcome → ℕ
outcome_count (Ok x) = x.1
outcome_count (Err cause) = 0

-- the best price quoted on a side: the highest bid, the lowest offer
abbrev pub best_on : Side → Book → Option ℕ
best_on Buy b = best_price Buy b.bids
best_on Sell b = best_price Sell b.offers

-- the best bid equals the best offer
abbrev pub is_locked : Option ℕ → Option ℕ → Bool
is_locked (Some bid) (Some offer) = bid == offer
is_locked bid offer = false

-- the best bid is above the best offer
abbrev pub is_crossed : Option ℕ → Option ℕ → Bool
is_crossed (Some bid) (Some offer) = nat_lt offer bid
is_crossed bid offer = false

-- the best bid reaches the best offer: the market is locked or crossed, as TouchingParts says
abbrev pub touching : Option ℕ → Option ℕ → Bool
touching (Some bid) (Some offer) = nat_le offer bid
touching bid offer = false

-- halfway between the best bid and the best offer, where both exist
abbrev pub midpoint : Option ℕ → Option ℕ → Option ℕ
midpoint (Some bid) (Some offer) = Some ((bid + offer) / 2)
midpoint bid offer = None

-- the reference: the last eligible sale, if it is not 0, else the midpoint
abbrev pub reference_of : ℕ → Option ℕ → Option ℕ → Option ℕ
reference_of last bid offer = cond (last == 0) (midpoint bid offer) (Some last)

abbrev pub reference : Book → ℕ → Option ℕ
reference b last = reference_of last (best_on Buy b) (best_on Sell b)

-- trading goes on, and the market is neither locked nor crossed
pub record Orderly (halted : Bool) (b : Book) : Type 0 where
  pub trading : halted ≡ false
  pub apart : touching (best_on Buy b) (best_on Sell b) ≡ false

-- nothing to trade: the candidates count zero
abbrev pub Nothing : Book → Type 0
Nothing b = (q : ℕ) → Candidate b q → count_at b q ≡ 0

-- several candidates, and no reference to choose by
pub record Undecided (b : Book) (ref : Option ℕ) : Type 0 where
  pub low : ℕ
  pub high : ℕ
  pub low_of : Candidate b low
  pub high_of : Candidate b high
  pub order : low < high
  pub none : ref ≡ None

-- the SNAP Price, with its count
pub record Priced (b : Book) (ref : Option ℕ) (price n : ℕ) : Type 0 where
  pub price_is : SnapPrice b ref price
  pub count_is : n ≡ count_at b price

-- the choice of the price, once the market is seen to be orderly
abbrev pub Snapped : Book → Option ℕ → Outcome → Type 0
Snapped b ref (Err NothingToTrade) = Nothing b
Snapped b ref (Err NoReference) = (Nothing b → ⊥) × Undecided b ref
Snapped b ref (Ok x) = (Nothing b → ⊥) × Priced b ref x.0 x.1
Snapped b ref x = ⊥

-- the outcome of a close, the causes in their order: halted, locked or crossed, and then the choice of the price on what counts
-- of the book: nothing to trade, a price, or several candidates with no reference
abbrev pub IsOutcome : Bool → Book → ℕ → Outcome → Type 0
IsOutcome halted b last (Err Halted) = halted ≡ true
IsOutcome halted b last (Err LockedOrCrossed) =
    (halted ≡ false) × (touching (best_on Buy b) (best_on Sell b) ≡ true)
IsOutcome halted b last x =
    Orderly halted b × Snapped (counting_book b) (reference (counting_book b) last) x

-- the law of the best price: no price counts more than a price that is answered, and where the answer is
-- that there is nothing to trade, every price counts zero
abbrev pub Best : Book → Outcome → Type 0
Best b (Ok x) = (q : ℕ) → count_at (counting_book b) q ≤ x.1
Best b (Err NothingToTrade) = (q : ℕ) → count_at (counting_book b) q ≡ 0
Best b x = Unit {0}
