-- What those questions of a call ask that have numbers in them, in the words of the rules: the rows of the tables, the stage, times, how long
-- acceptance is, the minimum size, the market of a start, and the room on a side. Times are milliseconds since midnight.
use Rattle.std.specs.Prelude.{◌≡◌, ℕ, ◌+◌, ◌<◌, ◌≤◌, ◌↔◌, true, length, Some, slice_index_or}
use Rattle.std.specs.List.{Any}
use Rattle.market.specs.Markets.{Market, no_quote}
use Rattle.orders.specs.declared.order.Order.{Order}
use Rattle.engine.specs.Asked.{Asked}
use Rattle.engine.specs.declared.call.Facts.{Facts}
use Rattle.engine.specs.declared.stage.Issue.TheVariants.{Ordinary, Special}
use Rattle.engine.specs.declared.stage.Stage.{Stage}
use Rattle.engine.specs.declared.stage.Stage.TheVariants.{Open, Acceptance, Satisfaction, Matched}
use Rattle.engine.specs.declared.state.Engine.{Engine}
use Rattle.engine.specs.Limits.{order_rows, day_end, first_start, last_start, quote_age, cycle_gap, shortest_acceptance, longest_acceptance}
use Rattle.engine.specs.Minimum.{minimum}
use Rattle.engine.specs.Answers.{stage_number}
use Rattle.engine.specs.States.{TableRows, IsSized}
use Rattle.engine.specs.Questions.{sizes_fit, stage_fits, time_fits, two_sided, reaches, start_time_fits, acceptance_fits, has_room}
use Rattle.engine.specs.Numbered.{in_stage}

-- the tables have a row for each order that a side can have, for each quote of a side, and for each ticket
abbrev pub TableSizesFit : Type 0
TableSizesFit = (h : TableRows) → sizes_fit h ≡ true ↔ IsSized h

-- the stages have the numbers 0 to 3, and a call comes in those that are written out for it
pub record StagesFit : Type 0 where
  pub when_open : stage_number Open ≡ 0
  pub in_acceptance : (closes : ℕ) → stage_number (Acceptance closes) ≡ 1
  pub in_satisfaction : (price deadline : ℕ) → stage_number (Satisfaction price deadline) ≡ 2
  pub when_matched : stage_number Matched ≡ 3
  pub fits : (call : Asked) (s : Stage) → stage_fits call s ≡ in_stage call (stage_number s)

-- a time of the day, not before the last accepted one, if there is one
pub record TimeOfDay (e : Engine) (time : ℕ) : Type 0 where
  pub of_day : time ≤ day_end
  pub after : (last : ℕ) → e.last_time ≡ Some last → last ≤ time

abbrev pub TimesFit : Type 0
TimesFit = (e : Engine) (time : ℕ) → time_fits e time ≡ true ↔ TimeOfDay e time

-- within the hours of starts, the primary market's first two-sided quote known and long ago, and the last cycle's end, if there was
-- a cycle, long ago too
pub record MayStart (e : Engine) (time : ℕ) (facts : Facts) : Type 0 where
  pub first : first_start ≤ time
  pub last : time ≤ last_start
  pub quoted : (since : ℕ) × (facts.first_quote ≡ Some since) × (since + quote_age ≤ time)
  pub gap : (ended : ℕ) → e.last_end ≡ Some ended → ended + cycle_gap ≤ time

abbrev pub StartsFit : Type 0
StartsFit = (e : Engine) (time : ℕ) (facts : Facts) → start_time_fits e time facts ≡ true ↔ MayStart e time facts

abbrev pub AcceptanceFits : Type 0
AcceptanceFits = (facts : Facts) → acceptance_fits facts ≡ true ↔ (shortest_acceptance ≤ facts.acceptance) × (facts.acceptance ≤ longest_acceptance)

-- the least shares of a start order, by its price
pub record Minimums (price : ℕ) : Type 0 where
  pub below_dollar : price < 20000 → minimum Ordinary price ≡ 100000
  pub from_1 : 20000 ≤ price → price < 100000 → minimum Ordinary price ≡ 50000
  pub from_5 : 100000 ≤ price → price < 500000 → minimum Ordinary price ≡ 25000
  pub from_25 : 500000 ≤ price → price < 1000000 → minimum Ordinary price ≡ 20000
  pub from_50 : 1000000 ≤ price → price < 2000000 → minimum Ordinary price ≡ 10000
  pub from_100 : 2000000 ≤ price → price < 10000000 → minimum Ordinary price ≡ 5000
  pub from_500 : 10000000 ≤ price → minimum Ordinary price ≡ 2500
  pub special : minimum Special price ≡ 100

abbrev pub MinimumsFit : Type 0
MinimumsFit = (price : ℕ) → Minimums price

-- a bid and an offer, and no bid above an offer
pub record TwoSided (m : Market) : Type 0 where
  pub bid : 0 < length m.bids
  pub offer : 0 < length m.offers
  pub none_above : (i j : ℕ) → i < length m.bids → j < length m.offers → (slice_index_or m.bids i no_quote).price ≤ (slice_index_or m.offers j no_quote).price

abbrev pub MarketsFit : Type 0
MarketsFit = (m : Market) → two_sided m ≡ true ↔ TwoSided m

-- a buy is at an offer's price or higher, a sell at a bid's or lower
pub record Reaching (o : Order) (m : Market) : Type 0 where
  pub buy : o.side ≡ 1 → reaches o m ≡ true ↔ Any (λ x. x.price ≤ o.price) m.offers
  pub sell : o.side ≡ 2 → reaches o m ≡ true ↔ Any (λ x. o.price ≤ x.price) m.bids

abbrev pub ReachesFit : Type 0
ReachesFit = (o : Order) (m : Market) → Reaching o m

-- a side has room for a further order while it has fewer than its table has rows
pub record Room (e : Engine) (o : Order) : Type 0 where
  pub buy : o.side ≡ 1 → has_room e o ≡ true ↔ e.used.buys < order_rows
  pub sell : o.side ≡ 2 → has_room e o ≡ true ↔ e.used.sells < order_rows

abbrev pub RoomFits : Type 0
RoomFits = (e : Engine) (o : Order) → Room e o
