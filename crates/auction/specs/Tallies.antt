-- The tally of a run of calls: what became of each order, kept from the calls alone. It never sees
-- a table. Orders stay in the order in which they came; which of them goes first is said by "ahead"
-- alone.
use Rattle.std.specs.Prelude.{ℕ, ◌+◌, ◌-◌, min, Bool, true, false, cond, List, [], ◌∷◌, ◌++◌, map, Some, None, Ok, Err, sum_by, Option, Result, ◌==◌, slice_index_or, slice_set}
use Rattle.ranking.specs.Ranked.{ranked}
use Rattle.market.specs.declared.quote.Quote.{Quote}
use Rattle.market.specs.declared.refusal.Refusal.{Refusal}
use Rattle.market.specs.declared.side.Side.{Side}
use Rattle.market.specs.declared.side.Side.TheVariants.{Buy, Sell}
use Rattle.market.specs.Markets.{Market}
use Rattle.pricing.specs.declared.cause.Cause.TheVariants.{NothingToTrade, Halted}
use Rattle.pricing.specs.Books.{Book, executable_at}
use Rattle.pricing.specs.Counting.{counting_market}
use Rattle.pricing.specs.Outcomes.{Outcome}
use Rattle.orders.specs.declared.order.Order.{Order}
use Rattle.orders.specs.declared.row.OrderRow.{OrderRow}
use Rattle.orders.specs.Rows.{entered_row, with_cancelled, with_here, with_out, with_settled}
use Rattle.orders.specs.Tables.{rest_levels}
use Rattle.routing.specs.declared.ticket.Ticket.{Ticket}
use Rattle.routing.specs.Allotment.{allotted}
use Rattle.routing.specs.Owed.{owed}
use Rattle.routing.specs.Tickets.{empty_ticket}
use Rattle.routing.specs.Closes.{close_tickets}
use Rattle.engine.specs.declared.answer.Answer.{Answer}
use Rattle.engine.specs.declared.answer.Answer.TheVariants.{Priced, Unpriced}
use Rattle.engine.specs.Asked.{Asked, Begin, Enter, Cancel, Close, Report, Match, Finish, Abort}
use Rattle.engine.specs.declared.stage.Stage.{Stage}
use Rattle.engine.specs.declared.stage.Stage.TheVariants.{Open, Acceptance, Satisfaction, Matched}
use Rattle.engine.specs.Limits.{ticket_time}
use Rattle.engine.specs.Stages.{is_matched, price_of}
use Rattle.engine.specs.Effects.{ahead_on, ranked_bids, ranked_offers, reported}

pub record Tally : Type 0 where
  -- whether a cycle has begun since the engine was made
  pub begun : Bool
  -- the stage, with the price that the close fixed
  pub stage : Stage
  -- the price of the last match, until the next begin
  pub fixed : Option ℕ
  -- the orders of each side as entered, with the six counts of their shares
  pub buys : List OrderRow
  pub sells : List OrderRow
  -- the quotes that the close found, in rank order
  pub bids : List Quote
  pub offers : List Quote
  pub tickets : List Ticket
  -- the shares executed here on each side
  pub bought : ℕ
  pub sold : ℕ
  -- whether a close of the cycle has noted the source's quotes, which each does but that of a
  -- halted market
  pub quotes_noted : Bool

abbrev pub first_tally : Tally
first_tally = record {
  begun = false;
  stage = Open;
  fixed = None;
  buys = [];
  sells = [];
  bids = [];
  offers = [];
  tickets = [];
  bought = 0;
  sold = 0;
  quotes_noted = false;
}

abbrev pub tally_in_stage : Stage → Tally → Tally
tally_in_stage stage' y = record y { stage = stage' }

abbrev with_orders : List OrderRow → List OrderRow → Tally → Tally
with_orders buys' sells' y = record y { buys = buys'; sells = sells' }

-- one more order, all of whose shares are rest
abbrev pub entered : Order → Tally → Tally
entered o y =
    cond (o.side == 1)
    (record y { buys = y.buys ++ (entered_row o ∷ []) })
    (record y { sells = y.sells ++ (entered_row o ∷ []) })

-- a cycle that begins at its stage, with nothing in it yet
abbrev pub new_cycle : Stage → Tally
new_cycle stage' = record first_tally { begun = true; stage = stage' }

-- a change of the order with a number
abbrev pub on_number : ℕ → (OrderRow → OrderRow) → List OrderRow → List OrderRow
on_number number f ws = map (λ w. cond (w.number == number) (f w) w) ws

abbrev pub changed : ℕ → (OrderRow → OrderRow) → Tally → Tally
changed number f y = with_orders (on_number number f y.buys) (on_number number f y.sells) y

-- every rest is cancelled
abbrev pub orders_cancelled : Tally → Tally
orders_cancelled y = with_orders (map with_cancelled y.buys) (map with_cancelled y.sells) y

-- of k shares handed out in rank order on a side, what one of its orders gets: its rest, or what
-- the rests ahead of it leave
abbrev pub share_of : Side → ℕ → List OrderRow → OrderRow → ℕ
share_of side k ws w = allotted (ahead_on side) (λ v. v.rest) k w ws

abbrev pub handed_out : (ℕ → OrderRow → OrderRow) → Side → ℕ → List OrderRow → List OrderRow
handed_out g side k ws = map (λ w. g (share_of side k ws w) w) ws

-- the orders with their rests, and the quotes of the source that count
abbrev pub book_by : Tally → Market → Book
book_by y m = record {
  buys = rest_levels y.buys;
  sells = rest_levels y.sells;
  bids = (counting_market m).bids;
  offers = (counting_market m).offers;
}

-- the tickets of a close at a price, by the orders and the quotes that count in rank order
abbrev pub tickets_by : Tally → Market → ℕ → List Ticket
tickets_by y m price =
    let m' = counting_market m in
    close_tickets (book_by y m) price
    (ranked (ahead_on Buy) y.buys) (ranked (ahead_on Sell) y.sells)
    (ranked_bids m') (ranked_offers m')

-- a close that fixed a price: each side routes what it owes, and all quotes are noted
abbrev pub routed : ℕ → ℕ → Market → Tally → Tally
routed price deadline m y = record y {
  stage = Satisfaction price deadline;
  buys = handed_out with_out Buy (owed Buy (book_by y m) price) y.buys;
  sells = handed_out with_out Sell (owed Sell (book_by y m) price) y.sells;
  bids = ranked_bids m;
  offers = ranked_offers m;
  tickets = tickets_by y m price;
  quotes_noted = true;
}

-- a close that fixed no price: the quotes are noted, and there is nothing to match
abbrev pub unrouted : Market → Tally → Tally
unrouted m y = record y {
  stage = Matched;
  bids = ranked_bids m;
  offers = ranked_offers m;
  quotes_noted = true;
}

abbrev pub closed : ℕ → Market → Outcome → Tally → Tally
closed time m (Err Halted) y = tally_in_stage Open (orders_cancelled y)
closed time m (Err cause) y = unrouted m y
closed time m (Ok x) y = routed x.0 (time + ticket_time) m y

-- a ticket closed: its order gets what was filled, and the others rest again, or are late once
-- matched
abbrev pub settled : ℕ → ℕ → Ticket → Tally → Tally
settled ticket filled t y = record y {
  buys = on_number t.order (with_settled t.shares filled (is_matched y.stage)) y.buys;
  sells = on_number t.order (with_settled t.shares filled (is_matched y.stage)) y.sells;
  tickets = slice_set y.tickets (ticket - 1) (reported t);
}

-- the executable shares of the smaller side at the price
abbrev pub matchable : Tally → ℕ
matchable y =
    min
    (executable_at Buy (price_of y.stage) (rest_levels y.buys))
    (executable_at Sell (price_of y.stage) (rest_levels y.sells))

-- n shares of each side executed in rank order, at the price of the stage
abbrev pub executed : ℕ → Tally → Tally
executed n y = record y {
  stage = Matched;
  fixed = Some (price_of y.stage);
  buys = handed_out with_here Buy n y.buys;
  sells = handed_out with_here Sell n y.sells;
  bought = y.bought + sum_by (share_of Buy n y.buys) y.buys;
  sold = y.sold + sum_by (share_of Sell n y.sells) y.sells;
}

-- a granted call, with the outcome of a close
abbrev pub granted_to : Tally → Market → Asked → Outcome → Tally
granted_to y m (Begin time order facts) x =
    entered order (new_cycle (Acceptance (time + facts.acceptance)))
granted_to y m (Enter order) x = entered order y
granted_to y m (Cancel number) x = changed number with_cancelled y
granted_to y m (Close time last) x = closed time m x y
granted_to y m (Report ticket filled) x =
    settled ticket filled (slice_index_or y.tickets (ticket - 1) empty_ticket) y
granted_to y m (Match time) x = executed (matchable y) y
granted_to y m (Finish time) x = tally_in_stage Open y
granted_to y m (Abort time) x = tally_in_stage Open (orders_cancelled y)

-- the price and count that a close answered, or its cause; of another call it is not asked
abbrev pub outcome_of : Answer → Outcome
outcome_of (Priced price count tickets') = Ok ((price, count))
outcome_of (Unpriced cause) = Err cause
outcome_of answer' = Err NothingToTrade

-- one more call; a refused one leaves the tally as it is
abbrev pub fed : Tally → Market → Asked → Result Answer Refusal → Tally
fed y m call (Ok answer) = granted_to y m call (outcome_of answer)
fed y m call (Err refusal) = y
