-- What a granted call does to the engine and to each table, and what it answers.
use Rattle.std.specs.Prelude.{ℕ, ◌+◌, ◌-◌, min, Bool, true, cond, List, ◌++◌, map, length, take, drop, replicate, is_some, Some, None, Ok, Err, sum_by, Option, Result, ◌==◌, nat_lt, slice_set}
use Rattle.ranking.specs.Ranked.{placed, ranked}
use Rattle.market.specs.declared.quote.Quote.{Quote}
use Rattle.market.specs.declared.refusal.Refusal.{Refusal}
use Rattle.market.specs.declared.side.Side.{Side}
use Rattle.market.specs.declared.side.Side.TheVariants.{Buy, Sell}
use Rattle.market.specs.Markets.{Market, no_quote}
use Rattle.market.specs.Rankings.{higher, lower, quote_ahead}
use Rattle.pricing.specs.declared.cause.Cause.{Cause}
use Rattle.pricing.specs.declared.cause.Cause.TheVariants.{Halted}
use Rattle.pricing.specs.Books.{Book, at_or_above, at_or_below}
use Rattle.pricing.specs.Counting.{counting_market}
use Rattle.pricing.specs.Outcomes.{Outcome}
use Rattle.orders.specs.declared.order.Order.{Order}
use Rattle.orders.specs.declared.row.OrderRow.{OrderRow}
use Rattle.orders.specs.Rows.{empty_row, entered_row, with_cancelled, with_here, with_out, with_settled}
use Rattle.orders.specs.Rankings.{row_ahead}
use Rattle.orders.specs.Tables.{place_of, rest_levels, available, if_whole, changed_at, handed}
use Rattle.routing.specs.declared.ticket.Ticket.{Ticket}
use Rattle.routing.specs.Owed.{owed}
use Rattle.routing.specs.Tickets.{empty_ticket, tickets}
use Rattle.routing.specs.Closes.{close_tickets}
use Rattle.engine.specs.declared.answer.Answer.{Answer}
use Rattle.engine.specs.declared.answer.Answer.TheVariants.{Done, Cancelled, Priced, Unpriced, Executed}
use Rattle.engine.specs.Asked.{Asked, Begin, Enter, Cancel, Close, Report, Match, Finish, Abort}
use Rattle.engine.specs.declared.call.Facts.{Facts}
use Rattle.engine.specs.declared.stage.Stage.{Stage}
use Rattle.engine.specs.declared.stage.Stage.TheVariants.{Open, Acceptance, Satisfaction, Matched}
use Rattle.engine.specs.declared.state.Engine.{Engine}
use Rattle.engine.specs.declared.state.Used.{Used}
use Rattle.engine.specs.Books.{book_from}
use Rattle.engine.specs.Limits.{ticket_time}
use Rattle.engine.specs.Stages.{is_matched, price_of}
use Rattle.engine.specs.declared.tables.Tables.{Tables}
use Rattle.engine.specs.States.{TableRows, table_rows, none_used, buys_in, sells_in}
use Rattle.engine.specs.Questions.{rest_of, ticket_at}

-- the engine and the rows of all tables after a call, and its answer
pub record Left : Type 0 where
  pub engine : Engine
  pub held : TableRows
  pub answer : Result Answer Refusal

abbrev pub granted : Engine → TableRows → Answer → Left
granted e h answer' = record { engine = e; held = h; answer = Ok answer' }

abbrev pub left : Engine → Tables → Result Answer Refusal → Left
left e t answer' = record { engine = e; held = table_rows t; answer = answer' }

-- a refused call leaves all as it stood
abbrev pub refused : Engine → TableRows → Refusal → Left
refused e h refusal = record { engine = e; held = h; answer = Err refusal }

-- by the refusal, if any, else as a granted call leaves it
abbrev pub unless : Option Refusal → Engine → TableRows → Left → Left
unless (Some refusal) e h left = refused e h refusal
unless None e h left = left

-- which of two orders goes ahead on a side
abbrev pub ahead_on : Side → OrderRow → OrderRow → Bool
ahead_on Buy = row_ahead higher
ahead_on Sell = row_ahead lower

-- the engine in another stage, at a time that was accepted
abbrev pub at_stage : Stage → ℕ → Used → Engine → Engine
at_stage stage time used e = record e { stage = stage; last_time = Some time; used = used }

-- the engine after the end of a cycle
abbrev pub ended : ℕ → Engine → Engine
ended time e = record e { stage = Open; last_time = Some time; last_end = Some time }

-- begin: all tables are emptied
abbrev pub emptied : TableRows → TableRows
emptied h = record {
  buys = replicate (length h.buys) empty_row;
  sells = replicate (length h.sells) empty_row;
  bids = replicate (length h.bids) no_quote;
  offers = replicate (length h.offers) no_quote;
  tickets = replicate (length h.tickets) empty_ticket;
}

-- enter: the order takes its place in rank order among the rows in use of its side
abbrev pub seated : (OrderRow → OrderRow → Bool) → ℕ → OrderRow → List OrderRow → List OrderRow
seated ahead used row rows = placed ahead row (take used rows) ++ drop (used + 1) rows

abbrev pub with_sides : List OrderRow → List OrderRow → TableRows → TableRows
with_sides buys sells h = record h { buys = buys; sells = sells }

abbrev pub order_held : Order → Used → TableRows → TableRows
order_held o used h =
    cond (o.side == 1)
    (with_sides (seated (ahead_on Buy) used.buys (entered_row o) h.buys) h.sells h)
    (with_sides h.buys (seated (ahead_on Sell) used.sells (entered_row o) h.sells) h)

abbrev pub order_used : Order → Used → Used
order_used o used =
    cond (o.side == 1)
    (record used { buys = used.buys + 1 })
    (record used { sells = used.sells + 1 })

-- what the last cycle fixed is forgotten
abbrev pub begun : Stage → ℕ → Used → Engine → Engine
begun stage time used e = record (at_stage stage time used e) { fixed = None }

abbrev pub begin : Engine → TableRows → ℕ → Order → Facts → Left
begin e h time order facts =
    granted (begun (Acceptance (time + facts.acceptance)) time (order_used order none_used) e) (order_held order none_used (emptied h)) Done

abbrev pub with_used : Used → Engine → Engine
with_used used e = record e { used = used }

abbrev pub enter : Engine → TableRows → Order → Left
enter e h order = granted (with_used (order_used order e.used) e) (order_held order e.used h) Done

-- a change of the order with a number: on the buys where it stands there, else on the sells
abbrev pub changed_in : (OrderRow → OrderRow) → Option ℕ → List OrderRow → List OrderRow
changed_in f None rows = rows
changed_in f (Some place) rows = changed_at f place rows

abbrev pub with_order : (OrderRow → OrderRow) → ℕ → Engine → TableRows → TableRows
with_order f number e h =
    cond (is_some (place_of number (buys_in e h)))
    (with_sides (changed_in f (place_of number (buys_in e h)) h.buys) h.sells h)
    (with_sides h.buys (changed_in f (place_of number (sells_in e h)) h.sells) h)

abbrev pub cancel : Engine → TableRows → ℕ → Left
cancel e h number = granted e (with_order with_cancelled number e h) (Cancelled (rest_of e h number))

-- abort, and a close that finds trading halted: each rest is cancelled
abbrev pub rests_cancelled : TableRows → TableRows
rests_cancelled h = with_sides (map (if_whole with_cancelled) h.buys) (map (if_whole with_cancelled) h.sells) h

abbrev pub all_rests : TableRows → ℕ
all_rests h = sum_by available h.buys + sum_by available h.sells

-- the book that a close prices: the orders with their rests, and the source's quotes that count
abbrev pub book_in : Engine → Market → TableRows → Book
book_in e m h = book_from (buys_in e h) (sells_in e h) (counting_market m).bids (counting_market m).offers

-- both quote lists in rank order
abbrev pub ranked_bids : Market → List Quote
ranked_bids m = ranked (quote_ahead higher) m.bids

abbrev pub ranked_offers : Market → List Quote
ranked_offers m = ranked (quote_ahead lower) m.offers

-- a table that begins with some rows and past them is as it was
abbrev pub written : {X : Type 0} → List X → List X → List X
written xs rows = xs ++ drop (length xs) rows

abbrev pub with_quotes : Market → TableRows → TableRows
with_quotes m h = record h { bids = written (ranked_bids m) h.bids; offers = written (ranked_offers m) h.offers }

abbrev pub quotes_used : Market → ℕ → Used → Used
quotes_used m tickets' used =
    record used { bids = length m.bids; offers = length m.offers; tickets = tickets' }

-- the tickets that a close at a price writes, to the quotes that count
abbrev pub tickets_at : Engine → Market → TableRows → ℕ → List Ticket
tickets_at e m h price =
    let m' = counting_market m in
    close_tickets (book_in e m h) price (buys_in e h) (sells_in e h) (ranked_bids m') (ranked_offers m')

abbrev pub with_tickets : List Ticket → TableRows → TableRows
with_tickets ts h = record h { tickets = written ts h.tickets }

-- k shares of a side go from rest to out
abbrev pub shares_out : Side → ℕ → TableRows → TableRows
shares_out Buy k h = with_sides (handed with_out k h.buys) h.sells h
shares_out Sell k h = with_sides h.buys (handed with_out k h.sells) h

-- what a side owes at a price goes out
abbrev pub owed_out : Side → Engine → Market → TableRows → ℕ → TableRows
owed_out side e m h price = shares_out side (owed side (book_in e m h) price) h

-- the tickets are written, and what the buys owe goes out, or what the sells owe where the buys owe nothing
abbrev pub with_routed : Engine → Market → TableRows → ℕ → TableRows
with_routed e m h price =
    with_tickets (tickets_at e m h price) (cond (nat_lt 0 (owed Buy (book_in e m h) price)) (owed_out Buy e m h price) (owed_out Sell e m h price))

-- the tickets of k shares of the rows in use of a side and the first n rows of its quote table
abbrev pub drawn : Side → ℕ → ℕ → Used → TableRows → List Ticket
drawn Buy k n used h = tickets k (take used.buys h.buys) (take n h.offers)
drawn Sell k n used h = tickets k (take used.sells h.sells) (take n h.bids)

-- no price was fixed
abbrev pub unpriced : Engine → Market → TableRows → ℕ → Cause → Left
unpriced e m h time cause = granted (at_stage Matched time (quotes_used m 0 e.used) e) (with_quotes m h) (Unpriced cause)

-- close, with the outcome of its pricing
abbrev pub close : Engine → Market → TableRows → ℕ → Outcome → Left
close e m h time (Err Halted) = granted (ended time e) (rests_cancelled h) (Unpriced Halted)
close e m h time (Err cause) = unpriced e m h time cause
close e m h time (Ok x) =
    granted (at_stage (Satisfaction x.0 (time + ticket_time)) time (quotes_used m (length (tickets_at e m h x.0)) e.used) e)
    (with_routed e m (with_quotes m h) x.0)
    (Priced x.0 x.1 (length (tickets_at e m h x.0)))

-- report: the ticket is marked, and settled on its order: what is not filled rests again, or is late once matched
abbrev pub reported : Ticket → Ticket
reported t = record t { reported = true }

abbrev pub with_reported : ℕ → Ticket → TableRows → TableRows
with_reported ticket t h = record h { tickets = slice_set h.tickets (ticket - 1) (reported t) }

abbrev pub report : Engine → TableRows → ℕ → ℕ → Bool → Left
report e h ticket filled late =
    granted e
    (with_reported ticket (ticket_at e h ticket) (with_order (with_settled (ticket_at e h ticket).shares filled late) (ticket_at e h ticket).order e h))
    Done

-- match: the smaller of both sides' executable shares, moved from rest to here in rank order
abbrev pub to_execute : TableRows → ℕ → ℕ
to_execute h price = min (at_or_above price (rest_levels h.buys)) (at_or_below price (rest_levels h.sells))

abbrev pub executed_at : ℕ → ℕ → Engine → Engine
executed_at price time e = record (at_stage Matched time e.used e) { fixed = Some price }

-- the price that was fixed is kept until the next begin
abbrev pub matched : Engine → TableRows → ℕ → ℕ → ℕ → Left
matched e h time price shares =
    granted (executed_at price time e)
    (with_sides (handed with_here shares h.buys) (handed with_here shares h.sells) h)
    (Executed shares)

-- what a granted call leaves; a close by the outcome of its pricing
abbrev pub done : Engine → Market → TableRows → Asked → Outcome → Left
done e m h (Begin time order facts) x = begin e h time order facts
done e m h (Enter order) x = enter e h order
done e m h (Cancel number) x = cancel e h number
done e m h (Close time last) x = close e m h time x
done e m h (Report ticket filled) x = report e h ticket filled (is_matched e.stage)
done e m h (Match time) x = matched e h time (price_of e.stage) (to_execute h (price_of e.stage))
done e m h (Finish time) x = granted (ended time e) h Done
done e m h (Abort time) x = granted (ended time e) (rests_cancelled h) (Cancelled (all_rests h))
