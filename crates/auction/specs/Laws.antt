-- What holds after every call of every run, in terms of the tally before and after it.
use Rattle.std.specs.Prelude.{◌≡◌, ℕ, ◌+◌, ◌-◌, ◌<◌, ◌≤◌, min, Bool, true, false, cond, not, ◌&&◌, ◌⊎◌, List, [], ◌∷◌, ◌++◌, map, filter, length, get_or, take, replicate, Some, None, Ok, Err, sum_by, Option, Result, ◌==◌, nat_lt, slice_index_or, slice_set}
use Rattle.std.specs.List.{AllByRecursion, Any, list_any, list_all}
use Rattle.std.specs.List.Sorted.{IsPermutation}
use Rattle.ranking.specs.Ranked.{ranked, Sorted}
use Rattle.market.specs.declared.quote.Quote.{Quote}
use Rattle.market.specs.declared.refusal.Refusal.{Refusal}
use Rattle.market.specs.declared.side.Side.{Side}
use Rattle.market.specs.declared.side.Side.TheVariants.{Buy, Sell}
use Rattle.market.specs.Limits.{most_shares}
use Rattle.market.specs.Markets.{Market, no_quote}
use Rattle.market.specs.Prices.{Permitted}
use Rattle.market.specs.Rankings.{higher, lower, quote_ahead}
use Rattle.pricing.specs.declared.cause.Cause.{Cause}
use Rattle.pricing.specs.declared.cause.Cause.TheVariants.{NothingToTrade, Halted}
use Rattle.pricing.specs.Books.{count_at, executable_at}
use Rattle.pricing.specs.Counting.{counting_market}
use Rattle.pricing.specs.Outcomes.{Outcome, IsOutcome, Best, Orderly}
use Rattle.orders.specs.declared.order.Order.{Order}
use Rattle.orders.specs.declared.row.OrderRow.{OrderRow}
use Rattle.orders.specs.Rows.{empty_row, entered_row}
use Rattle.orders.specs.Tables.{rest_levels}
use Rattle.routing.specs.declared.ticket.Ticket.{Ticket}
use Rattle.routing.specs.Tickets.{empty_ticket, to_venue}
use Rattle.engine.specs.declared.answer.Answer.{Answer}
use Rattle.engine.specs.declared.answer.Answer.TheVariants.{Done, Cancelled, Priced, Unpriced, Executed}
use Rattle.engine.specs.Asked.{Asked, Begin, Enter, Cancel, Close, Report, Match, Finish, Abort}
use Rattle.engine.specs.declared.state.Engine.{Engine}
use Rattle.engine.specs.Limits.{order_rows, quote_rows, ticket_rows, ticket_time}
use Rattle.engine.specs.declared.stage.Stage.{Stage}
use Rattle.engine.specs.declared.stage.Stage.TheVariants.{Open, Acceptance, Satisfaction, Matched}
use Rattle.engine.specs.Stages.{is_matched}
use Rattle.engine.specs.States.{TableRows, none_used, buys_in, sells_in, tickets_in}
use Rattle.engine.specs.Effects.{ahead_on}
use Rattle.auction.specs.Tallies.{Tally, first_tally, on_number, book_by}

-- a close answers the price or the cause that the rules give for the tally's orders and the
-- source's quotes
pub record BestPrice (y : Tally) (m : Market) (last : ℕ) (x : Outcome) : Type 0 where
  pub defined : IsOutcome m.halted (book_by y m) last x
  -- no price counts more than the one answered; where the answer is that there is nothing to trade,
  -- every price counts zero
  pub best : Best (book_by y m) x
  -- and on an orderly market that is the answer wherever every price counts zero
  pub nothing
      : Orderly m.halted (book_by y m) → ((q : ℕ) → count_at (book_by y m) q ≡ 0)
      → x ≡ Err NothingToTrade

-- where a count of an order rises, no order ahead of it on its side is left with rest
abbrev pub InRank : Side → (OrderRow → ℕ) → List OrderRow → List OrderRow → Type 0
InRank side count before after =
    (i j : ℕ) → i < length before → j < length before
    → ahead_on side (slice_index_or before j empty_row) (slice_index_or before i empty_row) ≡ true
    → count (slice_index_or before i empty_row) < count (slice_index_or after i empty_row)
    → (get_or after j empty_row).rest ≡ 0

pub record RankOrder (count : OrderRow → ℕ) (before after : Tally) : Type 0 where
  pub buys : InRank Buy count before.buys after.buys
  pub sells : InRank Sell count before.sells after.sells

-- a buy reaches a price that is at its limit or lower, a sell one that is at its limit or higher
abbrev pub at_limit : Side → ℕ → OrderRow → Type 0
at_limit Buy price w = price ≤ w.price
at_limit Sell price w = w.price ≤ price

-- where a count of an order rises, the order reaches the price
abbrev pub WithinLimits : Side → ℕ → (OrderRow → ℕ) → List OrderRow → List OrderRow → Type 0
WithinLimits side price count before after =
    (i : ℕ) → i < length before
    → count (slice_index_or before i empty_row) < count (slice_index_or after i empty_row)
    → at_limit side price (slice_index_or before i empty_row)

pub record AtLimits (price : ℕ) (count : OrderRow → ℕ) (before after : Tally) : Type 0 where
  pub buys : WithinLimits Buy price count before.buys after.buys
  pub sells : WithinLimits Sell price count before.sells after.sells

-- where a ticket names an order, no order ahead of it on its side is left with rest
abbrev pub TicketedInRank : Side → List Ticket → List OrderRow → List OrderRow → Type 0
TicketedInRank side ts before after =
    (k i j : ℕ) → k < length ts → i < length before → j < length before
    → (slice_index_or ts k empty_ticket).order ≡ (slice_index_or before i empty_row).number
    → ahead_on side (slice_index_or before j empty_row) (slice_index_or before i empty_row) ≡ true
    → (slice_index_or after j empty_row).rest ≡ 0

pub record TicketOrder (before after : Tally) : Type 0 where
  pub buys : TicketedInRank Buy after.tickets before.buys after.buys
  pub sells : TicketedInRank Sell after.tickets before.sells after.sells

-- a price is at another or better, for those who buy there and for those who sell there
abbrev pub at_or_better : Side → ℕ → ℕ → Type 0
at_or_better Buy price p = p ≤ price
at_or_better Sell price p = price ≤ p

-- a ticket sends an order of a side to a quote of the other, at the price or better
pub record Sends (side : Side) (price : ℕ) (ws : List OrderRow) (xs : List Quote) (t : Ticket)
    : Type 0 where
  pub order : list_any (λ w. w.number == t.order) ws ≡ true
  pub quote : list_any (λ x. x.venue == t.venue && x.price == t.price) xs ≡ true
  pub good : at_or_better side price t.price

-- the shares that a venue quotes at a price
abbrev pub quoted_at : ℕ → ℕ → List Quote → ℕ
quoted_at venue price xs = sum_by (λ x. cond (x.venue == venue && x.price == price) x.shares 0) xs

-- of the quotes that a side takes, which goes first: buys take offers, sells take bids
abbrev pub quote_first : Side → Quote → Quote → Bool
quote_first Buy = quote_ahead lower
quote_first Sell = quote_ahead higher

-- where a ticket goes to a quote, each quote ahead of that one is ticketed whole
abbrev pub QuotesInRank : Side → List Quote → List Ticket → Type 0
QuotesInRank side xs ts =
    (k i j : ℕ) → k < length ts → i < length xs → j < length xs
    → (slice_index_or ts k empty_ticket).venue ≡ (slice_index_or xs i no_quote).venue
    → (slice_index_or ts k empty_ticket).price ≡ (slice_index_or xs i no_quote).price
    → quote_first side (slice_index_or xs j no_quote) (slice_index_or xs i no_quote) ≡ true
    → to_venue (slice_index_or xs j no_quote).venue (slice_index_or xs j no_quote).price ts
    ≡ quoted_at (slice_index_or xs j no_quote).venue (slice_index_or xs j no_quote).price xs

-- the tickets of a side: each sends one of its orders to a quote at the price or better, and the
-- quotes are taken in rank order
pub record SideSends
    (side : Side) (price : ℕ) (ws : List OrderRow) (xs : List Quote) (ts : List Ticket)
    : Type 0 where
  pub each : AllByRecursion (Sends side price ws xs) ts
  pub ranked_quotes : QuotesInRank side xs ts

-- the shares that each side can execute at a price
abbrev pub buys_at : ℕ → Tally → ℕ
buys_at price y = executable_at Buy price (rest_levels y.buys)

abbrev pub sells_at : ℕ → Tally → ℕ
sells_at price y = executable_at Sell price (rest_levels y.sells)

-- where a ticket is at the price itself, its side can still execute at least as much there as the
-- other side: only what it has beyond the other side goes out at the price
abbrev pub GoesBeyond : Side → ℕ → Tally → Type 0
GoesBeyond Buy price y' =
    Any (λ t. t.price ≡ price) y'.tickets → sells_at price y' ≤ buys_at price y'
GoesBeyond Sell price y' =
    Any (λ t. t.price ≡ price) y'.tickets → buys_at price y' ≤ sells_at price y'

-- all tickets are of one side: the buys', which go to offers that count, or the sells', which go to
-- bids that count
abbrev pub OneSideSends : ℕ → Tally → Market → Tally → Type 0
OneSideSends price y m y' =
    let m' = counting_market m in
    (SideSends Buy price y.buys m'.offers y'.tickets × GoesBeyond Buy price y')
    ⊎ (SideSends Sell price y.sells m'.bids y'.tickets × GoesBeyond Sell price y')

-- all that a venue quotes at a price in a list is ticketed
abbrev pub AllTicketed : List Quote → List Ticket → Quote → Type 0
AllTicketed xs ts x = to_venue x.venue x.price ts ≡ quoted_at x.venue x.price xs

-- every quote that is better than the price is ticketed whole
pub record TicketedWhole (price : ℕ) (m : Market) (ts : List Ticket) : Type 0 where
  pub offers
      : AllByRecursion (λ x. nat_lt x.price price ≡ true → AllTicketed m.offers ts x) m.offers
  pub bids : AllByRecursion (λ x. nat_lt price x.price ≡ true → AllTicketed m.bids ts x) m.bids

-- the shares of an order's tickets that are not yet reported
abbrev pub out_on : ℕ → List Ticket → ℕ
out_on number ts = sum_by (λ t. cond (t.order == number && not t.reported) t.shares 0) ts

-- a reported ticket's shares are out no more: some were filled away, the others rest again, or are
-- late
abbrev pub settled_row : ℕ → ℕ → Bool → OrderRow → OrderRow
settled_row shares filled late w = record w {
  rest = w.rest + cond late 0 (shares - filled);
  away = w.away + filled;
  out = w.out - shares;
  late = w.late + cond late (shares - filled) 0;
}

-- so with the order of the ticket, and no other order changes
pub record TicketSettled (t : Ticket) (filled : ℕ) (y y' : Tally) : Type 0 where
  pub buys
      : y'.buys ≡ on_number t.order (settled_row t.shares filled (is_matched y.stage)) y.buys
  pub sells
      : y'.sells ≡ on_number t.order (settled_row t.shares filled (is_matched y.stage)) y.sells

-- one side is left without executable shares at a price
abbrev pub Exhausted : ℕ → Tally → Type 0
Exhausted price y = (buys_at price y ≡ 0) ⊎ (sells_at price y ≡ 0)

-- a ticket with this number, counted from 1, is not reported, and each one before it is
pub record FirstOpen (ts : List Ticket) (n : ℕ) : Type 0 where
  pub least : 1 ≤ n
  pub most : n ≤ length ts
  pub unreported : (slice_index_or ts (n - 1) empty_ticket).reported ≡ false
  pub before : (i : ℕ) → i + 1 < n → (slice_index_or ts i empty_ticket).reported ≡ true

-- a number that is answered is that of the first ticket that is not reported; where none is
-- answered, all are
abbrev pub OpenBy : Tally → Option ℕ → Type 0
OpenBy y None = list_all (λ t. t.reported) y.tickets ≡ true
OpenBy y (Some n) = FirstOpen y.tickets n

-- a count of shares over all orders
abbrev pub over_all : (OrderRow → ℕ) → Tally → ℕ
over_all count y = sum_by count y.buys + sum_by count y.sells

-- nothing but the orders changed
abbrev pub OrdersOnly : Tally → Tally → Type 0
OrdersOnly y y' = y' ≡ record y { buys = y'.buys; sells = y'.sells }

-- an order came last on its side, 1 for buys and 2 for sells, with all its shares rest
pub record Adds (order : Order) (y y' : Tally) : Type 0 where
  pub buy : order.side ≡ 1 → (y'.buys ≡ y.buys ++ (entered_row order ∷ [])) × (y'.sells ≡ y.sells)
  pub sell : order.side ≡ 2 → (y'.buys ≡ y.buys) × (y'.sells ≡ y.sells ++ (entered_row order ∷ []))
  pub sided : (order.side ≡ 1) ⊎ (order.side ≡ 2)

-- a begin starts anew, whatever stood before: the start order alone, no price of a match, and no
-- close yet
pub record Begins (closes : ℕ) (order : Order) (y' : Tally) : Type 0 where
  pub stage : y'.stage ≡ Acceptance closes
  pub fixed : y'.fixed ≡ None
  pub alone : Adds order first_tally y'
  pub unquoted : y'.quotes_noted ≡ false
  pub bought : y'.bought ≡ 0
  pub sold : y'.sold ≡ 0

-- an enter adds an order, and nothing else
pub record Enters (order : Order) (y y' : Tally) : Type 0 where
  pub adds : Adds order y y'
  pub only : OrdersOnly y y'

-- the orders with other numbers
abbrev pub others : ℕ → List OrderRow → List OrderRow
others number ws = filter (λ w. not (w.number == number)) ws

-- an order with a number has no rest
abbrev pub NoRestOf : ℕ → List OrderRow → Type 0
NoRestOf number ws = AllByRecursion (λ w. (w.number == number) ≡ true → w.rest ≡ 0) ws

-- each order is as it was, but for its rest and what is cancelled
abbrev pub but_cancelled : OrderRow → OrderRow
but_cancelled w = record w { rest = 0; cancelled = 0 }

abbrev pub ButCancelled : List OrderRow → List OrderRow → Type 0
ButCancelled before after = map but_cancelled after ≡ map but_cancelled before

-- shares left rest, all of them to cancelled
pub record LeavesRest (shares : ℕ) (y y' : Tally) : Type 0 where
  pub rest : over_all (λ w. w.rest) y ≡ over_all (λ w. w.rest) y' + shares
  pub cancelled : over_all (λ w. w.cancelled) y' ≡ over_all (λ w. w.cancelled) y + shares
  pub buys : ButCancelled y.buys y'.buys
  pub sells : ButCancelled y.sells y'.sells

-- a cancel takes the whole rest of the order with a number, which has some, and of no other
pub record Cancels (number shares : ℕ) (y y' : Tally) : Type 0 where
  pub some : 1 ≤ shares
  pub leaves : LeavesRest shares y y'
  pub buys_own : NoRestOf number y'.buys
  pub sells_own : NoRestOf number y'.sells
  pub buys_others : others number y'.buys ≡ others number y.buys
  pub sells_others : others number y'.sells ≡ others number y.sells
  pub only : OrdersOnly y y'

-- an abort, and a close on a halted market, take every rest, and end the cycle; what is out stays
-- out, on its tickets
pub record Ends (shares : ℕ) (y y' : Tally) : Type 0 where
  pub leaves : LeavesRest shares y y'
  pub none : over_all (λ w. w.rest) y' ≡ 0
  pub only : y' ≡ record y { stage = Open; buys = y'.buys; sells = y'.sells }

-- both lists of the source are noted, whole
pub record QuotesNoted (m : Market) (y' : Tally) : Type 0 where
  pub noted : y'.quotes_noted ≡ true
  pub bids : IsPermutation m.bids y'.bids
  pub offers : IsPermutation m.offers y'.offers

-- each order is as it was, but for its rest and what is out
abbrev pub but_out : OrderRow → OrderRow
but_out w = record w { rest = 0; out = 0 }

abbrev pub ButOut : List OrderRow → List OrderRow → Type 0
ButOut before after = map but_out after ≡ map but_out before

-- a close that fixed a price
pub record FixesPrice (y : Tally) (m : Market) (time last price count tickets : ℕ) (y' : Tally)
    : Type 0 where
  pub best : BestPrice y m last (Ok ((price, count)))
  -- the deadline is the time that tickets have later
  pub stage : y'.stage ≡ Satisfaction price (time + ticket_time)
  pub rank : RankOrder (λ w. w.out) y y'
  pub ticket_rank : TicketOrder y y'
  pub limits : AtLimits price (λ w. w.out) y y'
  pub whole : TicketedWhole price (counting_market m) y'.tickets
  pub sends : OneSideSends price y m y'
  -- what is ticketed, and what both sides can then execute with each other, are together the count
  pub counted
      : count ≡ sum_by (λ t. t.shares) y'.tickets + min (buys_at price y') (sells_at price y')
  pub tickets_are : tickets ≡ length y'.tickets
  pub unreported : AllByRecursion (λ t. t.reported ≡ false) y'.tickets
  pub buys : ButOut y.buys y'.buys
  pub sells : ButOut y.sells y'.sells
  pub quotes : QuotesNoted m y'
  pub only : y' ≡ record y {
    stage = y'.stage;
    buys = y'.buys;
    sells = y'.sells;
    bids = y'.bids;
    offers = y'.offers;
    tickets = y'.tickets;
    quotes_noted = true;
  }

-- a close that fixed none, and leaves nothing to match
pub record NoPrice (y : Tally) (m : Market) (last : ℕ) (cause : Cause) (y' : Tally) : Type 0 where
  pub best : BestPrice y m last (Err cause)
  pub only
      : y' ≡ record y { stage = Matched; bids = y'.bids; offers = y'.offers; quotes_noted = true }
  pub no_tickets : y'.tickets ≡ []
  pub quotes : QuotesNoted m y'

-- a close on a halted market ends the cycle before any quote is noted
pub record Halts (y : Tally) (m : Market) (last : ℕ) (y' : Tally) : Type 0 where
  pub best : BestPrice y m last (Err Halted)
  pub ends : Ends (over_all (λ w. w.rest) y) y y'
  pub unquoted : y'.quotes_noted ≡ false

abbrev pub Unprices : Tally → Market → ℕ → Cause → Tally → Type 0
Unprices y m last Halted y' = Halts y m last y'
Unprices y m last cause y' = NoPrice y m last cause y'

-- what a close promises, by what it answered
abbrev pub CloseLaws : Tally → Market → ℕ → ℕ → Answer → Tally → Type 0
CloseLaws y m time last (Priced price count tickets) y' =
    FixesPrice y m time last price count tickets y'
CloseLaws y m time last (Unpriced cause) y' = Unprices y m last cause y'
CloseLaws y m time last answer' y' = ⊥

-- each order is as it was, but for its rest and what is filled here
abbrev pub but_here : OrderRow → OrderRow
but_here w = record w { rest = 0; here = 0 }

abbrev pub ButHere : List OrderRow → List OrderRow → Type 0
ButHere before after = map but_here after ≡ map but_here before

-- a match at a price: the smaller of both sides' executable shares is bought and sold, in rank
-- order, and the price is kept past it
pub record Matches (price shares : ℕ) (y y' : Tally) : Type 0 where
  pub smaller : shares ≡ min (buys_at price y) (sells_at price y)
  pub rank : RankOrder (λ w. w.here) y y'
  pub limits : AtLimits price (λ w. w.here) y y'
  pub bought : y'.bought ≡ y.bought + shares
  pub sold : y'.sold ≡ y.sold + shares
  pub fixed : y'.fixed ≡ Some price
  pub exhausted : Exhausted price y'
  pub buys : ButHere y.buys y'.buys
  pub sells : ButHere y.sells y'.sells
  pub only : y' ≡ record y {
    stage = Matched;
    fixed = y'.fixed;
    buys = y'.buys;
    sells = y'.sells;
    bought = y'.bought;
    sold = y'.sold;
  }

-- it is made in satisfaction only, at the price that the stage keeps
abbrev pub MatchLaws : Stage → Answer → Tally → Tally → Type 0
MatchLaws (Satisfaction price deadline) (Executed shares) y y' = Matches price shares y y'
MatchLaws stage answer' y y' = ⊥

-- the ticket with a number, counted from 1
abbrev pub ticket_by_number : Tally → ℕ → Ticket
ticket_by_number y ticket = slice_index_or y.tickets (ticket - 1) empty_ticket

-- a report closes a ticket that is there and was not reported, with no more filled than it has
pub record Reports (ticket filled : ℕ) (y y' : Tally) : Type 0 where
  pub least : 1 ≤ ticket
  pub most : ticket ≤ length y.tickets
  pub unreported : (ticket_by_number y ticket).reported ≡ false
  pub fills : filled ≤ (ticket_by_number y ticket).shares
  pub settled : TicketSettled (ticket_by_number y ticket) filled y y'
  pub marked
      : y'.tickets
      ≡ slice_set y.tickets (ticket - 1) (record (ticket_by_number y ticket) { reported = true })
  pub only : y' ≡ record y { buys = y'.buys; sells = y'.sells; tickets = y'.tickets }

-- a cancel, and an abort, answer the shares that left rest
abbrev pub CancelLaws : ℕ → Answer → Tally → Tally → Type 0
CancelLaws number (Cancelled shares) y y' = Cancels number shares y y'
CancelLaws number answer' y y' = ⊥

abbrev pub AbortLaws : Answer → Tally → Tally → Type 0
AbortLaws (Cancelled shares) y y' = Ends shares y y'
AbortLaws answer' y y' = ⊥

-- the laws of one call: a refused one leaves the tally, and each kind that is granted answers with
-- its own kind of answer
abbrev pub CallLaws : Tally → Market → Asked → Result Answer Refusal → Tally → Type 0
CallLaws y m call (Err refusal) y' = y' ≡ y
CallLaws y m (Begin time order facts) (Ok answer) y' =
    (answer ≡ Done) × Begins (time + facts.acceptance) order y'
CallLaws y m (Enter order) (Ok answer) y' = (answer ≡ Done) × Enters order y y'
CallLaws y m (Cancel number) (Ok answer) y' = CancelLaws number answer y y'
CallLaws y m (Close time last) (Ok answer) y' = CloseLaws y m time last answer y'
CallLaws y m (Report ticket filled) (Ok answer) y' = (answer ≡ Done) × Reports ticket filled y y'
CallLaws y m (Match time) (Ok answer) y' = MatchLaws y.stage answer y y'
CallLaws y m (Finish time) (Ok answer) y' = (answer ≡ Done) × (y' ≡ record y { stage = Open })
CallLaws y m (Abort time) (Ok answer) y' = AbortLaws answer y y'

-- some rows, then empty ones, n in all
abbrev pub then_empty : {X : Type 0} → ℕ → X → List X → List X
then_empty n empty xs = xs ++ replicate (n - length xs) empty

-- the tables are the tally's, number for number
pub record TablesTally (e : Engine) (h : TableRows) (y : Tally) : Type 0 where
  pub stage : e.stage ≡ y.stage
  pub fixed : e.fixed ≡ y.fixed
  pub buys_used : e.used.buys ≡ length y.buys
  pub sells_used : e.used.sells ≡ length y.sells
  pub bids_used : e.used.bids ≡ length y.bids
  pub offers_used : e.used.offers ≡ length y.offers
  pub tickets_used : e.used.tickets ≡ length y.tickets
  pub buys : h.buys ≡ then_empty order_rows empty_row (ranked (ahead_on Buy) y.buys)
  pub sells : h.sells ≡ then_empty order_rows empty_row (ranked (ahead_on Sell) y.sells)
  pub bids : h.bids ≡ then_empty quote_rows no_quote y.bids
  pub offers : h.offers ≡ then_empty quote_rows no_quote y.offers
  pub tickets : h.tickets ≡ then_empty ticket_rows empty_ticket y.tickets
  -- the rows in use, which are all that a call looks at by number, are just these: no order is
  -- ahead of one before it
  pub buys_sorted : Sorted (ahead_on Buy) (buys_in e h)
  pub sells_sorted : Sorted (ahead_on Sell) (sells_in e h)
  pub buys_listed : IsPermutation y.buys (buys_in e h)
  pub sells_listed : IsPermutation y.sells (sells_in e h)
  pub bids_in_use : take e.used.bids h.bids ≡ y.bids
  pub offers_in_use : take e.used.offers h.offers ≡ y.offers
  pub tickets_in_use : tickets_in e h ≡ y.tickets

-- before the first granted begin there is nothing: no stage but open, no row in use, nothing in the
-- tally
pub record Unbegun (e : Engine) (y : Tally) : Type 0 where
  pub open_stage : e.stage ≡ Open
  pub unfixed : e.fixed ≡ None
  pub none : e.used ≡ none_used
  pub empty : y ≡ first_tally

-- both quote tables are empty, and there is no ticket
pub record NoQuotesYet (h : TableRows) (y : Tally) : Type 0 where
  pub bids : y.bids ≡ []
  pub offers : y.offers ≡ []
  pub tickets : y.tickets ≡ []
  pub bid_rows : h.bids ≡ replicate quote_rows no_quote
  pub offer_rows : h.offers ≡ replicate quote_rows no_quote
  pub ticket_rows_empty : h.tickets ≡ replicate ticket_rows empty_ticket

-- an order has a number and a class, and stands at a permitted price, with one share or more as
-- entered, and no more than an order may have
pub record Fit (w : OrderRow) : Type 0 where
  pub number : 1 ≤ w.number
  pub class : w.class ≤ 2
  pub price : Permitted w.price
  pub least : 1 ≤ w.shares
  pub most : w.shares ≤ most_shares

-- the shares of each order as entered are all accounted for
abbrev pub Whole : OrderRow → Type 0
Whole w = w.shares ≡ w.rest + w.here + w.away + w.out + w.cancelled + w.late

-- what is out of an order is on its tickets that are not yet reported
abbrev pub OutOnTickets : List Ticket → OrderRow → Type 0
OutOnTickets ts w = w.out ≡ out_on w.number ts

-- no order has a number
abbrev pub HasNone : ℕ → List OrderRow → Type 0
HasNone n ws = AllByRecursion (λ w. (w.number == n) ≡ false) ws

-- no two orders have one number
abbrev pub OneEach : List OrderRow → Type 0
OneEach [] = Unit {0}
OneEach (w ∷ ws) = HasNone w.number ws × OneEach ws

-- what holds after each call
pub record Standing (e : Engine) (h : TableRows) (y : Tally) : Type 0 where
  pub tables : y.begun ≡ true → TablesTally e h y
  pub unbegun : y.begun ≡ false → Unbegun e y
  pub buys_whole : AllByRecursion Whole y.buys
  pub sells_whole : AllByRecursion Whole y.sells
  pub buys_fit : AllByRecursion Fit y.buys
  pub sells_fit : AllByRecursion Fit y.sells
  pub buys_out : AllByRecursion (OutOnTickets y.tickets) y.buys
  pub sells_out : AllByRecursion (OutOnTickets y.tickets) y.sells
  -- a number stands once, on one side
  pub buys_numbered : OneEach y.buys
  pub sells_numbered : OneEach y.sells
  pub sides_apart : AllByRecursion (λ w. HasNone w.number y.sells) y.buys
  -- bought is what is filled here of the buys, sold of the sells, and they are even
  pub bought : y.bought ≡ sum_by (λ w. w.here) y.buys
  pub sold : y.sold ≡ sum_by (λ w. w.here) y.sells
  pub even : y.bought ≡ y.sold
  -- from a begin to its close, and past the close of a halted market until the next begin, no
  -- quotes are noted
  pub accepting : (closes : ℕ) → y.stage ≡ Acceptance closes → y.quotes_noted ≡ false
  pub unquoted : y.begun ≡ true → y.quotes_noted ≡ false → NoQuotesYet h y
  pub bids_sorted : Sorted (quote_ahead higher) y.bids
  pub offers_sorted : Sorted (quote_ahead lower) y.offers
  -- fewer tickets than the rows of a side table and a quote table together, none for no shares
  pub few : length y.tickets + 1 ≤ order_rows + quote_rows
  pub some_shares : AllByRecursion (λ t. 1 ≤ t.shares) y.tickets
