-- What the calls that the engine's benchmark measures leave and answer.
use Rattle.std.specs.Prelude.{◌≡◌, ℕ, ◌+◌, true, false, cond, List, [], ◌∷◌, length, is_ok, Some, Result, nat_lt}
use Rattle.std.specs.List.{slice_get}
use Rattle.market.specs.declared.quote.Quote.{Quote}
use Rattle.market.specs.declared.refusal.Refusal.{Refusal}
use Rattle.market.specs.Markets.{Market}
use Rattle.market.specs.Venues.{set_answer, after_set}
use Rattle.orders.specs.declared.order.Order.{Order}
use Rattle.orders.specs.declared.row.OrderRow.{OrderRow}
use Rattle.routing.specs.declared.ticket.Ticket.{Ticket}
use Rattle.engine.specs.declared.answer.Answer.{Answer}
use Rattle.engine.specs.declared.answer.Numbers.{Numbers}
use Rattle.engine.specs.declared.call.Call.{Call}
use Rattle.engine.specs.declared.call.Call.TheVariants.{Begin, Enter}
use Rattle.engine.specs.declared.stage.Issue.TheVariants.{Ordinary}
use Rattle.engine.specs.declared.state.Engine.{Engine}
use Rattle.engine.specs.Answers.{numbers_of}
use Rattle.engine.specs.Asked.{asked}
use Rattle.engine.specs.Effects.{Left}
use Rattle.engine.specs.States.{TableRows, made}
use Rattle.engine.specs.Steps.{Called}
use Rattle.benches.specs.declared.calls.Closed.{Closed}

-- the five tables as they were lent
abbrev pub lent : List OrderRow → List OrderRow → List Quote → List Quote → List Ticket → TableRows
lent buys sells bids offers tickets = record { buys = buys; sells = sells; bids = bids; offers = offers; tickets = tickets }

-- a refusal's number, 0 for none
abbrev pub number_of : Result Answer Refusal → ℕ
number_of answer' = (numbers_of answer').refusal

abbrev closed : Numbers → Closed
closed n = record { refusal = n.refusal; cause = n.close.cause; price = n.close.price; count = n.close.count; tickets = n.close.tickets }

abbrev pub closed_by : Result Answer Refusal → Closed
closed_by answer' = closed (numbers_of answer')

-- a market after each quote of a list was set on a side, 1 for bids and 2 for offers
abbrev pub quoted_on : ℕ → List Quote → Market → Market
quoted_on side [] m = m
quoted_on side (q ∷ qs) m =
    quoted_on side qs (after_set (is_ok (set_answer q.venue side q.price q.shares)) q.venue side q.price q.shares m)

-- the market of two lists of quotes
abbrev pub quoted_market : List Quote → List Quote → Market
quoted_market bids offers = quoted_on 2 offers (quoted_on 1 bids (record { bids = []; offers = []; halted = false }))

-- the call that brings the order at a place in: the first begins a cycle
abbrev pub call_with : ℕ → Order → Call
call_with place s = cond (nat_lt 0 place) (Enter s)
    (Begin 40000000 s (record { short_sale = false; first_quote = Some 0; routing = true; acceptance = 500 }))

-- an engine just made for an ordinary issue, and the rows that it was lent, after the first of these orders came in on a market
pub data Brought (m : Market) (h : TableRows) (orders : List Order) : ℕ → Engine → TableRows → Type 0 where
  none : Brought m h orders 0 (made Ordinary) h
  more : {n : ℕ} {e : Engine} {rows : TableRows} (s : Order) (left : Left) → slice_get orders n ≡ Some s → Brought m h orders n e rows
      → Called e m rows (asked (call_with n s)) left → Brought m h orders (n + 1) left.engine left.held

-- what a call answers and leaves in the tables, after all these orders came in
pub record Taken (m : Market) (before : TableRows) (orders : List Order) (call : Call) (after : TableRows) (answer : Result Answer Refusal) : Type 0 where
  pub engine : Engine
  pub engine' : Engine
  pub rows : TableRows
  pub brought : Brought m before orders (length orders) engine rows
  pub called : Called engine m rows (asked call) (record { engine = engine'; held = after; answer = answer })

-- the same with the answer in numbers
pub record Entered (m : Market) (before : TableRows) (orders : List Order) (call : Call) (after : TableRows) (number : ℕ) : Type 0 where
  pub answer : Result Answer Refusal
  pub taken : Taken m before orders call after answer
  pub is : number ≡ number_of answer

pub record ClosedSo (m : Market) (before : TableRows) (orders : List Order) (call : Call) (after : TableRows) (numbers : Closed) : Type 0 where
  pub answer : Result Answer Refusal
  pub taken : Taken m before orders call after answer
  pub is : numbers ≡ closed_by answer
