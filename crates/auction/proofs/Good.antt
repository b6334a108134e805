-- What the calls keep between the engine, its tables and the tally.
use Rattle.std.proofs.Common.{◌≡◌, ℕ, ◌+◌, ◌≤◌, Bool, true, false, eqb, List, [], ◌∷◌, length, sum_by, None}
use Rattle.std.specs.List.{AllByRecursion}
use Rattle.ranking.specs.Ranked.{ranked, Sorted}
use Rattle.market.specs.declared.quote.Quote.{Quote}
use Rattle.market.specs.declared.side.Side.{Side}
use Rattle.market.specs.declared.side.Side.TheVariants.{Buy, Sell}
use Rattle.market.specs.Limits.{most_shares}
use Rattle.market.specs.Markets.{no_quote}
use Rattle.market.specs.Prices.{Permitted}
use Rattle.market.specs.Rankings.{higher, lower, quote_ahead}
use Rattle.orders.specs.declared.row.OrderRow.{OrderRow}
use Rattle.orders.specs.Rows.{empty_row, is_whole}
use Rattle.routing.specs.declared.ticket.Ticket.{Ticket}
use Rattle.routing.specs.Tickets.{empty_ticket}
use Rattle.engine.specs.declared.stage.Stage.{Stage}
use Rattle.engine.specs.declared.stage.Stage.TheVariants.{Open}
use Rattle.engine.specs.declared.state.Engine.{Engine}
use Rattle.engine.specs.declared.state.Used.{Used}
use Rattle.engine.specs.Limits.{order_rows, quote_rows, ticket_rows}
use Rattle.engine.specs.Stages.{is_acceptance}
use Rattle.engine.specs.States.{TableRows, none_used}
use Rattle.engine.specs.Effects.{ahead_on}
use Rattle.auction.specs.Tallies.{Tally, first_tally}
use Rattle.auction.specs.Laws.{then_empty, OutOnTickets}

-- no two orders have one number
abbrev pub Numbers : List OrderRow → Type 0
Numbers [] = Unit {0}
Numbers (w ∷ ws) = AllByRecursion (λ v. eqb v.number w.number ≡ false) ws × Numbers ws

-- no order has a number
abbrev pub Free : ℕ → List OrderRow → Type 0
Free n ws = AllByRecursion (λ w. eqb w.number n ≡ false) ws

-- the number, the class and the shares of an order as entered
pub record Sized (w : OrderRow) : Type 0 where
  pub number : 1 ≤ w.number
  pub class : w.class ≤ 2
  pub least : 1 ≤ w.shares
  pub most : w.shares ≤ most_shares

-- the rows of a side are the tally's orders in rank order, then empty rows
pub record SideGood (side : Side) (used : ℕ) (rows : List OrderRow) (ws : List OrderRow) : Type 0 where
  pub used_is : used ≡ length ws
  pub within : length ws ≤ order_rows
  pub rows_is : rows ≡ then_empty order_rows empty_row (ranked (ahead_on side) ws)
  pub whole : AllByRecursion (λ w. is_whole w ≡ true) ws
  pub priced : AllByRecursion (λ w. Permitted w.price) ws
  pub sized : AllByRecursion Sized ws
  pub numbered : Numbers ws

-- another table: how many of its rows are in use, what they hold, and what the tally has of it
pub record Beside (X : Type 0) : Type 0 where
  pub used : ℕ
  pub rows : List X
  pub has : List X

-- the rows of another table, n in all, are what the tally has of it, as it stands there, then empty
-- rows
pub record TableGood {X : Type 0} (n : ℕ) (empty : X) (t : Beside X) : Type 0 where
  pub used_is : t.used ≡ length t.has
  pub rows_are : t.rows ≡ then_empty n empty t.has

-- the tables beside those of the orders: one more is one more field here, in other_tables and in
-- OthersGood
pub record OtherTables : Type 0 where
  pub bids : Beside Quote
  pub offers : Beside Quote
  pub tickets : Beside Ticket

abbrev pub other_tables : Used → TableRows → Tally → OtherTables
other_tables used h y = record {
  bids = record { used = used.bids; rows = h.bids; has = y.bids };
  offers = record { used = used.offers; rows = h.offers; has = y.offers };
  tickets = record { used = used.tickets; rows = h.tickets; has = y.tickets };
}

pub record OthersGood (t : OtherTables) : Type 0 where
  pub bids : TableGood quote_rows no_quote t.bids
  pub offers : TableGood quote_rows no_quote t.offers
  pub tickets : TableGood ticket_rows empty_ticket t.tickets
  pub tickets_few : length t.tickets.has + 1 ≤ order_rows + quote_rows

-- the engine and its tables are the tally's; a call that changes none of the other tables hands on
-- what is known of them
pub record Good (e : Engine) (h : TableRows) (y : Tally) : Type 0 where
  pub stage_is : e.stage ≡ y.stage
  pub fixed_is : e.fixed ≡ y.fixed
  pub buys : SideGood Buy e.used.buys h.buys y.buys
  pub sells : SideGood Sell e.used.sells h.sells y.sells
  pub sides_apart : AllByRecursion (λ b. Free b.number y.sells) y.buys
  pub others : OthersGood (other_tables e.used h y)
  pub even : y.bought ≡ y.sold

-- what is out of each order is on its tickets
pub record Out (y : Tally) : Type 0 where
  pub buys : AllByRecursion (OutOnTickets y.tickets) y.buys
  pub sells : AllByRecursion (OutOnTickets y.tickets) y.sells

-- no quotes and no tickets
pub record Unnoted (bs os : List Quote) (ts : List Ticket) : Type 0 where
  pub bids : bs ≡ []
  pub offers : os ≡ []
  pub tickets : ts ≡ []

-- what a close notes, in the tally alone: a call that notes nothing hands it on
pub record Noted (stage : Stage) (noted : Bool) (bids offers : List Quote) (ts : List Ticket) : Type 0 where
  pub bids_sorted : Sorted (quote_ahead higher) bids
  pub offers_sorted : Sorted (quote_ahead lower) offers
  pub some_shares : AllByRecursion (λ t. 1 ≤ t.shares) ts
  pub accepting : is_acceptance stage ≡ true → noted ≡ false
  pub unquoted : noted ≡ false → Unnoted bids offers ts

-- what holds in the tally alone
pub record Tallied (y : Tally) : Type 0 where
  pub bought : y.bought ≡ sum_by (λ w. w.here) y.buys
  pub sold : y.sold ≡ sum_by (λ w. w.here) y.sells
  pub noted : Noted y.stage y.quotes_noted y.bids y.offers y.tickets

-- what holds once a cycle has begun
pub record Running (e : Engine) (h : TableRows) (y : Tally) : Type 0 where
  pub begun : y.begun ≡ true
  pub good : Good e h y
  pub out : Out y
  pub tallied : Tallied y

-- and before the first granted begin: nothing is known of the tables, and the engine is open
pub record Fresh (e : Engine) (y : Tally) : Type 0 where
  pub open_stage : e.stage ≡ Open
  pub unfixed : e.fixed ≡ None
  pub empty : y ≡ first_tally
  pub none : e.used ≡ none_used

-- one of the two holds after every run
pub record Kept (e : Engine) (h : TableRows) (y : Tally) : Type 0 where
  pub running : y.begun ≡ true → Running e h y
  pub fresh : y.begun ≡ false → Fresh e y
