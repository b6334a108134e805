-- A just made engine, and what the tables that it is lent hold.
use Rattle.std.specs.Prelude.{◌≡◌, Bool, ◌&&◌, List, length, take, None, ◌==◌}
use Rattle.market.specs.declared.quote.Quote.{Quote}
use Rattle.orders.specs.declared.row.OrderRow.{OrderRow}
use Rattle.routing.specs.declared.ticket.Ticket.{Ticket}
use Rattle.engine.specs.Limits.{order_rows, quote_rows, ticket_rows}
use Rattle.engine.specs.declared.stage.Issue.{Issue}
use Rattle.engine.specs.declared.stage.Stage.TheVariants.{Open}
use Rattle.engine.specs.declared.state.Engine.{Engine}
use Rattle.engine.specs.declared.state.Used.{Used}
use Rattle.engine.specs.declared.tables.Tables.{Tables}

-- no row is in use
abbrev pub none_used : Used
none_used = record { buys = 0; sells = 0; bids = 0; offers = 0; tickets = 0 }

abbrev pub made : Issue → Engine
made issue = record {
  issue = issue;
  stage = Open;
  last_time = None;
  last_end = None;
  used = none_used;
  fixed = None;
}

-- an engine that no cycle has begun on: it is open, and no row is in use
pub record IsFresh (e : Engine) : Type 0 where
  pub stage : e.stage ≡ Open
  pub used : e.used ≡ none_used

-- the rows of all five tables
pub record TableRows : Type 0 where
  pub buys : List OrderRow
  pub sells : List OrderRow
  pub bids : List Quote
  pub offers : List Quote
  pub tickets : List Ticket

abbrev pub table_rows : Tables → TableRows
table_rows t = record { buys = t.buys.now; sells = t.sells.now; bids = t.bids.now; offers = t.offers.now; tickets = t.tickets.now }

-- the references are those that were lent, so that the lender knows what its memory holds afterwards
pub record SameTables (t t' : Tables) : Type 0 where
  pub buys : t'.buys.ghost_name ≡ t.buys.ghost_name
  pub sells : t'.sells.ghost_name ≡ t.sells.ghost_name
  pub bids : t'.bids.ghost_name ≡ t.bids.ghost_name
  pub offers : t'.offers.ghost_name ≡ t.offers.ghost_name
  pub tickets : t'.tickets.ghost_name ≡ t.tickets.ghost_name

-- tables of the same sizes
pub record SameSizes (h h' : TableRows) : Type 0 where
  pub buys : length h.buys ≡ length h'.buys
  pub sells : length h.sells ≡ length h'.sells
  pub bids : length h.bids ≡ length h'.bids
  pub offers : length h.offers ≡ length h'.offers
  pub tickets : length h.tickets ≡ length h'.tickets

-- the sizes that the engine works on: as many rows as a side has orders at most, as it has quotes at most, and tickets
pub record IsSized (h : TableRows) : Type 0 where
  pub buys : length h.buys ≡ order_rows
  pub sells : length h.sells ≡ order_rows
  pub bids : length h.bids ≡ quote_rows
  pub offers : length h.offers ≡ quote_rows
  pub tickets : length h.tickets ≡ ticket_rows

abbrev pub sizes_fit : TableRows → Bool
sizes_fit h =
    (length h.buys == order_rows && length h.sells == order_rows)
    && ((length h.bids == quote_rows && length h.offers == quote_rows) && length h.tickets == ticket_rows)

-- the rows in use
abbrev pub buys_in : Engine → TableRows → List OrderRow
buys_in e h = take e.used.buys h.buys

abbrev pub sells_in : Engine → TableRows → List OrderRow
sells_in e h = take e.used.sells h.sells

abbrev pub tickets_in : Engine → TableRows → List Ticket
tickets_in e h = take e.used.tickets h.tickets
