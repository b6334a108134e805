-- Tickets: the ties of orders and quotes, both in rank order, within the first shares that are routed.
use Rattle.std.specs.Prelude.{◌≡◌, ℕ, min, false, cond, ◌&&◌, ◌==◌, List, map, length, take, drop, slice_index_or, sum_by}
use Rattle.market.specs.declared.quote.Quote.{Quote}
use Rattle.market.specs.Markets.{no_quote}
use Rattle.orders.specs.declared.row.OrderRow.{OrderRow}
use Rattle.orders.specs.Tables.{nth_row}
use Rattle.routing.specs.declared.ticket.Ticket.{Ticket}
use Rattle.routing.specs.Shares.{Tie, ties}

abbrev pub empty_ticket : Ticket
empty_ticket = record { order = 0; venue = 0; price = 0; shares = 0; reported = false }

abbrev pub rests : List OrderRow → List ℕ
rests rows = map (λ w. w.rest) rows

abbrev pub sizes : List Quote → List ℕ
sizes quotes = map (λ x. x.shares) quotes

-- the quote at a place, counted from 0; none past the end
abbrev pub nth_quote : List Quote → ℕ → Quote
nth_quote quotes place = slice_index_or quotes place no_quote

-- a ticket for shares of an order to a quote names the order's number, and the quote's venue and price
abbrev pub ticket_for : OrderRow → Quote → ℕ → Ticket
ticket_for w x shares = record empty_ticket { order = w.number; venue = x.venue; price = x.price; shares = shares }

-- the ticket of a tie
abbrev pub ticket_of : List OrderRow → List Quote → Tie → Ticket
ticket_of rows quotes t = ticket_for (nth_row rows t.order) (nth_quote quotes t.quote) t.shares

abbrev pub tickets : ℕ → List OrderRow → List Quote → List Ticket
tickets routed rows quotes = map (ticket_of rows quotes) (ties routed (rests rows) (sizes quotes))

-- the shares on the tickets of an order, and on those that go to a venue at a price
abbrev pub of_number : ℕ → List Ticket → ℕ
of_number number ts = sum_by (λ t. cond (t.order == number) t.shares 0) ts

abbrev pub to_venue : ℕ → ℕ → List Ticket → ℕ
to_venue venue price ts = sum_by (λ t. cond (t.venue == venue && t.price == price) t.shares 0) ts

-- a table that begins with the tickets, and past them is as it was
pub record Ticketed (routed : ℕ) (rows : List OrderRow) (quotes : List Quote)
    (before : List Ticket) (count : ℕ) (after : List Ticket) : Type 0 where
  pub count_is : count ≡ length (tickets routed rows quotes)
  pub written : take count after ≡ tickets routed rows quotes
  pub kept : drop count after ≡ drop count before

-- the same of a table of any length: it begins with as many of the tickets as it has places for
pub record TicketedIn (routed : ℕ) (rows : List OrderRow) (quotes : List Quote)
    (before : List Ticket) (count : ℕ) (after : List Ticket) : Type 0 where
  pub count_is : count ≡ min (length (tickets routed rows quotes)) (length before)
  pub written : take count after ≡ take count (tickets routed rows quotes)
  pub kept : drop count after ≡ drop count before
