-- The tickets of a close: those of the side that owes at its price, the buys to offers or the sells to bids.
use Rattle.std.specs.Prelude.{ℕ, cond, List, nat_lt}
use Rattle.market.specs.declared.quote.Quote.{Quote}
use Rattle.market.specs.declared.side.Side.TheVariants.{Buy, Sell}
use Rattle.pricing.specs.Books.{Book}
use Rattle.orders.specs.declared.row.OrderRow.{OrderRow}
use Rattle.routing.specs.declared.ticket.Ticket.{Ticket}
use Rattle.routing.specs.Owed.{owed}
use Rattle.routing.specs.Tickets.{tickets}

-- of the rows of both sides and the quotes of both, each in rank order; on a market that is neither locked nor
-- crossed only one side can owe
abbrev pub close_tickets : Book → ℕ → (buys sells : List OrderRow) (bids offers : List Quote) → List Ticket
close_tickets b price buys sells bids offers =
    cond (nat_lt 0 (owed Buy b price))
    (tickets (owed Buy b price) buys offers)
    (tickets (owed Sell b price) sells bids)
