-- The worked books, each with the outcome that the rules give it, and the tickets of their closes.
use Rattle.std.specs.Prelude.{◌≡◌, ℕ, false, List, [], ◌∷◌, map, Some, None, Ok, Err, Option, slice_index_or}
use Rattle.std.specs.List.{AllByRecursion}
use Rattle.market.specs.declared.quote.Quote.{Quote}
use Rattle.pricing.specs.declared.level.Level.{Level}
use Rattle.pricing.specs.declared.cause.Cause.TheVariants.{NothingToTrade, LockedOrCrossed, NoReference}
use Rattle.pricing.specs.Books.{Book}
use Rattle.pricing.specs.Outcomes.{Outcome, IsOutcome}
use Rattle.orders.specs.declared.row.OrderRow.{OrderRow}
use Rattle.orders.specs.Rows.{entered_row}
use Rattle.routing.specs.declared.ticket.Ticket.{Ticket}
use Rattle.routing.specs.Closes.{close_tickets}
use Rattle.worked_books.specs.declared.books.Worked.{Worked}

-- shares at a price
abbrev at : ℕ → ℕ → Option Level
at shares price = Some (record { price = price; shares = shares })

abbrev orders : Option Level → List Level
orders None = []
orders (Some l) = l ∷ []

abbrev quotes : Option Level → List Quote
quotes None = []
quotes (Some l) = record { price = l.price; shares = l.shares; venue = 1 } ∷ []

-- the book of a row
abbrev pub worked_book : Worked → Book
worked_book w = record { buys = orders w.buy; sells = orders w.sell; bids = quotes w.bid; offers = quotes w.offer }

-- the rows of the orders of a side, which count as the side does: a buy is order 1, a sell order 2
abbrev rows : ℕ → List Level → List OrderRow
rows side ls = map (λ l. entered_row (record { number = side; side = side; class = 0; price = l.price; shares = l.shares })) ls

-- the tickets of a close, where it fixes a price
abbrev pub routed : Book → Outcome → List Ticket
routed b (Ok x) = close_tickets b x.0 (rows 1 b.buys) (rows 2 b.sells) b.bids b.offers
routed b (Err cause) = []

pub record Example : Type 0 where
  pub book : Worked
  pub outcome : Outcome
  pub sent : List Ticket

-- a price and its count
abbrev snap : ℕ → ℕ → Outcome
snap price count = Ok ((price, count))

-- no ticket, and a ticket for shares of the buy that are sent to venue 1 at a price
abbrev none : List Ticket
none = []

abbrev ticket : ℕ → ℕ → List Ticket
ticket shares price = record { order = 1; venue = 1; price = price; shares = shares; reported = false } ∷ []

abbrev row : Option Level → Option Level → Option Level → Option Level → ℕ → Outcome → List Ticket → Example
row buy sell bid offer last outcome sent =
    record { book = record { buy = buy; sell = sell; bid = bid; offer = offer; last_sale = last }; outcome = outcome; sent = sent }

-- buys, sells, bids, offers, last sale, outcome, tickets
abbrev pub books : List Example
books =
    row (at 100 200200) (at 100 200000) None None 200100 (snap 200100 100) none
    ∷ row (at 100 200200) (at 100 200000) None None 200050 (snap 200000 100) none
    ∷ row (at 100 200200) (at 100 200000) None None 300000 (snap 200200 100) none
    ∷ row (at 100 200200) (at 100 200000) (at 100 199800) (at 100 200400) 0 (snap 200100 100) none
    ∷ row (at 100 200200) (at 100 200000) None None 0 (Err NoReference) none
    ∷ row (at 100 20000) (at 100 19998) None None 19999 (snap 19999 100) none
    ∷ row (at 100 199800) (at 100 200000) None None 200000 (Err NothingToTrade) none
    ∷ row (at 100 200200) None None (at 500 200000) 0 (snap 200000 100) (ticket 100 200000)
    ∷ row (at 300 200400) (at 100 200400) (at 100 199600) (at 150 200000) 0 (snap 200400 250) (ticket 150 200000)
    ∷ row (at 100 200200) (at 50 200000) None None 200000 (snap 200200 50) none
    ∷ row (at 100 200200) (at 100 200000) (at 100 200000) (at 100 200000) 0 (Err LockedOrCrossed) none
    ∷ []

abbrev pub worked : List Worked
worked = map (λ e. e.book) books

-- a close on each book has the outcome of its row
abbrev pub BooksClose : Type 0
BooksClose = AllByRecursion (λ e. IsOutcome false (worked_book e.book) e.book.last_sale e.outcome) books

-- a close on each book has the tickets of its row
abbrev pub BooksRoute : Type 0
BooksRoute = AllByRecursion (λ e. routed (worked_book e.book) e.outcome ≡ e.sent) books

-- the ticket of a book, where it has one
abbrev ticket_listed : Option Ticket → List Ticket
ticket_listed None = []
ticket_listed (Some t) = t ∷ []

abbrev pub SentAt : ℕ → Option Ticket → Type 0
SentAt place t = ticket_listed t ≡ slice_index_or (map (λ e. e.sent) books) place []
