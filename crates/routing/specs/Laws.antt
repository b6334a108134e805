-- What holds of shares that are handed out in rank order, and of ties.
use Rattle.std.specs.Prelude.{◌≡◌, ℕ, ◌+◌, ◌-◌, ◌<◌, ◌≤◌, min, Bool, false, List, ◌∷◌, ◌++◌, map, length, nat_lt, sum, sum_by, slice_index, slice_index_or}
use Rattle.std.specs.List.{AllByRecursion}
use Rattle.market.specs.declared.side.Side.{Side}
use Rattle.market.specs.declared.side.Side.TheVariants.{Buy, Sell}
use Rattle.pricing.specs.Books.{Book, levels, above, below, at_or_above, at_or_below, count_at}
use Rattle.pricing.specs.Candidates.{Clears}
use Rattle.pricing.specs.Outcomes.{touching, best_on}
use Rattle.ranking.specs.Ranked.{Sorted, Distinct}
use Rattle.market.specs.declared.quote.Quote.{Quote}
use Rattle.orders.specs.declared.row.OrderRow.{OrderRow}
use Rattle.orders.specs.Tables.{nth_row, available, if_whole, handed}
use Rattle.routing.specs.declared.ticket.Ticket.{Ticket}
use Rattle.routing.specs.Shares.{Tie, shares_before, share, given, ties, of_order, of_quote, order_left, quote_left, room}
use Rattle.routing.specs.Owed.{quoted_better, reach, executable_orders, owed}
use Rattle.routing.specs.Closes.{close_tickets}
use Rattle.routing.specs.Allotment.{ahead_of, allotted}
use Rattle.routing.specs.Tickets.{empty_ticket, nth_quote, rests, sizes, tickets, of_number, to_venue}

-- of k shares as many are handed out as there are, at most k
abbrev pub HandedOut : Type 0
HandedOut = (k : ℕ) (rs : List ℕ) → sum (given k 0 rs) ≡ min k (sum rs)

-- an order gets shares only if each one ahead of it gets its whole rest
abbrev pub AheadFirst : Type 0
AheadFirst = (k : ℕ) (rs : List ℕ) (i j : ℕ) → i < j → j < length rs
    → 0 < share k (slice_index rs j) (shares_before rs j)
    → share k (slice_index rs i) (shares_before rs i) ≡ slice_index rs i

-- in a ranked list with no two level entries, the walk hands each entry what it is allotted
abbrev pub WalkAllots : {E : Type 0} → (E → E → Bool) → Type 0
WalkAllots {E} ahead = (size : E → ℕ) (xs : List E) → Sorted ahead xs → Distinct ahead xs
    → (k i : ℕ) (d : E) → i < length xs
    → let x : E = slice_index_or xs i d in
    share k (size x) (shares_before (map size xs) i) ≡ allotted ahead size k x xs

-- the shares on an order's ties are what it gets of the n that are routed
abbrev pub OrderTied : Type 0
OrderTied = (n : ℕ) (rs ss : List ℕ) (i : ℕ) → i < length rs → n ≤ sum ss
    → of_order i (ties n rs ss) ≡ share n (slice_index rs i) (shares_before rs i)

-- the shares on a quote's ties are what it gets of the n that are routed, and all of them where it ends within n
abbrev pub QuoteTied : Type 0
QuoteTied = (n : ℕ) (rs ss : List ℕ) (j : ℕ) → j < length ss → n ≤ sum rs
    → (of_quote j (ties n rs ss) ≡ share n (slice_index ss j) (shares_before ss j))
    × (shares_before ss j + slice_index ss j ≤ n → of_quote j (ties n rs ss) ≡ slice_index ss j)

-- a tie, after those before it: as large as its order, its quote and the n shares still allow, and nothing is left of any
-- order or quote ahead
pub record Fills (n : ℕ) (rs ss : List ℕ) (before : List Tie) (t : Tie) : Type 0 where
  pub shares : t.shares ≡ room n rs ss before t.order t.quote
  pub orders : (i : ℕ) → i < t.order → order_left rs before i ≡ 0
  pub quotes : (j : ℕ) → j < t.quote → quote_left ss before j ≡ 0

-- ties of which each fills, none is of 0 shares, and after which there is room for no more
pub record Filling (n : ℕ) (rs ss : List ℕ) (ts : List Tie) : Type 0 where
  pub each : (before after : List Tie) (t : Tie) → ts ≡ before ++ (t ∷ after) → Fills n rs ss before t
  pub some : AllByRecursion (λ t. 0 < t.shares) ts
  pub no_more : (i j : ℕ) → room n rs ss ts i j ≡ 0

-- the ties are such a list, and there is no other
abbrev pub TiesFill : Type 0
TiesFill = (n : ℕ) (rs ss : List ℕ) → Filling n rs ss (ties n rs ss)

abbrev pub NoOtherFills : Type 0
NoOtherFills = (n : ℕ) (rs ss : List ℕ) (ts : List Tie) → Filling n rs ss ts → ts ≡ ties n rs ss

-- orders and quotes are both tied in rank order: no tie is of one that is ahead of that of a tie before it
abbrev pub TiesRanked : Type 0
TiesRanked = (n : ℕ) (rs ss : List ℕ)
    → Sorted (λ t u. nat_lt t.order u.order) (ties n rs ss) × Sorted (λ t u. nat_lt t.quote u.quote) (ties n rs ss)

-- there are fewer ties than orders and quotes together
abbrev pub TiesFew : Type 0
TiesFew = (n : ℕ) (rs ss : List ℕ) → 1 ≤ length rs → 1 ≤ length ss
    → length (ties n rs ss) + 1 ≤ length rs + length ss

-- no other row has the number of the row at a place, and no other quote the venue and the price of the quote at one
abbrev pub OnlyOrder : List OrderRow → ℕ → Type 0
OnlyOrder rows i = (k : ℕ) → k < length rows
    → (nth_row rows k).number ≡ (nth_row rows i).number → k ≡ i

abbrev pub OnlyQuote : List Quote → ℕ → Type 0
OnlyQuote quotes j = (k : ℕ) → k < length quotes
    → (nth_quote quotes k).venue ≡ (nth_quote quotes j).venue
    → (nth_quote quotes k).price ≡ (nth_quote quotes j).price → k ≡ j

-- each row is alone with its number, and each quote with its venue and price
abbrev pub OrdersAlone : List OrderRow → Type 0
OrdersAlone rows = (i : ℕ) → i < length rows → OnlyOrder rows i

abbrev pub QuotesAlone : List Quote → Type 0
QuotesAlone quotes = (j : ℕ) → j < length quotes → OnlyQuote quotes j

-- the tickets that name an order are for what it gets of the n shares
abbrev pub OrderTicketed : Type 0
OrderTicketed = (n : ℕ) (rows : List OrderRow) (quotes : List Quote) (i : ℕ) → i < length rows
    → OnlyOrder rows i → n ≤ sum (sizes quotes)
    → let w : OrderRow = nth_row rows i in
    of_number w.number (tickets n rows quotes) ≡ share n w.rest (shares_before (rests rows) i)

-- the tickets that name the venue and the price of a quote are for what it gets of the n shares
abbrev pub QuoteTicketed : Type 0
QuoteTicketed = (n : ℕ) (rows : List OrderRow) (quotes : List Quote) (j : ℕ) → j < length quotes
    → OnlyQuote quotes j → n ≤ sum (rests rows)
    → let x : Quote = nth_quote quotes j in
    to_venue x.venue x.price (tickets n rows quotes) ≡ share n x.shares (shares_before (sizes quotes) j)

-- what the tickets before it allow a ticket: of an order's rest, of a quote's shares, and of the n that are routed
abbrev pub still : ℕ → OrderRow → Quote → List Ticket → ℕ
still n w x before =
    let of_order : ℕ = w.rest - of_number w.number before in
    let of_quote : ℕ = x.shares - to_venue x.venue x.price before in
    min (min of_order of_quote) (n - sum_by (λ t. t.shares) before)

-- a ticket, after those before it: of the order and to the quote at some places, as large as these still allow, and nothing
-- is left of any order or quote ahead
pub record AsLarge (n : ℕ) (rows : List OrderRow) (quotes : List Quote)
    (before : List Ticket) (t : Ticket) : Type 0 where
  pub i : ℕ
  pub j : ℕ
  pub order : (i < length rows) × (t.order ≡ (nth_row rows i).number)
  pub quote : let x : Quote = nth_quote quotes j in
      (j < length quotes) × (t.venue ≡ x.venue) × (t.price ≡ x.price)
  pub shares : t.shares ≡ still n (nth_row rows i) (nth_quote quotes j) before
  pub orders_done : (k : ℕ) → k < i
      → let w : OrderRow = nth_row rows k in
      w.rest ≤ of_number w.number before
  pub quotes_done : (k : ℕ) → k < j
      → let x : Quote = nth_quote quotes k in
      x.shares ≤ to_venue x.venue x.price before

-- each ticket is so, where each order is alone with its number and each quote with its venue and price
abbrev pub TicketsFill : Type 0
TicketsFill = (n : ℕ) (rows : List OrderRow) (quotes : List Quote) → OrdersAlone rows → QuotesAlone quotes
    → (before after : List Ticket) (t : Ticket) → tickets n rows quotes ≡ before ++ (t ∷ after)
    → AsLarge n rows quotes before t

-- where a ticket goes to a quote, each quote ahead of that one is ticketed whole, of quotes that are each alone with their
-- venue and price
abbrev pub QuotesFirst : Type 0
QuotesFirst = (n : ℕ) (rows : List OrderRow) (quotes : List Quote) → QuotesAlone quotes
    → (k i j : ℕ) → k < length (tickets n rows quotes) → i < length quotes → j < i
    → let t : Ticket = slice_index_or (tickets n rows quotes) k empty_ticket in
    t.venue ≡ (nth_quote quotes i).venue → t.price ≡ (nth_quote quotes i).price
    → let x : Quote = nth_quote quotes j in
    to_venue x.venue x.price (tickets n rows quotes) ≡ x.shares

-- of two tables with a and b rows, whatever they hold, come at most a + b - 1 tickets, for every pair of lengths from 1 up
abbrev pub TicketsFit : Type 0
TicketsFit = (a b : ℕ) → 1 ≤ a → 1 ≤ b
    → (n : ℕ) (rows : List OrderRow) (quotes : List Quote) → length rows ≤ a → length quotes ≤ b
    → length (tickets n rows quotes) + 1 ≤ a + b

-- on all tickets are the n shares, or all that the orders still have, or all that the quotes have, whichever is least
abbrev pub TicketsTotal : Type 0
TicketsTotal = (n : ℕ) (rows : List OrderRow) (quotes : List Quote)
    → sum_by (λ t. t.shares) (tickets n rows quotes) ≡ min n (min (sum (rests rows)) (sum (sizes quotes)))

-- no tie is of 0 shares
abbrev pub NoneEmpty : Type 0
NoneEmpty = (n : ℕ) (rs ss : List ℕ) → AllByRecursion (λ t. 0 < t.shares) (ties n rs ss)

-- no ticket is for 0 shares
abbrev pub TicketsSome : Type 0
TicketsSome = (n : ℕ) (rows : List OrderRow) (quotes : List Quote)
    → AllByRecursion (λ t. 1 ≤ t.shares) (tickets n rows quotes)

-- on a market that is neither locked nor crossed only one side can owe
abbrev pub OneSideOwes : Type 0
OneSideOwes = (b : Book) (p : ℕ) → touching (best_on Buy b) (best_on Sell b) ≡ false
    → 0 < owed Buy b p → owed Sell b p ≡ 0

-- on such a market the tickets of a close are those of what the buys owe to the offers and of what the sells owe to the bids
abbrev pub CloseTicketed : Type 0
CloseTicketed = (b : Book) (p : ℕ) → touching (best_on Buy b) (best_on Sell b) ≡ false
    → (buys sells : List OrderRow) (bids offers : List Quote)
    → close_tickets b p buys sells bids offers
    ≡ tickets (owed Buy b p) buys offers ++ tickets (owed Sell b p) sells bids

-- on such a market, at a price that clears, a side owes no more than it has at the price
abbrev pub OwedWithin : Type 0
OwedWithin = (side : Side) (b : Book) (p : ℕ) → touching (best_on Buy b) (best_on Sell b) ≡ false
    → Clears b p → owed side b p ≤ executable_orders side b p

-- what is quoted better than a price for a side, and what at it or better, in the words of a book
abbrev pub QuotedTo : Type 0
QuotedTo = (p : ℕ) (xs : List Quote)
    → (quoted_better Buy p xs ≡ below p (levels xs))
    × (quoted_better Sell p xs ≡ above p (levels xs))
    × (reach Buy p xs ≡ at_or_below p (levels xs))
    × (reach Sell p xs ≡ at_or_above p (levels xs))

-- on such a market, at a price that clears, what both sides owe and what the rest of both can trade with each other are
-- together the count
abbrev pub Counted : Type 0
Counted = (b : Book) (p : ℕ) → touching (best_on Buy b) (best_on Sell b) ≡ false → Clears b p
    → let buys_left : ℕ = executable_orders Buy b p - owed Buy b p in
    let sells_left : ℕ = executable_orders Sell b p - owed Sell b p in
    count_at b p ≡ (owed Buy b p + owed Sell b p) + min buys_left sells_left

-- a side that owes more than is quoted better than a price keeps at least as much as the other side has: at the price
-- itself it owes only what it has beyond the other side
abbrev pub Beyond : Type 0
Beyond = (b : Book) (p : ℕ)
    → (quoted_better Buy p b.offers < owed Buy b p
    → executable_orders Sell b p ≤ executable_orders Buy b p - owed Buy b p)
    × (quoted_better Sell p b.bids < owed Sell b p
    → executable_orders Buy b p ≤ executable_orders Sell b p - owed Sell b p)

-- k shares handed out over ranked rows, no two of them level: each row gets what is left of k after the rows ahead of it
abbrev pub RowsHanded : (OrderRow → OrderRow → Bool) → Type 0
RowsHanded ahead =
    (g : ℕ → OrderRow → OrderRow) (ws : List OrderRow) → Sorted ahead ws → Distinct ahead ws
    → (k i : ℕ) → i < length ws
    → let w : OrderRow = nth_row ws i in
    nth_row (handed g k ws) i ≡ if_whole (g (k - ahead_of ahead available w ws)) w

-- where shares are left for a row, no row before it keeps any that can be moved; g takes them from the rest
abbrev pub NoneKeptAhead : Type 0
NoneKeptAhead =
    (g : ℕ → OrderRow → OrderRow) → ((n : ℕ) (w : OrderRow) → (g n w).rest ≡ w.rest - n)
    → (ws : List OrderRow) (k i j : ℕ) → i < j → j < length ws
    → 0 < k - shares_before (map available ws) j → available (nth_row (handed g k ws) i) ≡ 0
