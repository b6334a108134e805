-- The number and the words of each refusal.
use Rattle.std.specs.Prelude.{ℕ, List, codes, Ok, Err, Result}
use Rattle.market.specs.declared.refusal.Refusal.{Refusal}
use Rattle.market.specs.declared.refusal.Refusal.TheVariants.{TableSizes, WrongStage, TimeRange, Quotes, TradingHalted, NoMarket, OrderForm, ShortSale, StartSize, StartReach, StartTime, NoRouting, AcceptanceLength, NumberTaken, SideFull, UnknownOrder, NoRest, CloseEarly, LastSale, UnknownTicket, TicketReported, TicketFills, TicketsOut, OutputLength, ImageLayout, ImageOrder, VenueOrSide, QuoteValue}

abbrev pub refusal_number : Refusal → ℕ
refusal_number TableSizes = 1
refusal_number WrongStage = 2
refusal_number TimeRange = 3
refusal_number Quotes = 4
refusal_number TradingHalted = 5
refusal_number NoMarket = 6
refusal_number OrderForm = 7
refusal_number ShortSale = 8
refusal_number StartSize = 9
refusal_number StartReach = 10
refusal_number StartTime = 11
refusal_number NoRouting = 12
refusal_number AcceptanceLength = 13
refusal_number NumberTaken = 14
refusal_number SideFull = 15
refusal_number UnknownOrder = 16
refusal_number NoRest = 17
refusal_number CloseEarly = 18
refusal_number LastSale = 19
refusal_number UnknownTicket = 20
refusal_number TicketReported = 21
refusal_number TicketFills = 22
refusal_number TicketsOut = 23
refusal_number OutputLength = 24
refusal_number ImageLayout = 25
refusal_number ImageOrder = 26
refusal_number VenueOrSide = 27
refusal_number QuoteValue = 28

-- the number of an answer that may be a refusal: 0 where it is granted
abbrev pub answer_number : {A : Type 0} → Result A Refusal → ℕ
answer_number (Ok granted) = 0
answer_number (Err refusal) = refusal_number refusal

abbrev pub refusal_words : Refusal → List ℕ
refusal_words TableSizes = codes "the tables have not 512, 512, 32, 32 and 544 rows"
refusal_words WrongStage = codes "the engine is in another stage than the call needs"
refusal_words TimeRange = codes "the time is past the end of the day, or before the last accepted one"
refusal_words Quotes = codes "a side has more than 32 outside quotes, or one has a price that is not permitted or not 1 to 1,000,000 shares"
refusal_words TradingHalted = codes "trading in the security is halted"
refusal_words NoMarket = codes "there is not both a bid and an offer, or a bid is above an offer"
refusal_words OrderForm = codes "the order is not well formed"
refusal_words ShortSale = codes "the start order is a short sale under restriction"
refusal_words StartSize = codes "the start order has not the minimum size"
refusal_words StartReach = codes "the start order does not reach the best quote of the other side"
refusal_words StartTime = codes "a cycle may not start at this time"
refusal_words NoRouting = codes "routing is not available"
refusal_words AcceptanceLength = codes "the acceptance length is not 475 to 525 ms"
refusal_words NumberTaken = codes "the number is on the book already"
refusal_words SideFull = codes "the side has no free row"
refusal_words UnknownOrder = codes "the number is not on the book"
refusal_words NoRest = codes "the order has no rest"
refusal_words CloseEarly = codes "the acceptance is not over yet"
refusal_words LastSale = codes "the last sale is above 4,000,000,000 points"
refusal_words UnknownTicket = codes "there is no such ticket"
refusal_words TicketReported = codes "the ticket is reported already"
refusal_words TicketFills = codes "more is filled than the ticket has shares"
refusal_words TicketsOut = codes "tickets are unreported, and the deadline is not reached"
refusal_words OutputLength = codes "the output has not 16 bytes"
refusal_words ImageLayout = codes "the bytes have not the layout of a book image"
refusal_words ImageOrder = codes "an order has a price that is not permitted or not 1 to 1,000,000 shares"
refusal_words VenueOrSide = codes "there is no such venue, 1 to 32, or side, 1 for bids and 2 for offers"
refusal_words QuoteValue = codes "the price is not permitted, or the shares are not 1 to 1,000,000"
