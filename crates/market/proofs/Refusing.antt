-- No refusal has the number 0.
use Rattle.std.proofs.Common.{◌≤◌, arith}
use Rattle.market.specs.declared.refusal.Refusal.{Refusal}
use Rattle.market.specs.declared.refusal.Refusal.TheVariants.{TableSizes, WrongStage, TimeRange, Quotes, TradingHalted, NoMarket, OrderForm, ShortSale, StartSize, StartReach, StartTime, NoRouting, AcceptanceLength, NumberTaken, SideFull, UnknownOrder, NoRest, CloseEarly, LastSale, UnknownTicket, TicketReported, TicketFills, TicketsOut, OutputLength, ImageLayout, ImageOrder, VenueOrSide, QuoteValue}
use Rattle.market.specs.Refusals.{refusal_number}

pub refusal_counts : (r : Refusal) → 1 ≤ refusal_number r
refusal_counts TableSizes = omega arith
refusal_counts WrongStage = omega arith
refusal_counts TimeRange = omega arith
refusal_counts Quotes = omega arith
refusal_counts TradingHalted = omega arith
refusal_counts NoMarket = omega arith
refusal_counts OrderForm = omega arith
refusal_counts ShortSale = omega arith
refusal_counts StartSize = omega arith
refusal_counts StartReach = omega arith
refusal_counts StartTime = omega arith
refusal_counts NoRouting = omega arith
refusal_counts AcceptanceLength = omega arith
refusal_counts NumberTaken = omega arith
refusal_counts SideFull = omega arith
refusal_counts UnknownOrder = omega arith
refusal_counts NoRest = omega arith
refusal_counts CloseEarly = omega arith
refusal_counts LastSale = omega arith
refusal_counts UnknownTicket = omega arith
refusal_counts TicketReported = omega arith
refusal_counts TicketFills = omega arith
refusal_counts TicketsOut = omega arith
refusal_counts OutputLength = omega arith
refusal_counts ImageLayout = omega arith
refusal_counts ImageOrder = omega arith
refusal_counts VenueOrSide = omega arith
refusal_counts QuoteValue = omega arith
