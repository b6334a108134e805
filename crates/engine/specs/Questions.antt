-- The questions put before each call, in their order. The first "no" refuses, and a call is refused in no other case.
use Rattle.std.specs.Prelude.{ℕ, ◌+◌, ◌-◌, Bool, true, false, cond, not, ◌&&◌, ◌||◌, List, [], ◌∷◌, length, is_some, Some, None, Option, ◌==◌, nat_le, nat_lt, slice_index_or}
use Rattle.std.specs.List.{list_all}
use Rattle.market.specs.declared.side.Side.{Side}
use Rattle.market.specs.declared.side.Side.TheVariants.{Buy, Sell}
use Rattle.market.specs.declared.refusal.Refusal.{Refusal}
use Rattle.market.specs.declared.refusal.Refusal.TheVariants.{TableSizes, WrongStage, TimeRange, Quotes, TradingHalted, NoMarket, OrderForm, ShortSale, StartSize, StartReach, StartTime, NoRouting, AcceptanceLength, NumberTaken, SideFull, UnknownOrder, NoRest, CloseEarly, LastSale, UnknownTicket, TicketReported, TicketFills, TicketsOut}
use Rattle.market.specs.Limits.{highest_price}
use Rattle.market.specs.Markets.{Market}
use Rattle.market.specs.Best.{best_price}
use Rattle.market.specs.Fits.{quotes_fit}
use Rattle.market.specs.Questions.{Question}
use Rattle.pricing.specs.Outcomes.{is_crossed}
use Rattle.orders.specs.declared.order.Order.{Order}
use Rattle.orders.specs.declared.row.OrderRow.{OrderRow}
use Rattle.orders.specs.Orders.{well_formed}
use Rattle.orders.specs.Rows.{empty_row}
use Rattle.orders.specs.Tables.{place_of, available}
use Rattle.routing.specs.declared.ticket.Ticket.{Ticket}
use Rattle.routing.specs.Tickets.{empty_ticket}
use Rattle.engine.specs.Asked.{Asked, Begin, Enter, Cancel, Close, Report, Match, Finish, Abort}
use Rattle.engine.specs.declared.call.Facts.{Facts}
use Rattle.engine.specs.declared.stage.Stage.{Stage}
use Rattle.engine.specs.declared.state.Engine.{Engine}
use Rattle.engine.specs.Limits.{order_rows, day_end, first_start, last_start, quote_age, cycle_gap, shortest_acceptance, longest_acceptance}
use Rattle.engine.specs.Minimum.{minimum}
use Rattle.engine.specs.Stages.{is_open, is_acceptance, is_satisfaction, is_matched, closes_at, deadline_of}
pub use Rattle.engine.specs.States.{sizes_fit}
use Rattle.engine.specs.States.{TableRows, buys_in, sells_in, tickets_in}

-- a question with the refusal that a "no" gives
abbrev asks : Bool → Refusal → Question
asks yes' refusal = record { yes = yes'; refusal = refusal }

-- the stage that a call needs
abbrev pub stage_fits : Asked → Stage → Bool
stage_fits (Begin time order facts) s = is_open s
stage_fits (Enter order) s = is_acceptance s
stage_fits (Cancel number) s = is_acceptance s
stage_fits (Close time last) s = is_acceptance s
stage_fits (Report ticket filled) s = is_satisfaction s || is_matched s
stage_fits (Match time) s = is_satisfaction s
stage_fits (Finish time) s = is_matched s
stage_fits (Abort time) s = not (is_open s)

-- a time of the day, not before the last accepted one, if there is one
abbrev pub not_before : Option ℕ → ℕ → Bool
not_before None time = true
not_before (Some last) time = nat_le last time

abbrev pub time_fits : Engine → ℕ → Bool
time_fits e time = nat_le time day_end && not_before e.last_time time

-- there are a bid and an offer, and they are not crossed: they may be locked
abbrev pub ordered : Option ℕ → Option ℕ → Bool
ordered None offer = false
ordered (Some bid) None = false
ordered (Some bid) (Some offer) = not (is_crossed (Some bid) (Some offer))

abbrev pub two_sided : Market → Bool
two_sided m = ordered (best_price Buy m.bids) (best_price Sell m.offers)

-- a buy reaches the best offer, a sell the best bid
abbrev pub at_most : Option ℕ → ℕ → Bool
at_most None price = false
at_most (Some best) price = nat_le best price

abbrev pub at_least : Option ℕ → ℕ → Bool
at_least None price = false
at_least (Some best) price = nat_le price best

abbrev pub reaches : Order → Market → Bool
reaches o m = cond (o.side == 1) (at_most (best_price Sell m.offers) o.price) (at_least (best_price Buy m.bids) o.price)

-- something came at least so long ago
abbrev pub long_ago : ℕ → Option ℕ → ℕ → Bool → Bool
long_ago age None time unknown = unknown
long_ago age (Some then) time unknown = nat_le (then + age) time

-- within the hours of starts, the first two-sided quote known and old enough, and the last cycle, if any, long over
abbrev pub start_time_fits : Engine → ℕ → Facts → Bool
start_time_fits e time facts =
    (nat_le first_start time && nat_le time last_start) && (long_ago quote_age facts.first_quote time false && long_ago cycle_gap e.last_end time true)

abbrev pub acceptance_fits : Facts → Bool
acceptance_fits facts = nat_le shortest_acceptance facts.acceptance && nat_le facts.acceptance longest_acceptance

abbrev pub begin_questions : Engine → Market → ℕ → Order → Facts → List Question
begin_questions e m time order facts =
    asks (time_fits e time) TimeRange
    ∷ asks (quotes_fit m) Quotes
    ∷ asks (not m.halted) TradingHalted
    ∷ asks (two_sided m) NoMarket
    ∷ asks (well_formed order) OrderForm
    ∷ asks (not facts.short_sale) ShortSale
    ∷ asks (nat_le (minimum e.issue order.price) order.shares) StartSize
    ∷ asks (reaches order m) StartReach
    ∷ asks (start_time_fits e time facts) StartTime
    ∷ asks facts.routing NoRouting
    ∷ asks (acceptance_fits facts) AcceptanceLength
    ∷ []

-- where an order stands: on the buys, else on the sells
abbrev pub at_side : Side → Option ℕ → Option (Side × ℕ)
at_side side None = None
at_side side (Some place) = Some (side, place)

abbrev pub stands_at : ℕ → List OrderRow → List OrderRow → Option (Side × ℕ)
stands_at number buys sells = cond (is_some (place_of number buys)) (at_side Buy (place_of number buys)) (at_side Sell (place_of number sells))

-- an order's number stands on a side of the book
abbrev pub on_book : Engine → TableRows → ℕ → Bool
on_book e h number = is_some (place_of number (buys_in e h)) || is_some (place_of number (sells_in e h))

abbrev pub has_room : Engine → Order → Bool
has_room e o = cond (o.side == 1) (nat_lt e.used.buys order_rows) (nat_lt e.used.sells order_rows)

abbrev pub enter_questions : Engine → TableRows → Order → List Question
enter_questions e h order =
    asks (well_formed order) OrderForm
    ∷ asks (not (on_book e h order.number)) NumberTaken
    ∷ asks (has_room e order) SideFull
    ∷ []

-- the rest of the order with a number
abbrev pub rest_at : Option ℕ → List OrderRow → ℕ
rest_at None ws = 0
rest_at (Some place) ws = available (slice_index_or ws place empty_row)

abbrev pub rest_of : Engine → TableRows → ℕ → ℕ
rest_of e h number =
    cond (is_some (place_of number (buys_in e h))) (rest_at (place_of number (buys_in e h)) (buys_in e h)) (rest_at (place_of number (sells_in e h)) (sells_in e h))

abbrev pub cancel_questions : Engine → TableRows → ℕ → List Question
cancel_questions e h number =
    asks (on_book e h number) UnknownOrder
    ∷ asks (nat_lt 0 (rest_of e h number)) NoRest
    ∷ []

abbrev pub close_questions : Engine → Market → ℕ → ℕ → List Question
close_questions e m time last =
    asks (time_fits e time) TimeRange
    ∷ asks (nat_le (closes_at e.stage) time) CloseEarly
    ∷ asks (quotes_fit m) Quotes
    ∷ asks (nat_le last highest_price) LastSale
    ∷ []

-- tickets count from 1
abbrev pub is_ticket : Engine → TableRows → ℕ → Bool
is_ticket e h ticket = nat_le 1 ticket && nat_le ticket (length (tickets_in e h))

abbrev pub ticket_at : Engine → TableRows → ℕ → Ticket
ticket_at e h ticket = slice_index_or (tickets_in e h) (ticket - 1) empty_ticket

abbrev pub report_questions : Engine → TableRows → ℕ → ℕ → List Question
report_questions e h ticket filled =
    asks (is_ticket e h ticket) UnknownTicket
    ∷ asks (not (ticket_at e h ticket).reported) TicketReported
    ∷ asks (nat_le filled (ticket_at e h ticket).shares) TicketFills
    ∷ []

abbrev pub match_questions : Engine → TableRows → ℕ → List Question
match_questions e h time =
    asks (time_fits e time) TimeRange
    ∷ asks (list_all (λ t. t.reported) (tickets_in e h) || nat_le (deadline_of e.stage) time) TicketsOut
    ∷ []

-- what each call asks besides
abbrev pub own_questions : Engine → Market → TableRows → Asked → List Question
own_questions e m h (Begin time order facts) = begin_questions e m time order facts
own_questions e m h (Enter order) = enter_questions e h order
own_questions e m h (Cancel number) = cancel_questions e h number
own_questions e m h (Close time last) = close_questions e m time last
own_questions e m h (Report ticket filled) = report_questions e h ticket filled
own_questions e m h (Match time) = match_questions e h time
own_questions e m h (Finish time) = asks (time_fits e time) TimeRange ∷ []
own_questions e m h (Abort time) = asks (time_fits e time) TimeRange ∷ []

-- the stage first
abbrev pub stage_questions : Engine → Market → TableRows → Asked → List Question
stage_questions e m h call = asks (stage_fits call e.stage) WrongStage ∷ own_questions e m h call

-- the questions of a call: the sizes of the tables, the stage, and its own
abbrev pub questions : Engine → Market → TableRows → Asked → List Question
questions e m h call = asks (sizes_fit h) TableSizes ∷ stage_questions e m h call
