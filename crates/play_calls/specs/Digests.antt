-- The digest of a desk: FNV-1a over the numbers that it holds, each taken whole.
use Rattle.std.specs.Prelude.{ℕ, ◌*◌, ◌%◌, ◌^◌, List, [], ◌∷◌, ◌++◌, cond, bit_xor}
use Rattle.std.specs.List.{fold, flat_map}
use Rattle.market.specs.declared.quote.Quote.{Quote}
use Rattle.orders.specs.declared.row.OrderRow.{OrderRow}
use Rattle.routing.specs.declared.ticket.Ticket.{Ticket}
use Rattle.engine.specs.declared.stage.Stage.{Stage}
use Rattle.engine.specs.declared.stage.Stage.TheVariants.{Acceptance, Satisfaction}
use Rattle.engine.specs.declared.state.Engine.{Engine}
use Rattle.engine.specs.Answers.{stage_number}
use Rattle.desk.specs.declared.desk.Desk.{Desk}
use Rattle.desk.specs.declared.memory.Memory.{Memory}

-- a digest after one number more
abbrev pub step : ℕ → ℕ → ℕ
step digest number = bit_xor digest number * 1099511628211 % 2 ^ 64

-- a digest after the numbers of a list
abbrev pub mixed : ℕ → List ℕ → ℕ
mixed digest numbers = fold step digest numbers

abbrev pub row_numbers : OrderRow → List ℕ
row_numbers w =
    w.number ∷ w.class ∷ w.price ∷ w.shares ∷ w.rest ∷ w.here ∷ w.away ∷ w.out ∷ w.cancelled ∷ w.late ∷ []

abbrev pub quote_numbers : Quote → List ℕ
quote_numbers x = x.price ∷ x.shares ∷ x.venue ∷ []

abbrev pub ticket_numbers : Ticket → List ℕ
ticket_numbers t = t.order ∷ t.venue ∷ t.price ∷ t.shares ∷ cond t.reported 1 0 ∷ []

-- when it may be closed and 0, or the price and the deadline, else 0 twice
abbrev first_in : Stage → ℕ
first_in (Acceptance closes) = closes
first_in (Satisfaction price deadline) = price
first_in stage = 0

abbrev second_in : Stage → ℕ
second_in (Satisfaction price deadline) = deadline
second_in stage = 0

abbrev pub stage_numbers : Stage → List ℕ
stage_numbers stage = stage_number stage ∷ first_in stage ∷ second_in stage ∷ []

-- the stage, and how many rows of each table are in use
abbrev pub engine_numbers : Engine → List ℕ
engine_numbers e =
    stage_numbers e.stage
    ++ (e.used.buys ∷ e.used.sells ∷ e.used.bids ∷ e.used.offers ∷ e.used.tickets ∷ [])

-- every row of the tables, in use or not
abbrev pub memory_numbers : Memory → List ℕ
memory_numbers m =
    flat_map row_numbers m.buys ++ flat_map row_numbers m.sells ++ flat_map quote_numbers m.bids
    ++ flat_map quote_numbers m.offers ++ flat_map ticket_numbers m.tickets

-- the engine, and the memory of its tables
abbrev pub desk_numbers : Desk → List ℕ
desk_numbers d = engine_numbers d.engine ++ memory_numbers d.memory
