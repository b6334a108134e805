use Rattle.market.specs.Venues.{market_in}
use Rattle.engine.specs.States.{table_rows, SameTables}
use Rattle.benches.specs.Calls.{Brought}
use Rattle.benches.proofs.calls.take_orders.Given as goal

abbrev pub invariant-loop-place : goal.invariant-loop-place
invariant-loop-place l =
    Brought (market_in l.venues) (table_rows l.initial.tables) l.orders l.place l.engine (table_rows l.tables) × SameTables l.initial.tables l.tables
