use Rattle.std.proofs.Common.{◌≡◌, ◌+◌, drop}
use Rattle.orders.specs.Tables.{before}
use Rattle.orders.proofs.side.rows_before.Given as goal

abbrev pub invariant-loop-place : goal.invariant-loop-place
invariant-loop-place l = before l.number l.rows ≡ l.place + before l.number (drop l.place l.rows)
