use Rattle.std.proofs.Common.{◌-◌, ◌*◌, ◌^◌, ◌≤◌}
use Rattle.orders.specs.Rows.{with_cancelled}
use Rattle.orders.specs.Tables.{if_whole}
use Rattle.orders.proofs.Sweeps.{Swept}
use Rattle.orders.proofs.side.cancel_all.Given as goal

abbrev pub invariant-loop-row : goal.invariant-loop-row
invariant-loop-row l =
    Swept (if_whole with_cancelled) l.initial.row-items l.row-index l.total l.row-items
    × (l.total ≤ (2 ^ 32 - 1) * l.row-index)
