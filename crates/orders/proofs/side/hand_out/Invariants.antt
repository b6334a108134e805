use Rattle.orders.specs.Rows.{sent}
use Rattle.orders.proofs.Handing.{Going}
use Rattle.orders.proofs.side.hand_out.Given as goal

abbrev pub invariant-loop-row : goal.invariant-loop-row
invariant-loop-row l = Going (sent l.fn.to) l.shares l.initial.row-items l.row-index l.left l.row-items
