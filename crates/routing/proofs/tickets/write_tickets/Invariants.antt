use Rattle.std.proofs.Common.{◌+◌, length}
use Rattle.routing.proofs.Cursors.{Walked}
use Rattle.routing.proofs.tickets.write_tickets.Given as goal

abbrev pub invariant-loop-waiting : goal.invariant-loop-waiting
invariant-loop-waiting l =
    Walked l.rows l.quotes l.routed l.initial.out l.count l.out l.left l.waiting l.filled l.standing l.taken

abbrev pub decreases-loop-waiting : goal.decreases-loop-waiting
decreases-loop-waiting l = length l.waiting + length l.standing
