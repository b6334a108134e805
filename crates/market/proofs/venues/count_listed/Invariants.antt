use Rattle.std.proofs.Common.{◌≡◌, ◌+◌, ◌≤◌, length, drop}
use Rattle.market.specs.Listings.{quotes_listed}
use Rattle.market.proofs.venues.count_listed.Given as goal

-- those counted, and those that the slots that are left list
abbrev pub invariant-loop-slot : goal.invariant-loop-slot
invariant-loop-slot l =
    (l.count + length (quotes_listed (l.slot-index + 1) (drop l.slot-index l.slots)) ≡ length (quotes_listed 1 l.slots))
    × (l.count ≤ l.slot-index)
