use Rattle.std.proofs.Common.{◌≡◌, ◌+◌, drop}
use Rattle.std.specs.List.{slice_get}
use Rattle.market.specs.Listings.{quotes_listed}
use Rattle.market.proofs.venues.listed_at.Given as goal

-- the place is one of the slots that are left, once those before have their quotes taken off
abbrev pub invariant-loop-slot : goal.invariant-loop-slot
invariant-loop-slot l = slice_get (quotes_listed (l.slot + 1) (drop l.slot l.slots)) l.left ≡ slice_get (quotes_listed 1 l.slots) l.place
