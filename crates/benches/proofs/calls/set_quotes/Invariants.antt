use Rattle.std.proofs.Common.{◌≡◌, drop}
use Rattle.market.specs.Sides.{side_number}
use Rattle.market.specs.Venues.{market_in}
use Rattle.benches.specs.Calls.{quoted_on}
use Rattle.benches.proofs.calls.set_quotes.Given as goal

-- the quotes still to come lead from the market as it stands to the one that all of them lead to
abbrev pub invariant-loop-quote : goal.invariant-loop-quote
invariant-loop-quote l =
    quoted_on (side_number l.side) (drop l.quote-index l.quotes) (market_in l.venues) ≡ quoted_on (side_number l.side) l.quotes (market_in l.initial.venues)
