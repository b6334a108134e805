use Rattle.market.specs.Venues.{market_in}
use Rattle.market.proofs.Slots.{by_venue}
use Rattle.market.proofs.Tables.{set_changes}
use Rattle.market.proofs.venues.VenueTable.set.Goals as goal

pub returns-in_err-side-clause-listed : goal.returns-in_err-side-clause-listed
returns-in_err-side-clause-listed c = by_venue c.args.self.now

pub returns-then-not-entry_fits-clause-listed : goal.returns-then-not-entry_fits-clause-listed
returns-then-not-entry_fits-clause-listed c = by_venue c.args.self.now

pub returns-clause-listed : goal.returns-clause-listed
returns-clause-listed c = by_venue c.put.new.self

pub returns-clause-venues : goal.returns-clause-venues
returns-clause-venues c = set_changes (record { price = c.args.price; shares = c.args.shares; venue = c.args.venue }) c.args.side _ c.args.self.now (market_in c.put.new.self) c.in_ok-side.ensures.ok.0 c.put.ensures
