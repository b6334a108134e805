use Rattle.std.proofs.Common.{◌-◌, set, length-set, ap, arith}
use Rattle.market.specs.Listings.{quotes_listed}
use Rattle.market.proofs.Slots.{listed_put, well_listed}
use Rattle.market.proofs.venues.VenueTable.put.Goals as goal

pub returns-in-Buy : goal.returns-in-Buy
returns-in-Buy c =
    let t = c.args.self.now in
    rw c.in-Buy.is (ap (λ l. record { bids = l; offers = quotes_listed 1 t.offers; halted = t.halted }) (listed_put c.args.terms 1 (c.args.venue - 1) c.args.venue t.bids (omega arith) (omega arith)))

pub returns-in-Sell : goal.returns-in-Sell
returns-in-Sell c =
    let t = c.args.self.now in
    rw c.in-Sell.is (ap (λ l. record { bids = quotes_listed 1 t.bids; offers = l; halted = t.halted }) (listed_put c.args.terms 1 (c.args.venue - 1) c.args.venue t.offers (omega arith) (omega arith)))

pub invariant_of-self : goal.invariant_of-self
invariant_of-self c =
    let t = c.args.self.now in
    record {
      bids_listed = well_listed (set t.bids (c.args.venue - 1) c.args.terms) (simp length-set (omega arith));
      offers_listed = t.offers_listed;
    }

pub invariant_of-self-in-Sell : goal.invariant_of-self-in-Sell
invariant_of-self-in-Sell c =
    let t = c.args.self.now in
    record {
      bids_listed = t.bids_listed;
      offers_listed = well_listed (set t.offers (c.args.venue - 1) c.args.terms) (simp length-set (omega arith));
    }
