use Rattle.market.proofs.venues.VenueTable.set_halted.Goals as goal

pub returns-clause-listed : goal.returns-clause-listed
returns-clause-listed c = record { bids_rise = c.args.self.now.bids_listed.rise; offers_rise = c.args.self.now.offers_listed.rise }
