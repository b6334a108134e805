use Rattle.std.proofs.Common.{sym, ◌∙◌, arith}
use Rattle.image.proofs.Lists.{entry_within, quote_there}
use Rattle.image.proofs.entries.Entries.quote.Goals as goal

pub quote_of-requires : goal.quote_of-requires
quote_of-requires c =
    omega (arith, entry_within c.args.self.now.prices.now c.args.self.now.shares.now c.args.place c.in_ok-level.level (sym c.get.ensures ∙ c.in_ok-level.was))

pub returns : goal.returns
returns c =
    let there = quote_there c.args.self.now.prices.now c.args.self.now.shares.now c.args.place c.in_ok-level.level (sym c.get.ensures ∙ c.in_ok-level.was) in
    rw c.quote_of.ensures (sym there)
