use Rattle.std.proofs.Common.{sym, ◌∙◌, arith}
use Rattle.image.specs.Readers.{levels_of}
use Rattle.image.proofs.Lists.{left_more, left_none, entry_within}
use Rattle.image.proofs.entries.LevelsIterator.next.Goals as goal

pub returns-in_err-level-clause-steps : goal.returns-in_err-level-clause-steps
returns-in_err-level-clause-steps c =
    let past = left_none (levels_of c.args.self.now.entries) c.args.self.now.place (sym c.get.ensures ∙ c.in_err-level.was) in
    rw c.from_residual.ensures (past, past)

pub overflow_add-self : goal.overflow_add-self
overflow_add-self c =
    let entries = c.args.self.now.entries in
    omega (arith, entry_within entries.prices.now entries.shares.now c.args.self.now.place c.in_ok-level.level (sym c.get.ensures ∙ c.in_ok-level.was))

pub returns-clause-steps : goal.returns-clause-steps
returns-clause-steps c = left_more (levels_of c.args.self.now.entries) c.args.self.now.place c.in_ok-level.level (sym c.get.ensures ∙ c.in_ok-level.was)
