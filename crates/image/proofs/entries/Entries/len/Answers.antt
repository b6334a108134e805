use Rattle.std.proofs.Common.{arith}
use Rattle.image.proofs.Lists.{levels_len}
use Rattle.image.proofs.entries.Entries.len.Goals as goal

pub returns-clause-is : goal.returns-clause-is
returns-clause-is c = omega (arith, levels_len c.args.self.now.prices.now c.args.self.now.shares.now)
