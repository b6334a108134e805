use Rattle.std.proofs.Common.{arith}
use Rattle.image.specs.Entries.{level_at, length_in}
use Rattle.image.proofs.Lists.{nth_counted, levels_len}
use Rattle.image.proofs.entries.Entries.get.Goals as goal

pub returns : goal.returns
returns c =
    let ps = c.args.self.now.prices.now in
    let ss = c.args.self.now.shares.now in
    let e = nth_counted (level_at ps ss) (length_in ps ss) c.args.place (omega (arith, c.len.ensures.is, levels_len ps ss)) in
    cc
