use Rattle.std.proofs.Common.{Some, sym, subst, arith}
use Rattle.pricing.specs.Candidates.{Chosen}
use Rattle.pricing.specs.Ranges.{Within}
use Rattle.pricing.proofs.Choosing.{choose_nearer}
use Rattle.pricing.proofs.ladder.nearest.Goals as goal

pub returns : goal.returns
returns c lo hi le =
    subst (Chosen (Within c.args.low c.args.high) (Some c.args.reference)) (sym c.nearer.ensures)
    (choose_nearer c.args.low c.args.high c.args.reference lo hi c.neighbours-below.result.0 c.neighbours-below.result.1 c.neighbours-below.ensures (omega arith) (omega arith))
