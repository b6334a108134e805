use Rattle.std.proofs.Common.{sym, subst, arith}
use Rattle.pricing.specs.Candidates.{Chosen}
use Rattle.pricing.specs.Ranges.{Within}
use Rattle.pricing.proofs.Rows.{lo_le_hi}
use Rattle.pricing.proofs.Outcomes.{nothing, something, snapped, undecided}
use Rattle.pricing.proofs.close.snap.Goals as goal

pub returns-then-count-eq0 : goal.returns-then-count-eq0
returns-then-count-eq0 g c s = nothing _ s _ (c.lowest-low.ensures.lowest s) (omega (arith, c.count_at-count.ensures))

pub returns : goal.returns
returns g c s =
    let l = c.lowest-low.ensures.lowest s in
    let h = c.highest-high.ensures.highest s l in
    let near = c.nearest-price.ensures l.permitted h.permitted (lo_le_hi _ s _ l _ h) in
    let chosen = subst (λ ref. Chosen (Within c.lowest-low.result c.highest-high.result) ref c.nearest-price.result) (sym c.in-Some.is) near in
    snapped _ s _ l _ h c.args.reference _ _ c.count_at-count.ensures c.if-count-eq0.false chosen

pub returns-in_default : goal.returns-in_default
returns-in_default g c s =
    let l = c.lowest-low.ensures.lowest s in
    let h = c.highest-high.ensures.highest s l in
    (something _ s _ l (omega (arith, c.count_at-count.ensures, c.if-count-eq0.false)), undecided _ s _ l _ h c.args.reference c.in_default.is c.if-low-high.false)
