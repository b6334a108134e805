use Rattle.std.proofs.Common.{◌+◌, ◌<◌, None, sym, ◌∙◌, arith}
use Rattle.market.proofs.Slots.{listed_none, listed_some, listed_all, nth_tail}
use Rattle.market.proofs.venues.listed_at.Goals as goal

pub returns-then-left-eq0 : goal.returns-then-left-eq0
returns-then-left-eq0 c =
    let i = c.loop-slot.slot in
    let e = listed_some c.args.slots.now i (i + 1) _ c.in-Some.terms (omega arith) c.in-Some.is in
    rw c.quote.ensures (rw (e, c.if-left-eq0.true) at c.loop-slot.invariant)

pub loop-slot-preserved : goal.loop-slot-preserved
loop-slot-preserved c =
    let slots = c.args.slots.now in
    let i = c.loop-slot.slot in
    elim c.match-terms.branch [
      | goal.in-Some+else-left-eq0 w ↦
          let e = listed_some slots i (i + 1) _ w.in-Some.terms (omega arith) w.in-Some.is in
          let more : 0 < c.loop-slot.left = omega arith in
          rw w.left-is (sym (nth_tail _ _ c.loop-slot.left more) ∙ (rw e at c.loop-slot.invariant))
      | goal.in_default w ↦
          let e = listed_none slots i (i + 1) _ (omega arith) w.in_default.is in
          rw w.left-is (rw e at c.loop-slot.invariant)
    ]

pub returns : goal.returns
returns c =
    let i = c.loop-slot.slot in
    rw (listed_all c.args.slots.now i (i + 1) None (omega arith)) at c.loop-slot.invariant
