use Rattle.std.proofs.Common.{◌≡◌, ◌∙◌, ℕ, ◌+◌, length, cond, is_some, None, ap, sym, arith}
use Rattle.market.proofs.Slots.{listed_all, listed_turn}
use Rattle.market.proofs.venues.count_listed.Goals.{then-is_some, else-is_some}
use Rattle.market.proofs.venues.count_listed.Goals as goal

pub loop-slot-preserved : goal.loop-slot-preserved
loop-slot-preserved c =
    let i = c.loop-slot.slot-index in
    let slot = c.slot-item.result in
    let e = listed_turn c.args.slots.now i (i + 1) slot (omega arith) c.slot-item.is in
    let inv = c.loop-slot.invariant in
    elim c.if-is_some.branch [
      | then-is_some w ↦
          let one : ◌≡◌ {A = ℕ} (cond (is_some slot) 1 0) 1 = ap (λ b. cond b 1 0) (ap is_some c.slot-item.is ∙ sym c.is_some.ensures ∙ w.if-is_some.true) in
          (omega (arith, e, one, inv.0, w.count-is), omega (arith, inv.1, w.count-is))
      | else-is_some w ↦
          let none : ◌≡◌ {A = ℕ} (cond (is_some slot) 1 0) 0 = ap (λ b. cond b 1 0) (ap is_some c.slot-item.is ∙ sym c.is_some.ensures ∙ w.if-is_some.false) in
          (omega (arith, e, none, inv.0, w.count-is), omega (arith, inv.1, w.count-is))
    ]

pub returns : goal.returns
returns c =
    let i = c.loop-slot.slot-index in
    let e = ap length (listed_all c.args.slots.now i (i + 1) None (omega arith)) in
    omega (arith, e, c.loop-slot.invariant.0)
