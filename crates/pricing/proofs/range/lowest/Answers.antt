use Rattle.std.proofs.Common.{◌<◌, ◌≤◌, subst, arith}
use Rattle.market.proofs.Grid.{grid}
use Rattle.pricing.specs.Books.{wanted_above, supply_at}
use Rattle.pricing.proofs.Sides.{none_wanted, buyers_pass, buyers_fail}
use Rattle.pricing.proofs.range.lowest.Goals as goal

pub loop-low-init : goal.loop-low-init
loop-low-init g c =
    (omega arith, omega arith, λ s. omega (arith, none_wanted _ s), λ s q ok h. omega (arith, (grid q ok).least))

pub loop-low-preserved-then-demand-supply : goal.loop-low-preserved-then-demand-supply
loop-low-preserved-then-demand-supply g c =
    let b = g.B.BookView.book c.args.view.now in
    let here = buyers_pass b c.price_at-price.result (omega (arith, c.demand.ensures, c.supply.ensures, c.if-demand-supply.true)) in
    (omega arith, omega arith, λ s. subst (λ x. wanted_above b x ≤ supply_at b x) c.price_at-price.ensures here, c.loop-low.invariant.3)

pub loop-low-preserved : goal.loop-low-preserved
loop-low-preserved g c =
    let b = g.B.BookView.book c.args.view.now in
    let here = buyers_fail b c.price_at-price.result (omega (arith, c.demand.ensures, c.supply.ensures, c.if-demand-supply.false)) in
    (omega arith, omega arith, c.loop-low.invariant.2, λ s q ok h. subst (λ x. x < q) c.price_at-price.ensures (here q h))
