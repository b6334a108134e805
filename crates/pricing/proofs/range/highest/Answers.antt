use Rattle.std.proofs.Common.{sym, ◌∙◌, subst, arith}
use Rattle.pricing.specs.Ranges.{Highest}
use Rattle.pricing.proofs.Next.{highest_next, highest_same, price_most}
use Rattle.pricing.proofs.range.highest.Goals as goal

pub returns-then-demand-supply-clause-inside : goal.returns-then-demand-supply-clause-inside
returns-then-demand-supply-clause-inside g c = omega (arith, c.next_price.ensures, price_most (g.B.BookView.book c.args.view.now) c.args.lowest)

pub returns-then-demand-supply-clause-highest : goal.returns-then-demand-supply-clause-highest
returns-then-demand-supply-clause-highest g c s l =
    let tight = sym c.demand.ensures ∙ c.if-demand-supply.true ∙ c.supply.ensures in
    subst (Highest (g.B.BookView.book c.args.view.now)) (sym c.next_price.ensures) (highest_next _ s _ l tight)

pub returns-else-demand-supply-clause-highest : goal.returns-else-demand-supply-clause-highest
returns-else-demand-supply-clause-highest g c s l = highest_same _ s _ l (λ tight. c.if-demand-supply.false (c.demand.ensures ∙ tight ∙ sym c.supply.ensures))
