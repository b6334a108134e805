use Rattle.pricing.proofs.Outcomes.{best, zero_nothing}
use Rattle.pricing.proofs.close.close_price.Goals as goal

pub returns : goal.returns
returns g c =
    let b = g.B.BookView.book c.args.view.now in
    record {
      outcome = c.settle.ensures;
      best = λ s. best c.args.halted b c.args.last_sale c.settle.result s (c.settle.ensures s);
      nothing = λ s. zero_nothing c.args.halted b c.args.last_sale c.settle.result (c.settle.ensures s);
    }
