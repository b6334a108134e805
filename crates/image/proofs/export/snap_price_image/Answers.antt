use Rattle.std.proofs.Common.{sym, subst, arith}
use Rattle.image.specs.Answers.{ImagePricing}
use Rattle.image.proofs.Answering.{refused, granted}
use Rattle.image.proofs.export.snap_price_image.Goals as goal

pub returns-in-Err-clause-pricing : goal.returns-in-Err-clause-pricing
returns-in-Err-clause-pricing c =
    let image = c.args.image.now in
    let out = c.args.out.now in
    subst (λ r. ImagePricing image c.args.last_sale out r out) (sym c.from-in-Err.ensures)
    (refused image c.args.last_sale out c.in-Err.refusal (omega arith) c.in-Err.ensures.priced)

pub returns-in-Ok-clause-pricing : goal.returns-in-Ok-clause-pricing
returns-in-Ok-clause-pricing c = granted c.args.image.now c.args.last_sale c.args.out.now c.in-Ok.outcome c.put_outcome.new.out (omega arith) c.in-Ok.ensures.priced c.put_outcome.ensures.bytes
