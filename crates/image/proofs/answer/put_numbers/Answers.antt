use Rattle.std.proofs.Common.{◌∙◌, sym, subst, arith}
use Rattle.image.specs.Numbers.{Reads}
use Rattle.image.proofs.Saying.{reads}
use Rattle.image.proofs.Bytes.{le4, le8, laid}
use Rattle.image.proofs.answer.put_numbers.Goals as goal

pub returns-clause-bytes : goal.returns-clause-bytes
returns-clause-bytes c =
    let a = c.copy_from_slice.ensures.after ∙ c.to_le_bytes.ensures ∙ le4 c.args.price in
    let b = c.copy_from_slice-2.ensures.after ∙ c.to_le_bytes-2.ensures ∙ le4 c.args.cause in
    let d = c.copy_from_slice-3.ensures.after ∙ c.to_le_bytes-3.ensures ∙ le8 c.args.count in
    simp (a, b, d) (laid c.args.out.now c.args.price c.args.cause c.args.count c.requires)

pub returns-clause-read : goal.returns-clause-read
returns-clause-read c =
    subst (λ bytes. Reads bytes c.args.price c.args.cause c.args.count) (sym (returns-clause-bytes c))
    (reads c.args.price c.args.cause c.args.count (omega arith) (omega arith) (omega arith))
