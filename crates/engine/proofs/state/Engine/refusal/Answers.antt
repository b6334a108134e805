use Rattle.std.proofs.Common.{rules, ◌≡◌, ap, ◌∙◌}
use Rattle.market.specs.Questions.{first_no}
use Rattle.engine.specs.Asked.{asked}
use Rattle.engine.specs.States.{table_rows}
use Rattle.engine.specs.Questions.{questions}
use Rattle.engine.specs.Answers.{met_number}
use Rattle.engine.proofs.Numbering.{met_is}
use Rattle.engine.proofs.state.Engine.refusal.Goals as goal

pub returns-clause-number : goal.returns-clause-number
returns-clause-number g c =
    let e = c.args.self.now in
    let m = g.S.QuoteSource.meaning c.args.source.now in
    let h = table_rows c.args.tables.now in
    let is : c.err.result ≡ first_no (questions e m h (asked c.args.call.now)) = search rules in
    ap met_number is ∙ met_is e m h (asked c.args.call.now)
