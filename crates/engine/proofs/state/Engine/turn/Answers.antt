use Rattle.std.proofs.Common.{sym}
use Rattle.std.proofs.lemmas.Result.{err_from_is_err_and}
use Rattle.engine.specs.Asked.{asked}
use Rattle.engine.specs.States.{table_rows}
use Rattle.engine.proofs.Turning.{refused_by}
use Rattle.engine.proofs.state.Engine.turn.Goals as goal

pub returns-in_err-may_turn-clause-called : goal.returns-in_err-may_turn-clause-called
returns-in_err-may_turn-clause-called g c =
    let p = err_from_is_err_and c.from_residual.result c.from_residual.ensures.1 in
    rw (p.1, p.2) (refused_by c.args.self.now (g.S.QuoteSource.meaning c.args.source.now) (table_rows c.args.tables.now) (asked c.args.call.now) c.in_err-may_turn.field-0.0 (sym c.in_err-may_turn.ensures))
