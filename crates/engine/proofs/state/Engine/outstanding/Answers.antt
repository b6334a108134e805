use Rattle.std.proofs.Common.{sym, subst}
use Rattle.engine.specs.States.{table_rows}
use Rattle.engine.specs.Outstanding.{Outstanding, outstanding_numbers, NumberedOutstanding}
use Rattle.engine.proofs.Opens.{outstanding_law, outstanding_numbered}
use Rattle.engine.proofs.state.Engine.outstanding.Goals as goal

pub returns : goal.returns
returns c =
    let e = c.args.self.now in
    let h = table_rows c.args.tables.now in
    record {
      is = c.first_outstanding.ensures;
      law = subst (λ r. Outstanding e h r) (sym c.first_outstanding.ensures) (outstanding_law e h);
      numbers = subst (λ r. NumberedOutstanding e h (outstanding_numbers r)) (sym c.first_outstanding.ensures) (outstanding_numbered e h);
    }
