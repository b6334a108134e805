use Rattle.std.proofs.Common.{sym, subst}
use Rattle.engine.specs.States.{table_rows}
use Rattle.auction.specs.Runs.{NoneYet}
use Rattle.auction.proofs.OpenTickets.{none_yet, outstanding_by, open_now}
use Rattle.auction.proofs.runs.outstanding.Goals as goal

pub returns : goal.returns
returns c =
    let e = c.args.engine.now in
    let h = table_rows c.args.tables.now in
    record {
      is = c.outstanding.ensures.is;
      law = c.outstanding.ensures.law;
      numbers = c.outstanding.ensures.numbers;
      fresh = λ y p history none. subst (λ r. NoneYet e h r) (sym c.outstanding.ensures.is) (none_yet e h y p history none);
      run = λ y p history o is. outstanding_by e h y p history c.outstanding.result c.outstanding.ensures.is c.outstanding.ensures.law o is;
      begun = λ y p history begun. open_now e h y p history begun c.outstanding.result c.outstanding.ensures.is c.outstanding.ensures.law;
    }
