use Rattle.engine.specs.Asked.{asked}
use Rattle.engine.specs.States.{table_rows}
use Rattle.engine.specs.Effects.{left}
use Rattle.auction.proofs.Lawful.{call_lawful}
use Rattle.auction.proofs.runs.call.Goals as goal

pub returns : goal.returns
returns g c =
    let e = c.args.engine.now in
    let m = g.S.QuoteSource.meaning c.args.source.now in
    let h = table_rows c.args.tables.now in
    let l = left c.call.new.self c.call.new.tables c.call.result in
    record {
      called = c.call.ensures.called;
      refused = c.call.ensures.refused;
      unread = c.call.ensures.unread;
      clock = c.call.ensures.clock;
      numbers = c.call.ensures.numbers;
      lawful = λ y p history. call_lawful e h y p m (asked c.args.call.now) l history c.call.ensures.called;
      sizes = c.call.ensures.sizes;
      names = c.call.ensures.names;
    }
