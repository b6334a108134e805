use Rattle.engine.specs.Asked.{asked}
use Rattle.engine.specs.States.{table_rows}
use Rattle.engine.specs.Effects.{left}
use Rattle.engine.proofs.Refusing.{call_untouched}
use Rattle.engine.proofs.Clock.{call_clock}
use Rattle.engine.proofs.Numbering.{call_numbered}
use Rattle.engine.proofs.Sizes.{call_sizes}
use Rattle.engine.proofs.Unread.{call_unread}
use Rattle.engine.proofs.state.Engine.call.Goals as goal

pub returns : goal.returns
returns g c =
    let e = c.args.self.now in
    let m = g.S.QuoteSource.meaning c.args.source.now in
    let h = table_rows c.args.tables.now in
    let l = left c.turn.new.self c.turn.new.tables c.turn.result in
    record {
      called = c.turn.ensures.called;
      refused = call_untouched e m h (asked c.args.call.now) l c.turn.ensures.called;
      unread = call_unread e m h (asked c.args.call.now) l c.turn.ensures.called;
      clock = call_clock e m h (asked c.args.call.now) l c.turn.ensures.called;
      numbers = call_numbered e m h (asked c.args.call.now) l c.turn.ensures.called;
      sizes = call_sizes e m h (asked c.args.call.now) l c.turn.ensures.called;
      names = c.turn.ensures.names;
    }
