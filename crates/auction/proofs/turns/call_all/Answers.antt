use Rattle.std.proofs.Common.{◌<◌, ◌∙◌, length, get_or, take, Some, sym, refl, subst, arith}
use Rattle.std.proofs.lemmas.List.{take_all, take_more_set}
use Rattle.std.proofs.Math.Seq.{map-set_same}
use Rattle.engine.specs.Asked.{asked}
use Rattle.engine.specs.States.{table_rows}
use Rattle.engine.specs.Effects.{Left, left}
use Rattle.auction.specs.declared.turns.PlayedCall.{PlayedCall}
use Rattle.auction.specs.Played.{Alone, no_turn, one_more, CalledRun, IsPlayed}
use Rattle.auction.proofs.Playing.{none_played, more_played}
use Rattle.auction.proofs.turns.call_all.Goals as goal

pub loop-turn-init : goal.loop-turn-init
loop-turn-init g c =
    record {
      run = λ y p history. none_played g.S.QuoteSource.meaning c.args.engine.now (table_rows c.args.tables.now) y p history;
      called = no_turn;
      calls = refl;
      sources = refl;
      sizes = record { buys = refl; sells = refl; bids = refl; offers = refl; tickets = refl };
      names = record { buys = refl; sells = refl; bids = refl; offers = refl; tickets = refl };
    }

pub loop-turn-preserved : goal.loop-turn-preserved
loop-turn-preserved g c =
    let meaning = g.S.QuoteSource.meaning in
    let turns = c.loop-turn.turns in
    let i = c.loop-turn.turn-index in
    let within : i < length turns = omega arith in
    let item : PlayedCall g.row.S.Denot = get_or turns i c.turn-item.result in
    let turn : PlayedCall g.row.S.Denot = record { call = item.call; source = item.source; answer = Some c.call-answer.result } in
    let left : Left = left c.call-answer.new.engine c.call-answer.new.tables c.call-answer.result in
    let before = c.loop-turn.invariant in
    let after = c.call-answer.ensures in
    let alone : Alone c.loop-turn.engine (table_rows c.loop-turn.tables) (meaning turn.source) (asked turn.call) left =
    record { called = after.called; refused = after.refused; unread = after.unread; clock = after.clock; numbers = after.numbers } in
    record {
      run = λ y p history. subst (λ ts. IsPlayed meaning c.args.engine.now (table_rows c.args.tables.now) y p ts left.engine left.held) (sym (take_more_set turns i turn within))
          (more_played meaning c.args.engine.now (table_rows c.args.tables.now) y p (take i turns) c.loop-turn.engine (table_rows c.loop-turn.tables) (before.run y p history) turn left
          (λ y' p' history'. record { alone = alone; lawful = after.lawful y' p' history' }) refl);
      called = subst (λ ts. CalledRun meaning c.args.engine.now (table_rows c.args.tables.now) ts left.engine left.held) (sym (take_more_set turns i turn within))
          (one_more turn left before.called alone refl);
      calls = map-set_same (λ t. t.call) turns i turn c.turn-item.result refl ∙ before.calls;
      sources = map-set_same (λ t. t.source) turns i turn c.turn-item.result refl ∙ before.sources;
      sizes = record {
        buys = after.sizes.buys ∙ before.sizes.buys;
        sells = after.sizes.sells ∙ before.sizes.sells;
        bids = after.sizes.bids ∙ before.sizes.bids;
        offers = after.sizes.offers ∙ before.sizes.offers;
        tickets = after.sizes.tickets ∙ before.sizes.tickets;
      };
      names = record {
        buys = after.names.buys ∙ before.names.buys;
        sells = after.names.sells ∙ before.names.sells;
        bids = after.names.bids ∙ before.names.bids;
        offers = after.names.offers ∙ before.names.offers;
        tickets = after.names.tickets ∙ before.names.tickets;
      };
    }

pub returns-clause-run : goal.returns-clause-run
returns-clause-run g c y p history =
    let all = take_all c.loop-turn.turn-index c.loop-turn.turns (omega arith) in
    subst (λ ts. IsPlayed g.S.QuoteSource.meaning c.args.engine.now (table_rows c.args.tables.now) y p ts c.loop-turn.engine (table_rows c.loop-turn.tables)) all (c.loop-turn.invariant.run y p history)

pub returns-clause-called : goal.returns-clause-called
returns-clause-called g c =
    let all = take_all c.loop-turn.turn-index c.loop-turn.turns (omega arith) in
    subst (λ ts. CalledRun g.S.QuoteSource.meaning c.args.engine.now (table_rows c.args.tables.now) ts c.loop-turn.engine (table_rows c.loop-turn.tables)) all c.loop-turn.invariant.called
