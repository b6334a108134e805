use Rattle.std.proofs.Common.{◌≡◌, map, take}
use Rattle.engine.specs.States.{table_rows, SameTables}
use Rattle.engine.specs.Steps.{SameSizes}
use Rattle.auction.specs.Tallies.{Tally}
use Rattle.auction.specs.Posts.{Posts}
use Rattle.auction.specs.Histories.{History}
use Rattle.auction.specs.Played.{CalledRun, IsPlayed}
use Rattle.auction.proofs.turns.call_all.Given as goal

-- the turns so far are a run; no call and no source has changed
abbrev pub invariant-loop-turn : goal.invariant-loop-turn
invariant-loop-turn g l =
    record {
      run : (y : Tally) (p : Posts) → History l.initial.engine (table_rows l.initial.tables) y p
          → IsPlayed g.S.QuoteSource.meaning l.initial.engine (table_rows l.initial.tables) y p (take l.turn-index l.turns) l.engine (table_rows l.tables);
      called : CalledRun g.S.QuoteSource.meaning l.initial.engine (table_rows l.initial.tables) (take l.turn-index l.turns) l.engine (table_rows l.tables);
      calls : map (λ turn. turn.call) l.turns ≡ map (λ turn. turn.call) l.initial.turns;
      sources : map (λ turn. turn.source) l.turns ≡ map (λ turn. turn.source) l.initial.turns;
      sizes : SameSizes (table_rows l.tables) (table_rows l.initial.tables);
      names : SameTables l.initial.tables l.tables;
    }
