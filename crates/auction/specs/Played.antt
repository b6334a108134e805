-- Runs of many calls, each of them lawful.
use Rattle.std.specs.Prelude.{◌≡◌, List, [], ◌∷◌, ◌++◌, Some, IfOk}
use Rattle.market.specs.Markets.{Market}
use Rattle.engine.specs.Asked.{Asked}
use Rattle.engine.specs.Asked.{asked}
use Rattle.engine.specs.declared.state.Engine.{Engine}
use Rattle.engine.specs.Answers.{numbers_of}
use Rattle.engine.specs.States.{TableRows}
use Rattle.engine.specs.Effects.{Left}
use Rattle.engine.specs.Steps.{Called, Untouched, Unread}
use Rattle.engine.specs.Clock.{Clock}
use Rattle.engine.specs.Numbered.{Numbered}
use Rattle.auction.specs.declared.turns.PlayedCall.{PlayedCall}
use Rattle.auction.specs.Tallies.{Tally, fed}
use Rattle.auction.specs.Posts.{Posts, posted}
use Rattle.auction.specs.Histories.{History}
use Rattle.auction.specs.Runs.{Lawful}

-- all that is promised of one call, of any engine and tables
pub record Alone (e : Engine) (h : TableRows) (m : Market) (call : Asked) (left : Left)
    : Type 0 where
  pub called : Called e m h call left
  pub refused : Untouched e h left
  pub unread : Unread e m h call left
  pub clock : IfOk left.answer (λ answer'. Clock e call answer' left.engine)
  pub numbers : Numbered e m h call (numbers_of left.answer)

-- the same of one call of a run, with the laws of runs
pub record Promised
    (e : Engine) (h : TableRows) (y : Tally) (p : Posts) (m : Market) (call : Asked) (left : Left)
    : Type 0 where
  pub alone : Alone e h m call left
  pub lawful : Lawful y p m call left

-- from an engine and its tables, with no run before: no turn yet, or one more, with the market that
-- its source means
pub data CalledRun {S : Type 0} (meaning : S → Market) (e : Engine) (h : TableRows)
    : List (PlayedCall S) → Engine → TableRows → Type 0 where
  no_turn : CalledRun meaning e h [] e h
  one_more : {turns : List (PlayedCall S)} {e' : Engine} {h' : TableRows}
      (turn : PlayedCall S) (left : Left)
      → CalledRun meaning e h turns e' h'
      → Alone e' h' (meaning turn.source) (asked turn.call) left → turn.answer ≡ Some left.answer
      → CalledRun meaning e h (turns ++ (turn ∷ [])) left.engine left.held

-- from an engine, its tables, their tally and what was passed over beside it: no turn yet, or one
-- more, with the market that its source means
pub data LawfulRun
    {S : Type 0} (meaning : S → Market) (e : Engine) (h : TableRows) (y : Tally) (p : Posts)
    : List (PlayedCall S) → Engine → TableRows → Tally → Posts → Type 0 where
  none : LawfulRun meaning e h y p [] e h y p
  more : {turns : List (PlayedCall S)} {e' : Engine} {h' : TableRows} {y' : Tally} {p' : Posts}
      (turn : PlayedCall S) (left : Left)
      → LawfulRun meaning e h y p turns e' h' y' p'
      → Promised e' h' y' p' (meaning turn.source) (asked turn.call) left
      → turn.answer ≡ Some left.answer
      → LawfulRun meaning e h y p (turns ++ (turn ∷ [])) left.engine left.held
      (fed y' (meaning turn.source) (asked turn.call) left.answer)
      (posted p' (meaning turn.source) (asked turn.call) left.answer)

-- the turns are such a run, to the end of which the history goes on
pub record IsPlayed
    {S : Type 0} (meaning : S → Market) (e : Engine) (h : TableRows) (y : Tally) (p : Posts)
    (turns : List (PlayedCall S)) (e' : Engine) (h' : TableRows) : Type 0 where
  pub tally : Tally
  pub posts : Posts
  pub run : LawfulRun meaning e h y p turns e' h' tally posts
  pub goes_on : History e' h' tally posts
