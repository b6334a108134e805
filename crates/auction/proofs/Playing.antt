-- A run of turns, one more turn at a time.
use Rattle.std.proofs.Common.{◌≡◌, List, [], ◌∷◌, ◌++◌, Some}
use Rattle.market.specs.Markets.{Market}
use Rattle.engine.specs.Asked.{asked}
use Rattle.engine.specs.declared.state.Engine.{Engine}
use Rattle.engine.specs.States.{TableRows}
use Rattle.engine.specs.Effects.{Left}
use Rattle.auction.specs.declared.turns.PlayedCall.{PlayedCall}
use Rattle.auction.specs.Tallies.{Tally, fed}
use Rattle.auction.specs.Posts.{Posts, posted}
use Rattle.auction.specs.Histories.{History}
use Rattle.auction.specs.Played.{Promised, none, more, IsPlayed}

module _ {S : Type 0} (meaning : S → Market) (e : Engine) (h : TableRows) (y : Tally) (p : Posts) where
  pub none_played : History e h y p → IsPlayed meaning e h y p [] e h
  none_played history = record { tally = y; posts = p; run = none; goes_on = history }

  pub more_played : (turns : List (PlayedCall S)) (e' : Engine) (h' : TableRows) → IsPlayed meaning e h y p turns e' h' → (turn : PlayedCall S) (left : Left)
      → ((y' : Tally) (p' : Posts) → History e' h' y' p' → Promised e' h' y' p' (meaning turn.source) (asked turn.call) left) → turn.answer ≡ Some left.answer
      → IsPlayed meaning e h y p (turns ++ (turn ∷ [])) left.engine left.held
  more_played turns e' h' played turn left promises is =
      let promised = promises played.tally played.posts played.goes_on in
      record { tally = fed played.tally (meaning turn.source) (asked turn.call) left.answer; posts = posted played.posts (meaning turn.source) (asked turn.call) left.answer; run = more turn left played.run promised is; goes_on = promised.lawful.goes_on }
