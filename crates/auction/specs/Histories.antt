-- The runs of calls since an engine was made, with the tally of each and what it passed over beside
-- the tally.
use Rattle.market.specs.Markets.{Market}
use Rattle.engine.specs.Asked.{Asked}
use Rattle.engine.specs.declared.stage.Issue.{Issue}
use Rattle.engine.specs.declared.state.Engine.{Engine}
use Rattle.engine.specs.States.{TableRows, made}
use Rattle.engine.specs.Effects.{Left}
use Rattle.engine.specs.Steps.{Called}
use Rattle.auction.specs.Tallies.{Tally, first_tally, fed}
use Rattle.auction.specs.Posts.{Posts, no_posts, posted}

-- a just made engine with any tables; then calls of any kind, granted or refused, with any meaning
-- of their sources
pub data History : Engine → TableRows → Tally → Posts → Type 0 where
  fresh : (issue : Issue) (h : TableRows) → History (made issue) h first_tally no_posts
  more : {e : Engine} {h : TableRows} {y : Tally} {p : Posts}
      (m : Market) (call : Asked) (left : Left)
      → History e h y p → Called e m h call left
      → History left.engine left.held (fed y m call left.answer) (posted p m call left.answer)
