-- What every call promises, whatever calls came before it.
use Rattle.std.specs.Prelude.{◌≡◌, ℕ, true, is_ok, None, Ok, Option, Result}
use Rattle.market.specs.declared.refusal.Refusal.{Refusal}
use Rattle.market.specs.Markets.{Market}
use Rattle.engine.specs.Asked.{Asked}
use Rattle.engine.specs.declared.state.Engine.{Engine}
use Rattle.engine.specs.States.{TableRows}
use Rattle.engine.specs.Questions.{sizes_fit}
use Rattle.engine.specs.Outstanding.{outstanding_of}
use Rattle.engine.specs.Effects.{Left}
use Rattle.engine.specs.Steps.{SameSizes}
use Rattle.auction.specs.Tallies.{Tally, fed}
use Rattle.auction.specs.Posts.{Posts, posted}
use Rattle.auction.specs.Histories.{History}
use Rattle.auction.specs.Laws.{CallLaws, OpenBy, Standing}

-- the run goes on with the tally fed by the call and with what the call passed over, the laws of
-- the call hold between the two tallies, after a granted call a cycle has begun, and what always
-- stands does so again
pub record Lawful (y : Tally) (p : Posts) (m : Market) (call : Asked) (left : Left) : Type 0 where
  pub goes_on
      : History left.engine left.held (fed y m call left.answer) (posted p m call left.answer)
  pub laws : CallLaws y m call left.answer (fed y m call left.answer)
  pub begun : is_ok left.answer ≡ true → (fed y m call left.answer).begun ≡ true
  pub stands : Standing left.engine left.held (fed y m call left.answer)

-- what outstanding answers before the first granted begin: none on tables of the right sizes, and
-- it reads no row
pub record NoneYet (e : Engine) (h : TableRows) (answer' : Result (Option ℕ) Refusal) : Type 0 where
  pub none : sizes_fit h ≡ true → answer' ≡ Ok None
  pub unread : (h' : TableRows) → SameSizes h h' → outstanding_of e h' ≡ answer'

-- what outstanding answers once a cycle has begun: it is not refused, and names a ticket of the
-- tally that is not reported, or says that all are
pub record OpenNow (y : Tally) (answer' : Result (Option ℕ) Refusal) : Type 0 where
  pub ticket : Option ℕ
  pub answered : answer' ≡ Ok ticket
  pub by_tally : OpenBy y ticket
