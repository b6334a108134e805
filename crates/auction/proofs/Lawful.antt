-- Every call of every run is lawful.
use Rattle.market.specs.Markets.{Market}
use Rattle.engine.specs.Asked.{Asked}
use Rattle.engine.specs.declared.state.Engine.{Engine}
use Rattle.engine.specs.States.{TableRows}
use Rattle.engine.specs.Effects.{Left}
use Rattle.engine.specs.Steps.{Called}
use Rattle.auction.specs.Tallies.{Tally, fed}
use Rattle.auction.specs.Posts.{Posts, posted}
use Rattle.auction.specs.Histories.{History, more}
use Rattle.auction.specs.Runs.{Lawful}
use Rattle.auction.proofs.Granting.{after_call}
use Rattle.auction.proofs.Kept.{run_kept, run_standing}

pub call_lawful : (e : Engine) (h : TableRows) (y : Tally) (p : Posts) (m : Market) (call : Asked) (left : Left) → History e h y p
    → Called e m h call left → Lawful y p m call left
call_lawful e h y p m call left run called =
    let goes : History left.engine left.held (fed y m call left.answer) (posted p m call left.answer) = more m call left run called in
    let after = after_call e m h y (run_kept run) call left called in
    record { goes_on = goes; laws = after.laws; begun = after.begun; stands = run_standing goes }
