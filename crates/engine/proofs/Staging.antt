-- The stages in which a call may come, by their numbers.
use Rattle.std.proofs.Common.{◌≡◌, refl}
use Rattle.engine.specs.Asked.{Asked, Begin}
use Rattle.engine.specs.declared.stage.Stage.{Stage}
use Rattle.engine.specs.declared.stage.Stage.TheVariants.{Open, Acceptance, Satisfaction, Matched}
use Rattle.engine.specs.Answers.{stage_number}
use Rattle.engine.specs.Questions.{stage_fits}
use Rattle.engine.specs.Numbered.{in_stage}
use Rattle.engine.specs.Laws.{StagesFit}

stage_by : (s : Stage) (call : Asked) → stage_fits call s ≡ in_stage call (stage_number s)
stage_by Open (Begin time order facts) = refl
stage_by Open call = refl
stage_by (Acceptance closes) (Begin time order facts) = refl
stage_by (Acceptance closes) call = refl
stage_by (Satisfaction price deadline) (Begin time order facts) = refl
stage_by (Satisfaction price deadline) call = refl
stage_by Matched (Begin time order facts) = refl
stage_by Matched call = refl

pub stage_is : (call : Asked) (s : Stage) → stage_fits call s ≡ in_stage call (stage_number s)
stage_is call s = stage_by s call

pub stages_fit : StagesFit
stages_fit = record { when_open = refl; in_acceptance = λ closes. refl; in_satisfaction = λ price deadline. refl; when_matched = refl; fits = stage_is }
