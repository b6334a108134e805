-- A call that is refused changes nothing.
use Rattle.std.proofs.Common.{◌≡◌, ℕ, true, is_ok, Some, None, Ok, Err, Option, sym, refl, ap, ◌∙◌}
use Rattle.std.proofs.lemmas.Bool.{false≢true}
use Rattle.market.specs.declared.refusal.Refusal.{Refusal}
use Rattle.market.specs.Markets.{Market}
use Rattle.market.specs.Questions.{first_no}
use Rattle.pricing.specs.declared.cause.Cause.TheVariants.{Halted}
use Rattle.pricing.specs.Outcomes.{Outcome}
use Rattle.engine.specs.Asked.{Asked, Close}
use Rattle.engine.specs.declared.state.Engine.{Engine}
use Rattle.engine.specs.States.{TableRows}
use Rattle.engine.specs.Questions.{questions}
use Rattle.engine.specs.Effects.{Left, unless, close, done}
use Rattle.engine.specs.Steps.{Called, Untouched}

-- every granted call answers
close_ok : (e : Engine) (m : Market) (h : TableRows) (time : ℕ) (x : Outcome) → is_ok (close e m h time x).answer ≡ true
close_ok e m h time (Ok x) = refl
close_ok e m h time (Err Halted) = refl
close_ok e m h time (Err cause) = refl

pub granted_ok : (e : Engine) (m : Market) (h : TableRows) (call : Asked) (x : Outcome) → is_ok (done e m h call x).answer ≡ true
granted_ok e m h (Close time last) x = close_ok e m h time x
granted_ok e m h call x = refl

untouched_by : (asked : Option Refusal) (e : Engine) (h : TableRows) (left : Left) → is_ok left.answer ≡ true → Untouched e h (unless asked e h left)
untouched_by (Some refusal) e h left ok is = (refl, refl)
untouched_by None e h left ok is = absurd (false≢true (sym is ∙ ok))

pub call_untouched : (e : Engine) (m : Market) (h : TableRows) (call : Asked) (left : Left) → Called e m h call left → Untouched e h left
call_untouched e m h call left c is =
    let r = untouched_by (first_no (questions e m h call)) e h (done e m h call c.outcome) (granted_ok e m h call c.outcome) (sym (ap (λ l. is_ok l.answer) c.is) ∙ is) in
    (ap (λ l. l.engine) c.is ∙ r.0, ap (λ l. l.held) c.is ∙ r.1)
