-- The last accepted time and the end of the last cycle after each granted call.
use Rattle.std.proofs.Common.{ℕ, Some, None, Ok, Err, Option, IfOk, sym, refl, subst}
use Rattle.market.specs.declared.refusal.Refusal.{Refusal}
use Rattle.market.specs.Markets.{Market}
use Rattle.market.specs.Questions.{first_no}
use Rattle.pricing.specs.declared.cause.Cause.TheVariants.{Halted}
use Rattle.pricing.specs.Outcomes.{Outcome}
use Rattle.engine.specs.Asked.{Asked, Close}
use Rattle.engine.specs.declared.state.Engine.{Engine}
use Rattle.engine.specs.States.{TableRows}
use Rattle.engine.specs.Questions.{questions}
use Rattle.engine.specs.Effects.{Left, unless, done}
use Rattle.engine.specs.Steps.{Called}
use Rattle.engine.specs.Clock.{Clock}

abbrev Clocked : Engine → Asked → Left → Type 0
Clocked e call left = IfOk left.answer (λ answer'. Clock e call answer' left.engine)

module _ (e : Engine) (m : Market) (h : TableRows) where
  granted_clock : (call : Asked) (x : Outcome) → Clocked e call (done e m h call x)
  granted_clock (Close time last) x = closed_clock time last x
    where
      closed_clock : (time last : ℕ) (x : Outcome) → Clocked e (Close time last) (done e m h (Close time last) x)
      closed_clock time last (Ok x) = record { issue = refl; last_time = refl; last_end = refl; fixed_price = refl }
      closed_clock time last (Err Halted) = record { issue = refl; last_time = refl; last_end = refl; fixed_price = refl }
      closed_clock time last (Err cause) = record { issue = refl; last_time = refl; last_end = refl; fixed_price = refl }
  granted_clock call x = record { issue = refl; last_time = refl; last_end = refl; fixed_price = refl }

  left_clock : (call : Asked) (x : Outcome) (r : Option Refusal) → Clocked e call (unless r e h (done e m h call x))
  left_clock call x (Some refusal) = tt
  left_clock call x None = granted_clock call x

  pub call_clock : (call : Asked) (left : Left) → Called e m h call left → IfOk left.answer (λ answer'. Clock e call answer' left.engine)
  call_clock call left c = subst (Clocked e call) (sym c.is) (left_clock call c.outcome (first_no (questions e m h call)))
