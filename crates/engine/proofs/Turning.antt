-- A call that is refused, and one that is granted.
use Rattle.std.proofs.Common.{◌≡◌, ℕ, Some, None, Err, true, refl, sym, subst, arith}
use Rattle.market.specs.declared.refusal.Refusal.{Refusal}
use Rattle.market.specs.Markets.{Market}
use Rattle.market.specs.Questions.{first_no}
use Rattle.pricing.specs.declared.cause.Cause.TheVariants.{NothingToTrade}
use Rattle.pricing.specs.Outcomes.{Outcome}
use Rattle.engine.specs.Asked.{Asked, Close}
use Rattle.engine.specs.declared.state.Engine.{Engine}
use Rattle.engine.specs.States.{TableRows}
use Rattle.engine.specs.Questions.{questions}
use Rattle.engine.specs.Effects.{Left, refused, done}
use Rattle.engine.proofs.Answered.{answer_to, yes_of}
use Rattle.engine.specs.Steps.{PricedBy, Stepped, Called}

-- of a refused call nothing is priced
none_priced : (refusal : Refusal) (e : Engine) (m : Market) (h : TableRows) (call : Asked) (x : Outcome) → PricedBy (Some refusal) e m h call x
none_priced refusal e m h (Close time last) x = λ k. absurd (let z : ◌≡◌ {A = ℕ} 0 1 = cc in omega arith)
none_priced refusal e m h call x = tt

module _ (e : Engine) (m : Market) (h : TableRows) (call : Asked) where
  pub refused_by : (refusal : Refusal) → first_no (questions e m h call) ≡ Some refusal → Called e m h call (refused e h refusal)
  refused_by refusal met =
      subst (λ a. Stepped a e m h call (refused e h refusal)) (sym met) (record { outcome = Err NothingToTrade; pricing = none_priced refusal e m h call (Err NothingToTrade); is = refl })

  -- the call as it was matched
  module _ (known : Asked) (is : call ≡ known) (none : first_no (questions e m h call) ≡ None) where
    -- the question with a refusal was answered yes
    pub answered : (refusal : Refusal) → answer_to refusal (questions e m h known) ≡ true
    answered refusal = yes_of refusal (questions e m h known) (subst (λ k. first_no (questions e m h k) ≡ None) is none)

    pub granted_by : (left : Left) (x : Outcome) → PricedBy None e m h known x → left ≡ done e m h known x → Called e m h call left
    granted_by left x priced step =
        subst (λ k. Called e m h k left) (sym is) (
        subst (λ a. Stepped a e m h known left) (sym (subst (λ k. first_no (questions e m h k) ≡ None) is none)) (record { outcome = x; pricing = priced; is = step })
        )
