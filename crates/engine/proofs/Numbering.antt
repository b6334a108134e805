-- The numbers of an answer, by the call and by what it met.
use Rattle.std.proofs.Common.{◌≡◌, ℕ, Bool, true, false, cond, List, [], ◌∷◌, map, is_ok, Some, None, Ok, Err, Option, Result, sym, refl, ap, ◌∙◌, subst, arith}
use Rattle.std.proofs.lemmas.Bool.{false≢true}
use Rattle.market.specs.declared.refusal.Refusal.{Refusal}
use Rattle.market.specs.declared.refusal.Refusal.TheVariants.{TableSizes}
use Rattle.market.specs.Refusals.{refusal_number}
use Rattle.market.specs.Markets.{Market}
use Rattle.market.specs.Questions.{Question, first_no}
use Rattle.pricing.specs.declared.cause.Cause.TheVariants.{NothingToTrade, LockedOrCrossed, NoReference, Halted}
use Rattle.pricing.specs.Books.{Sound}
use Rattle.pricing.specs.Outcomes.{Outcome, IsOutcome}
use Rattle.engine.specs.Asked.{Asked, Begin, Close}
use Rattle.engine.specs.declared.answer.Answer.{Answer}
use Rattle.engine.specs.declared.answer.Answer.TheVariants.{Done, Cancelled, Priced, Unpriced, Executed}
use Rattle.engine.specs.declared.state.Engine.{Engine}
use Rattle.engine.specs.Answers.{numbers_of, met_number, stage_number}
use Rattle.engine.specs.States.{TableRows}
use Rattle.engine.specs.Questions.{sizes_fit, own_questions, questions}
use Rattle.engine.specs.Effects.{Left, unless, book_in, close, done}
use Rattle.engine.specs.Steps.{PricedBy, Called}
use Rattle.engine.proofs.Refusing.{granted_ok}
use Rattle.engine.proofs.Staging.{stage_is}
use Rattle.engine.specs.Numbered.{in_stage, own_numbered, numbered, first_number, priced, nothing_to_trade, locked_or_crossed, no_reference, trading_halted, CloseNumbers, Answered, Numbered}

-- no refusal has the number 0
positive : (r : Refusal) → refusal_number r ≡ 0 → ⊥
positive TableSizes h = absurd (omega arith)
positive refusal h = absurd (omega arith)

abbrev pair : Question → ℕ × Bool
pair q = (refusal_number q.refusal, q.yes)

number_by : (t : Bool) (refusal : Refusal) (o : Option Refusal) (n : ℕ) → met_number o ≡ n → met_number (cond t o (Some refusal)) ≡ cond t n (refusal_number refusal)
number_by true refusal o n is = is
number_by false refusal o n is = refl

number_is : (qs : List Question) → met_number (first_no qs) ≡ first_number (map pair qs)
number_is [] = refl
number_is (q ∷ qs) = number_by q.yes q.refusal (first_no qs) (first_number (map pair qs)) (number_is qs)

-- what is granted has no refusal's number
no_refusal : (answer' : Result Answer Refusal) → is_ok answer' ≡ true → (numbers_of answer').refusal ≡ 0
no_refusal (Ok answer') ok = granted_none answer'
  where
    granted_none : (answer' : Answer) → (numbers_of (Ok answer')).refusal ≡ 0
    granted_none Done = refl
    granted_none (Cancelled shares) = refl
    granted_none (Priced price count tickets) = refl
    granted_none (Unpriced cause) = refl
    granted_none (Executed shares) = refl
no_refusal (Err refusal) ok = absurd (false≢true ok)

module _ (e : Engine) (m : Market) (h : TableRows) where
  own_pairs : (call : Asked) → map pair (own_questions e m h call) ≡ own_numbered e m h call
  own_pairs (Begin time order facts) = refl
  own_pairs call = refl

  pairs : (call : Asked) → map pair (questions e m h call) ≡ numbered e m h call
  pairs call =
      ap (λ t. (1, sizes_fit h) ∷ ((2, t) ∷ map pair (own_questions e m h call))) (stage_is call e.stage)
      ∙ ap (λ qs. (1, sizes_fit h) ∷ ((2, in_stage call (stage_number e.stage)) ∷ qs)) (own_pairs call)

  -- the number of the refusal that a call meets
  pub met_is : (call : Asked) → met_number (first_no (questions e m h call)) ≡ first_number (numbered e m h call)
  met_is call = number_is (questions e m h call) ∙ ap first_number (pairs call)

  close_numbers : (time last : ℕ) (x : Outcome) → (Sound (book_in e m h) → IsOutcome m.halted (book_in e m h) last x)
      → CloseNumbers e m h last (numbers_of (close e m h time x).answer).close
  close_numbers time last (Ok x) closing = record {
    rule = λ sound. let c = closing sound in priced c.0 c.1.0 c.1.1;
    tickets = λ _. refl;
    zeros = λ not_0. absurd (not_0 refl);
  }
  close_numbers time last (Err Halted) closing = record { rule = λ sound. trading_halted (closing sound); tickets = λ is. absurd (omega arith); zeros = λ _. refl }
  close_numbers time last (Err LockedOrCrossed) closing = record { rule = λ sound. let c = closing sound in locked_or_crossed c.0 c.1; tickets = λ is. absurd (omega arith); zeros = λ _. refl }
  close_numbers time last (Err NothingToTrade) closing = record { rule = λ sound. let c = closing sound in nothing_to_trade c.0 c.1; tickets = λ is. absurd (omega arith); zeros = λ _. refl }
  close_numbers time last (Err NoReference) closing = record { rule = λ sound. let c = closing sound in no_reference c.0 c.1.0 c.1.1; tickets = λ is. absurd (omega arith); zeros = λ _. refl }

  -- a granted call has no refusal's number, and a close no shares
  granted_0 : (call : Asked) (x : Outcome) → (numbers_of (done e m h call x).answer).refusal ≡ 0
  granted_0 call x = no_refusal (done e m h call x).answer (granted_ok e m h call x)

  no_shares : (time : ℕ) (x : Outcome) → (numbers_of (close e m h time x).answer).shares ≡ 0
  no_shares time (Ok x) = refl
  no_shares time (Err Halted) = refl
  no_shares time (Err cause) = refl

  granted_numbers : (call : Asked) (x : Outcome) → PricedBy None e m h call x
      → Answered e m h call (numbers_of (done e m h call x).answer).shares (numbers_of (done e m h call x).answer).close
  granted_numbers (Close time last) x pricing = (no_shares time x, close_numbers time last x (pricing refl))
  granted_numbers call x pricing = (refl, refl)

  left_numbers : (call : Asked) (x : Outcome) (r : Option Refusal) → met_number r ≡ first_number (numbered e m h call) → PricedBy r e m h call x
      → Numbered e m h call (numbers_of (unless r e h (done e m h call x)).answer)
  left_numbers call x (Some refusal) is pricing = record { refusal = is; refused = λ _. refl; granted = λ none. absurd (positive refusal none) }
  left_numbers call x None is pricing =
      let none = granted_0 call x in
      record { refusal = none ∙ is; refused = λ not_0. absurd (not_0 none); granted = λ _. granted_numbers call x pricing }

  pub call_numbered : (call : Asked) (left : Left) → Called e m h call left → Numbered e m h call (numbers_of left.answer)
  call_numbered call left c =
      subst (λ l. Numbered e m h call (numbers_of l.answer)) (sym c.is) (left_numbers call c.outcome (first_no (questions e m h call)) (met_is call) c.pricing)
