-- While the engine is open, what the rows hold changes neither the engine nor the answer of a call, nor what a granted one leaves.
use Rattle.std.proofs.Common.{◌≡◌, Bool, true, false, cond, is_ok, Some, None, Option, sym, refl, ap, ◌∙◌}
use Rattle.std.proofs.lemmas.Bool.{false≢true}
use Rattle.market.specs.declared.refusal.Refusal.{Refusal}
use Rattle.market.specs.declared.refusal.Refusal.TheVariants.{TableSizes, WrongStage}
use Rattle.market.specs.Markets.{Market}
use Rattle.market.specs.Questions.{first_no}
use Rattle.pricing.specs.Outcomes.{Outcome}
use Rattle.engine.specs.Asked.{Asked, Begin}
use Rattle.engine.specs.declared.stage.Stage.{Stage}
use Rattle.engine.specs.declared.stage.Stage.TheVariants.{Open, Acceptance, Satisfaction, Matched}
use Rattle.engine.specs.declared.state.Engine.{Engine}
use Rattle.engine.specs.Stages.{is_open}
use Rattle.engine.specs.Questions.{sizes_fit, stage_fits, own_questions, questions}
use Rattle.engine.specs.States.{TableRows, none_used}
use Rattle.engine.specs.Effects.{Left, unless, emptied, order_held, done}
use Rattle.engine.specs.Steps.{Called, SameSizes, Alike, Unread}

open_is : (s : Stage) → is_open s ≡ true → s ≡ Open
open_is Open is = refl
open_is (Acceptance closes) is = absurd (false≢true is)
open_is (Satisfaction price deadline) is = absurd (false≢true is)
open_is Matched is = absurd (false≢true is)

pub sizes_same : (h h' : TableRows) → SameSizes h h' → sizes_fit h ≡ sizes_fit h'
sizes_same h h' same = rw (same.buys, same.sells, same.bids, same.offers, same.tickets) refl

emptied_same : (h h' : TableRows) → SameSizes h h' → emptied h ≡ emptied h'
emptied_same h h' same = rw (same.buys, same.sells, same.bids, same.offers, same.tickets) refl

-- alike refused, or granted alike
unless_same : (r : Option Refusal) (e : Engine) (h h' : TableRows) (l l' : Left) → Alike l l' → Alike (unless r e h l) (unless r e h' l')
unless_same (Some refusal) e h h' l l' same = (refl, refl, λ ok. absurd (false≢true ok))
unless_same None e h h' l l' same = same

module _ (e : Engine) (m : Market) (is : is_open e.stage ≡ true) where
  -- a call for another stage is refused by the sizes of the tables, or by the stage
  refusal_is : (h : TableRows) (call : Asked) → stage_fits call Open ≡ false → first_no (questions e m h call) ≡ Some (cond (sizes_fit h) WrongStage TableSizes)
  refusal_is h call none =
      let not_yet : stage_fits call e.stage ≡ false = ap (stage_fits call) (open_is e.stage is) ∙ none in
      ap (λ t. cond (sizes_fit h) (cond t (first_no (own_questions e m h call)) (Some WrongStage)) (Some TableSizes)) not_yet
      ∙ by_sizes (sizes_fit h)
    where
      by_sizes : (t : Bool) → cond t (Some WrongStage) (Some TableSizes) ≡ Some (cond t WrongStage TableSizes)
      by_sizes true = refl
      by_sizes false = refl

  module _ (h h' : TableRows) (same : SameSizes h h') (x x' : Outcome) where
    abbrev leaves : TableRows → Asked → Outcome → Left
    leaves g call z = unless (first_no (questions e m g call)) e g (done e m g call z)

    refused_same : (call : Asked) → stage_fits call Open ≡ false → Alike (leaves h call x) (leaves h' call x')
    refused_same call none =
        let one = refusal_is h call none in
        let other = refusal_is h' call none ∙ ap (λ t. Some (cond t WrongStage TableSizes)) (sym (sizes_same h h' same)) in
        rw (one, other) (refl, refl, λ ok. absurd (false≢true ok))

    called_same : (call : Asked) → Alike (leaves h call x) (leaves h' call x')
    called_same (Begin time order facts) =
        let fits = sizes_same h h' same in
        let rows = ap (order_held order none_used) (sym (emptied_same h h' same)) in
        rw fits (unless_same (first_no (questions e m h' (Begin time order facts))) e h h' _ _ (refl, refl, λ ok. rows))
    called_same call = refused_same call refl

pub call_unread : (e : Engine) (m : Market) (h : TableRows) (call : Asked) (left : Left) → Called e m h call left → Unread e m h call left
call_unread e m h call left c fresh h' left' same c' =
    let is : is_open e.stage ≡ true = ap is_open fresh.stage in
    let both = called_same e m is h h' same c.outcome c'.outcome call in (
      ap (λ l. l.engine) c'.is ∙ both.0 ∙ sym (ap (λ l. l.engine) c.is),
      ap (λ l. l.answer) c'.is ∙ both.1 ∙ sym (ap (λ l. l.answer) c.is),
      λ ok. ap (λ l. l.held) c'.is ∙ both.2 (sym (ap (λ l. is_ok l.answer) c.is) ∙ ok) ∙ sym (ap (λ l. l.held) c.is),
    )
