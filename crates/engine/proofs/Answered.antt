-- Questions of a granted call, found by the refusal that a "no" gives: a further question moves no other.
use Rattle.std.proofs.Common.{◌≡◌, Bool, true, false, cond, eqb, List, [], ◌∷◌, None, refl}
use Rattle.std.specs.List.{AllByRecursion}
use Rattle.market.specs.declared.refusal.Refusal.{Refusal}
use Rattle.market.specs.Refusals.{refusal_number}
use Rattle.market.specs.Questions.{Question, first_no}
use Rattle.market.proofs.Asked.{all_yes}

-- the answer to the first question with a refusal; yes where there is none
abbrev pub answer_to : Refusal → List Question → Bool
answer_to refusal [] = true
answer_to refusal (q ∷ qs) = cond (eqb (refusal_number q.refusal) (refusal_number refusal)) q.yes (answer_to refusal qs)

first_or_later : (t yes' later : Bool) → yes' ≡ true → later ≡ true → cond t yes' later ≡ true
first_or_later true yes' later h k = h
first_or_later false yes' later h k = k

pub yes_to : (refusal : Refusal) (qs : List Question) → AllByRecursion (λ q. q.yes ≡ true) qs → answer_to refusal qs ≡ true
yes_to refusal [] all = refl
yes_to refusal (q ∷ qs) all =
    first_or_later (eqb (refusal_number q.refusal) (refusal_number refusal)) q.yes (answer_to refusal qs) all.0 (yes_to refusal qs all.1)

-- the same where no question was answered no
pub yes_of : (refusal : Refusal) (qs : List Question) → first_no qs ≡ None → answer_to refusal qs ≡ true
yes_of refusal qs none = yes_to refusal qs (all_yes qs none)
