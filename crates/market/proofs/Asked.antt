-- Where no question is answered "no", each is answered "yes".
use Rattle.std.proofs.Common.{◌≡◌, ℕ, Bool, true, false, cond, List, [], ◌∷◌, Some, None, Option, refl, arith}
use Rattle.std.specs.List.{AllByRecursion}
use Rattle.market.specs.declared.refusal.Refusal.{Refusal}
use Rattle.market.specs.Questions.{Question, first_no}

yes_by : (t : Bool) (later : Option Refusal) (r : Refusal) → cond t later (Some r) ≡ None → (t ≡ true) × (later ≡ None)
yes_by true later r k = (refl, k)
yes_by false later r k = absurd (let z : ◌≡◌ {A = ℕ} 0 1 = cc in omega arith)

pub all_yes : (qs : List Question) → first_no qs ≡ None → AllByRecursion (λ q. q.yes ≡ true) qs
all_yes [] k = tt
all_yes (q ∷ qs) k =
    let both = yes_by q.yes (first_no qs) q.refusal k in
    (both.0, all_yes qs both.1)
