-- A call's questions in their order: the first "no" refuses.
use Rattle.std.specs.Prelude.{Bool, cond, List, [], ◌∷◌, Some, None, Option}
use Rattle.market.specs.declared.refusal.Refusal.{Refusal}

-- a question, answered yes or no, with the refusal that a "no" gives
pub record Question : Type 0 where
  pub yes : Bool
  pub refusal : Refusal

abbrev pub first_no : List Question → Option Refusal
first_no [] = None
first_no (q ∷ qs) = cond q.yes (first_no qs) (Some q.refusal)
