-- Shares handed out in rank order, said by "ahead", so that it does not matter how the entries are listed.
use Rattle.std.specs.Prelude.{ℕ, ◌-◌, min, Bool, cond, List, sum_by}

module _ {E : Type 0} (ahead : E → E → Bool) (size : E → ℕ) where
  -- the shares of all entries that are ahead of one
  abbrev pub ahead_of : E → List E → ℕ
  ahead_of o xs = sum_by (λ x. cond (ahead x o) (size x) 0) xs

  -- of k shares handed out, an entry gets the smaller of its size and k less the sizes ahead of it
  abbrev pub allotted : ℕ → E → List E → ℕ
  allotted k o xs = min (size o) (k - ahead_of o xs)
