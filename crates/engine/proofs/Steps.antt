-- The minimum of a start order: the shares of the last step at its price or lower.
use Rattle.std.proofs.Common.{◌≡◌, ℕ, Bool, true, false, cond, leb, Some, None, Option, refl}
use Rattle.std.specs.List.{find}
use Rattle.std.specs.Prelude.{reverse, map}
use Rattle.engine.specs.declared.minimum.Step.{Step}
use Rattle.engine.specs.Minimum.{MinimumStep, steps, ordinary_minimum}

-- a step as the code's table has it
abbrev pub code_step : MinimumStep → Step
code_step s = record { price = s.price; shares = s.shares }

abbrev pub shares_or : Option Step → ℕ
shares_or None = 100000
shares_or (Some s) = s.shares

by_step : (t : Bool) (s : Step) (n : ℕ) (o : Option Step) → n ≡ shares_or o → cond t s.shares n ≡ shares_or (cond t (Some s) o)
by_step true s n o e = refl
by_step false s n o e = e

pub found : (price : ℕ) → ordinary_minimum price ≡ shares_or (find (λ s. leb s.price price) (reverse (map code_step steps)))
found price =
    by_step (leb 10000000 price) _ _ _ (
    by_step (leb 2000000 price) _ _ _ (by_step (leb 1000000 price) _ _ _ (by_step (leb 500000 price) _ _ _ (
    by_step (leb 100000 price) _ _ _ (by_step (leb 20000 price) _ _ _ (by_step (leb 2 price) _ _ _ refl)))))
    )
