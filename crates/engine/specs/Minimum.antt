-- The minimum size of a start order.
use Rattle.std.specs.Prelude.{ℕ, cond, List, [], ◌∷◌, nat_le}
use Rattle.engine.specs.declared.stage.Issue.{Issue}
use Rattle.engine.specs.declared.stage.Issue.TheVariants.{Ordinary, Special}

-- from a price up, so many shares
pub record MinimumStep : Type 0 where
  pub price : ℕ
  pub shares : ℕ

abbrev pub steps : List MinimumStep
steps =
    record { price = 2; shares = 100000 }
    ∷ record { price = 20000; shares = 50000 }
    ∷ record { price = 100000; shares = 25000 }
    ∷ record { price = 500000; shares = 20000 }
    ∷ record { price = 1000000; shares = 10000 }
    ∷ record { price = 2000000; shares = 5000 }
    ∷ record { price = 10000000; shares = 2500 }
    ∷ []

-- the shares of the last step at the price or lower
abbrev pub last_step : ℕ → ℕ → List MinimumStep → ℕ
last_step price shares [] = shares
last_step price shares (s ∷ ss) = last_step price (cond (nat_le s.price price) s.shares shares) ss

abbrev pub ordinary_minimum : ℕ → ℕ
ordinary_minimum price = last_step price 100000 steps

abbrev pub minimum : Issue → ℕ → ℕ
minimum Ordinary price = ordinary_minimum price
minimum Special price = 100
