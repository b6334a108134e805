-- The stages of a cycle.
use Rattle.std.specs.Prelude.{ℕ, Bool, true, false}
use Rattle.engine.specs.declared.stage.Stage.{Stage}
use Rattle.engine.specs.declared.stage.Stage.TheVariants.{Open, Acceptance, Satisfaction, Matched}

abbrev pub is_open : Stage → Bool
is_open Open = true
is_open stage = false

abbrev pub is_acceptance : Stage → Bool
is_acceptance (Acceptance closes) = true
is_acceptance stage = false

abbrev pub is_satisfaction : Stage → Bool
is_satisfaction (Satisfaction price deadline) = true
is_satisfaction stage = false

abbrev pub is_matched : Stage → Bool
is_matched Matched = true
is_matched stage = false

-- when acceptance may be closed, and the deadline of tickets; 0 in another stage
abbrev pub closes_at : Stage → ℕ
closes_at (Acceptance closes) = closes
closes_at stage = 0

abbrev pub deadline_of : Stage → ℕ
deadline_of (Satisfaction price deadline) = deadline
deadline_of stage = 0

-- the price that is fixed; 0 in another stage
abbrev pub price_of : Stage → ℕ
price_of (Satisfaction price deadline) = price
price_of stage = 0
