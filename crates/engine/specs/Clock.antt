-- What a granted call leaves of the engine besides its stage and the rows in use: the issue, the last accepted time, the end of the
-- last cycle, and the price of the last match.
use Rattle.std.specs.Prelude.{◌≡◌, ℕ, cond, ◌==◌, Some, None, Option}
use Rattle.engine.specs.declared.answer.Answer.{Answer}
use Rattle.engine.specs.Asked.{Asked, Begin, Close, Match, Finish, Abort}
use Rattle.engine.specs.declared.state.Engine.{Engine}
use Rattle.engine.specs.Answers.{close_answer_in}
use Rattle.engine.specs.Stages.{price_of}

pub record At (e : Engine) (last end fixed : Option ℕ) (e' : Engine) : Type 0 where
  pub issue : e'.issue ≡ e.issue
  pub last_time : e'.last_time ≡ last
  pub last_end : e'.last_end ≡ end
  pub fixed_price : e'.fixed ≡ fixed

-- the time of a call that has one
abbrev pub time_of : Asked → Option ℕ
time_of (Begin time order facts) = Some time
time_of (Close time last) = Some time
time_of (Match time) = Some time
time_of (Finish time) = Some time
time_of (Abort time) = Some time
time_of call = None

-- the time at which a call ends the cycle: a finish and an abort do, and a close that finds trading halted, cause 4
abbrev pub end_of : Asked → Answer → Option ℕ
end_of (Finish time) answer' = Some time
end_of (Abort time) answer' = Some time
end_of (Close time last) answer' = cond ((close_answer_in answer').cause == 4) (Some time) None
end_of call answer' = None

-- the price of the last match: a begin forgets it, and a match keeps the one that its stage has
abbrev pub fixed_after : Engine → Asked → Option ℕ
fixed_after e (Begin time order facts) = None
fixed_after e (Match time) = Some (price_of e.stage)
fixed_after e call = e.fixed

-- a later time, or else what was
abbrev pub or_else : Option ℕ → Option ℕ → Option ℕ
or_else (Some time) before = Some time
or_else None before = before

-- a call that has a time makes it the last accepted one, and one that ends the cycle keeps its time as the end
abbrev pub Clock : Engine → Asked → Answer → Engine → Type 0
Clock e call answer' e' =
    At e (or_else (time_of call) e.last_time) (or_else (end_of call answer') e.last_end) (fixed_after e call) e'
