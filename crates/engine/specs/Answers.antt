-- The numbers that stand for stages and answers.
use Rattle.std.specs.Prelude.{ℕ, Some, None, Ok, Err, Option, Result}
use Rattle.market.specs.declared.refusal.Refusal.{Refusal}
use Rattle.market.specs.Refusals.{refusal_number, answer_number}
use Rattle.pricing.specs.Outcomes.{cause_number}
use Rattle.engine.specs.declared.answer.Answer.{Answer}
use Rattle.engine.specs.declared.answer.Answer.TheVariants.{Done, Cancelled, Priced, Unpriced, Executed}
use Rattle.engine.specs.declared.answer.CloseAnswer.{CloseAnswer}
use Rattle.engine.specs.declared.answer.Numbers.{Numbers}
use Rattle.engine.specs.declared.stage.Stage.{Stage}
use Rattle.engine.specs.declared.stage.Stage.TheVariants.{Open, Acceptance, Satisfaction, Matched}

abbrev pub stage_number : Stage → ℕ
stage_number Open = 0
stage_number (Acceptance closes) = 1
stage_number (Satisfaction price deadline) = 2
stage_number Matched = 3

-- what a close answers in numbers: its cause, 0 with price, count and the number of tickets, or another with zeros
abbrev pub close_answer : ℕ → ℕ → ℕ → ℕ → CloseAnswer
close_answer cause price count tickets = record { cause = cause; price = price; count = count; tickets = tickets }

abbrev pub no_close_answer : CloseAnswer
no_close_answer = close_answer 0 0 0 0

abbrev pub numbers : ℕ → ℕ → CloseAnswer → Numbers
numbers refusal shares closing' = record { refusal = refusal; shares = shares; close = closing' }

-- the numbers of a whole answer: that of the refusal, or 0 with what a call of its kind answers; all else is 0
abbrev pub numbers_of : Result Answer Refusal → Numbers
numbers_of (Err refusal) = numbers (answer_number {A = Answer} (Err refusal)) 0 no_close_answer
numbers_of (Ok Done) = numbers 0 0 no_close_answer
numbers_of (Ok (Cancelled shares)) = numbers 0 shares no_close_answer
numbers_of (Ok (Priced price count tickets)) = numbers 0 0 (close_answer 0 price count tickets)
numbers_of (Ok (Unpriced cause)) = numbers 0 0 (close_answer (cause_number cause) 0 0 0)
numbers_of (Ok (Executed shares)) = numbers 0 shares no_close_answer

-- the number of the refusal that a call meets: 0 where it is granted
abbrev pub met_number : Option Refusal → ℕ
met_number None = 0
met_number (Some refusal) = refusal_number refusal

-- of a call that was granted
abbrev pub shares_in : Answer → ℕ
shares_in answer' = (numbers_of (Ok answer')).shares

abbrev pub close_answer_in : Answer → CloseAnswer
close_answer_in answer' = (numbers_of (Ok answer')).close
