-- What a line that is not refused is answered.
use Rattle.std.specs.Prelude.{List, [], ◌∷◌, ◌++◌, ℕ, Ok, codes, decimal}
use Rattle.engine.specs.declared.answer.Answer.{Answer}
use Rattle.engine.specs.declared.answer.Answer.TheVariants.{Done, Cancelled, Priced, Unpriced, Executed}
use Rattle.engine.specs.declared.answer.Numbers.{Numbers}
use Rattle.engine.specs.Answers.{numbers_of}
use Rattle.engine.specs.Outstanding.{outstanding_numbers}
use Rattle.play_calls.specs.declared.reply.Reply.{Reply}
use Rattle.play_calls.specs.declared.reply.Reply.TheVariants as reply

-- numbers, a blank before each
abbrev pub numbers_text : List ℕ → List ℕ
numbers_text [] = []
numbers_text (n ∷ ns) = codes " " ++ (decimal n ++ numbers_text ns)

-- those of an answer that a call of its kind has: the shares, or cause, price, count and tickets
abbrev pub answer_numbers : Answer → Numbers → List ℕ
answer_numbers Done n = []
answer_numbers (Cancelled shares) n = n.shares ∷ []
answer_numbers (Executed shares) n = n.shares ∷ []
answer_numbers (Priced price count tickets) n = n.close.cause ∷ n.close.price ∷ n.close.count ∷ n.close.tickets ∷ []
answer_numbers (Unpriced cause) n = n.close.cause ∷ n.close.price ∷ n.close.count ∷ n.close.tickets ∷ []

abbrev pub reply_text : Reply → List ℕ
reply_text reply.Done = []
reply_text (reply.Called answer) = numbers_text (answer_numbers answer (numbers_of (Ok answer)))
reply_text (reply.Outstanding ticket) = numbers_text ((outstanding_numbers (Ok ticket)).ticket ∷ [])
