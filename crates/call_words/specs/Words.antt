-- What is said of times, orders, calls and answers.
use Rattle.std.specs.Prelude.{ℕ, ◌/◌, ◌%◌, cond, List, ◌++◌, codes, decimal, ◌==◌, Result, Ok, Err}
use Rattle.market.specs.declared.refusal.Refusal.{Refusal}
use Rattle.market.specs.Refusals.{refusal_number, refusal_words}
use Rattle.pricing.specs.Causes.{cause_words}
use Rattle.pricing.specs.Outcomes.{cause_number}
use Rattle.orders.specs.declared.order.Order.{Order}
use Rattle.engine.specs.declared.answer.Answer.{Answer}
use Rattle.engine.specs.declared.answer.Answer.TheVariants.{Done, Cancelled, Priced, Unpriced, Executed}
use Rattle.engine.specs.declared.call.Call.{Call}
use Rattle.engine.specs.declared.call.Call.TheVariants.{Begin, Enter, Cancel, Close, Report, Match, Finish, Abort}
use Rattle.report.specs.Numbers.{zero_filled, grouped_text, dollars_text}

-- a time of the day, from milliseconds since midnight
abbrev pub time_text : ℕ → List ℕ
time_text time =
    zero_filled 2 (time / 3600000) ++ (codes ":" ++ (zero_filled 2 (time / 60000 % 60)
    ++ (codes ":" ++ (zero_filled 2 (time / 1000 % 60) ++ (codes "." ++ zero_filled 3 (time % 1000))))))

-- a side and a class by their numbers, which may be any
abbrev pub side_word : ℕ → List ℕ
side_word side = cond (side == 1) (codes "buy") (cond (side == 2) (codes "sell") (codes "unknown"))

abbrev pub class_word : ℕ → List ℕ
class_word class =
    cond (class == 0) (codes "displayed")
    (cond (class == 1) (codes "reserve") (cond (class == 2) (codes "hidden") (codes "unknown")))

abbrev pub order_text : Order → List ℕ
order_text o =
    codes "order " ++ (decimal o.number ++ (codes ", " ++ (side_word o.side ++ (codes " "
    ++ (grouped_text o.shares ++ (codes " " ++ (class_word o.class ++ (codes " at " ++ dollars_text o.price))))))))

abbrev pub call_text : Call → List ℕ
call_text (Begin time order facts) =
    codes "begin at " ++ (time_text time ++ (codes " with " ++ order_text order))
call_text (Enter order) = codes "enter " ++ order_text order
call_text (Cancel number) = codes "cancel order " ++ decimal number
call_text (Close time last) =
    codes "close at " ++ (time_text time ++ (codes ", last sale " ++ dollars_text last))
call_text (Report ticket filled) =
    codes "report ticket " ++ (decimal ticket ++ (codes ", " ++ (grouped_text filled ++ codes " filled")))
call_text (Match time) = codes "match at " ++ time_text time
call_text (Finish time) = codes "finish at " ++ time_text time
call_text (Abort time) = codes "abort at " ++ time_text time

abbrev pub answer_text : Answer → List ℕ
answer_text Done = codes "done"
answer_text (Cancelled shares) = grouped_text shares ++ codes " shares cancelled"
answer_text (Priced price count tickets) =
    codes "priced at " ++ (dollars_text price ++ (codes ", count "
    ++ (grouped_text count ++ (codes ", " ++ (decimal tickets ++ codes " tickets")))))
answer_text (Unpriced cause) =
    codes "no price, cause " ++ (decimal (cause_number cause) ++ (codes ", " ++ cause_words cause))
answer_text (Executed shares) = grouped_text shares ++ codes " shares executed on each side"

abbrev pub outcome_text : Result Answer Refusal → List ℕ
outcome_text (Ok answer) = answer_text answer
outcome_text (Err refusal) =
    codes "refused with " ++ (decimal (refusal_number refusal) ++ (codes ", " ++ refusal_words refusal))
