-- What goes into queues beside the tally and comes out of them. It is kept from the calls alone, as
-- the tally is, and is an index of a history of its own: what is to stand here later leaves the
-- tally as it is. No call passes anything over, so nothing stands here.
use Rattle.std.specs.Prelude.{Result}
use Rattle.market.specs.declared.refusal.Refusal.{Refusal}
use Rattle.market.specs.Markets.{Market}
use Rattle.engine.specs.declared.answer.Answer.{Answer}
use Rattle.engine.specs.Asked.{Asked}

pub record Posts : Type 0 where

abbrev pub no_posts : Posts
no_posts = record {}

-- one more call, granted or refused, passes nothing over
abbrev pub posted : Posts → Market → Asked → Result Answer Refusal → Posts
posted p m call answer' = p
