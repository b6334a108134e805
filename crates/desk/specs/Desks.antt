-- What a desk holds.
use Rattle.std.specs.Prelude.{Result}
use Rattle.market.specs.declared.refusal.Refusal.{Refusal}
use Rattle.market.specs.Markets.{Market}
use Rattle.market.specs.Venues.{market_in}
use Rattle.engine.specs.declared.answer.Answer.{Answer}
use Rattle.engine.specs.States.{TableRows}
use Rattle.engine.specs.Effects.{Left}
use Rattle.desk.specs.declared.desk.Desk.{Desk}
use Rattle.desk.specs.Memories.{rows_in}

-- the rows of its tables
abbrev pub rows_of : Desk → TableRows
rows_of d = rows_in d.memory

-- the market that its venues make
abbrev pub desk_market : Desk → Market
desk_market d = market_in d.venues

-- what a call left it with
abbrev pub left_at : Desk → Result Answer Refusal → Left
left_at d answer' = record { engine = d.engine; held = rows_of d; answer = answer' }
