-- The run of a desk that is played from its start.
use Rattle.desk.specs.declared.desk.Desk.{Desk}
use Rattle.desk.specs.Desks.{rows_of}
use Rattle.auction.specs.Tallies.{Tally}
use Rattle.auction.specs.Posts.{Posts}
use Rattle.auction.specs.Histories.{History}

-- there is a tally of the calls that were made on the desk since its engine was made, with what they passed over beside it
abbrev pub InRun : Desk → Type 0
InRun d = ∥ ((y : Tally) × (p : Posts) × History d.engine (rows_of d) y p) ∥₁
