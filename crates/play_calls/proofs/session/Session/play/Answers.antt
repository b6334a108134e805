use Rattle.std.proofs.Math.Logic.{∥∥₁_map}
use Rattle.desk.specs.Desks.{desk_market}
use Rattle.play_calls.specs.Instructions.{tally_after, posts_after}
use Rattle.play_calls.proofs.session.Session.play.Goals as goal

-- the tally, and what is passed over beside it, go on with the line
pub invariant_of-self : goal.invariant_of-self
invariant_of-self c =
    record {
      in_run = ∥∥₁_map c.args.self.now.in_run (λ run. (
        tally_after run.0 (desk_market c.args.self.now.desk) c.args.instruction c.play.result,
        posts_after run.1 (desk_market c.args.self.now.desk) c.args.instruction c.play.result,
        c.play.ensures.goes_on run.0 run.1 run.2,
      ));
    }
