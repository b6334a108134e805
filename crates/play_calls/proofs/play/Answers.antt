use Rattle.std.proofs.Common.{Ok}
use Rattle.desk.specs.Desks.{desk_market}
use Rattle.play_calls.specs.declared.reply.Reply.TheVariants.{Done}
use Rattle.play_calls.proofs.Lines.{made_starts}
use Rattle.play_calls.proofs.play.Goals as goal

pub returns-in-Made-clause-goes_on : goal.returns-in-Made-clause-goes_on
returns-in-Made-clause-goes_on c y p history =
    let k = c.in-Made in
    made_starts c.new-desk.result _ k.issue c.args.instruction y p (desk_market c.args.desk.now) (Ok Done) c.new-desk.ensures k.is
