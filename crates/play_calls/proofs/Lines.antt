-- A line that makes an engine starts a history.
use Rattle.std.proofs.Common.{◌≡◌, sym, subst}
use Rattle.market.specs.declared.refusal.Refusal.{Refusal}
use Rattle.std.specs.Prelude.{Result}
use Rattle.market.specs.Markets.{Market}
use Rattle.engine.specs.declared.stage.Issue.{Issue}
use Rattle.engine.specs.declared.state.Engine.{Engine}
use Rattle.engine.specs.States.{TableRows, made}
use Rattle.auction.specs.Tallies.{Tally, first_tally}
use Rattle.auction.specs.Posts.{Posts, no_posts}
use Rattle.auction.specs.Histories.{History, fresh}
use Rattle.play_calls.specs.declared.line.Instruction.{Instruction}
use Rattle.play_calls.specs.declared.line.Instruction.TheVariants as instruction
use Rattle.play_calls.specs.declared.reply.Reply.{Reply}
use Rattle.play_calls.specs.Instructions.{tally_after, posts_after}

pub made_starts
    : (e : Engine) (h : TableRows) (issue : Issue) (line : Instruction) (y : Tally) (p : Posts) (m : Market) (r : Result Reply Refusal)
    → e ≡ made issue → line ≡ instruction.Made issue → History e h (tally_after y m line r) (posts_after p m line r)
made_starts e h issue line y p m r new is =
    subst (λ l. History e h (tally_after y m l r) (posts_after p m l r)) (sym is)
    (subst (λ e'. History e' h first_tally no_posts) (sym new) (fresh issue h))
