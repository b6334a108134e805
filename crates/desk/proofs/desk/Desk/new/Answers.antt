use Rattle.std.proofs.Common.{◌≡◌, sym, subst}
use Rattle.engine.specs.declared.stage.Issue.TheVariants.{Ordinary}
use Rattle.engine.specs.declared.state.Engine.{Engine}
use Rattle.engine.specs.States.{TableRows, made}
use Rattle.auction.specs.Tallies.{first_tally}
use Rattle.auction.specs.Posts.{no_posts}
use Rattle.auction.specs.Histories.{History, fresh}
use Rattle.desk.proofs.desk.Desk.new.Goals as goal

begins : (e : Engine) (h : TableRows) → e ≡ made Ordinary → History e h first_tally no_posts
begins e h is = subst (λ e'. History e' h first_tally no_posts) (sym is) (fresh Ordinary h)

pub returns-clause-run : goal.returns-clause-run
returns-clause-run c = begins _ _ c.new.ensures
