use Rattle.std.proofs.Common.{◌≡◌, rules, ◌∙◌}
use Rattle.std.specs.List.{fold}
use Rattle.play_calls.specs.Digests.{mixed}
use Rattle.play_calls.proofs.Folds.{mixed-flat_map}
use Rattle.play_calls.proofs.digest.mixed_all.Goals as goal

pub returns : goal.returns
returns g c =
    let numbers = g.T.Mixed.numbers in
    let folded : c.fold.result ≡ fold (λ d v. mixed d (numbers v)) c.args.digest c.args.values.now = search rules in
    folded ∙ mixed-flat_map numbers c.args.digest c.args.values.now
