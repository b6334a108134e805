use Rattle.std.proofs.Common.{rules, ◌≡◌, ◌∙◌, min, map}
use Rattle.std.specs.List.{fold}
use Rattle.std.proofs.iter.runs.Made.{chains}
use Rattle.market.specs.Limits.{highest_price}
use Rattle.pricing.specs.Ranges.{standing_above}
use Rattle.pricing.proofs.Shares.{least_above}
use Rattle.pricing.proofs.level.next_above.Goals as goal

pub returns : goal.returns
returns g c =
    let e : c.fold.result ≡ fold (λ least x. min least x) highest_price (map (λ x. standing_above c.args.price (g.T.AsLevel.level x)) c.args.entries.now) = search (rules, chains) in
    e ∙ least_above c.args.price g.T.AsLevel.level c.args.entries.now
