use Rattle.std.proofs.Common.{rules, ◌≡◌, ◌+◌, ◌≤◌, ◌∙◌, sum_by, length, arith}
use Rattle.std.proofs.lemmas.Iterator.{YieldsList-from_slice}
use Rattle.std.proofs.lemmas.Iterator.Adapters.{fits_from_length, at_most_from_yields_List}
use Rattle.market.specs.Limits.{most_orders}
use Rattle.pricing.specs.Limits.{most_executable}
use Rattle.pricing.specs.Books.{executable_shares}
use Rattle.pricing.proofs.Shares.{executable_sum, sum_most}
use Rattle.pricing.proofs.level.executable.Goals as goal

pub returns-clause-is : goal.returns-clause-is
returns-clause-is g c =
    let e : c.sum.result ≡ sum_by (λ x. executable_shares c.args.side c.args.price (g.T.AsLevel.level x)) c.args.entries.now = search rules in
    e ∙ executable_sum c.args.side c.args.price g.T.AsLevel.level c.args.entries.now

pub returns-clause-few : goal.returns-clause-few
returns-clause-few g c =
    let few : length c.args.entries.now ≤ most_orders = search rules in
    sum_most most_executable c.sum.ensures.runs
    (fits_from_length _ _ most_orders (most_executable + 1) (at_most_from_yields_List (YieldsList-from_slice c.args.entries.now cc) few) c.map.ensures.closure (omega arith) (λ x r q k. search rules))
