use Rattle.std.proofs.Common.{ℕ, ◌-◌, ◌<◌, ◌≤◌}
use Rattle.market.specs.Prices.{Permitted}
use Rattle.pricing.specs.Limits.{permitted_prices}
use Rattle.pricing.specs.Books.{Sound, wanted_above, supply_at}
use Rattle.pricing.specs.Ranges.{price_at}
use Rattle.pricing.proofs.range.lowest.Given as goal

-- the buyers' side stands at `high`, and only above `low`
abbrev pub invariant-loop-low : goal.invariant-loop-low
invariant-loop-low g l =
    let b = g.B.BookView.book l.view in
    (l.low < l.high) × (l.high ≤ permitted_prices)
    × (Sound b → wanted_above b (price_at l.high) ≤ supply_at b (price_at l.high))
    × (Sound b → (q : ℕ) → Permitted q → wanted_above b q ≤ supply_at b q → price_at l.low < q)

abbrev pub decreases-loop-low : goal.decreases-loop-low
decreases-loop-low g l = l.high - l.low
