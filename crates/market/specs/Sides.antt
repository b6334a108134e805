-- The number of each side, and what is said of a number that is no side's.
use Rattle.std.specs.Prelude.{ℕ, cond, List, ◌++◌, codes, decimal, Some, None, Option, ◌==◌}
use Rattle.market.specs.declared.side.Side.{Side}
use Rattle.market.specs.declared.side.Side.TheVariants.{Buy, Sell}
use Rattle.market.specs.declared.side.UnknownSide.{UnknownSide}

-- 1 for buys and bids, 2 for sells and offers
abbrev pub side_number : Side → ℕ
side_number Buy = 1
side_number Sell = 2

abbrev pub side_numbered : ℕ → Option Side
side_numbered n = cond (n == 1) (Some Buy) (cond (n == 2) (Some Sell) None)

abbrev pub unknown_side : ℕ → UnknownSide
unknown_side n = record { 0 = n }

abbrev pub unknown_side_words : UnknownSide → List ℕ
unknown_side_words unknown = codes "no side has the number " ++ decimal unknown.0
