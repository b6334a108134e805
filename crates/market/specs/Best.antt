-- The best price quoted on a side: the highest bid, the lowest offer.
use Rattle.std.specs.Prelude.{ℕ, min, max, List, [], ◌∷◌, Some, None, Option}
use Rattle.market.specs.declared.quote.Quote.{Quote}
use Rattle.market.specs.declared.side.Side.{Side}
use Rattle.market.specs.declared.side.Side.TheVariants.{Buy, Sell}

-- bids are better higher, offers lower
abbrev pub better_price : Side → ℕ → ℕ → ℕ
better_price Buy a b = max a b
better_price Sell a b = min a b

-- the best of a price and the prices of some quotes
abbrev pub best_of : Side → ℕ → List Quote → ℕ
best_of side p [] = p
best_of side p (x ∷ xs) = best_of side (better_price side p x.price) xs

abbrev pub best_price : Side → List Quote → Option ℕ
best_price side [] = None
best_price side (x ∷ xs) = Some (best_of side x.price xs)
