-- The prices at which shares stand in a book, one after another.
use Rattle.std.specs.Prelude.{◌≡◌, ℕ, ◌<◌, ◌≤◌, ◌-◌, ◌⊎◌, Option, List, [], ◌∷◌, length, drop}
use Rattle.std.specs.Option.{MatchOption}
use Rattle.market.specs.Limits.{highest_price}
use Rattle.pricing.specs.Books.{Book}
use Rattle.pricing.specs.Ranges.{next_price}
use Rattle.image.specs.Readers.{reader_book}
use Rattle.price_image.specs.declared.prices.Prices.{Prices}

-- a step gives the next price of the book, one below the highest there is, and goes on above it; it ends where there is none
abbrev pub StepsUp : Prices → Option ℕ → Prices → Type 0
StepsUp before given after =
    let next = next_price (reader_book before.book) before.above in
    MatchOption given
    ((highest_price ≤ next) ⊎ (next ≤ before.above))
    (λ price.
    (price ≡ next) × (price < highest_price)
    × (after.book ≡ before.book) × (after.above ≡ price))

-- the prices of a book between two, below the highest there is, the lowest first: each is the next above that before it, and
-- past the last none is left
abbrev pub PricesBetween : Book → ℕ → ℕ → List ℕ → Type 0
PricesBetween book low high [] =
    let next = next_price book low in
    (high ≤ next) ⊎ (highest_price ≤ next) ⊎ (next ≤ low)
PricesBetween book low high (price ∷ above) =
    (price ≡ next_price book low) × (price < highest_price)
    × (price < high) × PricesBetween book price high above

-- the last of the prices of a book between two, n of them, or all where there are fewer
abbrev pub LastBetween : ℕ → Book → ℕ → ℕ → List ℕ → Type 0
LastBetween n book low high last =
    (prices : List ℕ) × PricesBetween book low high prices × (last ≡ drop (length prices - n) prices)
