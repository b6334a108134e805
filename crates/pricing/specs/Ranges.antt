-- Steps of the search for the price. No contract of a call that fixes a price rests on these words.
use Rattle.std.specs.Prelude.{ℕ, ◌+◌, ◌-◌, ◌*◌, ◌<◌, ◌≤◌, min, cond, ◌&&◌, ◌⊎◌, List, [], ◌∷◌, nat_le, nat_lt}
use Rattle.market.specs.Limits.{highest_price, dollar, fine_step, cent}
use Rattle.market.specs.Prices.{Permitted}
use Rattle.pricing.specs.Limits.{fine_prices}
use Rattle.pricing.specs.declared.level.Level.{Level}
use Rattle.pricing.specs.Books.{Book, levels, demand_at, supply_at, wanted_above, offered_below}

-- the price of an entry that has shares above q, else the highest price there is
abbrev pub standing_above : ℕ → Level → ℕ
standing_above q l = cond (nat_lt q l.price && nat_lt 0 l.shares) l.price highest_price

-- the lowest price above q at which shares stand, at most the highest price there is
abbrev pub next_above : ℕ → List Level → ℕ
next_above q [] = highest_price
next_above q (l ∷ ls) = min (standing_above q l) (next_above q ls)

abbrev pub next_price : Book → ℕ → ℕ
next_price b q =
    min (min (next_above q b.buys) (next_above q b.sells))
    (min (next_above q (levels b.bids)) (next_above q (levels b.offers)))

-- the i-th permitted price, from 1
abbrev pub price_at : ℕ → ℕ
price_at i = cond (nat_le i fine_prices) (fine_step * i) (dollar + cent * (i - (fine_prices + 1)))

-- of a and b around r the nearer one; midway, r itself
abbrev pub nearer_of : ℕ → ℕ → ℕ → ℕ
nearer_of r a b = cond (nat_lt (r - a) (b - r)) a (cond (nat_lt (b - r) (r - a)) b r)

-- the permitted prices from lo to hi
pub record Within (lo hi q : ℕ) : Type 0 where
  pub permitted : Permitted q
  pub from : lo ≤ q
  pub to : q ≤ hi

-- a and b are neighbours among the permitted prices, with r from a on and below b
pub record Around (r a b : ℕ) : Type 0 where
  pub low_of : Permitted a
  pub high_of : Permitted b
  pub under : a ≤ r
  pub over : r < b
  pub none : (q : ℕ) → Permitted q → (q ≤ a) ⊎ (b ≤ q)

-- the least permitted price at which what is wanted above can be had
pub record Lowest (b : Book) (p : ℕ) : Type 0 where
  pub permitted : Permitted p
  pub buyers : wanted_above b p ≤ supply_at b p
  pub bottom : (q : ℕ) → Permitted q → wanted_above b q ≤ supply_at b q → p ≤ q

-- the greatest permitted price at which what is offered below is wanted
pub record Highest (b : Book) (p : ℕ) : Type 0 where
  pub permitted : Permitted p
  pub sellers : offered_below b p ≤ demand_at b p
  pub top : (q : ℕ) → Permitted q → offered_below b q ≤ demand_at b q → q ≤ p
