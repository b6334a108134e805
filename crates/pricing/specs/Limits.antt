-- The limits of the ladder of permitted prices and of its sums, each once.
use Rattle.std.specs.Prelude.{◌≡◌, ℕ, ◌*◌}
use Rattle.market.specs.Limits.{most_orders}

-- how many permitted prices there are, and how many of them are below a dollar
abbrev pub permitted_prices : ℕ
permitted_prices = 20009900

abbrev pub fine_prices : ℕ
fine_prices = 9999

-- the most that a row's word of shares holds, and the most that can trade of a list with as many entries as a side has orders
abbrev pub most_word : ℕ
most_word = 4294967295

abbrev pub most_executable : ℕ
most_executable = most_word * most_orders

-- their values
pub record PriceLimits : Type 0 where
  pub prices : permitted_prices ≡ 20009900
  pub fine : fine_prices ≡ 9999
  pub word : most_word ≡ 4294967295
  pub executable : most_executable ≡ 2199023255040
