-- The limits of the market, each once, and what each is.
use Rattle.std.specs.Prelude.{◌≡◌, ℕ}

-- the lowest and the highest price, in points, 20,000 to the dollar
abbrev pub lowest_price : ℕ
lowest_price = 2

abbrev pub highest_price : ℕ
highest_price = 4000000000

-- a dollar, in points: from here on prices step by a cent
abbrev pub dollar : ℕ
dollar = 20000

-- the step of prices below a dollar, and from a dollar on
abbrev pub fine_step : ℕ
fine_step = 2

abbrev pub cent : ℕ
cent = 200

-- the most shares that one order or quote has
abbrev pub most_shares : ℕ
most_shares = 1000000

-- the most orders on a side of a book
abbrev pub most_orders : ℕ
most_orders = 512

-- the most quotes that a source lists on a side
abbrev pub most_quotes : ℕ
most_quotes = 32

-- how many venues a venue table has room for, numbered from 1
abbrev pub venues : ℕ
venues = 32

-- what each limit is: all else names it
pub record MarketLimits : Type 0 where
  pub lowest : lowest_price ≡ 2
  pub highest : highest_price ≡ 4000000000
  pub dollars : dollar ≡ 20000
  pub steps : fine_step ≡ 2
  pub cents : cent ≡ 200
  pub shares : most_shares ≡ 1000000
  pub orders : most_orders ≡ 512
  pub quotes : most_quotes ≡ 32
  pub venue_slots : venues ≡ 32
