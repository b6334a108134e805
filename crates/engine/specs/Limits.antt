-- The limits of the engine, each once. Times are milliseconds since midnight.
use Rattle.std.specs.Prelude.{◌≡◌, ℕ, ◌+◌}
use Rattle.market.specs.Limits.{most_orders, most_quotes}

-- how many rows the tables have: orders on a side, quotes on a side, tickets
abbrev pub order_rows : ℕ
order_rows = most_orders

abbrev pub quote_rows : ℕ
quote_rows = most_quotes

abbrev pub ticket_rows : ℕ
ticket_rows = order_rows + quote_rows

-- the last millisecond of the day
abbrev pub day_end : ℕ
day_end = 86399999

-- when a cycle may start
abbrev pub first_start : ℕ
first_start = 30600000

abbrev pub last_start : ℕ
last_start = 53699999

-- how long ago the primary market's first two-sided quote must be, and the end of the last cycle
abbrev pub quote_age : ℕ
quote_age = 300000

abbrev pub cycle_gap : ℕ
cycle_gap = 60000

-- how long acceptance may be
abbrev pub shortest_acceptance : ℕ
shortest_acceptance = 475

abbrev pub longest_acceptance : ℕ
longest_acceptance = 525

-- how long tickets may be reported before the match may come without them
abbrev pub ticket_time : ℕ
ticket_time = 200

-- their values, in the words of the rules
pub record EngineLimits : Type 0 where
  -- rows for the orders of a side, for its quotes, and for tickets
  pub orders : order_rows ≡ 512
  pub quotes : quote_rows ≡ 32
  pub tickets : ticket_rows ≡ 544
  -- 23:59:59.999; 8:30:00 and 14:54:59.999
  pub day : day_end ≡ 86399999
  pub first : first_start ≡ 30600000
  pub last : last_start ≡ 53699999
  -- five minutes, and one
  pub age : quote_age ≡ 300000
  pub gap : cycle_gap ≡ 60000
  -- around half a second
  pub shortest : shortest_acceptance ≡ 475
  pub longest : longest_acceptance ≡ 525
  -- a fifth of a second
  pub reports : ticket_time ≡ 200
