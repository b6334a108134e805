-- What a side of a book owes to outside quotes at a price: all shares that are quoted better than the price; and of
-- those quoted at it, what the side has at the price beyond these and what the other side has.
use Rattle.std.specs.Prelude.{ℕ, ◌+◌, ◌-◌, min, cond, List, sum_by, nat_le, nat_lt}
use Rattle.market.specs.declared.quote.Quote.{Quote}
use Rattle.market.specs.declared.side.Side.{Side}
use Rattle.market.specs.declared.side.Side.TheVariants.{Buy, Sell}
use Rattle.pricing.specs.Books.{Book, executable_at}

-- the shares of a quote that is better than a price for those who take it: buys take offers below, sells take bids above
abbrev pub better_part : Side → ℕ → Quote → ℕ
better_part Buy p x = cond (nat_lt x.price p) x.shares 0
better_part Sell p x = cond (nat_lt p x.price) x.shares 0

-- the same of a quote that is at the price or better
abbrev pub reach_part : Side → ℕ → Quote → ℕ
reach_part Buy p x = cond (nat_le x.price p) x.shares 0
reach_part Sell p x = cond (nat_le p x.price) x.shares 0

-- the shares that are quoted better than a price, and those that are quoted at it or better
abbrev pub quoted_better : Side → ℕ → List Quote → ℕ
quoted_better side p quotes = sum_by (better_part side p) quotes

abbrev pub reach : Side → ℕ → List Quote → ℕ
reach side p quotes = sum_by (reach_part side p) quotes

-- from what is better, what is better or at the price, what the side has, and what the other side has
abbrev pub owed_of : ℕ → ℕ → ℕ → ℕ → ℕ
owed_of better reached own other = better + min (reached - better) (own - (better + other))

-- the executable shares of a side's orders at a price
abbrev pub executable_orders : Side → Book → ℕ → ℕ
executable_orders Buy b p = executable_at Buy p b.buys
executable_orders Sell b p = executable_at Sell p b.sells

-- buys owe to offers, sells to bids
abbrev pub owed : Side → Book → ℕ → ℕ
owed Buy b p =
    owed_of (quoted_better Buy p b.offers) (reach Buy p b.offers)
    (executable_orders Buy b p) (executable_orders Sell b p)
owed Sell b p =
    owed_of (quoted_better Sell p b.bids) (reach Sell p b.bids)
    (executable_orders Sell b p) (executable_orders Buy b p)
