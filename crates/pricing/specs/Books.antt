-- What stands in a book, and how many shares would meet at a price.
use Rattle.std.specs.Prelude.{ℕ, ◌+◌, min, cond, List, map, sum_by, nat_le, nat_lt}
use Rattle.std.specs.List.{AllByRecursion}
use Rattle.market.specs.declared.quote.Quote.{Quote}
use Rattle.market.specs.declared.side.Side.{Side}
use Rattle.market.specs.declared.side.Side.TheVariants.{Buy, Sell}
use Rattle.market.specs.Prices.{Permitted}
use Rattle.pricing.specs.declared.level.Level.{Level}

-- orders with the shares that they still have to trade, and outside quotes, each in any order
pub record Book : Type 0 where
  pub buys : List Level
  pub sells : List Level
  pub bids : List Quote
  pub offers : List Quote

-- a quote as shares at a price, whoever quotes it
abbrev pub quote_level : Quote → Level
quote_level x = record { price = x.price; shares = x.shares }

abbrev pub levels : List Quote → List Level
levels xs = map quote_level xs

-- the shares at q or higher, at q or lower, above q, below q
unfoldable pub at_or_above : ℕ → List Level → ℕ
at_or_above q ls = sum_by (λ l. cond (nat_le q l.price) l.shares 0) ls

unfoldable pub at_or_below : ℕ → List Level → ℕ
at_or_below q ls = sum_by (λ l. cond (nat_le l.price q) l.shares 0) ls

unfoldable pub above : ℕ → List Level → ℕ
above q ls = sum_by (λ l. cond (nat_lt q l.price) l.shares 0) ls

unfoldable pub below : ℕ → List Level → ℕ
below q ls = sum_by (λ l. cond (nat_lt l.price q) l.shares 0) ls

-- the shares of a side that can trade at q: those bought at q or higher, those sold at q or lower; and of one level
abbrev pub executable_at : Side → ℕ → List Level → ℕ
executable_at Buy q ls = at_or_above q ls
executable_at Sell q ls = at_or_below q ls

abbrev pub executable_shares : Side → ℕ → Level → ℕ
executable_shares Buy q l = cond (nat_le q l.price) l.shares 0
executable_shares Sell q l = cond (nat_le l.price q) l.shares 0

-- demand at q: the buys at q or higher, D(q), and the bids at q or higher, B(q)
abbrev pub demand_at : Book → ℕ → ℕ
demand_at b q = at_or_above q b.buys + at_or_above q (levels b.bids)

-- supply at q: the sells at q or lower, S(q), and the offers at q or lower, A(q)
abbrev pub supply_at : Book → ℕ → ℕ
supply_at b q = at_or_below q b.sells + at_or_below q (levels b.offers)

-- the shares of a side of the book that can trade at q
abbrev pub shares_at : Side → Book → ℕ → ℕ
shares_at Buy b q = demand_at b q
shares_at Sell b q = supply_at b q

-- the count at q: how many shares find both a buyer and a seller there
abbrev pub count_at : Book → ℕ → ℕ
count_at b q = min (demand_at b q) (supply_at b q)

-- the shares of buys and bids above q, X(q), and of sells and offers below q, Y(q)
abbrev pub wanted_above : Book → ℕ → ℕ
wanted_above b q = above q b.buys + above q (levels b.bids)

abbrev pub offered_below : Book → ℕ → ℕ
offered_below b q = below q b.sells + below q (levels b.offers)

-- everything in the book stands at a permitted price
abbrev pub AtPermitted : List Level → Type 0
AtPermitted ls = AllByRecursion (λ l. Permitted l.price) ls

pub record Sound (b : Book) : Type 0 where
  pub buys : AtPermitted b.buys
  pub sells : AtPermitted b.sells
  pub bids : AtPermitted (levels b.bids)
  pub offers : AtPermitted (levels b.offers)
