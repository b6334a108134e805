-- What the bytes of a book image mean. Four sizes come first, then all prices, then all shares,
-- each in the order buys, sells, bids, offers; every number is a little-endian word.
use Rattle.std.specs.Prelude.{◌≡◌, ℕ, ◌+◌, ◌*◌, ◌≤◌, Bool, false, ◌&&◌, List, map, length, ◌==◌, nat_le}
use Rattle.std.specs.List.{range_with_len, list_all}
use Rattle.market.specs.Limits.{most_quotes}
use Rattle.market.specs.Markets.{Market}
use Rattle.market.specs.declared.side.Side.{Side}
use Rattle.market.specs.declared.side.Side.TheVariants.{Buy, Sell}
use Rattle.market.specs.declared.quote.Quote.{Quote}
use Rattle.pricing.specs.declared.level.Level.{Level}
use Rattle.pricing.specs.Books.{Book}
use Rattle.image.specs.Limits.{word_length, header_length, entry_length, most_entries}
use Rattle.image.specs.Words.{word}
use Rattle.image.specs.Entries.{level_fits}

-- the four sizes
abbrev pub buys_in : List ℕ → ℕ
buys_in bs = word bs (word_length * 0)

abbrev pub sells_in : List ℕ → ℕ
sells_in bs = word bs (word_length * 1)

abbrev pub bids_in : List ℕ → ℕ
bids_in bs = word bs (word_length * 2)

abbrev pub offers_in : List ℕ → ℕ
offers_in bs = word bs (word_length * 3)

abbrev pub entries_in : List ℕ → ℕ
entries_in bs = buys_in bs + sells_in bs + bids_in bs + offers_in bs

-- an image has its sizes within their limits, and is exactly as long as they say
abbrev pub is_image : List ℕ → Bool
is_image bs =
    nat_le header_length (length bs)
    && (nat_le (buys_in bs) most_entries
    && (nat_le (sells_in bs) most_entries
    && (nat_le (bids_in bs) most_quotes
    && (nat_le (offers_in bs) most_quotes
    && length bs == header_length + entry_length * entries_in bs))))

-- the price and the shares of the k-th entry of all
abbrev pub price_in : List ℕ → ℕ → ℕ
price_in bs k = word bs (header_length + word_length * k)

abbrev pub shares_in : List ℕ → ℕ → ℕ
shares_in bs k = word bs (header_length + word_length * entries_in bs + word_length * k)

-- the orders, and the quotes, of a list that begins at an entry; a quote's venue is its place plus 1
abbrev pub orders_from : List ℕ → ℕ → ℕ → List Level
orders_from bs from n =
    map
    (λ k. record { price = price_in bs (from + k); shares = shares_in bs (from + k) })
    (range_with_len 0 n)

abbrev pub quotes_from : List ℕ → ℕ → ℕ → List Quote
quotes_from bs from n =
    map
    (λ k. record { price = price_in bs (from + k); shares = shares_in bs (from + k); venue = k + 1 })
    (range_with_len 0 n)

-- the book that an image means, and the market; it is never halted
abbrev pub image_book : List ℕ → Book
image_book bs = record {
  buys = orders_from bs 0 (buys_in bs);
  sells = orders_from bs (buys_in bs) (sells_in bs);
  bids = quotes_from bs (buys_in bs + sells_in bs) (bids_in bs);
  offers = quotes_from bs (buys_in bs + sells_in bs + bids_in bs) (offers_in bs);
}

abbrev pub image_market : Book → Market
image_market b = record { bids = b.bids; offers = b.offers; halted = false }

abbrev pub orders_on : Side → Book → List Level
orders_on Buy b = b.buys
orders_on Sell b = b.sells

-- every order has a permitted price and shares within their limits
abbrev pub orders_fit : Book → Bool
orders_fit b = list_all level_fits b.buys && list_all level_fits b.sells

-- four numbers are the sizes of an image
pub record Sized (bs : List ℕ) (buys sells bids offers : ℕ) : Type 0 where
  pub buys_are : buys ≡ buys_in bs
  pub sells_are : sells ≡ sells_in bs
  pub bids_are : bids ≡ bids_in bs
  pub offers_are : offers ≡ offers_in bs
  pub buys_few : buys ≤ most_entries
  pub sells_few : sells ≤ most_entries
  pub bids_few : bids ≤ most_quotes
  pub offers_few : offers ≤ most_quotes
  pub exact : length bs ≡ header_length + entry_length * (buys + sells + bids + offers)
