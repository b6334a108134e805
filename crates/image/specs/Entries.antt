-- The entries in two parts of an image, one with prices and one with shares.
use Rattle.std.specs.Prelude.{ℕ, ◌+◌, ◌*◌, ◌/◌, min, Bool, List, map, length}
use Rattle.std.specs.List.{range_with_len}
use Rattle.market.specs.Prices.{fits}
use Rattle.market.specs.declared.quote.Quote.{Quote}
use Rattle.pricing.specs.declared.level.Level.{Level}
use Rattle.image.specs.Limits.{word_length, most_entries}
use Rattle.image.specs.Words.{word}

-- a permitted price, and shares that an order may have
abbrev pub level_fits : Level → Bool
level_fits l = fits l.price l.shares

-- the entry at a place of two parts
abbrev pub level_at : List ℕ → List ℕ → ℕ → Level
level_at prices shares k = record {
  price = word prices (word_length * k);
  shares = word shares (word_length * k);
}

-- how many entries there are: one for each word of both parts
abbrev pub length_in : List ℕ → List ℕ → ℕ
length_in prices shares =
    min (min (length prices / word_length) (length shares / word_length)) most_entries

abbrev pub levels_in : List ℕ → List ℕ → List Level
levels_in prices shares = map (level_at prices shares) (range_with_len 0 (length_in prices shares))

-- the same as quotes, whose venues count from 1
abbrev pub quote_at : List ℕ → List ℕ → ℕ → Quote
quote_at prices shares k = record {
  price = word prices (word_length * k);
  shares = word shares (word_length * k);
  venue = k + 1;
}

abbrev pub quotes_in : List ℕ → List ℕ → List Quote
quotes_in prices shares = map (quote_at prices shares) (range_with_len 0 (length_in prices shares))
