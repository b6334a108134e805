-- The lengths of an image and of an answer, in bytes, and the most entries, each once.
use Rattle.std.specs.Prelude.{◌≡◌, ℕ}
use Rattle.market.specs.Limits.{most_orders}

-- the bytes of a number, of the four sizes, and of an entry: its price and its shares
abbrev pub word_length : ℕ
word_length = 4

abbrev pub header_length : ℕ
header_length = 16

abbrev pub entry_length : ℕ
entry_length = 8

-- the bytes of an answer: price, cause and count
abbrev pub answer_length : ℕ
answer_length = 16

-- the most entries of a list: as many as a side has orders
abbrev pub most_entries : ℕ
most_entries = most_orders

-- their values, in the words of the format
pub record ImageLengths : Type 0 where
  pub word : word_length ≡ 4
  pub header : header_length ≡ 16
  pub entry : entry_length ≡ 8
  pub answer : answer_length ≡ 16
  pub entries : most_entries ≡ 512
