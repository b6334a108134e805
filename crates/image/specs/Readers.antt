-- What a reader of bytes means: the entries of a list as levels and as quotes, and the book.
use Rattle.std.specs.Prelude.{List, drop}
use Rattle.market.specs.declared.quote.Quote.{Quote}
use Rattle.pricing.specs.Books.{Book}
use Rattle.pricing.specs.declared.level.Level.{Level}
use Rattle.image.specs.Entries.{levels_in, quotes_in}
use Rattle.image.specs.Images.{image_book}
use Rattle.image.specs.declared.entries.Entries.{Entries}
use Rattle.image.specs.declared.entries.Levels.{Levels}
use Rattle.image.specs.declared.image.BookImage.{BookImage}

abbrev pub levels_of : Entries → List Level
levels_of entries = levels_in entries.prices.now entries.shares.now

abbrev pub quotes_of : Entries → List Quote
quotes_of entries = quotes_in entries.prices.now entries.shares.now

-- the levels that are still to come
abbrev pub levels_left : Levels → List Level
levels_left left = drop left.place (levels_of left.entries)

-- the book that the bytes mean
abbrev pub reader_book : BookImage → Book
reader_book image = image_book image.bytes.now
