-- The book that rows and quotes make.
use Rattle.pricing.specs.Books.{Book}
use Rattle.orders.specs.declared.row.OrderRow.{OrderRow}
use Rattle.orders.specs.Tables.{rest_levels}
use Rattle.market.specs.Markets.{Market}
use Rattle.std.specs.Prelude.{Bool, List}
use Rattle.market.specs.declared.quote.Quote.{Quote}
use Rattle.engine.specs.declared.book.TableBook.{TableBook}
use Rattle.engine.specs.declared.listed.Listed.{Listed}

abbrev pub book_from : List OrderRow → List OrderRow → List Quote → List Quote → Book
book_from buys sells bids offers = record { buys = rest_levels buys; sells = rest_levels sells; bids = bids; offers = offers }

abbrev pub table_book : TableBook → Book
table_book t = book_from t.buys.now t.sells.now t.quotes.bids.now t.quotes.offers.now

-- the market of two quote lists
abbrev pub market_with : List Quote → List Quote → Bool → Market
market_with bids offers halted = record { bids = bids; offers = offers; halted = halted }

-- the market that the quotes at a close make
abbrev pub listed_market : Listed → Market
listed_market quotes = market_with quotes.bids.now quotes.offers.now quotes.halted
