-- The book of a depth: by the quotes that count.
use Rattle.pricing.specs.Books.{Book}
use Rattle.pricing.specs.Counting.{counting_book}
use Rattle.engine.specs.Books.{book_from}
use Rattle.desk.specs.declared.depth.Depth.{Depth}

abbrev pub depth_book : Depth → Book
depth_book d = counting_book (book_from d.buys d.sells d.bids d.offers)
