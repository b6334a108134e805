-- What counts of the quotes that are tabled. Today every quote counts, so that a book and a market are what they are.
use Rattle.market.specs.Markets.{Market}
use Rattle.pricing.specs.Books.{Book}

-- the market with the quotes that count in the choice of a price
abbrev pub counting_market : Market → Market
counting_market m = m

-- the book with the quotes that count: the price is chosen on it
abbrev pub counting_book : Book → Book
counting_book b = b
