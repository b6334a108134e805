-- The quotes of a source that are still to come.
use Rattle.std.specs.Prelude.{List, drop, take}
use Rattle.market.specs.declared.quote.Quote.{Quote}
use Rattle.market.specs.declared.quotes.Quotes.{Quotes}
use Rattle.market.specs.Markets.{Market, quotes_on}

abbrev pub quotes_left : {S : Type 0} → (S → Market) → Quotes S → List Quote
quotes_left meaning q =
    drop q.places.start (take q.places.end (quotes_on q.side (meaning q.source.now)))
