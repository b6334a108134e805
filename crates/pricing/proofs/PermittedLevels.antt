-- Quotes that fit stand at permitted prices.
use Rattle.std.proofs.Common.{◌≡◌, true, leb, List, [], ◌∷◌, length}
use Rattle.std.specs.List.{list_all}
use Rattle.std.proofs.lemmas.Bool.{and_parts}
use Rattle.market.specs.declared.quote.Quote.{Quote}
use Rattle.market.specs.Fits.{quote_fits, side_fits}
use Rattle.market.specs.Prices.{permitted}
use Rattle.pricing.specs.Books.{levels, AtPermitted}

quotes_stand : (xs : List Quote) → list_all quote_fits xs ≡ true → AtPermitted (levels xs)
quotes_stand [] h = tt
quotes_stand (x ∷ xs) h =
    let parts = and_parts (quote_fits x) (list_all quote_fits xs) h in
    ((and_parts (permitted x.price) _ parts.0).0, quotes_stand xs parts.1)

pub side_stands : (xs : List Quote) → side_fits xs ≡ true → AtPermitted (levels xs)
side_stands xs h = quotes_stand xs (and_parts (leb (length xs) 32) (list_all quote_fits xs) h).1
