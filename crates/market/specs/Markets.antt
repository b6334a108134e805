-- What a source of quotes means: the protected bids, the protected offers, and whether trading is halted.
use Rattle.std.specs.Prelude.{Bool, List}
use Rattle.market.specs.declared.quote.Quote.{Quote}
use Rattle.market.specs.declared.side.Side.{Side}
use Rattle.market.specs.declared.side.Side.TheVariants.{Buy, Sell}

pub record Market : Type 0 where
  pub bids : List Quote
  pub offers : List Quote
  pub halted : Bool

-- bids stand on the side of the buys, offers on that of the sells
abbrev pub quotes_on : Side → Market → List Quote
quotes_on Buy m = m.bids
quotes_on Sell m = m.offers

-- an empty row of a table of quotes
abbrev pub no_quote : Quote
no_quote = record { price = 0; shares = 0; venue = 0 }
