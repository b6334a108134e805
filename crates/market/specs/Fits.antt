-- When the quotes of a market fit.
use Rattle.std.specs.Prelude.{Bool, ◌&&◌, List, length, nat_le}
use Rattle.std.specs.List.{list_all}
use Rattle.market.specs.declared.quote.Quote.{Quote}
use Rattle.market.specs.Limits.{most_quotes}
use Rattle.market.specs.Markets.{Market}
use Rattle.market.specs.Prices.{fits}

-- a quote has a price and shares that it may have
abbrev pub quote_fits : Quote → Bool
quote_fits x = fits x.price x.shares

-- at most as many quotes as a source may list, each of which fits
abbrev pub side_fits : List Quote → Bool
side_fits xs = nat_le (length xs) most_quotes && list_all quote_fits xs

-- both sides fit
abbrev pub quotes_fit : Market → Bool
quotes_fit m = side_fits m.bids && side_fits m.offers
