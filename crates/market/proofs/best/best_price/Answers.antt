use Rattle.std.proofs.Common.{◌∙◌, rules}
use Rattle.std.proofs.lemmas.Iterator.{YieldsList-from_map}
use Rattle.std.proofs.lemmas.Iterator.Consumers.{YieldsList-from_first, YieldsList-at}
use Rattle.market.specs.Best.{better_price}
use Rattle.market.specs.Markets.{quotes_on}
use Rattle.market.specs.Quotes.{quotes_left}
use Rattle.market.proofs.Prices.{best_reduced, reduce_called}
use Rattle.market.proofs.best.best_price.Goals as goal

pub returns : goal.returns
returns g c =
    let xs = quotes_on c.args.side (g.S.QuoteSource.meaning c.args.source.now) in
    reduce_called _ (better_price c.args.side) _ (λ a x b q k. search rules) c.map.result c.reduce.result c.reduce.ensures.ran
    (YieldsList-from_map _ (λ x. x.price) (YieldsList-at c.map.ensures.source (YieldsList-from_first (λ x. x) (quotes_left g.S.QuoteSource.meaning) xs c.quotes.ensures)) c.map.ensures.closure (λ x r q k. search rules))
    ∙ best_reduced c.args.side xs
