use Rattle.std.proofs.Common.{◌≡◌, true, leb, length, arith, rules, tests}
use Rattle.std.proofs.lemmas.Bool.{le-leb}
use Rattle.std.proofs.lemmas.List.{take_all}
use Rattle.std.proofs.lemmas.Iterator.Consumers.{YieldsList-from_first}
use Rattle.std.proofs.lemmas.Iterator.Search.{all_from_yields_List}
use Rattle.market.specs.Markets.{quotes_on}
use Rattle.market.specs.Fits.{quote_fits}
use Rattle.market.specs.Limits.{most_quotes}
use Rattle.market.specs.Quotes.{quotes_left}
use Rattle.market.proofs.fit.side_fits.Goals as goal

pub returns-then-count-le-MOST_QUOTES : goal.returns-then-count-le-MOST_QUOTES
returns-then-count-le-MOST_QUOTES g c =
    let xs = quotes_on c.args.side (g.S.QuoteSource.meaning c.args.source.now) in
    let few : leb (length xs) most_quotes ≡ true = le-leb (length xs) most_quotes (omega arith) in
    rw few
    (all_from_yields_List quote_fits c.all.new.self _ c.all.result c.all.ensures.ran (YieldsList-from_first (λ x. x) (quotes_left g.S.QuoteSource.meaning) xs (take_all c.count-count.result xs (omega arith))) (λ x b q k. search (rules, tests)))
