use Rattle.std.proofs.Common.{Ok, sym}
use Rattle.image.specs.Readers.{reader_book}
use Rattle.image.proofs.Answering.{priced, outcome_says, priced_numbers}
use Rattle.image.proofs.export.price_image.Goals as goal

pub returns-clause-priced : goal.returns-clause-priced
returns-clause-priced c =
    let told = c.in_ok-book.ensures.book in
    priced c.args.image.now c.args.last_sale (reader_book c.in_ok-book.book) c.close_price.result told.0 told.1
    (sym c.if-not-orders_fit.ensures) (sym c.if-not-quotes_fit.ensures) c.if-last_sale-gt-HIGHEST_PRICE.false
    c.close_price.ensures.outcome c.close_price.ensures.best

pub returns-clause-says : goal.returns-clause-says
returns-clause-says c = outcome_says c.args.image.now c.args.last_sale (Ok c.close_price.result) (returns-clause-priced c)

pub returns-clause-numbers : goal.returns-clause-numbers
returns-clause-numbers c = priced_numbers c.args.image.now c.args.last_sale (Ok c.close_price.result) (returns-clause-priced c)
