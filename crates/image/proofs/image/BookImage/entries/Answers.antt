use Rattle.std.proofs.Common.{◌≡◌, ℕ, ◌+◌, ap₂, ◌∙◌, arith}
use Rattle.image.specs.Entries.{levels_in, quotes_in}
use Rattle.image.specs.Images.{entries_in}
use Rattle.image.proofs.Meanings.{orders_there, quotes_there}
use Rattle.image.proofs.image.BookImage.entries.Goals as goal

pub returns-clause-orders : goal.returns-clause-orders
returns-clause-orders c =
    let i = c.args.self.now in
    let z = i.sizes in
    let k = i.sized in
    let n : ℕ = z.buys + z.sells + z.bids + z.offers in
    let size : n ≡ entries_in i.bytes.now = omega (arith, k.buys_are, k.sells_are, k.bids_are, k.offers_are) in
    ap₂ levels_in c.part.ensures.prices c.part.ensures.shares ∙ orders_there i.bytes.now n c.args.from c.args.count k.exact size c.requires.within c.requires.few

pub returns-clause-quotes : goal.returns-clause-quotes
returns-clause-quotes c =
    let i = c.args.self.now in
    let z = i.sizes in
    let k = i.sized in
    let n : ℕ = z.buys + z.sells + z.bids + z.offers in
    let size : n ≡ entries_in i.bytes.now = omega (arith, k.buys_are, k.sells_are, k.bids_are, k.offers_are) in
    ap₂ quotes_in c.part.ensures.prices c.part.ensures.shares ∙ quotes_there i.bytes.now n c.args.from c.args.count k.exact size c.requires.within c.requires.few
