use Rattle.std.proofs.Common.{◌≡◌, ◌+◌, ◌<◌, rules}
use Rattle.market.specs.Markets.{quotes_on}
use Rattle.market.proofs.Places.{left_first}
use Rattle.market.proofs.quotes.QuotesIterator.next.Goals as goal

pub returns-clause-steps : goal.returns-clause-steps
returns-clause-steps g c =
    let s = c.args.self.now in
    let t = c.next.new.self in
    let xs = quotes_on s.side (g.S.QuoteSource.meaning s.source.now) in
    let from : c.in_ok-place.place ≡ s.places.start = search rules in
    let more : t.start ≡ s.places.start + 1 = search rules in
    let same : t.end ≡ s.places.end = search rules in
    let within : s.places.start < s.places.end = search rules in
    rw (more, same, c.quote.ensures, from) (left_first xs s.places.start s.places.end within)
