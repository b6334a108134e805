-- That the law of what a table lists has one proof at most. These are proofs, which nobody has to believe; they stand here since a
-- struct cannot name what stands in the proofs of its own crate.
use Rattle.std.specs.Prelude.{◌<◌, List, [], ◌∷◌}
use Rattle.std.specs.Coded.{×_prop, Unit-prop, le_prop}
use Rattle.std.proofs.Math.Bool.{Bool-set}
use Rattle.std.specs.List.{AllByRecursion-prop}
use Rattle.market.specs.declared.quote.Quote.{Quote}
use Rattle.market.specs.Listings.{Rising, OfVenue, WellListed}

pub OfVenue-prop : (x : Quote) → IsProp (OfVenue x)
OfVenue-prop x = hlevel (le_prop, Bool-set)

pub Rising-prop : (xs : List Quote) → IsProp (Rising xs)
Rising-prop [] = Unit-prop
Rising-prop (x ∷ xs) = ×_prop (AllByRecursion-prop (λ y. x.venue < y.venue) (λ y. le_prop) xs) (Rising-prop xs)

pub WellListed-prop : (xs : List Quote) → IsProp (WellListed xs)
WellListed-prop xs = hlevel (Rising-prop xs, AllByRecursion-prop OfVenue OfVenue-prop xs)
