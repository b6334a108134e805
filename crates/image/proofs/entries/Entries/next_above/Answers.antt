use Rattle.std.proofs.Common.{rules, ◌≡◌, ◌∙◌, min, sym, ap}
use Rattle.std.proofs.lemmas.Iterator.{YieldsList-from_map}
use Rattle.std.proofs.lemmas.Iterator.Consumers.{YieldsList-from_first, fold_from_yields_List}
use Rattle.market.specs.Limits.{highest_price}
use Rattle.pricing.specs.Ranges.{standing_above, next_above}
use Rattle.pricing.proofs.Shares.{least_of}
use Rattle.image.specs.Readers.{levels_of, levels_left}
use Rattle.image.proofs.Meanings.{levels_in_lem}
use Rattle.image.proofs.entries.Entries.next_above.Goals as goal

is : (c : goal.After-fold) → c.fold.result ≡ next_above c.args.price (levels_of c.args.self.now)
is c =
    fold_from_yields_List _ (λ least p. min least p) highest_price c.fold.result c.fold.ensures.ran
    (YieldsList-from_map _ (standing_above c.args.price) (YieldsList-from_first (λ x. x) levels_left (levels_of c.args.self.now) (cc)) c.map.ensures.closure (λ x r q k. search rules))
    (λ a x b q k. search rules)
    ∙ least_of c.args.price (levels_of c.args.self.now)

pub returns-clause-is : goal.returns-clause-is
returns-clause-is c = is c

pub returns-clause-quoted : goal.returns-clause-quoted
returns-clause-quoted c = is c ∙ sym (ap (next_above c.args.price) (levels_in_lem c.args.self.now.prices.now c.args.self.now.shares.now))
