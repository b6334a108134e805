use Rattle.std.proofs.Common.{rules, ◌≡◌, ◌+◌, ◌∙◌, ◌^◌, sym, ap, arith}
use Rattle.std.proofs.lemmas.Iterator.{YieldsList-from_map}
use Rattle.std.proofs.lemmas.Iterator.Adapters.{fits_from_length, at_most_from_yields_List}
use Rattle.std.proofs.lemmas.Iterator.Consumers.{YieldsList-from_first, sum_by_from_yields_List}
use Rattle.pricing.specs.Limits.{most_executable}
use Rattle.pricing.specs.Books.{executable_shares, executable_at}
use Rattle.pricing.proofs.Shares.{executable_total, sum_most}
use Rattle.image.specs.Limits.{most_entries}
use Rattle.image.specs.Readers.{levels_of, levels_left}
use Rattle.image.proofs.Lists.{levels_len}
use Rattle.image.proofs.Meanings.{levels_in_lem}
use Rattle.image.proofs.entries.Entries.executable.Goals as goal

is : (c : goal.After-sum) → c.sum.result ≡ executable_at c.args.side c.args.price (levels_of c.args.self.now)
is c =
    let ls = levels_of c.args.self.now in
    sum_by_from_yields_List (executable_shares c.args.side c.args.price) ls c.map.result c.sum.result c.sum.ensures.ran
    (YieldsList-from_map _ (executable_shares c.args.side c.args.price) (YieldsList-from_first (λ x. x) levels_left ls (cc)) c.map.ensures.closure (λ x r q k. search rules))
    ∙ executable_total c.args.side c.args.price ls

pub returns-clause-is : goal.returns-clause-is
returns-clause-is c = is c

pub returns-clause-quoted : goal.returns-clause-quoted
returns-clause-quoted c = is c ∙ sym (ap (executable_at c.args.side c.args.price) (levels_in_lem c.args.self.now.prices.now c.args.self.now.shares.now))

pub sum-requires-clause-fits : goal.sum-requires-clause-fits
sum-requires-clause-fits c =
    let few = levels_len c.args.self.now.prices.now c.args.self.now.shares.now in
    fits_from_length _ _ most_entries (2 ^ 64) (at_most_from_yields_List (YieldsList-from_first (λ x. x) levels_left (levels_of c.args.self.now) (cc)) (omega (arith, few))) c.map.ensures.closure (omega arith) (λ x r q k. search rules)

pub returns-clause-few : goal.returns-clause-few
returns-clause-few c =
    let few = levels_len c.args.self.now.prices.now c.args.self.now.shares.now in
    sum_most most_executable c.sum.ensures.runs
    (fits_from_length _ _ most_entries (most_executable + 1) (at_most_from_yields_List (YieldsList-from_first (λ x. x) levels_left (levels_of c.args.self.now) (cc)) (omega (arith, few))) c.map.ensures.closure (omega arith) (λ x r q k. search rules))
