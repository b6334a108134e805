use Rattle.std.proofs.Common.{◌≡◌, leb, rules, sym, ◌∙◌, ap}
use Rattle.std.specs.List.{find}
use Rattle.std.specs.Prelude.{reverse, map}
use Rattle.std.specs.Option.{option_map}
use Rattle.std.proofs.lemmas.Iterator.Adapters.{YieldsList-from_rev_slice}
use Rattle.std.proofs.lemmas.Iterator.Search.{find_from_yields_List}
use borrow.Author.Tests.{tests}
use Rattle.engine.specs.Minimum.{steps}
use Rattle.engine.proofs.Steps.{code_step, shares_or, found}
use Rattle.engine.proofs.minimum.ordinary_minimum.Goals as goal

pub returns : goal.returns
returns c =
    let at : option_map (λ b. b.now) c.find.result ≡ find (λ s. leb s.price c.args.price) (reverse (map code_step steps)) =
    find_from_yields_List (λ s. leb s.price c.args.price) _ _ c.find.result c.find.ensures.ran (YieldsList-from_rev_slice (map code_step steps) cc) (λ x b q k. search (rules, tests)) in
    let is : c.map_or.result ≡ shares_or (option_map (λ b. b.now) c.find.result) = search rules in
    is ∙ ap shares_or at ∙ sym (found c.args.price)
