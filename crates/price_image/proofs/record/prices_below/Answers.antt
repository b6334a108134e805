use Rattle.std.proofs.Common.{◌≡◌, ◌∙◌, ◌-◌, ◌<◌, ◌++◌, ◌∷◌, [], length, drop, ap, sym, subst, rules, arith, List, ℕ}
use borrow.Author.Tests.{tests}
use Rattle.std.specs.List.{remove}
use Rattle.image.specs.Readers.{reader_book}
use Rattle.price_image.specs.declared.record.TheConstants.{SHOWN}
use Rattle.price_image.specs.Prices.{PricesBetween}
use Rattle.price_image.proofs.Taken.{taken}
use Rattle.price_image.proofs.Window.{grown, slid}
use Rattle.price_image.proofs.record.prices_below.Goals.{then-is_full, else-is_full}
use Rattle.price_image.proofs.record.prices_below.Goals as goal

pub loop-price-preserved : goal.loop-price-preserved
loop-price-preserved c =
    let kept = c.loop-price.invariant in
    let more : List ℕ → List ℕ = λ ys. ys ++ c.in-Some.price ∷ [] in
    elim c.if-is_full.branch [
      | then-is_full w ↦
          let full : length c.loop-price.last.items ≡ SHOWN = search (rules, tests) in
          c.push.ensures.items ∙ ap (λ v. more v.items) w.last-is ∙ ap more w.remove.ensures.items ∙ ap (λ ys. more (remove ys 0)) kept
          ∙ sym (slid SHOWN c.loop-price.yielded c.in-Some.price (omega arith) (ap length (sym kept) ∙ full))
      | else-is_full w ↦
          let room : length c.loop-price.last.items < SHOWN = search (rules, tests) in
          c.push.ensures.items ∙ ap (λ v. more v.items) w.last-is ∙ ap more kept
          ∙ sym (grown SHOWN c.loop-price.yielded c.in-Some.price (subst (λ ys. length ys < SHOWN) kept room))
    ]

pub returns : goal.returns
returns c =
    let i = c.into_iter-price-iterator.ensures.into_iter_gives in
    let s = c.into_iter-price-iterator.result in
    let prices : PricesBetween (reader_book s.iter.book) s.iter.above c.args.middle c.loop-price.yielded =
    taken _ _ c.args.middle (λ x b q k. search (rules, tests)) c.loop-price.yielded s c.loop-price.price-iterator c.next.new.self
    (ap (λ t. t.p) i ∙ c.take_while-price-items.ensures.closure) (ap (λ t. t.done) i ∙ c.take_while-price-items.ensures.done)
    c.loop-price.yielded_by c.in-None.ensures.steps in
    (c.loop-price.yielded, search (rules, prices), c.loop-price.invariant)
