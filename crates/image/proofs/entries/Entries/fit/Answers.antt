use Rattle.std.proofs.Common.{rules, ◌≡◌, ◌∙◌, Bool, true, false, ◌&&◌, List, [], ◌∷◌, refl}
use Rattle.std.specs.List.{fold, list_all}
use Rattle.std.proofs.lemmas.Iterator.Consumers.{YieldsList-from_first, fold_from_yields_List}
use Rattle.pricing.specs.declared.level.Level.{Level}
use Rattle.image.specs.Entries.{level_fits}
use Rattle.image.specs.Readers.{levels_of, levels_left}
use Rattle.image.proofs.entries.Entries.fit.Goals as goal

and_true : (b : Bool) → b ≡ (b && true)
and_true true = refl
and_true false = refl

and_assoc : (a b c : Bool) → ((a && b) && c) ≡ (a && (b && c))
and_assoc true b c = refl
and_assoc false b c = refl

and_folded : (p : Level → Bool) (b : Bool) (xs : List Level) → fold (λ a x. a && p x) b xs ≡ (b && list_all p xs)
and_folded p b [] = and_true b
and_folded p b (x ∷ xs) = and_folded p (b && p x) xs ∙ and_assoc b (p x) (list_all p xs)

pub returns : goal.returns
returns c =
    fold_from_yields_List _ (λ ok l. ok && level_fits l) true c.fold.result c.fold.ensures.ran
    (YieldsList-from_first (λ x. x) levels_left (levels_of c.args.self.now) c.levels.ensures)
    (λ a x b q k. search rules)
    ∙ and_folded level_fits true (levels_of c.args.self.now)
