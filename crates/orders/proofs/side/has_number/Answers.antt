use Rattle.std.proofs.Common.{rules, ◌≡◌, ◌∙◌, ℕ, ◌+◌, suc, Bool, true, false, cond, not, ◌==◌, ◌||◌, List, [], ◌∷◌, refl, length, is_some, Some, None, nat_lt}
use Rattle.std.specs.List.{fold, list_any}
use Rattle.std.proofs.lemmas.Iterator.{YieldsList-from_slice}
use Rattle.std.proofs.lemmas.Iterator.Consumers.{fold_from_yields_List}
use Rattle.orders.specs.declared.row.OrderRow.{OrderRow}
use Rattle.orders.specs.Tables.{before}
use Rattle.orders.proofs.side.has_number.Goals as goal

or_false : (b : Bool) → b ≡ (b || false)
or_false true = refl
or_false false = refl

or_assoc : (a b c : Bool) → ((a || b) || c) ≡ (a || (b || c))
or_assoc true b c = refl
or_assoc false b c = refl

or_folded : (p : OrderRow → Bool) (b : Bool) (xs : List OrderRow) → fold (λ a x. a || p x) b xs ≡ (b || list_any p xs)
or_folded p b [] = or_false b
or_folded p b (x ∷ xs) = or_folded p (b || p x) xs ∙ or_assoc b (p x) (list_any p xs)

some_when : (b : Bool) (n : ℕ) → b ≡ is_some (cond b (Some n) None)
some_when true n = refl
some_when false n = refl

step : (e a : Bool) (k l : ℕ) → a ≡ nat_lt k l → (e || a) ≡ nat_lt (cond (not e) (1 + k) 0) (suc l)
step true a k l h = search rules
step false a k l h = search rules

counted : (n : ℕ) (ws : List OrderRow) → list_any (λ w. w.number == n) ws ≡ nat_lt (before n ws) (length ws)
counted n [] = refl
counted n (w ∷ ws) = step (w.number == n) (list_any (λ x. x.number == n) ws) (before n ws) (length ws) (counted n ws)

pub returns : goal.returns
returns c =
    fold_from_yields_List _ (λ f w. f || (w.number == c.args.number)) false c.fold.result c.fold.ensures.ran
    (YieldsList-from_slice c.args.rows.now cc) (λ a x b q k. search rules)
    ∙ or_folded (λ w. w.number == c.args.number) false c.args.rows.now ∙ counted c.args.number c.args.rows.now
    ∙ some_when (nat_lt (before c.args.number c.args.rows.now) (length c.args.rows.now)) (before c.args.number c.args.rows.now)
