-- The best price of a list, said of each of its quotes: where it stands, that none has a better one, and that there is one at most.
use Rattle.std.proofs.Common.{◌≡◌, ℕ, ◌<◌, false, List, [], ◌∷◌, length, get_or, Some, None, ap, ◌∙◌, subst, arith}
use Rattle.std.specs.Option.{MatchOption}
use Rattle.std.proofs.ByRecursion.{All-get_or}
use Rattle.std.proofs.lemmas.List.{get_or_default}
use Rattle.std.proofs.lemmas.Bool.Decides.{nat_tests}
use Rattle.market.specs.declared.quote.Quote.{Quote}
use Rattle.market.specs.declared.side.Side.{Side}
use Rattle.market.specs.declared.side.Side.TheVariants.{Buy, Sell}
use Rattle.market.specs.Best.{best_price}
use Rattle.market.specs.Markets.{no_quote}
use Rattle.market.specs.Laws.{IsBest, is_better}
use Rattle.market.proofs.Lawful.{best_is}

pub best_some : (side : Side) (xs : List Quote) (p : ℕ) → best_price side xs ≡ Some p → IsBest side xs p
best_some side xs p e = subst (λ o. MatchOption o (xs ≡ []) (IsBest side xs)) e (best_is side xs)

pub best_none : (side : Side) (xs : List Quote) → best_price side xs ≡ None → xs ≡ []
best_none side xs e = subst (λ o. MatchOption o (xs ≡ []) (IsBest side xs)) e (best_is side xs)

-- where the best stands
pub best_at : (side : Side) (xs : List Quote) (p : ℕ) → IsBest side xs p → (k : ℕ) × (k < length xs) × ((get_or xs k no_quote).price ≡ p)
best_at side xs p b =
    let q = b.quoted_there in
    (q.0, q.2, ap (λ x. x.price) (get_or_default xs q.0 no_quote q.1 q.2 ∙ q.3) ∙ q.4)

pub none_beats : (side : Side) (xs : List Quote) (p : ℕ) → IsBest side xs p → (i : ℕ) → i < length xs → is_better side (get_or xs i no_quote).price p ≡ false
none_beats side xs p b i l = All-get_or (λ x. is_better side x.price p ≡ false) xs i no_quote l b.none_better

level : (side : Side) (p q : ℕ) → is_better side p q ≡ false → is_better side q p ≡ false → p ≡ q
level Buy p q h k = grind (arith, nat_tests)
level Sell p q h k = grind (arith, nat_tests)

pub best_once : (side : Side) (xs : List Quote) (p q : ℕ) → IsBest side xs p → IsBest side xs q → p ≡ q
best_once side xs p q b c =
    let at-p = best_at side xs p b in
    let at-q = best_at side xs q c in
    level side p q
    (subst (λ n. is_better side n q ≡ false) at-p.2 (none_beats side xs q c at-p.0 at-p.1))
    (subst (λ n. is_better side n p ≡ false) at-q.2 (none_beats side xs p b at-q.0 at-q.1))

pub best_price_is : (side : Side) (xs : List Quote) (p : ℕ) → IsBest side xs p → best_price side xs ≡ Some p
best_price_is side [] p b = absurd (let q = b.quoted_there.2 in omega (arith, q))
best_price_is side (x ∷ xs) p b = ap Some (best_once side (x ∷ xs) _ p (best_is side (x ∷ xs)) b)
