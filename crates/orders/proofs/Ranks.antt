-- How orders rank, and when they are well formed, in numbers.
use Rattle.std.proofs.Common.{◌≡◌, ℕ, ◌≤◌, true, false, cond, not, eqb, leb, is_some, Some, None, ◌⊎◌, inl, inr, sym, ap, ◌∙◌, arith}
use Rattle.std.proofs.lemmas.Bool.{and_parts, and_from, cases_Bool, false≢true, eqb-true, leb-true, le-leb}
use Rattle.std.proofs.lemmas.Bool.Decides.{nat_tests}
use Rattle.market.specs.declared.side.Side.TheVariants.{Buy, Sell}
use Rattle.market.specs.Limits.{most_shares}
use Rattle.market.specs.Prices.{permitted, fits}
use Rattle.orders.specs.Orders.{side_numbered, class_numbered}
use Rattle.orders.specs.Laws.{OrdersFormed, OrdersRank}

pub orders_rank : OrdersRank
orders_rank a b = record {
  buys = λ h. grind (arith, nat_tests);
  sells = λ h. grind (arith, nat_tests);
  classes = λ p c. (grind (arith, nat_tests), grind (arith, nat_tests));
  numbers = λ p c. (grind (arith, nat_tests), grind (arith, nat_tests));
}

-- a side has the number 1 or 2, and these have a side
pub side_of : (n : ℕ) → is_some (side_numbered n) ≡ true → (n ≡ 1) ⊎ (n ≡ 2)
side_of n h = elim (cases_Bool (eqb n 1)) [
  | inl buy ↦ inl (eqb-true n 1 buy)
  | inr other ↦ elim (cases_Bool (eqb n 2)) [
    | inl sell ↦ inr (eqb-true n 2 sell)
    | inr none ↦ absurd (false≢true (sym (ap (λ b. is_some (cond (eqb n 1) (Some Buy) (cond b (Some Sell) None))) none ∙ ap (λ b. is_some (cond b (Some Buy) None)) other) ∙ h))
  ]
]

sided : (n : ℕ) → (n ≡ 1) ⊎ (n ≡ 2) → is_some (side_numbered n) ≡ true
sided n (inl e) = ap (λ k. is_some (side_numbered k)) e
sided n (inr e) = ap (λ k. is_some (side_numbered k)) e

-- a class has a number up to 2, and these have a class
class_of : (n : ℕ) → is_some (class_numbered n) ≡ true → n ≤ 2
class_of n h = elim (cases_Bool (leb n 2)) [
  | inl few ↦ leb-true n 2 few
  | inr many ↦ absurd (false≢true (sym (none n many) ∙ h))
]
  where
    none : (n : ℕ) → leb n 2 ≡ false → is_some (class_numbered n) ≡ false
    none n h = grind (arith, nat_tests)

classed : (n : ℕ) → n ≤ 2 → is_some (class_numbered n) ≡ true
classed n h = grind (arith, nat_tests)

pub orders_formed : OrdersFormed
orders_formed o = (
  λ h.
      let number = and_parts (not (eqb o.number 0)) _ h in
      let entry = and_parts (fits o.price o.shares) _ number.1 in
      let price = and_parts (permitted o.price) _ entry.0 in
      let shares = and_parts (leb 1 o.shares) (leb o.shares most_shares) price.1 in
      let kinds = and_parts (is_some (side_numbered o.side)) (is_some (class_numbered o.class)) entry.1 in
      record {
        number = positive o.number number.0;
        side = side_of o.side kinds.0;
        class = class_of o.class kinds.1;
        price = price.0;
        least = leb-true 1 o.shares shares.0;
        most = leb-true o.shares most_shares shares.1;
      },
  λ f. and_from (not (eqb o.number 0)) _ (numbered o.number f.number) (and_from (fits o.price o.shares) _
      (and_from (permitted o.price) _ f.price
      (and_from (leb 1 o.shares) (leb o.shares most_shares) (le-leb 1 o.shares f.least) (le-leb o.shares most_shares f.most)))
      (and_from (is_some (side_numbered o.side)) (is_some (class_numbered o.class)) (sided o.side f.side) (classed o.class f.class))),
)
  where
    positive : (n : ℕ) → not (eqb n 0) ≡ true → 1 ≤ n
    positive n h = grind (arith, nat_tests)

    numbered : (n : ℕ) → 1 ≤ n → not (eqb n 0) ≡ true
    numbered n h = grind (arith, nat_tests)
