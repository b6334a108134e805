-- A permitted price by its remainders, which arithmetic can use.
use Rattle.std.proofs.Common.{◌≡◌, ℕ, ◌+◌, ◌%◌, ◌≤◌, inl, inr, arith}
use Rattle.std.proofs.lemmas.Bool.Decides.{nat_tests}
use Rattle.std.proofs.lemmas.Bool.{cases_lt}
use Rattle.market.specs.Prices.{Permitted}
use Rattle.market.specs.Laws.{PriceGrid, EntryFits, QuotesRank}

pub record Grid (q : ℕ) : Type 0 where
  pub even : q % 2 ≡ 0
  pub least : 2 ≤ q
  pub most : q ≤ 4000000000
  pub coarse : 20000 ≤ q → q % 200 ≡ 0

pub grid : (q : ℕ) → Permitted q → Grid q
grid q t = record {
  even = grind (arith, nat_tests);
  least = grind (arith, nat_tests);
  most = grind (arith, nat_tests);
  coarse = λ h. grind (arith, nat_tests);
}

pub permitted_since : (q : ℕ) → Grid q → Permitted q
permitted_since q ok =
    elim (cases_lt q 20000) [
      | inl lt ↦ let e = ok.even in let l = ok.least in grind (arith, nat_tests)
      | inr ge ↦ let m = ok.most in let k = ok.coarse ge in grind (arith, nat_tests)
    ]

-- the midpoint of two permitted prices is whole
pub midpoint_whole : (a b : ℕ) → Permitted a → Permitted b → (a + b) % 2 ≡ 0
midpoint_whole a b p q = let e = (grid a p).even in let f = (grid b q).even in omega arith

pub price_grid : PriceGrid
price_grid p = (
  λ t.
      let ok = grid p t in
      elim (cases_lt p 20000) [
        | inl lt ↦ inl (record { least = ok.least; most = let e = ok.even in omega arith; even = ok.even })
        | inr ge ↦ inr (record { least = ge; most = ok.most; cents = ok.coarse ge })
      ],
  λ either. elim either [
    | inl b ↦ permitted_since p (record { even = b.even; least = b.least; most = let m = b.most in omega arith; coarse = λ h. let m = b.most in absurd (omega arith) })
    | inr f ↦ permitted_since p (record { even = let e = f.cents in omega arith; least = let l = f.least in omega arith; most = f.most; coarse = λ h. f.cents })
  ],
)

pub entry_fits : EntryFits
entry_fits price shares = (
  λ t. (grind (arith, nat_tests), grind (arith, nat_tests), grind (arith, nat_tests)),
  λ parts. let a = parts.0 in let b = parts.1 in let c = parts.2 in grind (arith, nat_tests),
)

pub quotes_rank : QuotesRank
quotes_rank a b = record {
  bids = λ h. grind (arith, nat_tests);
  offers = λ h. grind (arith, nat_tests);
  level_bids = λ h. grind (arith, nat_tests);
  level_offers = λ h. grind (arith, nat_tests);
}
