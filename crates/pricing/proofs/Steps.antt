-- The permitted prices in their order.
use Rattle.std.proofs.Common.{◌≡◌, ℕ, ◌+◌, ◌-◌, ◌*◌, ◌/◌, ◌<◌, ◌≤◌, max, ◌⊎◌, inl, inr, arith}
use Rattle.std.proofs.lemmas.Bool.Decides.{nat_tests}
use Rattle.std.proofs.lemmas.Bool.{cases_lt}
use Rattle.market.specs.Prices.{Permitted}
use Rattle.market.proofs.Grid.{grid, permitted_since}
use Rattle.pricing.specs.Limits.{permitted_prices}
use Rattle.pricing.specs.Ranges.{price_at}

-- two lines, the steeper from a dollar on
pub price_max : (i : ℕ) → price_at i ≡ max (2 * i) (200 * i - 1980000)
price_max i = grind (arith, nat_tests)

pub price_rises : (a b : ℕ) → a < b → price_at a < price_at b
price_rises a b h = omega (arith, price_max a, price_max b)

pub permitted_at : (i : ℕ) → 1 ≤ i → i ≤ permitted_prices → Permitted (price_at i)
permitted_at i low high = permitted_since (price_at i) (record {
  even = omega (arith, price_max i);
  least = omega (arith, price_max i);
  most = omega (arith, price_max i);
  coarse = λ h. omega (arith, price_max i);
})

-- no permitted price stands between neighbours
pub no_between : (i p : ℕ) → Permitted p → (p ≤ price_at i) ⊎ (price_at (i + 1) ≤ p)
no_between i p ok =
    let g = grid p ok in
    elim (cases_lt (price_at i) p) [
      | inr h ↦ inl h
      | inl h ↦ elim (cases_lt p 20000) [
        | inl lt ↦ inr (omega (arith, price_max i, price_max (i + 1), g.even))
        | inr ge ↦ inr (omega (arith, price_max i, price_max (i + 1), g.even, g.coarse ge))
      ]
    ]

pub index_of : (p : ℕ) → Permitted p → (i : ℕ) × (1 ≤ i) × (i ≤ permitted_prices) × (p ≡ price_at i)
index_of p ok =
    let g = grid p ok in
    elim (cases_lt p 20000) [
      | inl lt ↦ (p / 2, omega (arith, g.least), omega arith, omega (arith, price_max (p / 2), g.even))
      | inr ge ↦ (10000 + (p - 20000) / 200, omega arith, omega (arith, g.most), omega (arith, price_max (10000 + (p - 20000) / 200), g.coarse ge))
    ]
