-- That prices and quotes are in a rank order. These are proofs, which nobody has to believe; they stand here since an
-- impl cannot name what stands in the proofs of its own crate.
use Rattle.std.specs.Prelude.{◌≡◌, ℕ, Bool, true, false}
use Rattle.std.proofs.Common.{arith}
use Rattle.std.proofs.lemmas.Bool.Decides.{nat_tests}
use Rattle.market.specs.declared.quote.Quote.{Quote}
use Rattle.market.specs.Rankings.{higher, lower, quote_ahead, IsPriceOrder}

pub higher_laws : IsPriceOrder higher
higher_laws = record {
  apart = λ a b h. grind (arith, nat_tests);
  through = λ a b c h k. grind (arith, nat_tests);
  either = λ a b h k. grind (arith, nat_tests);
}

pub lower_laws : IsPriceOrder lower
lower_laws = record {
  apart = λ a b h. grind (arith, nat_tests);
  through = λ a b c h k. grind (arith, nat_tests);
  either = λ a b h k. grind (arith, nat_tests);
}

module _ (better : ℕ → ℕ → Bool) (laws : IsPriceOrder better) where
  pub quote_apart : (a b : Quote) → quote_ahead better a b ≡ true → quote_ahead better b a ≡ false
  quote_apart a b h = let same = laws.apart a.price b.price in grind (arith, nat_tests)

  pub quote_through : (a b c : Quote) → quote_ahead better a b ≡ true → quote_ahead better b c ≡ true
      → quote_ahead better a c ≡ true
  quote_through a b c h k =
      let p = laws.through a.price b.price c.price in
      let q = laws.apart a.price b.price in
      grind (arith, nat_tests)

  pub quote_level : (a b c : Quote)
      → quote_ahead better a b ≡ false → quote_ahead better b a ≡ false
      → quote_ahead better b c ≡ false → quote_ahead better c b ≡ false
      → quote_ahead better a c ≡ false
  quote_level a b c h k l m =
      let p = laws.either a.price b.price in
      let q = laws.either b.price c.price in
      grind (arith, nat_tests)
