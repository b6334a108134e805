-- That the orders of a side are in a rank order. These are proofs, which nobody has to believe; they stand here since
-- an impl cannot name what stands in the proofs of its own crate.
use Rattle.std.specs.Prelude.{◌≡◌, ℕ, Bool, true, false}
use Rattle.std.proofs.Common.{arith}
use Rattle.std.proofs.lemmas.Bool.Decides.{nat_tests}
use Rattle.market.specs.Rankings.{IsPriceOrder}
use Rattle.orders.specs.declared.row.OrderRow.{OrderRow}
use Rattle.orders.specs.Rankings.{row_ahead}
use Rattle.orders.specs.Rows.{level_of}

module _ (better : ℕ → ℕ → Bool) (laws : IsPriceOrder better) where
  pub row_apart : (a b : OrderRow) → row_ahead better a b ≡ true → row_ahead better b a ≡ false
  row_apart a b h = let same = laws.apart (level_of a).price (level_of b).price in grind (arith, nat_tests)

  pub row_through : (a b c : OrderRow) → row_ahead better a b ≡ true → row_ahead better b c ≡ true
      → row_ahead better a c ≡ true
  row_through a b c h k =
      let p = laws.through (level_of a).price (level_of b).price (level_of c).price in
      let q = laws.apart (level_of a).price (level_of b).price in
      grind (arith, nat_tests)

  pub row_level : (a b c : OrderRow) → row_ahead better a b ≡ false → row_ahead better b a ≡ false
      → row_ahead better b c ≡ false → row_ahead better c b ≡ false → row_ahead better a c ≡ false
  row_level a b c h k l m =
      let p = laws.either (level_of a).price (level_of b).price in
      let q = laws.either (level_of b).price (level_of c).price in
      grind (arith, nat_tests)
