-- The ranking of the orders of a side: its laws, and that orders with different numbers are never
-- level.
use Rattle.std.proofs.Common.{◌≡◌, true, false, eqb, List, [], ◌∷◌, ◌∙◌, arith}
use Rattle.std.proofs.ByRecursion.{All-weaker}
use Rattle.std.proofs.lemmas.Bool.Decides.{nat_tests}
use Rattle.ranking.specs.Ranked.{ranked, Sorted, Distinct, level}
use Rattle.ranking.proofs.Ranks.{Unlike, sorted_ranked, distinct_ranked}
use Rattle.market.specs.declared.side.Side.{Side}
use Rattle.market.specs.declared.side.Side.TheVariants.{Buy, Sell}
use Rattle.orders.specs.declared.row.OrderRow.{OrderRow}
use Rattle.engine.specs.Effects.{ahead_on}
use Rattle.auction.proofs.Good.{Numbers}

pub apart_on : (side : Side) (a b : OrderRow) → ahead_on side a b ≡ true → ahead_on side b a ≡ false
apart_on Buy a b h = grind (arith, nat_tests)
apart_on Sell a b h = grind (arith, nat_tests)

pub through_on : (side : Side) (a b c : OrderRow) → ahead_on side a b ≡ true → ahead_on side b c ≡ true → ahead_on side a c ≡ true
through_on Buy a b c h k = grind (arith, nat_tests)
through_on Sell a b c h k = grind (arith, nat_tests)

-- orders of which neither is ahead of the other are alike in all that ranks them
module _ (a b : OrderRow) where
  abbrev Alike : Type 0
  Alike = (a.price ≡ b.price) × (a.class ≡ b.class) × (a.number ≡ b.number)

  level_alike : (side : Side) → ahead_on side a b ≡ false → ahead_on side b a ≡ false → Alike
  level_alike Buy h k = (grind (arith, nat_tests), grind (arith, nat_tests), grind (arith, nat_tests))
  level_alike Sell h k = (grind (arith, nat_tests), grind (arith, nat_tests), grind (arith, nat_tests))

  alike_level : (side : Side) → Alike → ahead_on side a b ≡ false
  alike_level Buy h = let p = h.0 in let c = h.1 in let n = h.2 in grind (arith, nat_tests)
  alike_level Sell h = let p = h.0 in let c = h.1 in let n = h.2 in grind (arith, nat_tests)

level_on : (side : Side) (a b c : OrderRow) → ahead_on side a b ≡ false → ahead_on side b a ≡ false → ahead_on side b c ≡ false
    → ahead_on side c b ≡ false → ahead_on side a c ≡ false
level_on side a b c h k l m =
    let x = level_alike a b side h k in
    let y = level_alike b c side l m in
    alike_level a c side (x.0 ∙ y.0, x.1 ∙ y.1, x.2 ∙ y.2)

not_level : (side : Side) (w v : OrderRow) → eqb v.number w.number ≡ false → level (ahead_on side) w v ≡ false
not_level Buy w v h = grind (arith, nat_tests)
not_level Sell w v h = grind (arith, nat_tests)

unlike : (side : Side) (ws : List OrderRow) → Numbers ws → Unlike (ahead_on side) ws
unlike side [] n = tt
unlike side (w ∷ ws) n =
    (All-weaker (λ v. eqb v.number w.number ≡ false) (λ v. level (ahead_on side) w v ≡ false) (λ v h. not_level side w v h) ws n.0, unlike side ws n.1)

pub sorted_on : (side : Side) (ws : List OrderRow) → Sorted (ahead_on side) (ranked (ahead_on side) ws)
sorted_on side ws = sorted_ranked (ahead_on side) (apart_on side) (through_on side) (level_on side) ws

pub distinct_on : (side : Side) (ws : List OrderRow) → Numbers ws → Distinct (ahead_on side) (ranked (ahead_on side) ws)
distinct_on side ws n = distinct_ranked (ahead_on side) ws (unlike side ws n)
