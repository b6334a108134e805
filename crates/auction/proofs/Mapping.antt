-- A change of every row of a side that keeps ranks, numbers and wholeness.
use Rattle.std.proofs.Common.{◌≡◌, ℕ, ◌-◌, Bool, true, List, [], ◌∷◌, ◌++◌, map, length, replicate, sym, refl, ap, ◌∙◌}
use Rattle.std.specs.List.{AllByRecursion}
use Rattle.std.proofs.ByRecursion.{All-weaker, All-map}
use Rattle.std.proofs.lemmas.List.{length-map}
use Rattle.ranking.specs.Ranked.{ranked}
use Rattle.ranking.proofs.Listed.{ranked_map}
use Rattle.market.specs.Prices.{Permitted}
use Rattle.market.specs.declared.side.Side.{Side}
use Rattle.market.specs.declared.side.Side.TheVariants.{Buy, Sell}
use Rattle.orders.specs.declared.row.OrderRow.{OrderRow}
use Rattle.orders.specs.Rows.{empty_row, is_whole}
use Rattle.engine.specs.Effects.{ahead_on}
use Rattle.engine.specs.Limits.{order_rows}
use Rattle.auction.specs.Laws.{then_empty}
use Rattle.auction.proofs.Good.{Free, Sized, SideGood}
use Rattle.auction.proofs.Numbered.{free_mapped, numbers_mapped}

pub record Keeps (g : OrderRow → OrderRow) : Type 0 where
  pub number : (w : OrderRow) → (g w).number ≡ w.number
  pub class : (w : OrderRow) → (g w).class ≡ w.class
  pub price : (w : OrderRow) → (g w).price ≡ w.price
  pub shares : (w : OrderRow) → (g w).shares ≡ w.shares
  pub whole : (w : OrderRow) → is_whole w ≡ true → is_whole (g w) ≡ true

module _ (g : OrderRow → OrderRow) (keeps : Keeps g) where
  ahead_kept : (side : Side) (a b : OrderRow) → ahead_on side (g a) (g b) ≡ ahead_on side a b
  ahead_kept Buy a b = rw (keeps.number a, keeps.number b, keeps.class a, keeps.class b, keeps.price a, keeps.price b) refl
  ahead_kept Sell a b = rw (keeps.number a, keeps.number b, keeps.class a, keeps.class b, keeps.price a, keeps.price b) refl

  -- the rows are changed as the orders are
  pub side_mapped : (side : Side) (used : ℕ) (rows rows' ws : List OrderRow) → SideGood side used rows ws
      → rows' ≡ map g (ranked (ahead_on side) ws) ++ replicate (order_rows - length (ranked (ahead_on side) ws)) empty_row
      → SideGood side used rows' (map g ws)
  side_mapped side used rows rows' ws good is =
      let ahead : OrderRow → OrderRow → Bool = ahead_on side in
      let as_many = length-map ws g in
      let as-ranked = ranked_map ahead g (ahead_kept side) ws in
      record {
        used_is = good.used_is ∙ sym as_many;
        within = rw as_many good.within;
        rows_is =
            is ∙ ap (λ n. map g (ranked ahead ws) ++ replicate (order_rows - n) empty_row) (sym (length-map (ranked ahead ws) g))
            ∙ ap (then_empty order_rows empty_row) (sym as-ranked);
        whole = All-map (λ w. is_whole w ≡ true) g ws (All-weaker (λ w. is_whole w ≡ true) (λ w. is_whole (g w) ≡ true) keeps.whole ws good.whole);
        priced = All-map (λ w. Permitted w.price) g ws (All-weaker (λ w. Permitted w.price) (λ w. Permitted (g w).price) (λ w k. rw (keeps.price w) k) ws good.priced);
        sized = All-map Sized g ws (All-weaker Sized (λ w. Sized (g w)) (λ w k. record { number = rw (keeps.number w) k.number; class = rw (keeps.class w) k.class; least = rw (keeps.shares w) k.least; most = rw (keeps.shares w) k.most }) ws good.sized);
        numbered = numbers_mapped g keeps.number ws good.numbered;
      }

-- each side by a change of its own, and the sides stay apart
pub apart_mapped : (f g : OrderRow → OrderRow) → Keeps f → Keeps g → (bs ss : List OrderRow) → AllByRecursion (λ b. Free b.number ss) bs → AllByRecursion (λ b. Free b.number (map g ss)) (map f bs)
apart_mapped f g kf kg [] ss a = tt
apart_mapped f g kf kg (b ∷ bs) ss a = (rw (kf.number b) (free_mapped g kg.number b.number ss a.0), apart_mapped f g kf kg bs ss a.1)
