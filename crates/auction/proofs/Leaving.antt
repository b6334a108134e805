-- What a cancel, an abort and a close on a halted market take from the rests, and what they answer.
use Rattle.std.proofs.Common.{◌≡◌, ℕ, suc, ◌+◌, ◌<◌, ◌≤◌, Bool, true, false, cond, not, eqb, ltb, List, [], ◌∷◌, map, length, take, get_or, is_some, Some, None, sum_by, sym, refl, ap, ◌∙◌, arith}
use Rattle.std.specs.List.{AllByRecursion}
use Rattle.std.proofs.ByRecursion.{All-get_or}
use Rattle.std.proofs.lemmas.List.Sums.{sum_by-cons}
use Rattle.std.proofs.lemmas.Bool.{both_ways, cond-false, eqb-true, ltb-true}
use Rattle.ranking.specs.Ranked.{ranked}
use Rattle.ranking.proofs.Ranks.{sum_ranked, all_ranked}
use Rattle.market.specs.declared.side.Side.{Side}
use Rattle.market.specs.declared.side.Side.TheVariants.{Buy, Sell}
use Rattle.pricing.proofs.Levels.{sum_by_none}
use Rattle.orders.specs.declared.row.OrderRow.{OrderRow}
use Rattle.orders.specs.Rows.{empty_row, is_whole, with_cancelled}
use Rattle.orders.specs.Tables.{before, place_of, available}
use Rattle.engine.specs.declared.stage.Stage.TheVariants.{Open}
use Rattle.engine.specs.declared.state.Engine.{Engine}
use Rattle.engine.specs.States.{TableRows, buys_in, sells_in}
use Rattle.engine.specs.Questions.{rest_at, rest_of}
use Rattle.engine.specs.Effects.{ahead_on, all_rests}
use Rattle.auction.specs.Tallies.{Tally, tally_in_stage, on_number, changed, orders_cancelled}
use Rattle.auction.specs.Laws.{over_all, others, NoRestOf, but_cancelled, LeavesRest, Cancels, Ends}
use Rattle.auction.proofs.Good.{Numbers, Free, SideGood, Good}
use Rattle.auction.proofs.Used.{in_use}
use Rattle.auction.proofs.Numbered.{numbers_ranked, nowhere}
use Rattle.auction.proofs.OnBook.{off_book, on_book_lem}
use Rattle.auction.proofs.Resting.{rows_sum, sum_available}
use Rattle.auction.proofs.Tallied.{sum_rises}

pub sum_falls : (count less : OrderRow → ℕ) (g : OrderRow → OrderRow) → ((w : OrderRow) → count w ≡ count (g w) + less w) → (ws : List OrderRow)
    → sum_by count ws ≡ sum_by count (map g ws) + sum_by less ws
sum_falls count less g falls [] = refl
sum_falls count less g falls (w ∷ ws) = omega (
  arith,
  sum_by-cons count (g w) (map g ws),
  sum_by-cons count w ws,
  sum_by-cons less w ws,
  falls w,
  sum_falls count less g falls ws,
)

-- a change that keeps what is looked at
pub map_kept : {X : Type 0} (look : OrderRow → X) (g : OrderRow → OrderRow) → ((w : OrderRow) → look (g w) ≡ look w) → (ws : List OrderRow) → map look (map g ws) ≡ map look ws
map_kept look g same [] = refl
map_kept look g same (w ∷ ws) = ap (λ x. x ∷ map look (map g ws)) (same w) ∙ ap (λ xs. look w ∷ xs) (map_kept look g same ws)

-- the order with a number is cancelled
module _ (n : ℕ) where
  own : OrderRow → ℕ
  own w = cond (eqb w.number n) w.rest 0

  abbrev one : OrderRow → OrderRow
  one w = cond (eqb w.number n) (with_cancelled w) w

  rest_falls : (w : OrderRow) → w.rest ≡ (one w).rest + own w
  unfolding own
  rest_falls w = elim (eqb w.number n) as (λ b. w.rest ≡ (cond b (with_cancelled w) w).rest + cond b w.rest 0) [ true ↦ omega arith | false ↦ omega arith ]

  cancelled_rises : (w : OrderRow) → (one w).cancelled ≡ w.cancelled + own w
  unfolding own
  cancelled_rises w = elim (eqb w.number n) as (λ b. (cond b (with_cancelled w) w).cancelled ≡ w.cancelled + cond b w.rest 0) [ true ↦ refl | false ↦ omega arith ]

  same_but : (w : OrderRow) → but_cancelled (one w) ≡ but_cancelled w
  same_but w = elim (eqb w.number n) as (λ b. but_cancelled (cond b (with_cancelled w) w) ≡ but_cancelled w) [ true ↦ refl | false ↦ refl ]

  one_leaves : (y : Tally) (shares : ℕ) → shares ≡ sum_by own y.buys + sum_by own y.sells → LeavesRest shares y (changed n with_cancelled y)
  one_leaves y shares is = record {
    rest = omega (arith, is, sum_falls (λ w. w.rest) own one rest_falls y.buys, sum_falls (λ w. w.rest) own one rest_falls y.sells);
    cancelled = omega (arith, is, sum_rises (λ w. w.cancelled) own one cancelled_rises y.buys, sum_rises (λ w. w.cancelled) own one cancelled_rises y.sells);
    buys = map_kept but_cancelled one same_but y.buys;
    sells = map_kept but_cancelled one same_but y.sells;
  }

  no_rest : (ws : List OrderRow) → NoRestOf n (on_number n with_cancelled ws)
  no_rest [] = tt
  no_rest (w ∷ ws) = (by_test (eqb w.number n) refl, no_rest ws)
    where
      by_test : (t : Bool) → eqb w.number n ≡ t → eqb (cond t (with_cancelled w) w).number n ≡ true → (cond t (with_cancelled w) w).rest ≡ 0
      by_test true e k = refl
      by_test false e k = absurd (both_ways (eqb w.number n) e k)

  others_stay : (ws : List OrderRow) → others n (on_number n with_cancelled ws) ≡ others n ws
  others_stay [] = refl
  others_stay (w ∷ ws) = by_test (others_stay ws) (eqb w.number n) refl
    where
      by_test : others n (on_number n with_cancelled ws) ≡ others n ws → (t : Bool) → eqb w.number n ≡ t
          → others n (cond t (with_cancelled w) w ∷ on_number n with_cancelled ws) ≡ others n (w ∷ ws)
      by_test rest true e = rw e rest
      by_test rest false e = rw e (ap (λ vs. w ∷ vs) rest)

  -- the rest of the order with the number, where it stands, and where it stands nowhere
  own_none : (ws : List OrderRow) → Free n ws → sum_by own ws ≡ 0
  unfolding own
  own_none ws free = sum_by_none (λ w. eqb w.number n ≡ false) own (λ w h. cond-false (eqb w.number n) w.rest 0 h) ws free

  own_at : (ws : List OrderRow) → Numbers ws → before n ws < length ws → sum_by own ws ≡ (get_or ws (before n ws) empty_row).rest
  unfolding own
  own_at [] m h = absurd (omega arith)
  own_at (w ∷ ws) m h = by_test (own_at ws m.1) (eqb w.number n) refl h
    where
      by_test : (before n ws < length ws → sum_by own ws ≡ (get_or ws (before n ws) empty_row).rest) → (t : Bool) → eqb w.number n ≡ t → cond (not t) (1 + before n ws) 0 < length (w ∷ ws)
          → sum_by own (w ∷ ws) ≡ (get_or (w ∷ ws) (cond (not t) (1 + before n ws) 0) empty_row).rest
      by_test rest true e l =
          let is = eqb-true w.number n e in
          let here : own w ≡ w.rest = ap (λ b. cond b w.rest 0) e in
          omega (arith, sum_by-cons own w ws, here, own_none ws (rw is at m.0))
      by_test rest false e l =
          let s : 1 + before n ws ≡ suc (before n ws) = omega arith in
          let gone : own w ≡ 0 = ap (λ b. cond b w.rest 0) e in
          let later = rest (omega arith) in
          rw s (omega (arith, sum_by-cons own w ws, gone, later))

  -- the rest at the place of the number, if it has one
  rest_placed : (ws : List OrderRow) → Numbers ws → AllByRecursion (λ w. is_whole w ≡ true) ws → rest_at (place_of n ws) ws ≡ sum_by own ws
  rest_placed ws m whole = by_test (ltb (before n ws) (length ws)) refl
    where
      by_test : (t : Bool) → ltb (before n ws) (length ws) ≡ t → rest_at (cond t (Some (before n ws)) None) ws ≡ sum_by own ws
      by_test true h =
          let l = ltb-true (before n ws) (length ws) h in
          ap (λ t. cond t (get_or ws (before n ws) empty_row).rest 0) (All-get_or (λ w. is_whole w ≡ true) ws (before n ws) empty_row l whole) ∙ sym (own_at ws m l)
      by_test false h = sym (own_none ws (nowhere n ws h))

  module _ (side : Side) (used : ℕ) (rows ws : List OrderRow) (good : SideGood side used rows ws) where
    rest_used : rest_at (place_of n (take used rows)) (take used rows) ≡ sum_by own ws
    rest_used =
        ap (λ rs. rest_at (place_of n rs) rs) (in_use side used rows ws good)
        ∙ rest_placed (ranked (ahead_on side) ws) (numbers_ranked (ahead_on side) ws good.numbered) (all_ranked (ahead_on side) (λ w. is_whole w ≡ true) ws good.whole)
        ∙ sum_ranked (ahead_on side) own ws

  module _ (e : Engine) (h : TableRows) (y : Tally) (good : Good e h y) where
    -- what a cancel answers
    rest_of_order : rest_of e h n ≡ sum_by own y.buys + sum_by own y.sells
    rest_of_order = by_side (is_some (place_of n (buys_in e h))) refl
      where
        b : rest_at (place_of n (buys_in e h)) (buys_in e h) ≡ sum_by own y.buys
        b = rest_used Buy e.used.buys h.buys y.buys good.buys

        s : rest_at (place_of n (sells_in e h)) (sells_in e h) ≡ sum_by own y.sells
        s = rest_used Sell e.used.sells h.sells y.sells good.sells

        by_side : (t : Bool) → is_some (place_of n (buys_in e h)) ≡ t
            → cond t (rest_at (place_of n (buys_in e h)) (buys_in e h)) (rest_at (place_of n (sells_in e h)) (sells_in e h)) ≡ sum_by own y.buys + sum_by own y.sells
        by_side true is = omega (arith, b, own_none y.sells (on_book_lem n Buy e.used.buys h.buys y.buys good.buys (λ k. Free k y.sells) is good.sides_apart))
        by_side false is = omega (arith, s, own_none y.buys (off_book n Buy e.used.buys h.buys y.buys good.buys is))

    pub cancels : 1 ≤ rest_of e h n → Cancels n (rest_of e h n) y (changed n with_cancelled y)
    cancels some = record {
      some = some;
      leaves = one_leaves y (rest_of e h n) rest_of_order;
      buys_own = no_rest y.buys;
      sells_own = no_rest y.sells;
      buys_others = others_stay y.buys;
      sells_others = others_stay y.sells;
      only = refl;
    }

-- every rest is cancelled
none_left : (ws : List OrderRow) → sum_by (λ w. w.rest) (map with_cancelled ws) ≡ 0
none_left [] = refl
none_left (w ∷ ws) = omega (arith, sum_by-cons (λ v. v.rest) (with_cancelled w) (map with_cancelled ws), none_left ws)

pub ends : (shares : ℕ) (y : Tally) → shares ≡ over_all (λ w. w.rest) y → Ends shares y (tally_in_stage Open (orders_cancelled y))
ends shares y is = record {
  leaves = record {
    rest = omega (arith, is, none_left y.buys, none_left y.sells);
    cancelled = omega (
      arith,
      is,
      sum_rises (λ w. w.cancelled) (λ w. w.rest) with_cancelled (λ w. refl) y.buys,
      sum_rises (λ w. w.cancelled) (λ w. w.rest) with_cancelled (λ w. refl) y.sells,
    );
    buys = map_kept but_cancelled with_cancelled (λ w. refl) y.buys;
    sells = map_kept but_cancelled with_cancelled (λ w. refl) y.sells;
  };
  none = omega (arith, none_left y.buys, none_left y.sells);
  only = refl;
}

-- what an abort answers
pub all_rests_of : (e : Engine) (h : TableRows) (y : Tally) → Good e h y → all_rests h ≡ over_all (λ w. w.rest) y
all_rests_of e h y good = omega (
  arith,
  rows_sum Buy e.used.buys h.buys y.buys good.buys available refl,
  rows_sum Sell e.used.sells h.sells y.sells good.sells available refl,
  sum_available y.buys good.buys.whole,
  sum_available y.sells good.sells.whole,
)
