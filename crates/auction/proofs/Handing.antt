-- Shares handed out over the rows of a side are handed out over its orders, however they are
-- listed.
use Rattle.std.proofs.Common.{◌≡◌, ℕ, zero, suc, ◌+◌, ◌-◌, ◌<◌, min, Bool, true, cond, List, [], ◌∷◌, ◌++◌, map, length, get_or, replicate, sum_by, sym, refl, ap, ◌∙◌, arith}
use Rattle.std.specs.List.{AllByRecursion}
use Rattle.std.proofs.lemmas.List.{length-map, get_or-map, ext_get_or}
use Rattle.std.proofs.ByRecursion.{All-get_or}
use Rattle.ranking.specs.Ranked.{ranked}
use Rattle.ranking.proofs.Ranks.{sum_ranked, all_ranked}
use Rattle.market.specs.declared.side.Side.{Side}
use Rattle.market.specs.declared.side.Side.TheVariants.{Buy, Sell}
use Rattle.pricing.proofs.Levels.{sum_by_same}
use Rattle.orders.specs.declared.row.OrderRow.{OrderRow}
use Rattle.orders.specs.Rows.{empty_row, is_whole, with_here, with_out}
use Rattle.orders.specs.Tables.{available, handed}
use Rattle.orders.proofs.Conserved.{length_handed, in_order, stays_whole}
use Rattle.routing.specs.Allotment.{ahead_of}
use Rattle.routing.proofs.Allots.{rows_handed}
use Rattle.engine.specs.Effects.{ahead_on}
use Rattle.engine.specs.Limits.{order_rows}
use Rattle.auction.specs.Tallies.{share_of, handed_out}
use Rattle.auction.proofs.Good.{Numbers, Free, SideGood}
use Rattle.auction.proofs.Mapping.{Keeps, side_mapped, apart_mapped}
use Rattle.auction.proofs.Ranking.{apart_on, sorted_on, distinct_on}

-- a change that takes up to n shares from the rest of an order, and keeps what ranks it
pub record Takes (g : ℕ → OrderRow → OrderRow) : Type 0 where
  pub keeps : (n : ℕ) → Keeps (g n)
  pub rest : (n : ℕ) (w : OrderRow) → (g n w).rest ≡ w.rest - n
  pub most : (n : ℕ) (w : OrderRow) → g (min w.rest n) w ≡ g n w
  pub empty : (n : ℕ) → g n empty_row ≡ empty_row
  pub none : (w : OrderRow) → g 0 w ≡ w

min_min : (r n : ℕ) → min (min r n) r ≡ min n r
min_min r n = omega arith

less_min : (r n : ℕ) → r - min r n ≡ r - n
less_min r n = omega arith

pub out_takes : Takes with_out
out_takes = record {
  keeps = λ n. record { number = λ w. refl; class = λ w. refl; price = λ w. refl; shares = λ w. refl; whole = λ w h. (stays_whole w h).out n };
  rest = λ n w. refl;
  most = λ n w. let e = min_min w.rest n in let f = less_min w.rest n in cc;
  empty = λ n. let e : 0 - n ≡ 0 = omega arith in let f : 0 + min n 0 ≡ 0 = omega arith in cc;
  none = λ w. let e : w.rest - 0 ≡ w.rest = omega arith in let f : w.out + min 0 w.rest ≡ w.out = omega arith in rw (e, f);
}

pub here_takes : Takes with_here
here_takes = record {
  keeps = λ n. record { number = λ w. refl; class = λ w. refl; price = λ w. refl; shares = λ w. refl; whole = λ w h. (stays_whole w h).here n };
  rest = λ n w. refl;
  most = λ n w. let e = min_min w.rest n in let f = less_min w.rest n in cc;
  empty = λ n. let e : 0 - n ≡ 0 = omega arith in let f : 0 + min n 0 ≡ 0 = omega arith in cc;
  none = λ w. let e : w.rest - 0 ≡ w.rest = omega arith in let f : w.here + min 0 w.rest ≡ w.here = omega arith in rw (e, f);
}

-- empty rows have nothing to hand out
handed_empty : (g : ℕ → OrderRow → OrderRow) → ((n : ℕ) → g n empty_row ≡ empty_row) → (k n : ℕ) → handed g k (replicate n empty_row) ≡ replicate n empty_row
handed_empty g empty k zero = refl
handed_empty g empty k (suc n) =
    ap (λ w. w ∷ handed g (k - 0) (replicate n empty_row)) (empty k) ∙ ap (λ ws. empty_row ∷ ws) (handed_empty g empty (k - 0) n)

-- among whole rows the shares ahead of one are the rests ahead of it
available_ahead : (ahead : OrderRow → OrderRow → Bool) (o : OrderRow) (ws : List OrderRow) → AllByRecursion (λ w. is_whole w ≡ true) ws
    → ahead_of ahead available o ws ≡ ahead_of ahead (λ w. w.rest) o ws
available_ahead ahead o ws all =
    sum_by_same (λ w. is_whole w ≡ true) (λ w. cond (ahead w o) (available w) 0) (λ w. cond (ahead w o) w.rest 0)
    (λ w h. ap (λ t. cond (ahead w o) (cond t w.rest 0) 0) h) ws all

module _ (g : ℕ → OrderRow → OrderRow) (takes : Takes g) (side : Side) (k : ℕ) (ws : List OrderRow) where
  -- what one order is after the handing out
  abbrev after : OrderRow → OrderRow
  after w = g (share_of side k ws w) w

  keeps_after : Keeps after
  keeps_after = record {
    number = λ w. (takes.keeps (share_of side k ws w)).number w;
    class = λ w. (takes.keeps (share_of side k ws w)).class w;
    price = λ w. (takes.keeps (share_of side k ws w)).price w;
    shares = λ w. (takes.keeps (share_of side k ws w)).shares w;
    whole = λ w h. (takes.keeps (share_of side k ws w)).whole w h;
  }

  module _ (whole : AllByRecursion (λ w. is_whole w ≡ true) ws) (numbered : Numbers ws) where
    handed_row : (i : ℕ) → i < length (ranked (ahead_on side) ws)
        → get_or (handed g k (ranked (ahead_on side) ws)) i empty_row ≡ after (get_or (ranked (ahead_on side) ws) i empty_row)
    handed_row i h =
        let rs : List OrderRow = ranked (ahead_on side) ws in
        let w : OrderRow = get_or rs i empty_row in
        let all = all_ranked (ahead_on side) (λ v. is_whole v ≡ true) ws whole in
        let is = All-get_or (λ v. is_whole v ≡ true) rs i empty_row h all in
        let at = rows_handed (ahead_on side) (apart_on side) g rs (sorted_on side ws) (distinct_on side ws numbered) k i h in
        let a = available_ahead (ahead_on side) w rs all in
        let b = sum_ranked (ahead_on side) (λ v. cond (ahead_on side v w) v.rest 0) ws in
        at
        ∙ ap (λ t. cond t (g (k - ahead_of (ahead_on side) available w rs) w) w) is
        ∙ ap (λ n. g (k - n) w) (a ∙ b)
        ∙ sym (takes.most (k - ahead_of (ahead_on side) (λ v. v.rest) w ws) w)

    pub handed_mapped : handed g k (ranked (ahead_on side) ws) ≡ map after (ranked (ahead_on side) ws)
    handed_mapped =
        let rs : List OrderRow = ranked (ahead_on side) ws in
        ext_get_or empty_row (handed g k rs) (map after rs) (length_handed g k rs ∙ sym (length-map rs after))
        (λ i h. let l : i < length rs = omega (arith, length_handed g k rs) in handed_row i l ∙ sym (get_or-map after rs i empty_row empty_row l))

  pub side_handed : (used : ℕ) (rows : List OrderRow) → SideGood side used rows ws → SideGood side used (handed g k rows) (handed_out g side k ws)
  side_handed used rows good =
      let rs : List OrderRow = ranked (ahead_on side) ws in
      let past : List OrderRow = replicate (order_rows - length rs) empty_row in
      side_mapped after keeps_after side used rows (handed g k rows) ws good
      (ap (handed g k) good.rows_is
      ∙ in_order g k rs past
      ∙ ap (λ xs. handed g k rs ++ xs) (handed_empty g takes.empty (k - sum_by available rs) (order_rows - length rs))
      ∙ ap (λ xs. xs ++ past) (handed_mapped good.whole good.numbered))

pub apart_handed : (g : ℕ → OrderRow → OrderRow) → Takes g → (i j : ℕ) (bs ss : List OrderRow)
    → AllByRecursion (λ b. Free b.number ss) bs → AllByRecursion (λ b. Free b.number (handed_out g Sell j ss)) (handed_out g Buy i bs)
apart_handed g takes i j bs ss apart = apart_mapped _ _ (keeps_after g takes Buy i bs) (keeps_after g takes Sell j ss) bs ss apart

-- no shares to hand out leave all orders as they are
pub none_handed : (g : ℕ → OrderRow → OrderRow) → Takes g → (side : Side) (ws : List OrderRow) → handed_out g side 0 ws ≡ ws
none_handed g takes side ws = map_same _ (λ w. let e : share_of side 0 ws w ≡ 0 = omega arith in ap (λ n. g n w) e ∙ takes.none w) ws
  where
    map_same : (f : OrderRow → OrderRow) → ((w : OrderRow) → f w ≡ w) → (vs : List OrderRow) → map f vs ≡ vs
    map_same f same [] = refl
    map_same f same (v ∷ vs) = ap (λ u. u ∷ map f vs) (same v) ∙ ap (λ us. v ∷ us) (map_same f same vs)
