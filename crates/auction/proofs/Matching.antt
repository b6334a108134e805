-- A match keeps the engine, its tables and the tally together, and executes as much on one side as
-- on the other.
use Rattle.std.proofs.Common.{◌≡◌, ℕ, ◌+◌, ◌≤◌, min, sum_by, refl, ap, ◌∙◌, subst, arith, Some}
use Rattle.market.specs.declared.side.Side.TheVariants.{Buy, Sell}
use Rattle.pricing.specs.Books.{executable_at}
use Rattle.orders.specs.Rows.{with_here}
use Rattle.orders.specs.Tables.{rest_levels}
use Rattle.engine.specs.declared.state.Engine.{Engine}
use Rattle.engine.specs.Stages.{price_of}
use Rattle.engine.specs.States.{TableRows}
use Rattle.engine.specs.Effects.{to_execute, matched}
use Rattle.auction.specs.Tallies.{Tally, share_of, matchable, executed}
use Rattle.auction.specs.Laws.{but_here, Matches}
use Rattle.auction.proofs.Good.{Good}
use Rattle.auction.proofs.Handing.{here_takes, side_handed, apart_handed}
use Rattle.auction.proofs.RankOrder.{executed_in_rank}
use Rattle.auction.proofs.Reaching.{executed_limits}
use Rattle.auction.proofs.Exhausting.{match_exhausts}
use Rattle.auction.proofs.Leaving.{map_kept}
use Rattle.auction.proofs.Resting.{executable_rows, executable_within, shares_sum}

module _ (e : Engine) (h : TableRows) (y : Tally) (good : Good e h y) where
  executable_matchable : to_execute h (price_of e.stage) ≡ matchable y
  executable_matchable =
      let p : ℕ = price_of e.stage in
      let b = executable_rows Buy e.used.buys h.buys y.buys good.buys Buy p in
      let s = executable_rows Sell e.used.sells h.sells y.sells good.sells Sell p in
      let both : to_execute h p ≡ min (executable_at Buy p (rest_levels y.buys)) (executable_at Sell p (rest_levels y.sells)) = cc in
      both ∙ ap (λ t. min (executable_at Buy (price_of t) (rest_levels y.buys)) (executable_at Sell (price_of t) (rest_levels y.sells))) good.stage_is

  -- n shares that both sides have
  even_handed : (n : ℕ) → n ≤ sum_by (λ w. w.rest) y.buys → n ≤ sum_by (λ w. w.rest) y.sells
      → y.bought + sum_by (share_of Buy n y.buys) y.buys ≡ y.sold + sum_by (share_of Sell n y.sells) y.sells
  even_handed n b s = omega (
    arith,
    good.even,
    shares_sum Buy n y.buys good.buys.whole good.buys.numbered,
    shares_sum Sell n y.sells good.sells.whole good.sells.numbered,
  )

  -- what a match answers is the smaller of both sides' executable shares, and is bought and sold
  pub matches : Matches (price_of y.stage) (to_execute h (price_of e.stage)) y (executed (matchable y) y)
  matches =
      let n : ℕ = matchable y in
      let is = executable_matchable in
      let b = executable_within Buy (price_of y.stage) y.buys in
      let s = executable_within Sell (price_of y.stage) y.sells in
      record {
        smaller = is;
        rank = executed_in_rank n y;
        limits = executed_limits y;
        bought = omega (arith, is, b, shares_sum Buy n y.buys good.buys.whole good.buys.numbered);
        sold = omega (arith, is, s, shares_sum Sell n y.sells good.sells.whole good.sells.numbered);
        fixed = refl;
        exhausted = match_exhausts y;
        buys = map_kept but_here (λ w. with_here (share_of Buy n y.buys w) w) (λ w. refl) y.buys;
        sells = map_kept but_here (λ w. with_here (share_of Sell n y.sells w) w) (λ w. refl) y.sells;
        only = refl;
      }

  matched_good : (time n : ℕ) → n ≡ matchable y
      → Good (matched e h time (price_of e.stage) n).engine (matched e h time (price_of e.stage) n).held (executed n y)
  matched_good time n is = record {
    stage_is = refl;
    fixed_is = ap (λ s. Some (price_of s)) good.stage_is;
    buys = side_handed with_here here_takes Buy n y.buys e.used.buys h.buys good.buys;
    sells = side_handed with_here here_takes Sell n y.sells e.used.sells h.sells good.sells;
    sides_apart = apart_handed with_here here_takes n n y.buys y.sells good.sides_apart;
    others = good.others;
    even = even_handed n
        (omega (arith, is, executable_within Buy (price_of y.stage) y.buys))
        (omega (arith, is, executable_within Sell (price_of y.stage) y.sells));
  }

  pub match_good : (time : ℕ)
      → Good (matched e h time (price_of e.stage) (to_execute h (price_of e.stage))).engine
      (matched e h time (price_of e.stage) (to_execute h (price_of e.stage))).held (executed (matchable y) y)
  match_good time =
      let n : ℕ = to_execute h (price_of e.stage) in
      subst (λ k. Good (matched e h time (price_of e.stage) n).engine (matched e h time (price_of e.stage) n).held (executed k y)) executable_matchable (matched_good time n executable_matchable)
