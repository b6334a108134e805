-- A match leaves one side without executable shares at the price.
use Rattle.std.proofs.Common.{◌≡◌, ℕ, ◌<◌, ◌≤◌, Bool, true, false, cond, leb, List, length, get_or, sym, refl, ap, ◌∙◌, inl, inr, arith}
use Rattle.std.proofs.ByRecursion.{All-from_get_or, All-map}
use Rattle.std.proofs.lemmas.Bool.{cases_lt}
use Rattle.std.proofs.lemmas.Bool.Decides.{nat_tests}
use Rattle.market.specs.declared.side.Side.{Side}
use Rattle.market.specs.declared.side.Side.TheVariants.{Buy, Sell}
use Rattle.pricing.proofs.Levels.{sum_by_none}
use Rattle.pricing.specs.Books.{executable_at}
use Rattle.orders.specs.declared.row.OrderRow.{OrderRow}
use Rattle.orders.specs.Rows.{empty_row, with_here}
use Rattle.orders.specs.Tables.{rest_levels}
use Rattle.engine.specs.Effects.{ahead_on}
use Rattle.engine.specs.Stages.{price_of}
use Rattle.auction.specs.Tallies.{Tally, share_of, handed_out, matchable, executed}
use Rattle.auction.specs.Laws.{Exhausted}
use Rattle.auction.proofs.Ranking.{apart_on}
use Rattle.auction.proofs.Handing.{Takes, here_takes}
use Rattle.auction.proofs.Resting.{trades, rest_part, executable_sum}
use Rattle.auction.proofs.RankOrder.{ahead_with}

-- what is ahead of an order that trades at a price trades at it too
trades_up : (side : Side) (p : ℕ) (x a : OrderRow) → ahead_on side x a ≡ true → trades side p a ≡ true → trades side p x ≡ true
trades_up Buy p x a h t = grind (arith, nat_tests)
trades_up Sell p x a h t = grind (arith, nat_tests)

none_cond : (t : Bool) (n : ℕ) → (t ≡ true → n ≡ 0) → cond t n 0 ≡ 0
none_cond true n h = h refl
none_cond false n h = refl

module _ (g : ℕ → OrderRow → OrderRow) (takes : Takes g) where
  same_trades : (side : Side) (p n : ℕ) (w : OrderRow) → trades side p (g n w) ≡ trades side p w
  same_trades Buy p n w = ap (λ q. leb p q) ((takes.keeps n).price w)
  same_trades Sell p n w = ap (λ q. leb q p) ((takes.keeps n).price w)

  -- where as many shares are handed out as trade at a price, none is left that does
  exhausted_side : (side : Side) (p k : ℕ) (ws : List OrderRow) → executable_at side p (rest_levels ws) ≤ k
      → executable_at side p (rest_levels (handed_out g side k ws)) ≡ 0
  exhausted_side side p k ws le =
      let after : OrderRow → OrderRow = λ w. g (share_of side k ws w) w in
      let none : (i : ℕ) → i < length ws → rest_part side p (after (get_or ws i empty_row)) ≡ 0 = λ i l.
      let w : OrderRow = get_or ws i empty_row in
      let n : ℕ = share_of side k ws w in
      none_cond (trades side p (after w)) (after w).rest (λ t.
      let first = ahead_with (ahead_on side) (λ v. v.rest) (apart_on side) (trades side p) (trades_up side p) ws i empty_row l (sym (same_trades side p n w) ∙ t) in
      omega (arith, takes.rest n w, executable_sum side p ws, first, le)) in
      executable_sum side p (handed_out g side k ws)
      ∙ sum_by_none (λ w. rest_part side p w ≡ 0) (rest_part side p) (λ w z. z) (handed_out g side k ws)
      (All-map (λ w. rest_part side p w ≡ 0) after ws (All-from_get_or (λ w. rest_part side p (after w) ≡ 0) ws empty_row none))

pub match_exhausts : (y : Tally) → Exhausted (price_of y.stage) (executed (matchable y) y)
match_exhausts y =
    let p : ℕ = price_of y.stage in
    let b : ℕ = executable_at Buy p (rest_levels y.buys) in
    let s : ℕ = executable_at Sell p (rest_levels y.sells) in
    elim (cases_lt b s) [
      | inl lt ↦ inl (exhausted_side with_here here_takes Buy p (matchable y) y.buys (omega arith))
      | inr ge ↦ inr (exhausted_side with_here here_takes Sell p (matchable y) y.sells (omega arith))
    ]
