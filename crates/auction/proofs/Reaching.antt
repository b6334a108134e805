-- Shares that are handed out at a price, no more than trade at it, reach only orders that trade at
-- it.
use Rattle.std.proofs.Common.{◌≡◌, ℕ, ◌+◌, ◌≤◌, min, true, false, cond, leb, List, get_or, Ok, ap, ◌∙◌, inl, inr, arith}
use Rattle.std.specs.List.{AllByRecursion}
use Rattle.std.proofs.lemmas.List.{get_or-map}
use Rattle.std.proofs.lemmas.List.Sums.{sum_by-le-sum_by}
use Rattle.std.proofs.lemmas.Bool.{cases_Bool, leb-true, cond-true, cond-false}
use Rattle.std.proofs.lemmas.Bool.Decides.{nat_tests}
use Rattle.market.specs.declared.side.Side.{Side}
use Rattle.market.specs.declared.side.Side.TheVariants.{Buy, Sell}
use Rattle.market.specs.Markets.{Market}
use Rattle.pricing.specs.Books.{executable_at}
use Rattle.orders.specs.declared.row.OrderRow.{OrderRow}
use Rattle.orders.specs.Rows.{empty_row, is_whole, with_here, with_out}
use Rattle.orders.specs.Tables.{rest_levels}
use Rattle.pricing.specs.Outcomes.{IsOutcome, reference}
use Rattle.pricing.proofs.Choosing.{price_clears}
use Rattle.routing.specs.Owed.{owed}
use Rattle.routing.proofs.Owing.{owed_within}
use Rattle.engine.specs.Effects.{ahead_on}
use Rattle.engine.specs.Stages.{price_of}
use Rattle.auction.specs.Tallies.{Tally, share_of, handed_out, book_by, matchable, routed, executed}
use Rattle.auction.specs.Laws.{at_limit, WithinLimits, AtLimits}
use Rattle.auction.proofs.Good.{Numbers}
use Rattle.auction.proofs.Handing.{Takes}
use Rattle.auction.proofs.Resting.{trades, rest_part, executable_sum, executable_within, shares_sum}
use Rattle.auction.proofs.Leaving.{sum_falls}

-- all that trades at a price is ahead of what does not
trades_first : (side : Side) (p : ℕ) (x w : OrderRow) → trades side p w ≡ false → rest_part side p x ≤ cond (ahead_on side x w) x.rest 0
trades_first Buy p x w h = grind (arith, nat_tests)
trades_first Sell p x w h = grind (arith, nat_tests)

none_left : (side : Side) (p k : ℕ) (ws : List OrderRow) → k ≤ executable_at side p (rest_levels ws) → (w : OrderRow) → trades side p w ≡ false → share_of side k ws w ≡ 0
none_left side p k ws few w h =
    omega (arith, executable_sum side p ws, sum_by-le-sum_by (rest_part side p) (λ x. cond (ahead_on side x w) x.rest 0) ws (λ x. trades_first side p x w h))

-- what is left that trades at a price, after shares that trade at it were handed out
module _ (g : ℕ → OrderRow → OrderRow) (takes : Takes g) (side : Side) (p k : ℕ) (ws : List OrderRow) (few : k ≤ executable_at side p (rest_levels ws)) where
  abbrev given : OrderRow → OrderRow
  given w = g (share_of side k ws w) w

  trades_given : (s : Side) (n : ℕ) (w : OrderRow) → trades s p (g n w) ≡ trades s p w
  trades_given Buy n w = ap (λ q. leb p q) ((takes.keeps n).price w)
  trades_given Sell n w = ap (λ q. leb q p) ((takes.keeps n).price w)

  part_falls : (w : OrderRow) → rest_part side p w ≡ rest_part side p (given w) + share_of side k ws w
  part_falls w =
      let n : ℕ = share_of side k ws w in
      let same = trades_given side n w in
      elim (cases_Bool (trades side p w)) [
        | inl t ↦ omega (arith, takes.rest n w, cond-true (trades side p w) w.rest 0 t, cond-true (trades side p (g n w)) (g n w).rest 0 (same ∙ t))
        | inr f ↦ omega (arith, none_left side p k ws few w f, cond-false (trades side p w) w.rest 0 f, cond-false (trades side p (g n w)) (g n w).rest 0 (same ∙ f))
      ]

  pub executable_left : AllByRecursion (λ w. is_whole w ≡ true) ws → Numbers ws
      → executable_at side p (rest_levels (handed_out g side k ws)) + k ≡ executable_at side p (rest_levels ws)
  executable_left whole numbered = omega (
    arith,
    executable_sum side p ws,
    executable_sum side p (handed_out g side k ws),
    sum_falls (rest_part side p) (share_of side k ws) given part_falls ws,
    shares_sum side k ws whole numbered,
    executable_within side p ws,
    few,
  )

trades_reaches : (side : Side) (p : ℕ) (w : OrderRow) → trades side p w ≡ true → at_limit side p w
trades_reaches Buy p w h = leb-true p w.price h
trades_reaches Sell p w h = leb-true w.price p h

-- a count that rises by what an order gives
module _ (g : ℕ → OrderRow → OrderRow) (count : OrderRow → ℕ) (rises : (n : ℕ) (w : OrderRow) → count (g n w) ≡ count w + min n w.rest) where
  within_limits : (side : Side) (p k : ℕ) (ws : List OrderRow) → k ≤ executable_at side p (rest_levels ws) → WithinLimits side p count ws (handed_out g side k ws)
  within_limits side p k ws few i l gains =
      let after : OrderRow → OrderRow = λ w. g (share_of side k ws w) w in
      let w : OrderRow = get_or ws i empty_row in
      let at : get_or (handed_out g side k ws) i empty_row ≡ after w = get_or-map after ws i empty_row empty_row l in
      elim (cases_Bool (trades side p w)) [
        | inl t ↦ trades_reaches side p w t
        | inr f ↦ absurd (omega (arith, ap count at, rises (share_of side k ws w) w, none_left side p k ws few w f))
      ]

pub executed_limits : (y : Tally) → AtLimits (price_of y.stage) (λ w. w.here) y (executed (matchable y) y)
executed_limits y =
    let p : ℕ = price_of y.stage in
    let n : ℕ = matchable y in
    record {
      buys = within_limits with_here (λ w. w.here) (λ k w. omega arith) Buy p n y.buys (omega arith);
      sells = within_limits with_here (λ w. w.here) (λ k w. omega arith) Sell p n y.sells (omega arith);
    }

pub routed_limits : (y : Tally) (m : Market) (deadline last : ℕ) (x : ℕ × ℕ) → IsOutcome m.halted (book_by y m) last (Ok x) → AtLimits x.0 (λ w. w.out) y (routed x.0 deadline m y)
routed_limits y m deadline last x closing =
    let clears = price_clears (book_by y m) (reference (book_by y m) last) x.0 closing.1.1.price_is in
    let apart = closing.0.apart in
    record {
      buys = within_limits with_out (λ w. w.out) (λ k w. omega arith) Buy x.0 (owed Buy (book_by y m) x.0) y.buys (owed_within Buy (book_by y m) x.0 apart clears);
      sells = within_limits with_out (λ w. w.out) (λ k w. omega arith) Sell x.0 (owed Sell (book_by y m) x.0) y.sells (owed_within Sell (book_by y m) x.0 apart clears);
    }
