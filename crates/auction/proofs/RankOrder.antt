-- Shares handed out reach an order only once every order ahead of it has given its whole rest.
use Rattle.std.proofs.Common.{◌≡◌, ℕ, zero, suc, ◌+◌, ◌<◌, ◌≤◌, min, Bool, true, false, cond, List, [], ◌∷◌, length, get_or, sum_by, refl, ap, ◌∙◌, inl, inr, arith}
use Rattle.std.proofs.lemmas.List.{get_or-map}
use Rattle.std.proofs.lemmas.List.Sums.{sum_by-cons, sum_by-le-sum_by}
use Rattle.std.proofs.lemmas.Bool.{cases_Bool, cond-true, cond-false}
use Rattle.market.specs.declared.side.Side.{Side}
use Rattle.market.specs.declared.side.Side.TheVariants.{Buy, Sell}
use Rattle.market.specs.Markets.{Market}
use Rattle.orders.specs.declared.row.OrderRow.{OrderRow}
use Rattle.orders.specs.Rows.{empty_row, with_here, with_out}
use Rattle.routing.specs.Allotment.{ahead_of}
use Rattle.engine.specs.Effects.{ahead_on}
use Rattle.auction.specs.Tallies.{Tally, share_of, handed_out, routed, executed}
use Rattle.auction.specs.Laws.{InRank, RankOrder}
use Rattle.auction.proofs.Ranking.{apart_on, through_on}
use Rattle.auction.proofs.Handing.{Takes, here_takes, out_takes}

module _ {E : Type 0} (ahead : E → E → Bool) (size : E → ℕ) (apart : (a b : E) → ahead a b ≡ true → ahead b a ≡ false) where
  pub not_itself : (x : E) → ahead x x ≡ false
  not_itself x = elim (cases_Bool (ahead x x)) [ inl t ↦ apart x x t | inr f ↦ f ]

  -- a test that an entry passes once one passes that it is ahead of
  module _ (passes : E → Bool) (up : (x a : E) → ahead x a ≡ true → passes a ≡ true → passes x ≡ true) where
    part_most : (a x : E) → passes a ≡ true → cond (ahead x a) (size x) 0 ≤ cond (passes x) (size x) 0
    part_most a x h = let t = up x a in grind arith

    -- what is ahead of an entry that passes, and the entry itself, passes
    pub ahead_with : (xs : List E) (j : ℕ) (d : E) → j < length xs → passes (get_or xs j d) ≡ true
        → ahead_of ahead size (get_or xs j d) xs + size (get_or xs j d) ≤ sum_by (λ x. cond (passes x) (size x) 0) xs
    ahead_with [] j d l h = absurd (omega arith)
    ahead_with (x ∷ xs) zero d l h = omega (
      arith,
      sum_by-cons (λ y. cond (ahead y x) (size y) 0) x xs,
      sum_by-cons (λ y. cond (passes y) (size y) 0) x xs,
      cond-false (ahead x x) (size x) 0 (not_itself x),
      cond-true (passes x) (size x) 0 h,
      sum_by-le-sum_by (λ y. cond (ahead y x) (size y) 0) (λ y. cond (passes y) (size y) 0) xs (λ y. part_most x y h),
    )
    ahead_with (x ∷ xs) (suc j) d l h =
        let a : E = get_or xs j d in
        omega (
          arith,
          sum_by-cons (λ y. cond (ahead y a) (size y) 0) x xs,
          sum_by-cons (λ y. cond (passes y) (size y) 0) x xs,
          part_most a x h,
          ahead_with xs j d (omega arith) h,
        )

-- a change that takes up to n shares from the rest, and adds them to one count
module _ (g : ℕ → OrderRow → OrderRow) (takes : Takes g) (count : OrderRow → ℕ)
    (rises : (n : ℕ) (w : OrderRow) → count (g n w) ≡ count w + min n w.rest) where
  in_rank : (side : Side) (k : ℕ) (ws : List OrderRow) → InRank side count ws (handed_out g side k ws)
  in_rank side k ws i j li lj ahead gains =
      let R : OrderRow → ℕ = λ w. w.rest in
      let after : OrderRow → OrderRow = λ w. g (share_of side k ws w) w in
      let a : OrderRow = get_or ws i empty_row in
      let b : OrderRow = get_or ws j empty_row in
      let at : get_or (handed_out g side k ws) i empty_row ≡ after a = get_or-map after ws i empty_row empty_row li in
      let bt : get_or (handed_out g side k ws) j empty_row ≡ after b = get_or-map after ws j empty_row empty_row lj in
      let first = ahead_with (ahead_on side) R (apart_on side) (λ x. ahead_on side x a) (λ x c h k. through_on side x c a h k) ws j empty_row lj ahead in
      let more : count (get_or (handed_out g side k ws) i empty_row) ≡ count a + min (share_of side k ws a) a.rest = ap count at ∙ rises (share_of side k ws a) a in
      ap R bt ∙ takes.rest (share_of side k ws b) b ∙ omega arith

pub routed_in_rank : (price deadline : ℕ) (m : Market) (y : Tally) → RankOrder (λ w. w.out) y (routed price deadline m y)
routed_in_rank price deadline m y = record {
  buys = in_rank with_out out_takes (λ w. w.out) (λ n w. refl) Buy _ y.buys;
  sells = in_rank with_out out_takes (λ w. w.out) (λ n w. refl) Sell _ y.sells;
}

pub executed_in_rank : (n : ℕ) (y : Tally) → RankOrder (λ w. w.here) y (executed n y)
executed_in_rank n y = record {
  buys = in_rank with_here here_takes (λ w. w.here) (λ n w. refl) Buy n y.buys;
  sells = in_rank with_here here_takes (λ w. w.here) (λ n w. refl) Sell n y.sells;
}
