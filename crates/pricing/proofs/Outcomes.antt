-- What the lowest and the highest candidate tell of the outcome, and that there is one outcome at most.
use Rattle.std.proofs.Common.{rules, ◌≡◌, ℕ, ◌<◌, ◌≤◌, Bool, true, false, ◌⊎◌, None, Ok, Err, Option, sym, refl, ap, ◌∙◌, subst, inl, inr, arith}
use Rattle.std.proofs.lemmas.Bool.{both_ways}
use Rattle.pricing.specs.declared.cause.Cause.TheVariants.{NothingToTrade, LockedOrCrossed, NoReference, Halted}
use Rattle.market.specs.declared.side.Side.TheVariants.{Buy, Sell}
use Rattle.pricing.specs.Books.{Book, Sound, count_at}
use Rattle.pricing.specs.Candidates.{Candidate, Only, Chosen, SnapPrice}
use Rattle.pricing.specs.Outcomes.{Outcome, Best, Nothing, Undecided, Priced, Snapped, IsOutcome, Orderly, touching, best_on, reference}
use Rattle.pricing.specs.Ranges.{Within, Lowest, Highest}
use Rattle.pricing.proofs.Sides.{counts_most}
use Rattle.pricing.proofs.Rows.{lowest_candidate, lo_le_hi, within_candidate, candidate_within, some_candidate}
use Rattle.pricing.proofs.Choosing.{chosen_once, chosen_like, price_clears}

-- there is nothing to trade exactly where every price counts zero
pub nothing_all : (b : Book) → Sound b → Nothing b → (q : ℕ) → count_at b q ≡ 0
nothing_all b sound none q =
    let some = some_candidate b sound in
    omega (arith, counts_most b some.0 some.1.clears q, none some.0 some.1)

-- a price counts most among all
pub priced_most : (b : Book) (ref : Option ℕ) (p n : ℕ) → Priced b ref p n → (q : ℕ) → count_at b q ≤ n
priced_most b ref p n x q = omega (arith, x.count_is, counts_most b p (price_clears b ref p x.price_is) q)

module _ (b : Book) (sound : Sound b) (lo : ℕ) (l : Lowest b lo) where
  at_lowest : Candidate b lo
  at_lowest = lowest_candidate b sound lo l

  pub nothing : count_at b lo ≡ 0 → Nothing b
  nothing zero-at q c = omega (arith, counts_most b lo at_lowest.clears q)

  pub something : 0 < count_at b lo → Nothing b → ⊥
  something pos none = omega (arith, none lo at_lowest)

  module _ (hi : ℕ) (h : Highest b hi) where
    pub single : lo ≡ hi → Only (Within lo hi) lo
    single e = record {
      candidate = within_candidate b sound lo l hi h lo at_lowest;
      alone = λ q i. omega (arith, i.from, i.to);
    }

    pub priced : (ref : Option ℕ) (p n : ℕ) → Chosen (Within lo hi) ref p → n ≡ count_at b lo → Priced b ref p n
    priced ref p n chosen e =
        let price : SnapPrice b ref p = chosen_like (Within lo hi) (Candidate b) (candidate_within b sound lo l hi h) (within_candidate b sound lo l hi h) ref p chosen in
        record {
          price_is = price;
          count_is = omega (arith, counts_most b lo at_lowest.clears p, counts_most b p (price_clears b ref p price) lo);
        }

    pub snapped : (ref : Option ℕ) (p n : ℕ) → n ≡ count_at b lo → (n ≡ 0 → ⊥) → Chosen (Within lo hi) ref p → (Nothing b → ⊥) × Priced b ref p n
    snapped ref p n e some chosen = (something (omega (arith, e, some)), priced ref p n chosen e)

    pub undecided : (ref : Option ℕ) → ref ≡ None → (lo ≡ hi → ⊥) → Undecided b ref
    undecided ref e ne = record {
      low = lo;
      high = hi;
      low_of = at_lowest;
      high_of = candidate_within b sound lo l hi h hi (record { permitted = h.permitted; from = lo_le_hi b sound lo l hi h; to = omega arith });
      order = omega (arith, lo_le_hi b sound lo l hi h, ne);
      none = e;
    }

-- one outcome at most
pub undecided_priced : (b : Book) (ref : Option ℕ) (p n : ℕ) → Undecided b ref → Priced b ref p n → ⊥
undecided_priced b ref p n u x =
    let only : Only (Candidate b) p = subst (λ r. SnapPrice b r p) u.none x.price_is in
    omega (arith, only.alone u.low u.low_of, only.alone u.high u.high_of, u.order)

priced_once : (b : Book) (ref : Option ℕ) (x y : ℕ × ℕ) → Priced b ref x.0 x.1 → Priced b ref y.0 y.1 → x ≡ y
priced_once b ref x y a c =
    let price = chosen_once (Candidate b) ref x.0 y.0 a.price_is c.price_is in
    let count = a.count_is ∙ ap (count_at b) price ∙ sym c.count_is in
    search (rules, price, count)

pub snapped_once : (b : Book) (ref : Option ℕ) (x y : Outcome) → Snapped b ref x → Snapped b ref y → x ≡ y
snapped_once b ref (Ok x) (Ok y) s t = ap Ok (priced_once b ref x y s.1 t.1)
snapped_once b ref (Ok x) (Err NothingToTrade) s t = absurd (s.0 t)
snapped_once b ref (Ok x) (Err LockedOrCrossed) s t = absurd t
snapped_once b ref (Ok x) (Err NoReference) s t = absurd (undecided_priced b ref x.0 x.1 t.1 s.1)
snapped_once b ref (Ok x) (Err Halted) s t = absurd t
snapped_once b ref (Err NothingToTrade) (Ok y) s t = absurd (t.0 s)
snapped_once b ref (Err NothingToTrade) (Err NothingToTrade) s t = refl
snapped_once b ref (Err NothingToTrade) (Err LockedOrCrossed) s t = absurd t
snapped_once b ref (Err NothingToTrade) (Err NoReference) s t = absurd (t.0 s)
snapped_once b ref (Err NothingToTrade) (Err Halted) s t = absurd t
snapped_once b ref (Err LockedOrCrossed) y s t = absurd s
snapped_once b ref (Err NoReference) (Ok y) s t = absurd (undecided_priced b ref y.0 y.1 s.1 t.1)
snapped_once b ref (Err NoReference) (Err NothingToTrade) s t = absurd (s.0 t)
snapped_once b ref (Err NoReference) (Err LockedOrCrossed) s t = absurd t
snapped_once b ref (Err NoReference) (Err NoReference) s t = refl
snapped_once b ref (Err NoReference) (Err Halted) s t = absurd t
snapped_once b ref (Err Halted) y s t = absurd s

-- the three ways in which a close ends
abbrev Ways : Bool → Book → ℕ → Outcome → Type 0
Ways halted b last y =
    ((halted ≡ true) × (y ≡ Err Halted))
    ⊎ (((halted ≡ false) × (touching (best_on Buy b) (best_on Sell b) ≡ true) × (y ≡ Err LockedOrCrossed)) ⊎ (Orderly halted b × Snapped b (reference b last) y))

ways : (halted : Bool) (b : Book) (last : ℕ) (y : Outcome) → IsOutcome halted b last y → Ways halted b last y
ways halted b last (Err Halted) c = inl (c, refl)
ways halted b last (Err LockedOrCrossed) c = inr (inl (c.0, c.1, refl))
ways halted b last x c = inr (inr c)

module _ (halted : Bool) (b : Book) (last : ℕ) where
  same_way : (x y : Outcome) → Ways halted b last x → Ways halted b last y → x ≡ y
  same_way x y (inl s) (inl t) = s.1 ∙ sym t.1
  same_way x y (inl s) (inr (inl t)) = absurd (both_ways halted t.0 s.0)
  same_way x y (inl s) (inr (inr t)) = absurd (both_ways halted t.0.trading s.0)
  same_way x y (inr (inl s)) (inl t) = absurd (both_ways halted s.0 t.0)
  same_way x y (inr (inl s)) (inr (inl t)) = s.2 ∙ sym t.2
  same_way x y (inr (inl s)) (inr (inr t)) = absurd (both_ways (touching (best_on Buy b) (best_on Sell b)) t.0.apart s.1)
  same_way x y (inr (inr s)) (inl t) = absurd (both_ways halted s.0.trading t.0)
  same_way x y (inr (inr s)) (inr (inl t)) = absurd (both_ways (touching (best_on Buy b) (best_on Sell b)) s.0.apart t.1)
  same_way x y (inr (inr s)) (inr (inr t)) = snapped_once b (reference b last) x y s.1 t.1

  pub closing_once : (x y : Outcome) → IsOutcome halted b last x → IsOutcome halted b last y → x ≡ y
  closing_once x y c d = same_way x y (ways halted b last x c) (ways halted b last y d)

  -- the laws of the best price
  pub best : (x : Outcome) → Sound b → IsOutcome halted b last x → Best b x
  best (Ok x) sound c = priced_most b (reference b last) x.0 x.1 c.1.1
  best (Err NothingToTrade) sound c = nothing_all b sound c.1
  best x sound c = tt

  pub zero_nothing : (x : Outcome) → IsOutcome halted b last x → Orderly halted b → ((q : ℕ) → count_at b q ≡ 0) → x ≡ Err NothingToTrade
  zero_nothing x c orderly none = closing_once x (Err NothingToTrade) c (orderly, λ q _. none q)
