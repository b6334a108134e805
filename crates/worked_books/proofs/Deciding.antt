-- A procedure that settles a close by computing, proved right for the rules.
use Rattle.std.proofs.Common.{◌≡◌, ℕ, ◌+◌, ◌-◌, ◌%◌, ◌<◌, ◌≤◌, Bool, true, false, cond, ◌&&◌, ◌||◌, eqb, ltb, leb, List, [], ◌∷◌, ◌++◌, map, Some, None, Ok, Err, Option, refl, inl, inr, arith}
use Rattle.std.proofs.lemmas.Bool.{and_parts, or_cases, leb-true, ltb-true, eqb-true, eqb-false, ltb-false, leb-false, cases_lt}
use Rattle.std.proofs.lemmas.Bool.Decides.{nat_tests}
use Rattle.market.specs.declared.side.Side.TheVariants.{Buy, Sell}
use Rattle.market.specs.Prices.{permitted, Permitted}
use Rattle.std.specs.List.{list_all}
use Rattle.market.proofs.Grid.{grid, permitted_since}
use Rattle.pricing.specs.declared.level.Level.{Level}
use Rattle.pricing.specs.declared.cause.Cause.TheVariants.{NothingToTrade, LockedOrCrossed, NoReference, Halted}
use Rattle.pricing.specs.Books.{Book, levels, AtPermitted, Sound, demand_at, supply_at, count_at, wanted_above}
use Rattle.pricing.specs.Candidates.{Chosen}
use Rattle.pricing.specs.Outcomes.{Outcome, IsOutcome, Snapped, Orderly, touching, best_on, reference}
use Rattle.pricing.specs.Ranges.{next_price, nearer_of, Within, Around, Lowest, Highest}
use Rattle.pricing.proofs.Sides.{buyers_up}
use Rattle.pricing.proofs.Rows.{lo_le_hi}
use Rattle.pricing.proofs.Next.{highest_next, highest_same}
use Rattle.pricing.proofs.Choosing.{only_chosen, choose_low, choose_high, choose_nearer}
use Rattle.pricing.proofs.Outcomes.{nothing, something, single, priced, undecided}

-- the step of permitted prices at and above a price, and below it
abbrev step_from : ℕ → ℕ
step_from p = cond (ltb p 20000) 2 200

abbrev step_to : ℕ → ℕ
step_to p = cond (leb p 20000) 2 200

-- every price is permitted
abbrev standing : List Level → Bool
standing ls = list_all (λ l. permitted l.price) ls

abbrev pub is_sound : Book → Bool
is_sound b = standing b.buys && (standing b.sells && (standing (levels b.bids) && standing (levels b.offers)))

-- the least permitted price at which what is wanted above can be had
abbrev pub is_lowest : Book → ℕ → Bool
is_lowest b p =
    permitted p && (leb (wanted_above b p) (supply_at b p) && (eqb p 2 || ltb (supply_at b (p - step_to p)) (wanted_above b (p - step_to p))))

-- the first of some prices that is the lowest candidate
abbrev pub first_lowest : Book → List ℕ → ℕ
first_lowest b [] = 2
first_lowest b (p ∷ ps) = cond (is_lowest b p) p (first_lowest b ps)

-- the lowest candidate, sought among the lowest price and the prices of the book
abbrev prices : List Level → List ℕ
prices ls = map (λ l. l.price) ls

abbrev pub low_of : Book → ℕ
low_of b = first_lowest b (2 ∷ (prices b.buys ++ (prices b.sells ++ (prices (levels b.bids) ++ prices (levels b.offers)))))

abbrev high_of : Book → ℕ → ℕ
high_of b lo = cond (eqb (demand_at b (lo + 1)) (supply_at b lo)) (next_price b lo) lo

-- the price from lo to hi that is nearest to r, or r itself
abbrev nearest_to : ℕ → ℕ → ℕ → ℕ
nearest_to lo hi r = cond (leb r lo) lo (cond (leb hi r) hi (nearer_of r (r - r % step_from r) (r - r % step_from r + step_from r)))

abbrev chosen_by : Option ℕ → ℕ → ℕ → ℕ → Outcome
chosen_by None lo hi n = Err NoReference
chosen_by (Some r) lo hi n = Ok (nearest_to lo hi r, n)

abbrev snapped_by : Book → Option ℕ → ℕ → Outcome
snapped_by b ref lo =
    cond (eqb (count_at b lo) 0) (Err NothingToTrade) (cond (eqb lo (high_of b lo)) (Ok ((lo, count_at b lo))) (chosen_by ref lo (high_of b lo) (count_at b lo)))

abbrev pub decided : Book → ℕ → ℕ → Outcome
decided b last lo = cond (touching (best_on Buy b) (best_on Sell b)) (Err LockedOrCrossed) (snapped_by b (reference b last) lo)

-- the tests say what they should
stands : (ls : List Level) → standing ls ≡ true → AtPermitted ls
stands [] h = tt
stands (l ∷ ls) h =
    let parts = and_parts (permitted l.price) (standing ls) h in
    (parts.0, stands ls parts.1)

pub sound_since : (b : Book) → is_sound b ≡ true → Sound b
sound_since b h =
    let p = and_parts (standing b.buys) _ h in
    let q = and_parts (standing b.sells) _ p.1 in
    let r = and_parts (standing (levels b.bids)) _ q.1 in
    record {
      buys = stands b.buys p.0;
      sells = stands b.sells q.0;
      bids = stands (levels b.bids) r.0;
      offers = stands (levels b.offers) r.1;
    }

-- a permitted price below another is at least a step below
step_below : (p q : ℕ) → Permitted p → Permitted q → q < p → q ≤ p - step_to p
step_below p q ok ok' h =
    let g = grid p ok in
    let g' = grid q ok' in
    elim (cases_lt 20000 p) [
      | inr fine ↦ let e : step_to p ≡ 2 = grind (arith, nat_tests) in omega (arith, e, g.even, g'.even)
      | inl coarse ↦
          let e : step_to p ≡ 200 = grind (arith, nat_tests) in
          elim (cases_lt q 20000) [
            | inl lt ↦ omega (arith, e, g.coarse (omega arith))
            | inr ge ↦ omega (arith, e, g.coarse (omega arith), g'.coarse ge)
          ]
    ]

pub lowest_since : (b : Book) (p : ℕ) → is_lowest b p ≡ true → Lowest b p
lowest_since b p h =
    let one = and_parts (permitted p) _ h in
    let two = and_parts (leb (wanted_above b p) (supply_at b p)) _ one.1 in
    record {
      permitted = one.0;
      buyers = leb-true (wanted_above b p) (supply_at b p) two.0;
      bottom = λ q ok stands-there. elim (cases_lt q p) [
        | inr ge ↦ ge
        | inl lt ↦ elim (or_cases (eqb p 2) (ltb (supply_at b (p - step_to p)) (wanted_above b (p - step_to p))) two.1) [
          | inl e ↦ omega (arith, eqb-true p 2 e, (grid q ok).least)
          | inr fails ↦
              let below = step_below p q one.0 ok lt in
              omega (arith, ltb-true (supply_at b (p - step_to p)) (wanted_above b (p - step_to p)) fails, buyers_up b q (p - step_to p) below stands-there)
        ]
      ];
    }

module _ (b : Book) (sound : Sound b) (lo : ℕ) (l : Lowest b lo) where
  high_by : (t : Bool) → eqb (demand_at b (lo + 1)) (supply_at b lo) ≡ t → Highest b (cond t (next_price b lo) lo)
  high_by true e = highest_next b sound lo l (eqb-true (demand_at b (lo + 1)) (supply_at b lo) e)
  high_by false e = highest_same b sound lo l (eqb-false (demand_at b (lo + 1)) (supply_at b lo) e)

  pub high_is : Highest b (high_of b lo)
  high_is = high_by (eqb (demand_at b (lo + 1)) (supply_at b lo)) refl

-- the neighbours of a price
around_fine : (r : ℕ) → 2 ≤ r → r < 20000 → Around r (r - r % 2) (r - r % 2 + 2)
around_fine r low high = record {
  low_of = permitted_since (r - r % 2) (record { even = omega arith; least = omega arith; most = omega arith; coarse = λ h. omega arith });
  high_of = permitted_since (r - r % 2 + 2) (record { even = omega arith; least = omega arith; most = omega arith; coarse = λ h. omega arith });
  under = omega arith;
  over = omega arith;
  none = λ q ok. elim (cases_lt (r - r % 2) q) [
    | inr le ↦ inl le
    | inl gt ↦ inr (omega (arith, (grid q ok).even))
  ];
}

around_coarse : (r : ℕ) → 20000 ≤ r → r < 4000000000 → Around r (r - r % 200) (r - r % 200 + 200)
around_coarse r low high = record {
  low_of = permitted_since (r - r % 200) (record { even = omega arith; least = omega arith; most = omega arith; coarse = λ h. omega arith });
  high_of = permitted_since (r - r % 200 + 200) (record { even = omega arith; least = omega arith; most = omega arith; coarse = λ h. omega arith });
  under = omega arith;
  over = omega arith;
  none = λ q ok. elim (cases_lt (r - r % 200) q) [
    | inr le ↦ inl le
    | inl gt ↦ inr (omega (arith, (grid q ok).coarse (omega arith)))
  ];
}

around_by : (r : ℕ) (t : Bool) → ltb r 20000 ≡ t → 2 ≤ r → r < 4000000000 → Around r (r - r % cond t 2 200) (r - r % cond t 2 200 + cond t 2 200)
around_by r true e low high = around_fine r low (ltb-true r 20000 e)
around_by r false e low high = around_coarse r (ltb-false r 20000 e) high

-- the nearest price in a row of permitted prices
module _ (lo hi r : ℕ) (low : Permitted lo) (high : Permitted hi) (le : lo ≤ hi) where
  inside : lo < r → r < hi → Chosen (Within lo hi) (Some r) (nearer_of r (r - r % step_from r) (r - r % step_from r + step_from r))
  inside past short =
      let a = r - r % step_from r in
      let around = around_by r (ltb r 20000) refl (omega (arith, (grid lo low).least)) (omega (arith, (grid hi high).most)) in
      choose_nearer lo hi r low high a (a + step_from r) around past short

  below_high : (t : Bool) → leb hi r ≡ t → lo < r → Chosen (Within lo hi) (Some r) (cond t hi (nearer_of r (r - r % step_from r) (r - r % step_from r + step_from r)))
  below_high true e past = inr (inl (choose_high lo hi r low high le (leb-true hi r e)))
  below_high false e past = inside past (leb-false hi r e)

  above_low : (t : Bool) → leb r lo ≡ t → Chosen (Within lo hi) (Some r) (cond t lo (cond (leb hi r) hi (nearer_of r (r - r % step_from r) (r - r % step_from r + step_from r))))
  above_low true e = inr (inl (choose_low lo hi r low high le (leb-true r lo e)))
  above_low false e = below_high (leb hi r) refl (leb-false r lo e)

  pub nearest_is : Chosen (Within lo hi) (Some r) (nearest_to lo hi r)
  nearest_is = above_low (leb r lo) refl

-- the choice, by the order of the causes
module _ (b : Book) (sound : Sound b) (lo : ℕ) (l : Lowest b lo) where
  chosen_right : (ref : Option ℕ) → 0 < count_at b lo → (lo ≡ high_of b lo → ⊥) → Snapped b ref (chosen_by ref lo (high_of b lo) (count_at b lo))
  chosen_right None pos ne = (something b sound lo l pos, undecided b sound lo l (high_of b lo) (high_is b sound lo l) None refl ne)
  chosen_right (Some r) pos ne =
      let h = high_is b sound lo l in (
        something b sound lo l pos,
        priced b sound lo l (high_of b lo) h (Some r) (nearest_to lo (high_of b lo) r) (count_at b lo) (nearest_is lo (high_of b lo) r l.permitted h.permitted (lo_le_hi b sound lo l (high_of b lo) h)) refl,
      )

  single_by : (ref : Option ℕ) (t : Bool) → eqb lo (high_of b lo) ≡ t → 0 < count_at b lo → Snapped b ref (cond t (Ok ((lo, count_at b lo))) (chosen_by ref lo (high_of b lo) (count_at b lo)))
  single_by ref true e pos =
      let h = high_is b sound lo l in
      let only = single b sound lo l (high_of b lo) h (eqb-true lo (high_of b lo) e) in
      (something b sound lo l pos, priced b sound lo l (high_of b lo) h ref lo (count_at b lo) (only_chosen (Within lo (high_of b lo)) ref lo only) refl)
  single_by ref false e pos = chosen_right ref pos (eqb-false lo (high_of b lo) e)

  count_by : (ref : Option ℕ) (t : Bool) → eqb (count_at b lo) 0 ≡ t → Snapped b ref (cond t (Err NothingToTrade) (cond (eqb lo (high_of b lo)) (Ok ((lo, count_at b lo))) (chosen_by ref lo (high_of b lo) (count_at b lo))))
  count_by ref true e = nothing b sound lo l (eqb-true (count_at b lo) 0 e)
  count_by ref false e = single_by ref (eqb lo (high_of b lo)) refl (omega (arith, eqb-false (count_at b lo) 0 e))

  orderly_closing : (last : ℕ) (x : Outcome) → Orderly false b → Snapped b (reference b last) x → IsOutcome false b last x
  orderly_closing last (Ok x) o s = (o, s)
  orderly_closing last (Err NothingToTrade) o s = (o, s)
  orderly_closing last (Err LockedOrCrossed) o s = absurd s
  orderly_closing last (Err NoReference) o s = (o, s)
  orderly_closing last (Err Halted) o s = absurd s

  touch_by : (last : ℕ) (t : Bool) → touching (best_on Buy b) (best_on Sell b) ≡ t → IsOutcome false b last (cond t (Err LockedOrCrossed) (snapped_by b (reference b last) lo))
  touch_by last true e = (refl, e)
  touch_by last false e = orderly_closing last (snapped_by b (reference b last) lo) (record { trading = refl; apart = e }) (count_by (reference b last) (eqb (count_at b lo) 0) refl)

  pub decided_right : (last : ℕ) → IsOutcome false b last (decided b last lo)
  decided_right last = touch_by last (touching (best_on Buy b) (best_on Sell b)) refl
