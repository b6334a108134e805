-- The choice among candidates: at most one price, and the one that the code finds in a row of permitted prices.
use Rattle.std.proofs.Common.{◌≡◌, ℕ, ◌-◌, ◌<◌, ◌≤◌, Bool, true, false, cond, ltb, Some, None, Option, sym, refl, ap, ◌∙◌, subst, inl, inr, arith}
use Rattle.std.proofs.lemmas.Bool.{cases_lt, cases_eq, ltb-true, ltb-false}
use Rattle.market.specs.Prices.{Permitted}
use Rattle.pricing.specs.Books.{Book}
use Rattle.pricing.specs.Candidates.{Clears, Candidate, distance, Only, Nearest, Midway, Chosen, SnapPrice}
use Rattle.pricing.specs.Ranges.{nearer_of, Within, Around}
use Rattle.pricing.proofs.Sides.{buyers_up, sellers_down}

module _ (C : ℕ → Type 0) where
  pub midway_inside : (r p : ℕ) (m : Midway C r p) → (m.low < r) × (r < m.high)
  midway_inside r p m = (omega (arith, m.level, m.order), omega (arith, m.level, m.order))

  only_midway : (r p q : ℕ) → Only C p → Midway C r q → ⊥
  only_midway r p q a m = omega (arith, a.alone m.low m.low_of, a.alone m.high m.high_of, m.order)

  nearest_midway : (r p q : ℕ) → Nearest C r p → Midway C r q → ⊥
  nearest_midway r p q a m =
      elim (cases_eq m.low p) [
        | inl e ↦
            let ne : m.high ≡ p → ⊥ = λ e'. omega (arith, m.order) in
            omega (arith, a.nearest m.high m.high_of ne, ap (distance r) e, m.level)
        | inr ne ↦ omega (arith, a.nearest m.low m.low_of ne, m.nearest p a.candidate)
      ]

  nearest_nearest : (r p q : ℕ) → Nearest C r p → Nearest C r q → p ≡ q
  nearest_nearest r p q a m =
      elim (cases_eq p q) [
        | inl e ↦ e
        | inr ne ↦ absurd (omega (arith, a.nearest q m.candidate (λ e. ne (sym e)), m.nearest p a.candidate ne))
      ]

  pub chosen_once : (ref : Option ℕ) (p q : ℕ) → Chosen C ref p → Chosen C ref q → p ≡ q
  chosen_once None p q a m = m.alone p a.candidate
  chosen_once (Some r) p q (inl a) (inl m) = m.alone p a.candidate
  chosen_once (Some r) p q (inl a) (inr (inl m)) = sym (a.alone q m.candidate)
  chosen_once (Some r) p q (inl a) (inr (inr m)) = absurd (only_midway r p q a m)
  chosen_once (Some r) p q (inr (inl a)) (inl m) = m.alone p a.candidate
  chosen_once (Some r) p q (inr (inl a)) (inr (inl m)) = nearest_nearest r p q a m
  chosen_once (Some r) p q (inr (inl a)) (inr (inr m)) = absurd (nearest_midway r p q a m)
  chosen_once (Some r) p q (inr (inr a)) (inl m) = absurd (only_midway r q p m a)
  chosen_once (Some r) p q (inr (inr a)) (inr (inl m)) = absurd (nearest_midway r q p m a)
  chosen_once (Some r) p q (inr (inr a)) (inr (inr m)) = a.itself ∙ sym m.itself

  pub only_chosen : (ref : Option ℕ) (p : ℕ) → Only C p → Chosen C ref p
  only_chosen None p a = a
  only_chosen (Some r) p a = inl a

-- the price clears, permitted or not
module _ (b : Book) where
  midway_clears : (r p : ℕ) → Midway (Candidate b) r p → Clears b r
  midway_clears r p m =
      let inside = midway_inside (Candidate b) r p m in
      record {
        buyers = buyers_up b m.low r (omega (arith, inside.0)) m.low_of.clears.buyers;
        sellers = sellers_down b r m.high (omega (arith, inside.1)) m.high_of.clears.sellers;
      }

  pub price_clears : (ref : Option ℕ) (p : ℕ) → SnapPrice b ref p → Clears b p
  price_clears None p a = a.candidate.clears
  price_clears (Some r) p (inl a) = a.candidate.clears
  price_clears (Some r) p (inr (inl a)) = a.candidate.clears
  price_clears (Some r) p (inr (inr a)) = subst (Clears b) (sym a.itself) (midway_clears r p a)

-- a choice is the same among the same candidates
module _ (C D : ℕ → Type 0) (into : (q : ℕ) → C q → D q) (back : (q : ℕ) → D q → C q) where
  only_like : (p : ℕ) → Only C p → Only D p
  only_like p a = record { candidate = into p a.candidate; alone = λ q d. a.alone q (back q d) }

  pub chosen_like : (ref : Option ℕ) (p : ℕ) → Chosen C ref p → Chosen D ref p
  chosen_like None p a = only_like p a
  chosen_like (Some r) p (inl a) = inl (only_like p a)
  chosen_like (Some r) p (inr (inl a)) = inr (inl (record { candidate = into p a.candidate; nearest = λ q d ne. a.nearest q (back q d) ne }))
  chosen_like (Some r) p (inr (inr a)) = inr (inr (record {
    low = a.low;
    high = a.high;
    low_of = into a.low a.low_of;
    high_of = into a.high a.high_of;
    order = a.order;
    level = a.level;
    nearest = λ q d. a.nearest q (back q d);
    itself = a.itself;
  }))

-- two numbers in order that are not equal
below_since : (a b : ℕ) → a ≤ b → (b ≡ a → ⊥) → a < b
below_since a b h ne = elim (cases_lt a b) [ inl lt ↦ lt | inr ge ↦ absurd (ne (omega arith)) ]

above_since : (a b : ℕ) → b ≤ a → (b ≡ a → ⊥) → b < a
above_since a b h ne = elim (cases_lt b a) [ inl lt ↦ lt | inr ge ↦ absurd (ne (omega arith)) ]

-- the choice in a row of permitted prices
module _ (lo hi r : ℕ) (low : Permitted lo) (high : Permitted hi) where
  pub choose_low : lo ≤ hi → r ≤ lo → Nearest (Within lo hi) r lo
  choose_low le h = record {
    candidate = record { permitted = low; from = omega arith; to = le };
    nearest = λ q i ne. omega (arith, below_since lo q i.from ne);
  }

  pub choose_high : lo ≤ hi → hi ≤ r → Nearest (Within lo hi) r hi
  choose_high le h = record {
    candidate = record { permitted = high; from = le; to = omega arith };
    nearest = λ q i ne. omega (arith, above_since hi q i.to ne);
  }

  module _ (a b : ℕ) (around : Around r a b) (past : lo < r) (short : r < hi) where
    lo_le : lo ≤ a
    lo_le = elim (around.none lo low) [ inl h ↦ h | inr h ↦ omega (arith, around.over) ]

    le_hi : b ≤ hi
    le_hi = elim (around.none hi high) [ inl h ↦ omega (arith, around.under) | inr h ↦ h ]

    low_in : Within lo hi a
    low_in = record { permitted = around.low_of; from = lo_le; to = omega (arith, around.under) }

    high_in : Within lo hi b
    high_in = record { permitted = around.high_of; from = omega (arith, around.over); to = le_hi }

    choose_down : r - a < b - r → Nearest (Within lo hi) r a
    choose_down h = record {
      candidate = low_in;
      nearest = λ q i ne. elim (around.none q i.permitted) [
        | inl le ↦ omega (arith, above_since a q le ne, around.under, around.over)
        | inr ge ↦ omega (arith, around.under, around.over)
      ];
    }

    choose_up : b - r < r - a → Nearest (Within lo hi) r b
    choose_up h = record {
      candidate = high_in;
      nearest = λ q i ne. elim (around.none q i.permitted) [
        | inl le ↦ omega (arith, around.under, around.over)
        | inr ge ↦ omega (arith, below_since b q ge ne, around.under, around.over)
      ];
    }

    choose_middle : r - a ≡ b - r → Midway (Within lo hi) r r
    choose_middle h = record {
      low = a;
      high = b;
      low_of = low_in;
      high_of = high_in;
      order = omega (arith, around.under, around.over);
      level = omega (arith, around.under, around.over);
      nearest = λ q i. elim (around.none q i.permitted) [
        | inl le ↦ omega (arith, around.under, around.over)
        | inr ge ↦ omega (arith, around.under, around.over)
      ];
      itself = refl;
    }

    up_by : (u : Bool) → ltb (b - r) (r - a) ≡ u → b - r ≤ r - a → Chosen (Within lo hi) (Some r) (cond u b r)
    up_by true e h = inr (inl (choose_up (ltb-true (b - r) (r - a) e)))
    up_by false e h = inr (inr (choose_middle (omega (arith, ltb-false (b - r) (r - a) e))))

    down_by : (t : Bool) → ltb (r - a) (b - r) ≡ t → Chosen (Within lo hi) (Some r) (cond t a (cond (ltb (b - r) (r - a)) b r))
    down_by true e = inr (inl (choose_down (ltb-true (r - a) (b - r) e)))
    down_by false e = up_by (ltb (b - r) (r - a)) refl (ltb-false (r - a) (b - r) e)

    -- the nearer of the two neighbours, or the reference
    pub choose_nearer : Chosen (Within lo hi) (Some r) (nearer_of r a b)
    choose_nearer = down_by (ltb (r - a) (b - r)) refl
