-- The candidates of a book of permitted prices are the permitted prices from the lowest to the highest.
use Rattle.std.proofs.Common.{◌≡◌, ℕ, zero, suc, ◌+◌, ◌<◌, ◌≤◌, sym, subst, inl, inr, add-one, arith}
use Rattle.std.proofs.lemmas.Bool.{cases_lt}
use Rattle.market.specs.Prices.{Permitted}
use Rattle.market.proofs.Grid.{grid}
use Rattle.market.specs.Limits.{highest_price}
use Rattle.pricing.specs.Limits.{permitted_prices}
use Rattle.pricing.specs.Books.{Book, Sound, demand_at, supply_at, wanted_above, offered_below}
use Rattle.pricing.specs.Candidates.{Candidate}
use Rattle.pricing.specs.Ranges.{price_at, Within, Lowest, Highest}
use Rattle.pricing.proofs.Sides.{buyers_up, sellers_down, gap_offered, gap_wanted, none_offered, none_wanted}
use Rattle.pricing.proofs.Steps.{price_max, price_rises, permitted_at, no_between, index_of}

module _ (b : Book) (sound : Sound b) where
  -- where the buyers' side fails at one price, the sellers' side stands at the next
  next_sellers : (i : ℕ) → supply_at b (price_at i) < wanted_above b (price_at i) → offered_below b (price_at (i + 1)) ≤ demand_at b (price_at (i + 1))
  next_sellers i h =
      let up = price_rises i (i + 1) (omega arith) in
      omega (arith, gap_offered b sound (price_at i) (price_at (i + 1)) up (no_between i), gap_wanted b sound (price_at i) (price_at (i + 1)) up (no_between i))

  -- the lowest price at which the buyers' side stands is a candidate
  module _ (lo : ℕ) (l : Lowest b lo) where
    at_index : (i : ℕ) → 1 ≤ i → i ≤ permitted_prices → lo ≡ price_at i → offered_below b lo ≤ demand_at b lo
    at_index zero low high e = absurd (omega arith)
    at_index (suc zero) low high e = let two : lo ≡ 2 = e in rw two (omega (arith, none_offered b sound))
    at_index (suc (suc i)) low high e =
        let below : price_at (suc i) < price_at (suc i + 1) = price_rises (suc i) (suc i + 1) (omega arith) in
        let here : lo ≡ price_at (suc i + 1) = subst (λ k. lo ≡ price_at k) (sym (add-one (suc i))) e in
        elim (cases_lt (supply_at b (price_at (suc i))) (wanted_above b (price_at (suc i)))) [
          | inl fails ↦ subst (λ p. offered_below b p ≤ demand_at b p) (sym here) (next_sellers (suc i) fails)
          | inr stands ↦ absurd (omega (arith, l.bottom (price_at (suc i)) (permitted_at (suc i) (omega arith) (omega arith)) stands))
        ]

    pub lowest_sellers : offered_below b lo ≤ demand_at b lo
    lowest_sellers = let at = index_of lo l.permitted in at_index at.0 at.1 at.2 at.3

    pub lowest_candidate : Candidate b lo
    lowest_candidate = record {
      permitted = l.permitted;
      clears = record { buyers = l.buyers; sellers = lowest_sellers };
    }

    module _ (hi : ℕ) (h : Highest b hi) where
      pub lo_le_hi : lo ≤ hi
      lo_le_hi = h.top lo l.permitted lowest_sellers

      pub within_candidate : (q : ℕ) → Candidate b q → Within lo hi q
      within_candidate q c = record {
        permitted = c.permitted;
        from = l.bottom q c.permitted c.clears.buyers;
        to = h.top q c.permitted c.clears.sellers;
      }

      pub candidate_within : (q : ℕ) → Within lo hi q → Candidate b q
      candidate_within q i = record {
        permitted = i.permitted;
        clears = record {
          buyers = buyers_up b lo q i.from l.buyers;
          sellers = sellers_down b q hi i.to h.sellers;
        };
      }

  -- the first price from the bottom at which the buyers' side stands
  first : (n i : ℕ) → i + n ≡ permitted_prices → ((p : ℕ) → Permitted p → wanted_above b p ≤ supply_at b p → price_at i < p) → (lo : ℕ) × Lowest b lo
  first zero i e under =
      let top : Permitted highest_price = permitted_at permitted_prices (omega arith) (omega arith) in
      absurd (omega (arith, under highest_price top (omega (arith, none_wanted b sound)), price_max i))
  first (suc n) i e under =
      elim (cases_lt (supply_at b (price_at (i + 1))) (wanted_above b (price_at (i + 1)))) [
        | inr stands ↦ (
          price_at (i + 1),
          record {
            permitted = permitted_at (i + 1) (omega arith) (omega arith);
            buyers = stands;
            bottom = λ q ok h. elim (no_between i q ok) [ inl le ↦ absurd (omega (arith, under q ok h)) | inr ge ↦ ge ];
          },
        )
        | inl fails ↦ first n (i + 1) (omega arith) (λ p ok h. elim (cases_lt (price_at (i + 1)) p) [
          | inl lt ↦ lt
          | inr ge ↦ absurd (omega (arith, buyers_up b p (price_at (i + 1)) ge h))
        ])
      ]

  pub some_lowest : (lo : ℕ) × Lowest b lo
  some_lowest = first permitted_prices 0 (omega arith) (λ p ok h. omega (arith, (grid p ok).least))

  pub some_candidate : (q : ℕ) × Candidate b q
  some_candidate = (some_lowest.0, lowest_candidate some_lowest.0 some_lowest.1)
