-- Demand and supply of a book: how they move with the price, and what one look at a price tells.
use Rattle.std.proofs.Common.{◌≡◌, ℕ, ◌+◌, ◌-◌, ◌<◌, ◌≤◌, ◌⊎◌, inl, inr, arith}
use Rattle.std.proofs.lemmas.Bool.{cases_order, cases_lt}
use Rattle.market.specs.Prices.{Permitted}
use Rattle.market.specs.Limits.{lowest_price, highest_price}
use Rattle.pricing.specs.Books.{Book, levels, demand_at, supply_at, count_at, wanted_above, offered_below, Sound}
use Rattle.pricing.specs.Candidates.{Clears}
use Rattle.pricing.proofs.Levels as of

module _ (b : Book) where
  pub demand_falls : (x y : ℕ) → x ≤ y → demand_at b y ≤ demand_at b x
  demand_falls x y h = omega (arith, of.at_or_above_falls x y h b.buys, of.at_or_above_falls x y h (levels b.bids))

  pub supply_rises : (x y : ℕ) → x ≤ y → supply_at b x ≤ supply_at b y
  supply_rises x y h = omega (arith, of.at_or_below_rises x y h b.sells, of.at_or_below_rises x y h (levels b.offers))

  pub wanted_is : (q : ℕ) → wanted_above b q ≡ demand_at b (q + 1)
  wanted_is q = omega (arith, of.above_is q b.buys, of.above_is q (levels b.bids))

  pub offered_is : (q : ℕ) → 0 < q → offered_below b q ≡ supply_at b (q - 1)
  offered_is q h = omega (arith, of.below_pred q h b.sells, of.below_pred q h (levels b.offers))

  pub offered_rises : (x y : ℕ) → x ≤ y → offered_below b x ≤ offered_below b y
  offered_rises x y h = omega (arith, of.below_mono x y h b.sells, of.below_mono x y h (levels b.offers))

  -- the buyers' side stands at every higher price, the sellers' at every lower one
  pub buyers_up : (x y : ℕ) → x ≤ y → wanted_above b x ≤ supply_at b x → wanted_above b y ≤ supply_at b y
  buyers_up x y h c = omega (arith, wanted_is x, wanted_is y, demand_falls (x + 1) (y + 1) (omega arith), supply_rises x y h)

  pub sellers_down : (x y : ℕ) → x ≤ y → offered_below b y ≤ demand_at b y → offered_below b x ≤ demand_at b x
  sellers_down x y h c = omega (arith, offered_rises x y h, demand_falls x y h)

  -- a price that clears counts most
  pub counts_most : (q : ℕ) → Clears b q → (other : ℕ) → count_at b other ≤ count_at b q
  counts_most q c other =
      elim (cases_order other q) [
        | inl e ↦ rw e (omega arith)
        | inr (inl lt) ↦ omega (arith, supply_rises other q (omega arith), supply_rises other (q - 1) (omega arith), offered_is q (omega arith), c.sellers)
        | inr (inr gt) ↦ omega (arith, demand_falls q other (omega arith), demand_falls (q + 1) other (omega arith), wanted_is q, c.buyers)
      ]

  -- one look at a price
  pub buyers_pass : (q : ℕ) → demand_at b (q + 1) ≤ supply_at b q → wanted_above b q ≤ supply_at b q
  buyers_pass q h = omega (arith, wanted_is q)

  pub buyers_fail : (q : ℕ) → supply_at b q < demand_at b (q + 1) → (p : ℕ) → wanted_above b p ≤ supply_at b p → q < p
  buyers_fail q h p ok =
      elim (cases_lt q p) [
        | inl lt ↦ lt
        | inr ge ↦ omega (arith, wanted_is q, buyers_up p q ge ok)
      ]

-- a book of permitted prices, between neighbours and at its ends
module _ (b : Book) (sound : Sound b) where
  pub gap_offered : (x y : ℕ) → x < y → ((p : ℕ) → Permitted p → (p ≤ x) ⊎ (y ≤ p)) → offered_below b y ≡ supply_at b x
  gap_offered x y lt gap = omega (arith, of.gap_below x y lt gap b.sells sound.sells, of.gap_below x y lt gap (levels b.offers) sound.offers)

  pub gap_wanted : (x y : ℕ) → x < y → ((p : ℕ) → Permitted p → (p ≤ x) ⊎ (y ≤ p)) → wanted_above b x ≡ demand_at b y
  gap_wanted x y lt gap = omega (arith, of.gap_above x y lt gap b.buys sound.buys, of.gap_above x y lt gap (levels b.bids) sound.bids)

  pub none_offered : offered_below b lowest_price ≡ 0
  none_offered = omega (arith, of.none_below b.sells sound.sells, of.none_below (levels b.offers) sound.offers)

  pub none_wanted : wanted_above b highest_price ≡ 0
  none_wanted = omega (arith, of.none_above b.buys sound.buys, of.none_above (levels b.bids) sound.bids)
