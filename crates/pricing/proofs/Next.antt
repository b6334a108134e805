-- The next price at which shares stand, and the highest candidate by it.
use Rattle.std.proofs.Common.{◌≡◌, ℕ, ◌+◌, ◌-◌, ◌<◌, ◌≤◌, min, Bool, true, false, cond, ◌&&◌, ltb, leb, ◌⊎◌, List, [], ◌∷◌, refl, subst, inl, inr, arith}
use Rattle.std.proofs.lemmas.List.Sums.{sum_by-cons}
use Rattle.std.proofs.lemmas.Bool.Decides.{nat_tests}
use Rattle.std.proofs.lemmas.Bool.{cases_lt, cases_eq}
use Rattle.market.specs.Prices.{Permitted}
use Rattle.market.proofs.Grid.{grid}
use Rattle.market.specs.Limits.{highest_price}
use Rattle.pricing.specs.Limits.{permitted_prices}
use Rattle.pricing.specs.declared.level.Level.{Level}
use Rattle.pricing.specs.Books.{Book, levels, at_or_above, at_or_below, demand_at, supply_at, offered_below, AtPermitted, Sound}
use Rattle.pricing.specs.Ranges.{next_above, next_price, Lowest, Highest}
use Rattle.pricing.proofs.Levels.{at_or_above_falls, at_or_below_rises}
use Rattle.pricing.proofs.Sides.{demand_falls, supply_rises, wanted_is, offered_is}
use Rattle.pricing.proofs.Steps.{permitted_at}
use Rattle.pricing.proofs.Rows.{lowest_sellers}

-- where one entry stands above q, if it does
abbrev stands : ℕ → ℕ → ℕ → ℕ
stands q p s = cond (ltb q p && ltb 0 s) p highest_price

still_above_part : (q x p s : ℕ) → q < x → x ≤ stands q p s → cond (leb x p) s 0 ≡ cond (leb (q + 1) p) s 0
still_above_part q x p s h k = grind (arith, nat_tests)

still_below_part : (q x p s : ℕ) → q ≤ x → x < stands q p s → cond (leb p x) s 0 ≡ cond (leb p q) s 0
still_below_part q x p s h k = grind (arith, nat_tests)

falls_part : (q m p s : ℕ) → m < highest_price → stands q p s ≡ m → cond (leb (m + 1) p) s 0 < cond (leb m p) s 0
falls_part q m p s h e = grind (arith, nat_tests)

rises_part : (q m p s : ℕ) → m < highest_price → stands q p s ≡ m → cond (leb p (m - 1)) s 0 < cond (leb p m) s 0
rises_part q m p s h e = grind (arith, nat_tests)

over_part : (q p s : ℕ) → q < highest_price → q < stands q p s
over_part q p s h = grind (arith, nat_tests)

floor_part : (q p s : ℕ) → q ≤ highest_price → q ≤ stands q p s
floor_part q p s h = grind (arith, nat_tests)

next_floor : (q : ℕ) → q ≤ highest_price → (ls : List Level) → q ≤ next_above q ls
next_floor q h [] = h
next_floor q h (l ∷ ls) = omega (arith, floor_part q l.price l.shares h, next_floor q h ls)

pub next_over : (q : ℕ) → q < highest_price → (ls : List Level) → q < next_above q ls
next_over q h [] = h
next_over q h (l ∷ ls) = omega (arith, over_part q l.price l.shares h, next_over q h ls)

pub next_most : (q : ℕ) (ls : List Level) → next_above q ls ≤ highest_price
next_most q [] = omega arith
next_most q (l ∷ ls) = omega (arith, next_most q ls)

-- between q and the next price the sums stay
pub still_above : (q x : ℕ) → q < x → (ls : List Level) → x ≤ next_above q ls → at_or_above x ls ≡ at_or_above (q + 1) ls
unfolding at_or_above
still_above q x h [] k = refl
still_above q x h (l ∷ ls) k =
    omega (
      arith,
      sum_by-cons (λ y. cond (leb x y.price) y.shares 0) l ls,
      sum_by-cons (λ y. cond (leb (q + 1) y.price) y.shares 0) l ls,
      still_above_part q x l.price l.shares h (omega arith),
      still_above q x h ls (omega arith),
    )

pub still_below : (q x : ℕ) → q ≤ x → (ls : List Level) → x < next_above q ls → at_or_below x ls ≡ at_or_below q ls
unfolding at_or_below
still_below q x h [] k = refl
still_below q x h (l ∷ ls) k =
    omega (
      arith,
      sum_by-cons (λ y. cond (leb y.price x) y.shares 0) l ls,
      sum_by-cons (λ y. cond (leb y.price q) y.shares 0) l ls,
      still_below_part q x l.price l.shares h (omega arith),
      still_below q x h ls (omega arith),
    )

falls_rest : (m p s : ℕ) → cond (leb (m + 1) p) s 0 ≤ cond (leb m p) s 0
falls_rest m p s = grind (arith, nat_tests)

rises_rest : (m p s : ℕ) → cond (leb p (m - 1)) s 0 ≤ cond (leb p m) s 0
rises_rest m p s = grind (arith, nat_tests)

-- at the next price shares stand
pub falls_there : (q m : ℕ) → m < highest_price → (ls : List Level) → next_above q ls ≡ m → at_or_above (m + 1) ls < at_or_above m ls
unfolding at_or_above
falls_there q m h [] e = absurd (omega arith)
falls_there q m h (l ∷ ls) e =
    let one = sum_by-cons (λ y. cond (leb (m + 1) y.price) y.shares 0) l ls in
    let two = sum_by-cons (λ y. cond (leb m y.price) y.shares 0) l ls in
    elim (cases_eq (next_above q ls) m) [
      | inl there ↦ omega (arith, one, two, falls_there q m h ls there, falls_rest m l.price l.shares)
      | inr other ↦ omega (arith, one, two, falls_part q m l.price l.shares h (omega arith), at_or_above_falls m (m + 1) (omega arith) ls)
    ]

pub rises_there : (q m : ℕ) → m < highest_price → (ls : List Level) → next_above q ls ≡ m → at_or_below (m - 1) ls < at_or_below m ls
unfolding at_or_below
rises_there q m h [] e = absurd (omega arith)
rises_there q m h (l ∷ ls) e =
    let one = sum_by-cons (λ y. cond (leb y.price (m - 1)) y.shares 0) l ls in
    let two = sum_by-cons (λ y. cond (leb y.price m) y.shares 0) l ls in
    elim (cases_eq (next_above q ls) m) [
      | inl there ↦ omega (arith, one, two, rises_there q m h ls there, rises_rest m l.price l.shares)
      | inr other ↦ omega (arith, one, two, rises_part q m l.price l.shares h (omega arith), at_or_below_rises (m - 1) m (omega arith) ls)
    ]

-- the next price is permitted
permitted_least : (a b : ℕ) → Permitted a → Permitted b → Permitted (min a b)
permitted_least a b x y =
    elim (cases_lt a b) [
      | inl lt ↦ let e : min a b ≡ a = omega arith in rw e x
      | inr ge ↦ let e : min a b ≡ b = omega arith in rw e y
    ]

permitted_cond : (t : Bool) (p : ℕ) → Permitted p → Permitted (cond t p highest_price)
permitted_cond true p h = h
permitted_cond false p h = permitted_at permitted_prices (omega arith) (omega arith)

pub next_permitted : (q : ℕ) (ls : List Level) → AtPermitted ls → Permitted (next_above q ls)
next_permitted q [] all = permitted_at permitted_prices (omega arith) (omega arith)
next_permitted q (l ∷ ls) all =
    permitted_least (stands q l.price l.shares) (next_above q ls) (permitted_cond (ltb q l.price && ltb 0 l.shares) l.price all.0) (next_permitted q ls all.1)

-- the same of a book
module _ (b : Book) (q : ℕ) where
  pub price_over : q < highest_price → q < next_price b q
  price_over h = omega (arith, next_over q h b.buys, next_over q h b.sells, next_over q h (levels b.bids), next_over q h (levels b.offers))

  pub price_floor : q ≤ highest_price → q ≤ next_price b q
  price_floor h = omega (arith, next_floor q h b.buys, next_floor q h b.sells, next_floor q h (levels b.bids), next_floor q h (levels b.offers))

  pub price_most : next_price b q ≤ highest_price
  price_most = omega (arith, next_most q b.buys)

  pub demand_still : (x : ℕ) → q < x → x ≤ next_price b q → demand_at b x ≡ demand_at b (q + 1)
  demand_still x h k = omega (arith, still_above q x h b.buys (omega arith), still_above q x h (levels b.bids) (omega arith))

  pub supply_still : (x : ℕ) → q ≤ x → x < next_price b q → supply_at b x ≡ supply_at b q
  supply_still x h k = omega (arith, still_below q x h b.sells (omega arith), still_below q x h (levels b.offers) (omega arith))

  module _ (m : ℕ) (e : next_price b q ≡ m) (short : m < highest_price) where
    -- shares leave the demand or join the supply at the next price
    pub something_there : (demand_at b (m + 1) < demand_at b m) ⊎ (supply_at b (m - 1) < supply_at b m)
    something_there =
        let buys = at_or_above_falls m (m + 1) (omega arith) b.buys in
        let bids = at_or_above_falls m (m + 1) (omega arith) (levels b.bids) in
        let sells = at_or_below_rises (m - 1) m (omega arith) b.sells in
        let offers = at_or_below_rises (m - 1) m (omega arith) (levels b.offers) in
        elim (cases_eq (next_above q b.buys) m) [
          | inl at ↦ inl (omega (arith, falls_there q m short b.buys at, bids))
          | inr no-buy ↦ elim (cases_eq (next_above q (levels b.bids)) m) [
            | inl at ↦ inl (omega (arith, falls_there q m short (levels b.bids) at, buys))
            | inr no-bid ↦ elim (cases_eq (next_above q b.sells) m) [
              | inl at ↦ inr (omega (arith, rises_there q m short b.sells at, offers))
              | inr no-sell ↦ inr (omega (arith, rises_there q m short (levels b.offers) (omega arith), sells))
            ]
          ]
        ]

pub price_permitted : (b : Book) (q : ℕ) → Sound b → Permitted (next_price b q)
price_permitted b q sound =
    let buys = next_above q b.buys in
    let sells = next_above q b.sells in
    let bids = next_above q (levels b.bids) in
    let offers = next_above q (levels b.offers) in
    permitted_least (min buys sells) (min bids offers)
    (permitted_least buys sells (next_permitted q b.buys sound.buys) (next_permitted q b.sells sound.sells))
    (permitted_least bids offers (next_permitted q (levels b.bids) sound.bids) (next_permitted q (levels b.offers) sound.offers))

-- the highest candidate, from the lowest
module _ (b : Book) (sound : Sound b) (lo : ℕ) (l : Lowest b lo) where
  -- supply at the lowest exceeds what is wanted above it: no higher price is a candidate
  pub highest_same : (demand_at b (lo + 1) ≡ supply_at b lo → ⊥) → Highest b lo
  highest_same ne = record {
    permitted = l.permitted;
    sellers = lowest_sellers b sound lo l;
    top = λ q ok h. elim (cases_lt lo q) [
      | inr le ↦ le
      | inl gt ↦ absurd (ne (omega (arith, l.buyers, wanted_is b lo, offered_is b q (omega arith), demand_falls b (lo + 1) q (omega arith), supply_rises b lo (q - 1) (omega arith))))
    ];
  }

  -- they are equal: every price is a candidate up to the next at which shares stand
  module _ (tight : demand_at b (lo + 1) ≡ supply_at b lo) where
    next_sellers : offered_below b (next_price b lo) ≤ demand_at b (next_price b lo)
    next_sellers =
        elim (cases_lt lo (next_price b lo)) [
          | inl lt ↦
              omega (arith, offered_is b (next_price b lo) (omega arith), supply_still b lo (next_price b lo - 1) (omega arith) (omega arith), demand_still b lo (next_price b lo) lt (omega arith))
          | inr ge ↦
              let same : lo ≡ next_price b lo = omega (arith, price_floor b lo (grid lo l.permitted).most) in
              subst (λ p. offered_below b p ≤ demand_at b p) same (lowest_sellers b sound lo l)
        ]

    -- past the next price the sellers' side fails
    past_fails : (q : ℕ) → next_price b lo < q → q ≤ highest_price → offered_below b q ≤ demand_at b q → ⊥
    past_fails q past most h =
        let over : lo < next_price b lo = price_over b lo (omega (arith, price_floor b lo (grid lo l.permitted).most)) in
        let same = demand_still b lo (next_price b lo) over (omega arith) in
        let rest = supply_still b lo (next_price b lo - 1) (omega arith) (omega arith) in
        let offered = offered_is b q (omega arith) in
        elim (something_there b lo (next_price b lo) refl (omega arith)) [
          | inl falls ↦ omega (arith, falls, same, offered, demand_falls b (next_price b lo + 1) q (omega arith), supply_rises b lo (q - 1) (omega arith))
          | inr rises ↦ omega (arith, rises, rest, offered, demand_falls b (lo + 1) q (omega arith), supply_rises b (next_price b lo) (q - 1) (omega arith))
        ]

    pub highest_next : Highest b (next_price b lo)
    highest_next = record {
      permitted = price_permitted b lo sound;
      sellers = next_sellers;
      top = λ q ok h. elim (cases_lt (next_price b lo) q) [
        | inr le ↦ le
        | inl gt ↦ absurd (past_fails q gt (grid q ok).most h)
      ];
    }
