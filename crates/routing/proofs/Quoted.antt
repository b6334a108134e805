-- What tickets come to by venue and price: where one goes to a quote, all that is quoted only ahead of it is ticketed.
use Rattle.std.proofs.Common.{◌≡◌, ℕ, zero, suc, ◌+◌, ◌<◌, ◌≤◌, Bool, true, false, cond, ◌&&◌, eqb, ltb, List, [], ◌∷◌, length, get_or, take, sum_by, sym, refl, ap, ◌∙◌, subst, inl, inr, arith}
use Rattle.std.specs.List.{AllByRecursion}
use Rattle.std.proofs.ByRecursion.{All-get_or}
use Rattle.std.proofs.lemmas.List.{length-map, get_or-map, take_all}
use Rattle.std.proofs.lemmas.List.Sums.{sum_by-cons, sum_by_more}
use Rattle.std.proofs.lemmas.Bool.{cases_lt, cond-true, and_parts, eqb-true, both_ways}
use Rattle.std.proofs.lemmas.Bool.Decides.{nat_tests}
use Rattle.market.specs.declared.quote.Quote.{Quote}
use Rattle.market.specs.Markets.{no_quote}
use Rattle.pricing.proofs.Levels.{sum_by_map}
use Rattle.orders.specs.declared.row.OrderRow.{OrderRow}
use Rattle.ranking.specs.Ranked.{Sorted}
use Rattle.routing.specs.Shares.{Tie, ties, of_quote}
use Rattle.routing.specs.Tickets.{empty_ticket, rests, sizes, ticket_of, tickets, to_venue}
use Rattle.routing.proofs.Tied.{ties_quotes}
use Rattle.routing.proofs.First.{no_tie, quote_whole}

cond_plus : (b : Bool) (m n : ℕ) → cond b (m + n) 0 ≡ cond b m 0 + cond b n 0
cond_plus true m n = refl
cond_plus false m n = refl

cond_none : (b : Bool) → ◌≡◌ {A = ℕ} (cond b 0 0) 0
cond_none true = refl
cond_none false = refl

same_cond : (b : Bool) (m n : ℕ) → (b ≡ true → m ≡ n) → cond b m 0 ≡ cond b n 0
same_cond true m n h = h refl
same_cond false m n h = refl

-- the shares of ties with those of the first m quotes whose places pass
module _ (passes : ℕ → Bool) where
  abbrev on_places : ℕ → List Tie → ℕ
  on_places zero ts = 0
  on_places (suc m) ts = on_places m ts + cond (passes m) (of_quote m ts) 0

  places_none : (m : ℕ) → on_places m [] ≡ 0
  places_none zero = refl
  places_none (suc m) = omega (arith, places_none m, cond_none (passes m))

  places_cons : (m : ℕ) (t : Tie) (ts : List Tie) → on_places m (t ∷ ts) ≡ cond (ltb t.quote m) (cond (passes t.quote) t.shares 0) 0 + on_places m ts
  places_cons zero t ts = grind (arith, nat_tests)
  places_cons (suc m) t ts =
      let none = cond_none (passes m) in
      let parts = cond_plus (passes m) (cond (eqb t.quote m) t.shares 0) (of_quote m ts) in
      let before = places_cons m t ts in
      elim (cases_lt t.quote m) [
        | inl lt ↦
            let other : eqb t.quote m ≡ false = grind (arith, nat_tests) in
            let no = ap (λ b. cond (passes m) (cond b t.shares 0) 0) other in
            grind (arith, nat_tests)
        | inr ge ↦ elim (cases_lt m t.quote) [
          | inl gt ↦
              let other : eqb t.quote m ≡ false = grind (arith, nat_tests) in
              let no = ap (λ b. cond (passes m) (cond b t.shares 0) 0) other in
              grind (arith, nat_tests)
          | inr le ↦
              let e : t.quote ≡ m = omega arith in
              let same : eqb t.quote m ≡ true = grind (arith, nat_tests) in
              let yes' = ap (λ b. cond (passes m) (cond b t.shares 0) 0) same in
              let at = ap (λ i. cond (passes i) t.shares 0) e in
              grind (arith, nat_tests)
        ]
      ]

  places_all : (m : ℕ) (ts : List Tie) → AllByRecursion (λ t. t.quote < m) ts → sum_by (λ t. cond (passes t.quote) t.shares 0) ts ≡ on_places m ts
  places_all m [] a = sym (places_none m)
  places_all m (t ∷ ts) a =
      let within : ltb t.quote m ≡ true = let lt : t.quote < m = a.0 in grind (arith, nat_tests) in
      omega (
        arith,
        sum_by-cons (λ u. cond (passes u.quote) u.shares 0) t ts,
        places_cons m t ts,
        cond-true (ltb t.quote m) (cond (passes t.quote) t.shares 0) 0 within,
        places_all m ts a.1,
      )

-- where the ties with each quote that passes are for all that it has
module _ (passes : Quote → Bool) (quotes : List Quote) (ts : List Tie)
    (whole : (j : ℕ) → j < length quotes → passes (get_or quotes j no_quote) ≡ true → of_quote j ts ≡ (get_or quotes j no_quote).shares) where
  places_whole : (m : ℕ) → m ≤ length quotes → on_places (λ j. passes (get_or quotes j no_quote)) m ts ≡ sum_by (λ x. cond (passes x) x.shares 0) (take m quotes)
  places_whole zero h = refl
  places_whole (suc m) h =
      let e : m + 1 ≡ suc m = omega arith in
      let more = rw e at (sum_by_more (λ x. cond (passes x) x.shares 0) quotes m no_quote (omega arith)) in
      omega (
        arith,
        more,
        places_whole m (omega arith),
        same_cond (passes (get_or quotes m no_quote)) (of_quote m ts) (get_or quotes m no_quote).shares (whole m (omega arith)),
      )

module _ (n : ℕ) (rows : List OrderRow) (quotes : List Quote) where
  -- a ticket goes to quotes behind all those of a venue and price: these are ticketed whole
  pub quoted_first : (k venue price : ℕ) → k < length (tickets n rows quotes)
      → ((i j : ℕ) → i < length quotes → j < length quotes → (get_or (tickets n rows quotes) k empty_ticket).venue ≡ (get_or quotes i no_quote).venue
      → (get_or (tickets n rows quotes) k empty_ticket).price ≡ (get_or quotes i no_quote).price → (get_or quotes j no_quote).venue ≡ venue
      → (get_or quotes j no_quote).price ≡ price → j < i)
      → to_venue venue price (tickets n rows quotes) ≡ sum_by (λ x. cond (eqb x.venue venue && eqb x.price price) x.shares 0) quotes
  quoted_first k venue price l before =
      let rs : List ℕ = rests rows in
      let ss : List ℕ = sizes quotes in
      let ts : List Tie = ties n rs ss in
      let t : Tie = get_or ts k no_tie in
      let passes : Quote → Bool = λ x. eqb x.venue venue && eqb x.price price in
      let long = length-map quotes (λ x. x.shares) in
      let tied : k < length ts = omega (arith, length-map ts (ticket_of rows quotes)) in
      let all : AllByRecursion (λ u. u.quote < length quotes) ts = subst (λ m. AllByRecursion (λ u. u.quote < m) ts) long (ties_quotes n rs ss) in
      let is = get_or-map (ticket_of rows quotes) ts k no_tie empty_ticket tied in
      let place : t.quote < length quotes = All-get_or (λ u. u.quote < length quotes) ts k no_tie tied all in
      let whole : (j : ℕ) → j < length quotes → passes (get_or quotes j no_quote) ≡ true → of_quote j ts ≡ (get_or quotes j no_quote).shares =
      λ j lt yes'.
      let both = and_parts (eqb (get_or quotes j no_quote).venue venue) (eqb (get_or quotes j no_quote).price price) yes' in
      let ahead : j < t.quote = before t.quote j place lt (ap (λ u. u.venue) is) (ap (λ u. u.price) is) (eqb-true _ _ both.0) (eqb-true _ _ both.1) in
      quote_whole n rs ss k j tied ahead (omega (arith, long)) ∙ get_or-map (λ x. x.shares) quotes j no_quote 0 lt in
      let m : ℕ = length quotes in
      sum_by_map (λ u. cond (eqb u.venue venue && eqb u.price price) u.shares 0) (ticket_of rows quotes) ts
      ∙ places_all (λ j. passes (get_or quotes j no_quote)) m ts all
      ∙ places_whole passes quotes ts whole m (omega arith)
      ∙ ap (λ xs. sum_by (λ x. cond (passes x) x.shares 0) xs) (take_all m quotes (omega arith))

-- in rank order no entry is ahead of one before it
sorted_at : {E : Type 0} (ahead : E → E → Bool) (xs : List E) (d : E) (i j : ℕ) → Sorted ahead xs → i < j → j < length xs → ahead (get_or xs j d) (get_or xs i d) ≡ false
sorted_at ahead [] d i j s h l = absurd (omega arith)
sorted_at ahead (x ∷ xs) d i zero s h l = absurd (omega arith)
sorted_at ahead (x ∷ xs) d zero (suc j) s h l = All-get_or (λ y. ahead y x ≡ false) xs j d (omega arith) s.0
sorted_at ahead (x ∷ xs) d (suc i) (suc j) s h l = sorted_at ahead xs d i j s.1 (omega arith) (omega arith)

-- of ranked quotes, where the rank of two goes by their venues and prices alone: where a ticket goes to a quote, whatever is
-- quoted at the venue and the price of one ahead of it is ticketed whole
pub ranked_first : (ahead : Quote → Quote → Bool) → ((a b : Quote) → ahead a b ≡ true → ahead b a ≡ false)
    → ((a b c d : Quote) → a.venue ≡ c.venue → a.price ≡ c.price → b.venue ≡ d.venue → b.price ≡ d.price → ahead a b ≡ true → ahead c d ≡ true)
    → (n : ℕ) (rows : List OrderRow) (quotes : List Quote) → Sorted ahead quotes → (k : ℕ) (x y : Quote) → k < length (tickets n rows quotes)
    → (get_or (tickets n rows quotes) k empty_ticket).venue ≡ x.venue → (get_or (tickets n rows quotes) k empty_ticket).price ≡ x.price → ahead y x ≡ true
    → to_venue y.venue y.price (tickets n rows quotes) ≡ sum_by (λ z. cond (eqb z.venue y.venue && eqb z.price y.price) z.shares 0) quotes
ranked_first ahead apart alike n rows quotes sorted k x y l venue price before =
    quoted_first n rows quotes k y.venue y.price l (λ i j li lj v p v' p'.
    let ci : Quote = get_or quotes i no_quote in
    let cj : Quote = get_or quotes j no_quote in
    let front : ahead cj ci ≡ true = alike y x cj ci (sym v') (sym p') (sym venue ∙ v) (sym price ∙ p) before in
    elim (cases_lt j i) [
      | inl lt ↦ lt
      | inr ge ↦ elim (cases_lt i j) [
        | inl behind ↦ absurd (both_ways (ahead cj ci) (sorted_at ahead quotes no_quote i j sorted behind lj) front)
        | inr le ↦
            let same : j ≡ i = omega arith in
            let itself : ahead ci ci ≡ true = subst (λ h. ahead (get_or quotes h no_quote) ci ≡ true) same front in
            absurd (both_ways (ahead ci ci) (apart ci ci itself) itself)
      ]
    ])
