-- What ties take of the quotes that pass a test; of better quotes, which rank first, all of it.
use Rattle.std.proofs.Common.{◌≡◌, ℕ, zero, suc, ◌+◌, ◌<◌, ◌≤◌, Bool, true, false, cond, List, [], ◌∷◌, length, get_or, sum_by, sym, refl, ap, ◌∙◌, inl, inr, arith, sum}
use Rattle.std.specs.List.{AllByRecursion}
use Rattle.std.proofs.ByRecursion.{All-weaker}
use Rattle.std.proofs.lemmas.List.Sums.{sum_by-cons, sum_by-append}
use Rattle.std.proofs.lemmas.Bool.{cases_Bool, both_ways, cond-true, cond-false}
use Rattle.ranking.specs.Ranked.{Sorted}
use Rattle.market.specs.declared.quote.Quote.{Quote}
use Rattle.market.specs.Markets.{no_quote}
use Rattle.routing.specs.Shares.{Tie, cell, down, put, line, lines, ties}
use Rattle.routing.specs.Tickets.{sizes}
use Rattle.routing.proofs.Sums.{down_is}

cond_none : (t : Bool) → ◌≡◌ {A = ℕ} (cond t 0 0) 0
cond_none true = refl
cond_none false = refl

cond_plus : (t : Bool) (m n : ℕ) → cond t (m + n) 0 ≡ cond t m 0 + cond t n 0
cond_plus true m n = refl
cond_plus false m n = refl

same_cond : (t : Bool) (m n : ℕ) → (t ≡ true → m ≡ n) → cond t m 0 ≡ cond t n 0
same_cond true m n h = h refl
same_cond false m n h = refl

-- the shares that ties give to the quotes that pass a test
module _ (passes : Quote → Bool) where
  -- of the cells of one order, those with such quotes, with b ahead of the first quote
  abbrev crossed : ℕ → ℕ → ℕ → ℕ → List Quote → ℕ
  crossed n a r b [] = 0
  crossed n a r b (x ∷ xs) = cond (passes x) (cell n a r b x.shares) 0 + crossed n a r (b + x.shares) xs

  -- and of the cells of all orders, with a ahead of the first
  abbrev taken : ℕ → ℕ → List ℕ → ℕ → List Quote → ℕ
  taken n a rs b [] = 0
  taken n a rs b (x ∷ xs) = cond (passes x) (down n a rs b x.shares) 0 + taken n a rs (b + x.shares) xs

  taken_none : (n a b : ℕ) (xs : List Quote) → taken n a [] b xs ≡ 0
  taken_none n a b [] = refl
  taken_none n a b (x ∷ xs) = omega (arith, cond_none (passes x), taken_none n a (b + x.shares) xs)

  taken_more : (n a r : ℕ) (rs : List ℕ) (b : ℕ) (xs : List Quote) → taken n a (r ∷ rs) b xs ≡ crossed n a r b xs + taken n (a + r) rs b xs
  taken_more n a r rs b [] = refl
  taken_more n a r rs b (x ∷ xs) = omega (
    arith,
    cond_plus (passes x) (cell n a r b x.shares) (down n (a + r) rs b x.shares),
    taken_more n a r rs (b + x.shares) xs,
  )

  module _ (quotes : List Quote) where
    abbrev tied : Tie → ℕ
    tied t = cond (passes (get_or quotes t.quote no_quote)) t.shares 0

    sum_put : (i j c : ℕ) (ts : List Tie) → sum_by tied (put i j c ts) ≡ cond (passes (get_or quotes j no_quote)) c 0 + sum_by tied ts
    sum_put i j zero ts = omega (arith, cond_none (passes (get_or quotes j no_quote)))
    sum_put i j (suc c) ts = sum_by-cons tied (record { order = i; quote = j; shares = suc c }) ts

    -- the quotes from the j-th on
    abbrev From : ℕ → List Quote → Type 0
    From j xs = (k : ℕ) → k < length xs → get_or quotes (j + k) no_quote ≡ get_or xs k no_quote

    from_first : (j : ℕ) (x : Quote) (xs : List Quote) → From j (x ∷ xs) → get_or quotes j no_quote ≡ x
    from_first j x xs from = let e : j + 0 ≡ j = omega arith in rw e at (from 0 (omega arith))

    from_next : (j : ℕ) (x : Quote) (xs : List Quote) → From j (x ∷ xs) → From (j + 1) xs
    from_next j x xs from k l = let e : j + suc k ≡ (j + 1) + k = omega arith in rw e at (from (suc k) (omega arith))

    sum_line : (n i a r j b : ℕ) (xs : List Quote) → From j xs → sum_by tied (line n i a r j b (sizes xs)) ≡ crossed n a r b xs
    sum_line n i a r j b [] from = refl
    sum_line n i a r j b (x ∷ xs) from =
        let c : ℕ = cell n a r b x.shares in
        let here = ap (λ y. cond (passes y) c 0) (from_first j x xs from) in
        omega (
          arith,
          sum_put i j c (line n i a r (j + 1) (b + x.shares) (sizes xs)),
          here,
          sum_line n i a r (j + 1) (b + x.shares) xs (from_next j x xs from),
        )

    sum_lines : (n i a : ℕ) (rs : List ℕ) (xs : List Quote) → From 0 xs → sum_by tied (lines n i a rs 0 0 (sizes xs)) ≡ taken n a rs 0 xs
    sum_lines n i a [] xs from = sym (taken_none n a 0 xs)
    sum_lines n i a (r ∷ rs) xs from = omega (
      arith,
      sum_by-append tied (line n i a r 0 0 (sizes xs)) (lines n (i + 1) (a + r) rs 0 0 (sizes xs)),
      sum_line n i a r 0 0 xs from,
      sum_lines n (i + 1) (a + r) rs xs from,
      taken_more n a r rs 0 xs,
    )

  -- none passes
  none_taken : (n a : ℕ) (rs : List ℕ) (b : ℕ) (xs : List Quote) → AllByRecursion (λ x. passes x ≡ false) xs
      → taken n a rs b xs ≡ sum_by (λ x. cond (passes x) x.shares 0) xs
  none_taken n a rs b [] none = refl
  none_taken n a rs b (x ∷ xs) none = omega (
    arith,
    sum_by-cons (λ y. cond (passes y) y.shares 0) x xs,
    cond-false (passes x) x.shares 0 none.0,
    cond-false (passes x) (down n a rs b x.shares) 0 none.0,
    none_taken n a rs (b + x.shares) xs none.1,
  )

  -- quotes in rank order, of which the better come first, and all that pass are better
  module _ (ahead : Quote → Quote → Bool) (better : Quote → Bool) (first : (x y : Quote) → ahead y x ≡ false → better y ≡ true → better x ≡ true)
      (within : (x : Quote) → passes x ≡ true → better x ≡ true) where
    not_passes : (x : Quote) → better x ≡ false → passes x ≡ false
    not_passes x f = elim (cases_Bool (passes x)) [ inl t ↦ absurd (both_ways (better x) f (within x t)) | inr f' ↦ f' ]

    none_behind : (x y : Quote) → better x ≡ false → ahead y x ≡ false → passes y ≡ false
    none_behind x y f h = not_passes y (elim (cases_Bool (better y)) [ inl t ↦ absurd (both_ways (better x) f (first x y h t)) | inr f' ↦ f' ])

    -- within n shares that are routed, where the orders have as many, each that passes is taken
    -- whole
    taken_whole : (n : ℕ) (rs : List ℕ) → n ≤ sum rs → (b : ℕ) (xs : List Quote) → Sorted ahead xs → b + sum_by (λ x. cond (better x) x.shares 0) xs ≤ n
        → taken n 0 rs b xs ≡ sum_by (λ x. cond (passes x) x.shares 0) xs
    taken_whole n rs enough b [] s le = refl
    taken_whole n rs enough b (x ∷ xs) s le = by_test (taken_whole n rs enough (b + x.shares) xs s.1) (better x) refl
      where
        by_test : ((b + x.shares) + sum_by (λ y. cond (better y) y.shares 0) xs ≤ n → taken n 0 rs (b + x.shares) xs ≡ sum_by (λ y. cond (passes y) y.shares 0) xs)
            → (t : Bool) → better x ≡ t → taken n 0 rs b (x ∷ xs) ≡ sum_by (λ y. cond (passes y) y.shares 0) (x ∷ xs)
        by_test rest true t =
            let B : Quote → ℕ = λ y. cond (better y) y.shares 0 in
            let more = sum_by-cons B x xs in
            let mine = cond-true (better x) x.shares 0 t in
            let whole : down n 0 rs b x.shares ≡ x.shares = omega (arith, down_is n 0 rs b x.shares) in
            omega (
              arith,
              sum_by-cons (λ y. cond (passes y) y.shares 0) x xs,
              same_cond (passes x) (down n 0 rs b x.shares) x.shares (λ _. whole),
              rest (omega arith),
            )
        by_test rest false f =
            none_taken n 0 rs b (x ∷ xs)
            (not_passes x f, All-weaker (λ y. ahead y x ≡ false) (λ y. passes y ≡ false) (λ y h. none_behind x y f h) xs s.0)

    -- so over all ties
    pub ties_whole : (n : ℕ) (rs : List ℕ) → n ≤ sum rs → (xs : List Quote) → Sorted ahead xs → sum_by (λ x. cond (better x) x.shares 0) xs ≤ n
        → sum_by (tied xs) (ties n rs (sizes xs)) ≡ sum_by (λ x. cond (passes x) x.shares 0) xs
    ties_whole n rs enough xs s le =
        sum_lines xs n 0 0 rs xs (λ k l. let e : 0 + k ≡ k = omega arith in rw e)
        ∙ taken_whole n rs enough 0 xs s (omega arith)
