-- Each tie is as large as both sides still allow, and no other list of ties is like that.
use Rattle.std.proofs.Common.{◌≡◌, ℕ, zero, suc, ◌+◌, ◌-◌, ◌<◌, ◌≤◌, min, Bool, true, false, cond, eqb, leb, ltb, List, [], ◌∷◌, ◌++◌, length, get_or, sym, refl, ap, ◌∙◌, subst, inl, inr, append_assoc, append-nil, arith}
use Rattle.std.specs.List.{AllByRecursion}
use Rattle.std.proofs.ByRecursion.{All-weaker}
use Rattle.std.proofs.lemmas.Bool.{cases_lt, cond_both, leb-true, leb-false, le-ltb}
use Rattle.std.proofs.lemmas.Bool.Decides.{nat_tests}
use Rattle.ranking.specs.Ranked.{Sorted}
use Rattle.routing.specs.Shares.{Tie, put, ties, of_order, of_quote, of_all, order_left, quote_left, room}
use Rattle.routing.specs.Laws.{Fills, TiesFill, NoOtherFills, TiesRanked}
use Rattle.routing.proofs.Walk.{walk, walk_ties, put_append, put_none}
use Rattle.routing.proofs.Tied.{of_order_append, of_quote_append, order_put, quote_put, put_all}
use Rattle.routing.proofs.Filled.{none_empty}

pub of_all_append : (xs ys : List Tie) → of_all (xs ++ ys) ≡ of_all xs + of_all ys
of_all_append [] ys = omega arith
of_all_append (x ∷ xs) ys = omega (arith, of_all_append xs ys)

pub all_put : (i j c : ℕ) (ts : List Tie) → of_all (put i j c ts) ≡ c + of_all ts
all_put i j zero ts = omega arith
all_put i j (suc c) ts = refl

-- nothing is left, so the walk is at its end
walk_none : (f n i : ℕ) (rs : List ℕ) (j : ℕ) (ss : List ℕ) → n ≡ 0 → walk f n i rs j ss ≡ []
walk_none zero n i rs j ss e = refl
walk_none (suc f) n i [] j ss e = refl
walk_none (suc f) n i (r ∷ rs) j [] e = refl
walk_none (suc f) n i (r ∷ rs) j (s ∷ ss) e =
    put_none i j (min (min r s) n) _ (omega arith)
    ∙ cond_both (leb s r) _ _ (λ ts. ts ≡ [])
    (λ _. walk_none f (n - s) i ((r - s) ∷ rs) (j + 1) ss (omega arith))
    (λ _. walk_none f (n - r) (i + 1) rs j ((s - r) ∷ ss) (omega arith))

alike : (t u : Tie) → t.order ≡ u.order → t.quote ≡ u.quote → t.shares ≡ u.shares → t ≡ u
alike t u e f g =
    let tie : ℕ → ℕ → ℕ → Tie = λ i j c. record { order = i; quote = j; shares = c } in
    ap (λ i. tie i t.quote t.shares) e ∙ ap (λ j. tie u.order j t.shares) f ∙ ap (tie u.order u.quote) g

module _ (n : ℕ) (rs ss : List ℕ) where
  -- ties that go on behind some others, each of which fills, and after which there is no room
  abbrev Each : List Tie → List Tie → Type 0
  Each before [] = Unit {0}
  Each before (t ∷ ts) = Fills n rs ss before t × Each (before ++ (t ∷ [])) ts

  record Goes (before ts : List Tie) : Type 0 where
    each : Each before ts
    no_more : (x y : ℕ) → room n rs ss (before ++ ts) x y ≡ 0

  -- ties that leave l of n, of the orders from the i-th on as much as xs says and of the quotes from the j-th on as much as
  -- ys says, and of those ahead nothing
  record Leaves (before : List Tie) (l i : ℕ) (xs : List ℕ) (j : ℕ) (ys : List ℕ) : Type 0 where
    owed : n - of_all before ≡ l
    orders : (k d : ℕ) → k ≡ i + d → order_left rs before k ≡ get_or xs d 0
    quotes : (k d : ℕ) → k ≡ j + d → quote_left ss before k ≡ get_or ys d 0
    orders_ahead : (k : ℕ) → k < i → order_left rs before k ≡ 0
    quotes_ahead : (k : ℕ) → k < j → quote_left ss before k ≡ 0

  -- a tie more of c shares
  module _ (before : List Tie) (i j c : ℕ) where
    abbrev more : List Tie
    more = before ++ put i j c []

    more_order : (k : ℕ) → of_order k more ≡ of_order k before + cond (eqb i k) c 0
    more_order k = omega (arith, of_order_append k before (put i j c []), order_put k i j c [])

    more_quote : (k : ℕ) → of_quote k more ≡ of_quote k before + cond (eqb j k) c 0
    more_quote k = omega (arith, of_quote_append k before (put i j c []), quote_put k i j c [])

    more_all : of_all more ≡ of_all before + c
    more_all = omega (arith, of_all_append before (put i j c []), all_put i j c [])

    more_goes : (ts : List Tie) → (before ++ put i j c []) ++ ts ≡ before ++ put i j c ts
    more_goes ts = append_assoc before (put i j c []) ts ∙ ap (λ us. before ++ us) (put_append i j c [] ts)

  each_put : (before : List Tie) (i j c : ℕ) (ts : List Tie) → Fills n rs ss before (record { order = i; quote = j; shares = c })
      → Each (before ++ put i j c []) ts → Each before (put i j c ts)
  each_put before i j zero ts f e = subst (λ us. Each us ts) (append-nil before) e
  each_put before i j (suc c) ts f e = (f, e)

  goes_put : (before : List Tie) (i j c : ℕ) (ts : List Tie) → Fills n rs ss before (record { order = i; quote = j; shares = c })
      → Goes (before ++ put i j c []) ts → Goes before (put i j c ts)
  goes_put before i j c ts f g = record {
    each = each_put before i j c ts f g.each;
    no_more = λ x y. subst (λ us. room n rs ss us x y ≡ 0) (more_goes before i j c ts) (g.no_more x y);
  }

  goes_as : (before : List Tie) (i j c m : ℕ) (ts us : List Tie) → us ≡ ts → c ≡ m → Goes (before ++ put i j m []) ts → Goes (before ++ put i j c []) us
  goes_as before i j c m ts us e e' g = rw (e, e') g

  no_orders : (before : List Tie) (l i j : ℕ) (ys : List ℕ) → Leaves before l i [] j ys → Goes before []
  no_orders before l i j ys v = record {
    each = tt;
    no_more = λ x y. rw append-nil (elim (cases_lt x i) [
      | inl lt ↦ omega (arith, v.orders_ahead x lt)
      | inr ge ↦ omega (arith, v.orders x (x - i) (omega arith))
    ]);
  }

  no_quotes : (before : List Tie) (l i : ℕ) (xs : List ℕ) (j : ℕ) → Leaves before l i xs j [] → Goes before []
  no_quotes before l i xs j v = record {
    each = tt;
    no_more = λ x y. rw append-nil (elim (cases_lt y j) [
      | inl lt ↦ omega (arith, v.quotes_ahead y lt)
      | inr ge ↦ omega (arith, v.quotes y (y - j) (omega arith))
    ]);
  }

  module _ (before : List Tie) (l i r : ℕ) (xs : List ℕ) (j s : ℕ) (ys : List ℕ) (v : Leaves before l i (r ∷ xs) j (s ∷ ys)) where
    fills : (c : ℕ) → c ≡ min (min r s) l → Fills n rs ss before (record { order = i; quote = j; shares = c })
    fills c e = record {
      shares = omega (arith, v.owed, v.orders i 0 (omega arith), v.quotes j 0 (omega arith));
      orders = v.orders_ahead;
      quotes = v.quotes_ahead;
    }

    -- nothing of n is left
    all_owed : (c : ℕ) → c ≡ l → Goes (before ++ put i j c []) []
    all_owed c e = record {
      each = tt;
      no_more = λ x y. rw append-nil (omega (arith, v.owed, more_all before i j c));
    }

    orders_left : (k d : ℕ) → k ≡ i + d → order_left rs (before ++ put i j s []) k ≡ get_or ((r - s) ∷ xs) d 0
    orders_left k zero e = grind (arith, nat_tests, v.orders k 0 e, more_order before i j s k)
    orders_left k (suc d) e = grind (arith, nat_tests, v.orders k (suc d) e, more_order before i j s k)

    quotes_left : (k d : ℕ) → k ≡ j + d → quote_left ss (before ++ put i j r []) k ≡ get_or ((s - r) ∷ ys) d 0
    quotes_left k zero e = grind (arith, nat_tests, v.quotes k 0 e, more_quote before i j r k)
    quotes_left k (suc d) e = grind (arith, nat_tests, v.quotes k (suc d) e, more_quote before i j r k)

    order_done : (k : ℕ) → k < i + 1 → order_left rs (before ++ put i j r []) k ≡ 0
    order_done k h = elim (cases_lt k i) [
      | inl lt ↦ omega (arith, v.orders_ahead k lt, more_order before i j r k)
      | inr ge ↦ grind (arith, nat_tests, v.orders k 0 (omega arith), more_order before i j r k)
    ]

    quote_done : (k : ℕ) → k < j + 1 → quote_left ss (before ++ put i j s []) k ≡ 0
    quote_done k h = elim (cases_lt k j) [
      | inl lt ↦ omega (arith, v.quotes_ahead k lt, more_quote before i j s k)
      | inr ge ↦ grind (arith, nat_tests, v.quotes k 0 (omega arith), more_quote before i j s k)
    ]

    quote_ends : Leaves (before ++ put i j s []) (l - s) i ((r - s) ∷ xs) (j + 1) ys
    quote_ends = record {
      owed = omega (arith, v.owed, more_all before i j s);
      orders = orders_left;
      quotes = λ k d e. grind (arith, nat_tests, v.quotes k (suc d) (omega arith), more_quote before i j s k);
      orders_ahead = λ k lt. omega (arith, v.orders_ahead k lt, more_order before i j s k);
      quotes_ahead = quote_done;
    }

    order_ends : Leaves (before ++ put i j r []) (l - r) (i + 1) xs j ((s - r) ∷ ys)
    order_ends = record {
      owed = omega (arith, v.owed, more_all before i j r);
      orders = λ k d e. grind (arith, nat_tests, v.orders k (suc d) (omega arith), more_order before i j r k);
      quotes = quotes_left;
      orders_ahead = order_done;
      quotes_ahead = λ k lt. omega (arith, v.quotes_ahead k lt, more_quote before i j r k);
    }

  goes : (f : ℕ) (before : List Tie) (l i : ℕ) (xs : List ℕ) (j : ℕ) (ys : List ℕ) → length xs + length ys ≤ f
      → Leaves before l i xs j ys → Goes before (walk f l i xs j ys)
  goes zero before l i [] j ys h v = no_orders before l i j ys v
  goes zero before l i (r ∷ xs) j ys h v = absurd (omega arith)
  goes (suc f) before l i [] j ys h v = no_orders before l i j ys v
  goes (suc f) before l i (r ∷ xs) j [] h v = no_quotes before l i (r ∷ xs) j v
  goes (suc f) before l i (r ∷ xs) j (s ∷ ys) h v =
      goes_put before i j (min (min r s) l) _ (fills before l i r xs j s ys v (min (min r s) l) refl)
      (cond_both (leb s r) _ _ (Goes (before ++ put i j (min (min r s) l) []))
      (λ t. elim (cases_lt l s) [
        | inl lt ↦ goes_as before i j _ l [] _ (walk_none f (l - s) i ((r - s) ∷ xs) (j + 1) ys (omega arith)) (let le = leb-true s r t in omega arith) (all_owed before l i r xs j s ys v l refl)
        | inr ge ↦
            goes_as before i j _ s _ _ refl (let le = leb-true s r t in omega arith)
            (goes f (before ++ put i j s []) (l - s) i ((r - s) ∷ xs) (j + 1) ys (omega arith) (quote_ends before l i r xs j s ys v))
      ])
      (λ t. elim (cases_lt l r) [
        | inl lt ↦ goes_as before i j _ l [] _ (walk_none f (l - r) (i + 1) xs j ((s - r) ∷ ys) (omega arith)) (let gt = leb-false s r t in omega arith) (all_owed before l i r xs j s ys v l refl)
        | inr ge ↦
            goes_as before i j _ r _ _ refl (let gt = leb-false s r t in omega arith)
            (goes f (before ++ put i j r []) (l - r) (i + 1) xs j ((s - r) ∷ ys) (omega arith) (order_ends before l i r xs j s ys v))
      ]))

  nothing_tied : Leaves [] n 0 rs 0 ss
  nothing_tied = record {
    owed = omega arith;
    orders = λ k d e. let same : k ≡ d = omega arith in rw same (omega arith);
    quotes = λ k d e. let same : k ≡ d = omega arith in rw same (omega arith);
    orders_ahead = λ k lt. absurd (omega arith);
    quotes_ahead = λ k lt. absurd (omega arith);
  }

  ties_go : Goes [] (ties n rs ss)
  ties_go = subst (Goes []) (walk_ties n rs ss) (goes (length rs + length ss) [] n 0 rs 0 ss (omega arith) nothing_tied)

  -- said of a place in the list
  each_at : (first before after : List Tie) (t : Tie) → Each first (before ++ (t ∷ after)) → Fills n rs ss (first ++ before) t
  each_at first [] after t e = rw (append-nil first) e.0
  each_at first (u ∷ before) after t e = subst (λ us. Fills n rs ss us t) (append_assoc first (u ∷ []) before) (each_at (first ++ (u ∷ [])) before after t e.1)

  each_from : (first ts : List Tie) → ((before after : List Tie) (t : Tie) → first ++ ts ≡ before ++ (t ∷ after) → Fills n rs ss before t) → Each first ts
  each_from first [] all = tt
  each_from first (t ∷ ts) all = (
    all first ts t refl,
    each_from (first ++ (t ∷ [])) ts (λ before after u e. all before after u (sym (append_assoc first (t ∷ []) ts) ∙ e)),
  )

  -- of two ties that fill after the same ones, neither is of an order or a quote ahead of that of the other
  module _ (before : List Tie) (t u : Tie) (f : Fills n rs ss before t) (g : Fills n rs ss before u) (some : 0 < t.shares) where
    no_order_ahead : u.order ≤ t.order
    no_order_ahead = elim (cases_lt t.order u.order) [
      | inl lt ↦ absurd (omega (arith, f.shares, g.orders t.order lt))
      | inr ge ↦ ge
    ]

    no_quote_ahead : u.quote ≤ t.quote
    no_quote_ahead = elim (cases_lt t.quote u.quote) [
      | inl lt ↦ absurd (omega (arith, f.shares, g.quotes t.quote lt))
      | inr ge ↦ ge
    ]

  same_tie : (before : List Tie) (t u : Tie) → Fills n rs ss before t → Fills n rs ss before u → 0 < t.shares → 0 < u.shares → t ≡ u
  same_tie before t u f g p q =
      let order : t.order ≡ u.order = omega (arith, no_order_ahead before t u f g p, no_order_ahead before u t g f q) in
      let quote : t.quote ≡ u.quote = omega (arith, no_quote_ahead before t u f g p, no_quote_ahead before u t g f q) in
      let shares : t.shares ≡ u.shares = f.shares ∙ ap (λ i. room n rs ss before i t.quote) order ∙ ap (room n rs ss before u.order) quote ∙ sym g.shares in
      alike t u order quote shares

  -- a tie that fills has room
  had_room : (before : List Tie) (t : Tie) → Fills n rs ss before t → 0 < t.shares → ((x y : ℕ) → room n rs ss (before ++ []) x y ≡ 0) → ⊥
  had_room before t f p none =
      let here = rw (append-nil before) at (none t.order t.quote) in
      omega (arith, f.shares, here)

  one_list : (before ts us : List Tie) → Each before ts → Each before us → AllByRecursion (λ t. 0 < t.shares) ts → AllByRecursion (λ t. 0 < t.shares) us
      → ((x y : ℕ) → room n rs ss (before ++ ts) x y ≡ 0) → ((x y : ℕ) → room n rs ss (before ++ us) x y ≡ 0) → ts ≡ us
  one_list before [] [] e e' a a' f f' = refl
  one_list before (t ∷ ts) [] e e' a a' f f' = absurd (had_room before t e.0 a.0 f')
  one_list before [] (u ∷ us) e e' a a' f f' = absurd (had_room before u e'.0 a'.0 f)
  one_list before (t ∷ ts) (u ∷ us) e e' a a' f f' =
      let same = same_tie before t u e.0 e'.0 a.0 a'.0 in
      let later = one_list (before ++ (t ∷ [])) ts us e.1 (subst (λ v. Each (before ++ (v ∷ [])) us) (sym same) e'.1) a.1 a'.1
      (λ x y. subst (λ vs. room n rs ss vs x y ≡ 0) (sym (append_assoc before (t ∷ []) ts)) (f x y))
      (λ x y. subst (λ vs. room n rs ss vs x y ≡ 0) (ap (λ v. before ++ (v ∷ us)) (sym same) ∙ sym (append_assoc before (t ∷ []) us)) (f' x y)) in
      cc

pub ties_fill : TiesFill
ties_fill n rs ss = record {
  each = λ before after t e. each_at n rs ss [] before after t (subst (Each n rs ss []) e (ties_go n rs ss).each);
  some = none_empty n rs ss;
  no_more = (ties_go n rs ss).no_more;
}

pub no_other_fills : NoOtherFills
no_other_fills n rs ss ts g =
    one_list n rs ss [] ts (ties n rs ss) (each_from n rs ss [] ts g.each) (ties_go n rs ss).each g.some (none_empty n rs ss) g.no_more (ties_go n rs ss).no_more

-- the ties of a walk are of orders from the i-th on and of quotes from the j-th on
abbrev From : ℕ → ℕ → Tie → Type 0
From i j t = (i ≤ t.order) × (j ≤ t.quote)

later_from : (i j : ℕ) (b : Bool) (ts us : List Tie) → AllByRecursion (From i (j + 1)) ts → AllByRecursion (From (i + 1) j) us → AllByRecursion (From i j) (cond b ts us)
later_from i j true ts us h k = All-weaker (From i (j + 1)) (From i j) (λ t f. (f.0, omega (arith, f.1))) ts h
later_from i j false ts us h k = All-weaker (From (i + 1) j) (From i j) (λ t f. (omega (arith, f.0), f.1)) us k

walk_from : (f n i : ℕ) (rs : List ℕ) (j : ℕ) (ss : List ℕ) → AllByRecursion (From i j) (walk f n i rs j ss)
walk_from zero n i rs j ss = tt
walk_from (suc f) n i [] j ss = tt
walk_from (suc f) n i (r ∷ rs) j [] = tt
walk_from (suc f) n i (r ∷ rs) j (s ∷ ss) =
    put_all (From i j) i j (min (min r s) n) _ (λ c. (omega arith, omega arith))
    (later_from i j (leb s r) _ _ (walk_from f (n - s) i ((r - s) ∷ rs) (j + 1) ss) (walk_from f (n - r) (i + 1) rs j ((s - r) ∷ ss)))

module _ (place : Tie → ℕ) where
  sorted_put : (i j c : ℕ) (ts : List Tie) → ((c' : ℕ) → AllByRecursion (λ u. ltb (place u) (place (record { order = i; quote = j; shares = c' })) ≡ false) ts)
      → Sorted (λ t u. ltb (place t) (place u)) ts → Sorted (λ t u. ltb (place t) (place u)) (put i j c ts)
  sorted_put i j zero ts h a = a
  sorted_put i j (suc c) ts h a = (h (suc c), a)

  module _ (least : (i j c : ℕ) (t : Tie) → From i j t → place (record { order = i; quote = j; shares = c }) ≤ place t) where
    walk_sorted : (f n i : ℕ) (rs : List ℕ) (j : ℕ) (ss : List ℕ) → Sorted (λ t u. ltb (place t) (place u)) (walk f n i rs j ss)
    walk_sorted zero n i rs j ss = tt
    walk_sorted (suc f) n i [] j ss = tt
    walk_sorted (suc f) n i (r ∷ rs) j [] = tt
    walk_sorted (suc f) n i (r ∷ rs) j (s ∷ ss) =
        sorted_put i j (min (min r s) n) _
        (λ c. All-weaker (From i j) _ (λ t h. le-ltb _ _ (least i j c t h)) _
        (later_from i j (leb s r) _ _ (walk_from f (n - s) i ((r - s) ∷ rs) (j + 1) ss) (walk_from f (n - r) (i + 1) rs j ((s - r) ∷ ss))))
        (cond_both (leb s r) _ _ (Sorted (λ t u. ltb (place t) (place u)))
        (λ _. walk_sorted f (n - s) i ((r - s) ∷ rs) (j + 1) ss)
        (λ _. walk_sorted f (n - r) (i + 1) rs j ((s - r) ∷ ss)))

    ties_sorted : (n : ℕ) (rs ss : List ℕ) → Sorted (λ t u. ltb (place t) (place u)) (ties n rs ss)
    ties_sorted n rs ss = subst (Sorted (λ t u. ltb (place t) (place u))) (walk_ties n rs ss) (walk_sorted (length rs + length ss) n 0 rs 0 ss)

pub ties_ranked : TiesRanked
ties_ranked n rs ss = (ties_sorted (λ t. t.order) (λ i j c t h. h.0) n rs ss, ties_sorted (λ t. t.quote) (λ i j c t h. h.1) n rs ss)
