-- In a ranked list with no two level entries, what stands before an entry is what is ahead of it.
use Rattle.std.proofs.Common.{◌≡◌, ℕ, zero, suc, ◌-◌, ◌<◌, ◌≤◌, min, Bool, true, false, cond, List, [], ◌∷◌, map, length, get_or, sym, refl, ap, arith}
use Rattle.std.specs.List.{AllByRecursion}
use Rattle.std.proofs.lemmas.List.Sums.{sum_by-cons}
use Rattle.std.proofs.ByRecursion.{All-get_or}
use Rattle.std.proofs.lemmas.Bool.{cond-true, cond-false}
use Rattle.ranking.specs.Ranked.{Sorted, Distinct, level}
use Rattle.routing.specs.Shares.{shares_before}
use Rattle.routing.specs.Allotment.{ahead_of}
use Rattle.std.proofs.lemmas.List.{length-map, get_or-map}
use Rattle.orders.specs.declared.row.OrderRow.{OrderRow}
use Rattle.orders.specs.Rows.{empty_row}
use Rattle.orders.specs.Tables.{available, if_whole, handed}
use Rattle.routing.specs.Laws.{WalkAllots, RowsHanded, NoneKeptAhead}
use Rattle.routing.proofs.Sums.{shares_before-cons, start_after}

module _ {E : Type 0} (ahead : E → E → Bool) (size : E → ℕ) (apart : (a b : E) → ahead a b ≡ true → ahead b a ≡ false) where
  -- of two entries that are not level, one that is not behind is ahead
  first_ahead : (x y : E) → level ahead x y ≡ false → ahead y x ≡ false → ahead x y ≡ true
  first_ahead x y h b = grind arith

  not_itself : (x : E) → ahead x x ≡ false
  not_itself x = grind (arith, apart x x)

  -- no entry behind o counts
  none_ahead : (o : E) (xs : List E) → AllByRecursion (λ y. ahead y o ≡ false) xs → ahead_of ahead size o xs ≡ 0
  none_ahead o [] h = refl
  none_ahead o (x ∷ xs) h = grind (arith, sum_by-cons (λ y. cond (ahead y o) (size y) 0) x xs, h.0, none_ahead o xs h.1)

  rest_distinct : (x : E) (xs : List E) → Distinct ahead (x ∷ xs) → Distinct ahead xs
  rest_distinct x xs h i j d l k ne = h (suc i) (suc j) d (omega arith) (omega arith) (λ e. ne (omega arith))

  pub start_ahead : (xs : List E) → Sorted ahead xs → Distinct ahead xs → (i : ℕ) (d : E) → i < length xs → ahead_of ahead size (get_or xs i d) xs ≡ shares_before (map size xs) i
  start_ahead [] s ne i d h = absurd (omega arith)
  start_ahead (x ∷ xs) s ne zero d h =
      omega (arith, sum_by-cons (λ y. cond (ahead y x) (size y) 0) x xs, cond-false (ahead x x) (size x) 0 (not_itself x), none_ahead x xs s.0)
  start_ahead (x ∷ xs) s ne (suc i) d h =
      let o : E = get_or xs i d in
      let behind = All-get_or (λ y. ahead y x ≡ false) xs i d (omega arith) s.0 in
      let yes' = first_ahead x o (ne 0 (suc i) d (omega arith) (omega arith) (λ e. omega arith)) behind in
      omega (arith, sum_by-cons (λ y. cond (ahead y o) (size y) 0) x xs, cond-true (ahead x o) (size x) 0 yes', shares_before-cons (size x) (map size xs) i, start_ahead xs s.1 (rest_distinct x xs ne) i d (omega arith))

pub walk_allots : {E : Type 0} (ahead : E → E → Bool) → ((a b : E) → ahead a b ≡ true → ahead b a ≡ false) → WalkAllots ahead
walk_allots ahead apart size xs s ne k i d h = ap (λ a. min (size (get_or xs i d)) (k - a)) (sym (start_ahead ahead size apart xs s ne i d h))

-- the rows after k shares were handed out, place by place
handed_at : (g : ℕ → OrderRow → OrderRow) (k : ℕ) (ws : List OrderRow) (i : ℕ) → i < length ws
    → get_or (handed g k ws) i empty_row ≡ if_whole (g (k - shares_before (map available ws) i)) (get_or ws i empty_row)
handed_at g k [] i h = absurd (omega arith)
handed_at g k (w ∷ ws) zero h = let e : k - 0 ≡ k = omega arith in rw e
handed_at g k (w ∷ ws) (suc i) h =
    let e : (k - available w) - shares_before (map available ws) i ≡ k - shares_before (map available (w ∷ ws)) (suc i) =
    omega (arith, shares_before-cons (available w) (map available ws) i) in
    rw e at (handed_at g (k - available w) ws i (omega arith))

pub rows_handed : (ahead : OrderRow → OrderRow → Bool) → ((a b : OrderRow) → ahead a b ≡ true → ahead b a ≡ false) → RowsHanded ahead
rows_handed ahead apart g ws s ne k i h =
    let e = start_ahead ahead available apart ws s ne i empty_row h in
    rw e (handed_at g k ws i h)

-- a row that gives all it can keeps nothing that can be moved
kept_none : (g : ℕ → OrderRow → OrderRow) → ((n : ℕ) (w : OrderRow) → (g n w).rest ≡ w.rest - n) → (n : ℕ) (w : OrderRow) → available w ≤ n → available (if_whole (g n) w) ≡ 0
kept_none g takes n w h = grind (arith, takes n w)

pub none_kept_ahead : NoneKeptAhead
none_kept_ahead g takes ws k i j h l p =
    let w : OrderRow = get_or ws i empty_row in
    let n : ℕ = k - shares_before (map available ws) i in
    let at = handed_at g k ws i (omega arith) in
    let next = start_after (map available ws) i j h (rw length-map l) in
    let mine = get_or-map available ws i empty_row 0 (omega arith) in
    rw at (kept_none g takes n w (omega arith))
