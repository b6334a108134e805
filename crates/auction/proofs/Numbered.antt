-- Orders of which no two have one number.
use Rattle.std.proofs.Common.{◌≡◌, ℕ, suc, ◌+◌, ◌<◌, ◌≤◌, Bool, true, false, cond, not, eqb, ltb, List, [], ◌∷◌, ◌++◌, map, length, get_or, set, is_some, Some, None, sym, refl, ap, arith}
use Rattle.std.specs.List.{AllByRecursion, list_all}
use Rattle.std.proofs.ByRecursion.{All-push, All-weaker, All-map, All-from_get_or}
use Rattle.std.proofs.lemmas.Bool.{eqb-true, eqb-false, ne_eqb, ltb-false, not-false}
use Rattle.ranking.specs.Ranked.{placed, ranked_onto, ranked}
use Rattle.ranking.proofs.Insertion.{all_placed}
use Rattle.orders.specs.declared.row.OrderRow.{OrderRow}
use Rattle.orders.specs.Rows.{empty_row}
use Rattle.orders.specs.Tables.{before, place_of}
use Rattle.std.proofs.lemmas.List.Sums.{prefix_len_stops}
use Rattle.auction.specs.Tallies.{on_number}
use Rattle.auction.proofs.Good.{Numbers, Free}

pub other_way : (a b : ℕ) → eqb a b ≡ false → eqb b a ≡ false
other_way a b h = ne_eqb b a (λ e. eqb-false a b h (sym e))

-- one more order at the end
pub numbers_push : (ws : List OrderRow) (w : OrderRow) → Numbers ws → Free w.number ws → Numbers (ws ++ (w ∷ []))
numbers_push [] w n f = (tt, tt)
numbers_push (v ∷ vs) w n f =
    (All-push (λ x. eqb x.number v.number ≡ false) vs w n.0 (other_way v.number w.number f.0), numbers_push vs w n.1 f.1)

-- and the same in rank order
module _ (ahead : OrderRow → OrderRow → Bool) where
  numbers_placed : (w : OrderRow) (ws : List OrderRow) → Free w.number ws → Numbers ws → Numbers (placed ahead w ws)
  numbers_placed w [] f n = (tt, tt)
  numbers_placed w (v ∷ vs) f n = elim (list_all (ahead w) (v ∷ vs)) as (λ b. Numbers (cond b (w ∷ (v ∷ vs)) (v ∷ placed ahead w vs))) [
    | true ↦ (f, n)
    | false ↦ (all_placed ahead w (λ x. eqb x.number v.number ≡ false) vs (other_way v.number w.number f.0) n.0, numbers_placed w vs f.1 n.1)
  ]

  numbers_onto : (vs ws : List OrderRow) → Numbers vs → Numbers ws → AllByRecursion (λ w. Free w.number vs) ws → Numbers (ranked_onto ahead vs ws)
  numbers_onto vs [] m n f = m
  numbers_onto vs (w ∷ ws) m n f = numbers_onto (placed ahead w vs) ws (numbers_placed w vs f.0 m) n.1 (free_onto w vs ws n.0 f.1)
    where
      free_onto : (w : OrderRow) (vs ws : List OrderRow) → AllByRecursion (λ v. eqb v.number w.number ≡ false) ws → AllByRecursion (λ v. Free v.number vs) ws → AllByRecursion (λ v. Free v.number (placed ahead w vs)) ws
      free_onto w vs [] a b = tt
      free_onto w vs (x ∷ xs) a b = (all_placed ahead w (λ v. eqb v.number x.number ≡ false) vs (other_way x.number w.number a.0) b.0, free_onto w vs xs a.1 b.1)

  pub numbers_ranked : (ws : List OrderRow) → Numbers ws → Numbers (ranked ahead ws)
  numbers_ranked ws n = numbers_onto [] ws tt n (All-from_get_or (λ w. Free w.number []) ws empty_row (λ i h. tt))

-- a change that keeps the numbers
module _ (g : OrderRow → OrderRow) (same : (w : OrderRow) → (g w).number ≡ w.number) where
  pub free_mapped : (n : ℕ) (ws : List OrderRow) → Free n ws → Free n (map g ws)
  free_mapped n ws f = All-map (λ w. eqb w.number n ≡ false) g ws (All-weaker (λ w. eqb w.number n ≡ false) (λ w. eqb (g w).number n ≡ false) (λ w k. rw (same w) k) ws f)

  pub numbers_mapped : (ws : List OrderRow) → Numbers ws → Numbers (map g ws)
  numbers_mapped [] n = tt
  numbers_mapped (w ∷ ws) n = (rw (same w) (free_mapped w.number ws n.0), numbers_mapped ws n.1)

-- a change of the order with a number, where there is none, and where there is one
module _ (n : ℕ) (f : OrderRow → OrderRow) where
  pub free_unchanged : (ws : List OrderRow) → Free n ws → on_number n f ws ≡ ws
  free_unchanged [] a = refl
  free_unchanged (w ∷ ws) a = let no = a.0 in rw no (ap (λ vs. w ∷ vs) (free_unchanged ws a.1))

  pub changed_at_lem : (ws : List OrderRow) → Numbers ws → set ws (before n ws) (f (get_or ws (before n ws) empty_row)) ≡ on_number n f ws
  changed_at_lem [] m = refl
  changed_at_lem (w ∷ ws) m = by_test (changed_at_lem ws m.1) (eqb w.number n) refl
    where
      by_test : set ws (before n ws) (f (get_or ws (before n ws) empty_row)) ≡ on_number n f ws → (t : Bool) → eqb w.number n ≡ t
          → set (w ∷ ws) (cond (not t) (1 + before n ws) 0) (f (get_or (w ∷ ws) (cond (not t) (1 + before n ws) 0) empty_row)) ≡ cond t (f w) w ∷ on_number n f ws
      by_test rest true e =
          let is = eqb-true w.number n e in
          ap (λ vs. f w ∷ vs) (sym (free_unchanged ws (rw is at m.0)))
      by_test rest false e =
          let s : 1 + before n ws ≡ suc (before n ws) = omega arith in
          rw s (ap (λ vs. w ∷ vs) rest)

-- where a number stands, and that it stands nowhere
module _ (n : ℕ) where
  pub stands : (ws : List OrderRow) → before n ws < length ws → (get_or ws (before n ws) empty_row).number ≡ n
  stands ws h = eqb-true _ n (not-false _ (prefix_len_stops (λ w. not (eqb w.number n)) ws empty_row h))

  free_cons : (w : OrderRow) (ws : List OrderRow) (t : Bool) → eqb w.number n ≡ t → (length ws ≤ before n ws → Free n ws) → length (w ∷ ws) ≤ cond (not t) (1 + before n ws) 0 → Free n (w ∷ ws)
  free_cons w ws true e rest h = absurd (omega arith)
  free_cons w ws false e rest h = (e, rest (omega arith))

  free_past : (ws : List OrderRow) → length ws ≤ before n ws → Free n ws
  free_past [] h = tt
  free_past (w ∷ ws) h = free_cons w ws (eqb w.number n) refl (free_past ws) h

  pub nowhere : (ws : List OrderRow) → ltb (before n ws) (length ws) ≡ false → Free n ws
  nowhere ws h = free_past ws (ltb-false (before n ws) (length ws) h)

  -- whether a place is found
  pub placed_by : (ws : List OrderRow) (t : Bool) → is_some (place_of n ws) ≡ t → ltb (before n ws) (length ws) ≡ t
  placed_by ws t h = elim (ltb (before n ws) (length ws)) as (λ b. is_some (cond b (Some (before n ws)) None) ≡ t → b ≡ t) [ true ↦ (λ k. k) | false ↦ (λ k. k) ] h
