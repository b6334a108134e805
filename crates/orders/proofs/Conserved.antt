-- Why no change loses a share, and what handing out leaves in all.
use Rattle.std.proofs.Common.{rules, ◌≡◌, ℕ, suc, ◌+◌, ◌-◌, min, true, List, [], ◌∷◌, ◌++◌, length, Some, sum_by, refl, ap, ◌∙◌, arith}
use Rattle.std.proofs.lemmas.List.Sums.{sum_by-cons}
use Rattle.std.proofs.lemmas.Bool.Decides.{nat_tests}
use Rattle.orders.specs.declared.order.Class.{Class}
use Rattle.orders.specs.declared.order.Class.TheVariants.{Displayed, Reserve, Hidden}
use Rattle.orders.specs.declared.order.Order.{Order}
use Rattle.orders.specs.declared.row.OrderRow.{OrderRow}
use Rattle.orders.specs.Orders.{class_number, class_numbered}
use Rattle.orders.specs.Rows.{is_whole, entered_row}
use Rattle.orders.specs.Tables.{available, if_whole, handed}
use Rattle.orders.specs.Laws.{KeptWhole, OnlyMoved, Gains}

pub class_numbered_lem : (x : Class) → class_numbered (class_number x) ≡ Some x
class_numbered_lem Displayed = refl
class_numbered_lem Reserve = refl
class_numbered_lem Hidden = refl

pub entered_whole : (o : Order) → is_whole (entered_row o) ≡ true
entered_whole o = grind (arith, nat_tests)

pub stays_whole : (w : OrderRow) → is_whole w ≡ true → KeptWhole w
stays_whole w h = record {
  cancelled = grind (arith, nat_tests);
  here = λ n. grind (arith, nat_tests);
  out = λ n. grind (arith, nat_tests);
  settled = λ shares filled late. grind (arith, nat_tests);
}

pub stays_moved : (w : OrderRow) → OnlyMoved w
stays_moved w = record {
  cancelled = search rules;
  here = λ n. search rules;
  out = λ n. search rules;
  settled = λ shares filled late. search rules;
  on = λ v u h k. search rules;
}

pub length_handed : (g : ℕ → OrderRow → OrderRow) (k : ℕ) (ws : List OrderRow) → length (handed g k ws) ≡ length ws
length_handed g k [] = refl
length_handed g k (w ∷ ws) = ap suc (length_handed g (k - available w) ws)

pub in_order : (g : ℕ → OrderRow → OrderRow) (k : ℕ) (xs ys : List OrderRow)
    → handed g k (xs ++ ys) ≡ handed g k xs ++ handed g (k - sum_by available xs) ys
in_order g k [] ys = let e : k ≡ k - 0 = omega arith in ap (λ n. handed g n ys) e
in_order g k (x ∷ xs) ys =
    let e : k - available x - sum_by available xs ≡ k - sum_by available (x ∷ xs) = omega (arith, sum_by-cons available x xs) in
    ap (λ l. if_whole (g k) x ∷ l) (in_order g (k - available x) xs ys ∙ ap (λ n. handed g (k - available x) xs ++ handed g n ys) e)

-- a change that takes up to n shares from the rest, and adds them to one count
module _ (g : ℕ → OrderRow → OrderRow) (count : OrderRow → ℕ)
    (falls : (n : ℕ) (w : OrderRow) → (g n w).rest ≡ w.rest - n)
    (rises : (n : ℕ) (w : OrderRow) → count (g n w) ≡ count w + min n w.rest) where
  -- one row
  row_falls : (k : ℕ) (w : OrderRow) → (if_whole (g k) w).rest + min k (available w) ≡ w.rest
  row_falls k w = grind (arith, nat_tests, falls k w)

  row_rises : (k : ℕ) (w : OrderRow) → count (if_whole (g k) w) ≡ count w + min k (available w)
  row_rises k w = grind (arith, nat_tests, rises k w)

  pub rests_fall : (k : ℕ) (ws : List OrderRow) → sum_by (λ w. w.rest) (handed g k ws) + min k (sum_by available ws) ≡ sum_by (λ w. w.rest) ws
  rests_fall k [] = omega arith
  rests_fall k (w ∷ ws) =
      let R : OrderRow → ℕ = λ w. w.rest in
      omega (
        arith,
        row_falls k w,
        rests_fall (k - available w) ws,
        sum_by-cons available w ws,
        sum_by-cons R w ws,
        sum_by-cons R (if_whole (g k) w) (handed g (k - available w) ws),
      )

  pub counts_rise : (k : ℕ) (ws : List OrderRow) → sum_by count (handed g k ws) ≡ sum_by count ws + min k (sum_by available ws)
  counts_rise k [] = omega arith
  counts_rise k (w ∷ ws) =
      omega (
        arith,
        row_rises k w,
        counts_rise (k - available w) ws,
        sum_by-cons available w ws,
        sum_by-cons count w ws,
        sum_by-cons count (if_whole (g k) w) (handed g (k - available w) ws),
      )

  pub gains : (k : ℕ) (ws : List OrderRow) → Gains g count k ws
  gains k ws = record { rests = rests_fall k ws; counts = counts_rise k ws }
