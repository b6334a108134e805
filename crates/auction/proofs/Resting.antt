-- What rests on a side: in its rows and in the tally's orders alike, and after shares were handed
-- out.
use Rattle.std.proofs.Common.{◌≡◌, ℕ, zero, suc, ◌+◌, ◌-◌, ◌≤◌, min, Bool, true, cond, leb, List, [], ◌∷◌, map, length, replicate, sum_by, sym, refl, ap, ◌∙◌, arith}
use Rattle.std.specs.List.{AllByRecursion}
use Rattle.std.proofs.lemmas.List.Sums.{sum_by-cons, sum_by-append, sum_by-le-sum_by}
use Rattle.std.proofs.lemmas.Bool.Decides.{nat_tests}
use Rattle.ranking.specs.Ranked.{ranked}
use Rattle.ranking.proofs.Ranks.{sum_ranked, all_ranked}
use Rattle.market.specs.declared.side.Side.{Side}
use Rattle.market.specs.declared.side.Side.TheVariants.{Buy, Sell}
use Rattle.pricing.proofs.Levels.{sum_by_same}
use Rattle.pricing.specs.Books.{executable_at}
use Rattle.orders.specs.declared.row.OrderRow.{OrderRow}
use Rattle.orders.specs.Rows.{empty_row, level_of, is_whole, with_here}
use Rattle.orders.specs.Tables.{available, rest_levels}
use Rattle.orders.proofs.Conserved.{rests_fall}
use Rattle.orders.proofs.Rests.{above_cons, above_none, below_cons, below_none}
use Rattle.engine.specs.Effects.{ahead_on}
use Rattle.engine.specs.Limits.{order_rows}
use Rattle.auction.specs.Tallies.{share_of}
use Rattle.auction.proofs.Good.{Numbers, SideGood}
use Rattle.auction.proofs.Handing.{Takes, here_takes, handed_mapped}

-- whether an order trades at a price, and its rest if it does
abbrev pub trades : Side → ℕ → OrderRow → Bool
trades Buy p w = leb p (level_of w).price
trades Sell p w = leb (level_of w).price p

abbrev pub rest_part : Side → ℕ → OrderRow → ℕ
rest_part side p w = cond (trades side p w) w.rest 0

pub executable_sum : (side : Side) (p : ℕ) (ws : List OrderRow) → executable_at side p (rest_levels ws) ≡ sum_by (rest_part side p) ws
executable_sum Buy p [] = above_none p
executable_sum Buy p (w ∷ ws) = omega (arith, above_cons p w ws, sum_by-cons (rest_part Buy p) w ws, executable_sum Buy p ws)
executable_sum Sell p [] = below_none p
executable_sum Sell p (w ∷ ws) = omega (arith, below_cons p w ws, sum_by-cons (rest_part Sell p) w ws, executable_sum Sell p ws)

part_within : (side : Side) (p : ℕ) (w : OrderRow) → rest_part side p w ≤ w.rest
part_within Buy p w = grind (arith, nat_tests)
part_within Sell p w = grind (arith, nat_tests)

pub executable_within : (side : Side) (p : ℕ) (ws : List OrderRow) → executable_at side p (rest_levels ws) ≤ sum_by (λ w. w.rest) ws
executable_within side p ws = omega (arith, executable_sum side p ws, sum_by-le-sum_by (rest_part side p) (λ w. w.rest) ws (part_within side p))

-- empty rows add nothing to a sum
sum_empty : (f : OrderRow → ℕ) → f empty_row ≡ 0 → (n : ℕ) → sum_by f (replicate n empty_row) ≡ 0
sum_empty f none zero = refl
sum_empty f none (suc n) = omega (arith, sum_by-cons f empty_row (replicate n empty_row), none, sum_empty f none n)

part_empty : (side : Side) (p : ℕ) → rest_part side p empty_row ≡ 0
part_empty Buy p = grind (arith, nat_tests)
part_empty Sell p = grind (arith, nat_tests)

module _ (side : Side) (used : ℕ) (rows ws : List OrderRow) (good : SideGood side used rows ws) where
  pub rows_sum : (f : OrderRow → ℕ) → f empty_row ≡ 0 → sum_by f rows ≡ sum_by f ws
  rows_sum f none =
      let rs : List OrderRow = ranked (ahead_on side) ws in
      let es : List OrderRow = replicate (order_rows - length rs) empty_row in
      ap (sum_by f) good.rows_is
      ∙ omega (arith, sum_by-append f rs es, sum_empty f none (order_rows - length rs), sum_ranked (ahead_on side) f ws)

  pub executable_rows : (s : Side) (p : ℕ) → executable_at s p (rest_levels rows) ≡ executable_at s p (rest_levels ws)
  executable_rows s p = executable_sum s p rows ∙ rows_sum (rest_part s p) (part_empty s p) ∙ sym (executable_sum s p ws)

-- orders that each give up to their rest
sum_left : (g : ℕ → OrderRow → OrderRow) → Takes g → (h : OrderRow → ℕ) → ((w : OrderRow) → h w ≤ w.rest) → (ws : List OrderRow)
    → sum_by (λ w. w.rest) (map (λ w. g (h w) w) ws) + sum_by h ws ≡ sum_by (λ w. w.rest) ws
sum_left g takes h most [] = refl
sum_left g takes h most (w ∷ ws) =
    let R : OrderRow → ℕ = λ v. v.rest in
    let f : OrderRow → OrderRow = λ v. g (h v) v in
    omega (arith, sum_by-cons R (f w) (map f ws), sum_by-cons h w ws, sum_by-cons R w ws, takes.rest (h w) w, most w, sum_left g takes h most ws)

pub sum_available : (ws : List OrderRow) → AllByRecursion (λ w. is_whole w ≡ true) ws → sum_by available ws ≡ sum_by (λ w. w.rest) ws
sum_available ws all = sum_by_same (λ w. is_whole w ≡ true) available (λ w. w.rest) (λ w h. ap (λ t. cond t w.rest 0) h) ws all

-- of k shares as many are handed out as rest, at most k
pub shares_sum : (side : Side) (k : ℕ) (ws : List OrderRow) → AllByRecursion (λ w. is_whole w ≡ true) ws → Numbers ws
    → sum_by (share_of side k ws) ws ≡ min k (sum_by (λ w. w.rest) ws)
shares_sum side k ws whole numbered =
    let R : OrderRow → ℕ = λ w. w.rest in
    let rs : List OrderRow = ranked (ahead_on side) ws in
    omega (
      arith,
      ap (sum_by R) (handed_mapped with_here here_takes side k ws whole numbered),
      rests_fall with_here (λ w. w.here) (λ n w. refl) (λ n w. refl) k rs,
      sum_available rs (all_ranked (ahead_on side) (λ w. is_whole w ≡ true) ws whole),
      sum_ranked (ahead_on side) R ws,
      sum_left with_here here_takes (share_of side k ws) (λ w. omega arith) rs,
      sum_ranked (ahead_on side) (share_of side k ws) ws,
    )
