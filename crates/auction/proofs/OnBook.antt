-- A number that stands on the rows in use of a side, or is free there.
use Rattle.std.proofs.Common.{◌≡◌, ℕ, Bool, true, false, eqb, ltb, List, length, take, is_some, subst}
use Rattle.std.specs.List.{AllByRecursion}
use Rattle.std.proofs.ByRecursion.{All-get_or}
use Rattle.std.proofs.lemmas.Bool.{ltb-true}
use Rattle.ranking.specs.Ranked.{ranked}
use Rattle.ranking.proofs.Ranks.{all_ranked, all_as_came}
use Rattle.market.specs.declared.side.Side.{Side}
use Rattle.orders.specs.declared.row.OrderRow.{OrderRow}
use Rattle.orders.specs.Rows.{empty_row}
use Rattle.orders.specs.Tables.{before, place_of}
use Rattle.engine.specs.Effects.{ahead_on}
use Rattle.auction.proofs.Good.{Free, SideGood}
use Rattle.auction.proofs.Used.{in_use}
use Rattle.auction.proofs.Numbered.{stands, nowhere, placed_by}

module _ (n : ℕ) (side : Side) (used : ℕ) (rows ws : List OrderRow) (good : SideGood side used rows ws) where
  by_place : (t : Bool) → is_some (place_of n (take used rows)) ≡ t → ltb (before n (ranked (ahead_on side) ws)) (length (ranked (ahead_on side) ws)) ≡ t
  by_place t h = let is = in_use side used rows ws good in placed_by n (ranked (ahead_on side) ws) t (rw is at h)

  pub off_book : is_some (place_of n (take used rows)) ≡ false → Free n ws
  off_book h = all_as_came (ahead_on side) (λ w. eqb w.number n ≡ false) ws (nowhere n (ranked (ahead_on side) ws) (by_place false h))

  -- what holds of the number of each order holds of one that stands there
  pub on_book_lem : (P : ℕ → Type 0) → is_some (place_of n (take used rows)) ≡ true → AllByRecursion (λ w. P w.number) ws → P n
  on_book_lem P h a =
      let rs : List OrderRow = ranked (ahead_on side) ws in
      let lt = ltb-true (before n rs) (length rs) (by_place true h) in
      subst P (stands n rs lt) (All-get_or (λ w. P w.number) rs (before n rs) empty_row lt (all_ranked (ahead_on side) (λ w. P w.number) ws a))
