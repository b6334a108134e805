-- The rows in use of a table, and the empty rows past them.
use Rattle.std.proofs.Common.{◌≡◌, ℕ, ◌+◌, ◌-◌, List, ◌++◌, length, take, drop, replicate, sym, ap, ◌∙◌, arith, []}
use Rattle.std.proofs.lemmas.List.{take_at, drop_at, drop-drop, drop-replicate}
use Rattle.ranking.specs.Ranked.{ranked}
use Rattle.ranking.proofs.Listed.{length_ranked}
use Rattle.market.specs.Markets.{no_quote}
use Rattle.market.specs.declared.side.Side.{Side}
use Rattle.orders.specs.declared.row.OrderRow.{OrderRow}
use Rattle.orders.specs.Rows.{empty_row}
use Rattle.routing.specs.Tickets.{empty_ticket}
use Rattle.engine.specs.declared.state.Engine.{Engine}
use Rattle.engine.specs.Limits.{order_rows, quote_rows, ticket_rows}
use Rattle.engine.specs.States.{TableRows, tickets_in}
use Rattle.engine.specs.Effects.{ahead_on, written}
use Rattle.auction.specs.Tallies.{Tally}
use Rattle.auction.specs.Laws.{then_empty}
use Rattle.auction.proofs.Good.{SideGood, Beside, TableGood, other_tables, Good}

module _ {X : Type 0} (n : ℕ) (empty : X) (xs : List X) (k : ℕ) (is : length xs ≡ k) where
  rows_used : take k (then_empty n empty xs) ≡ xs
  rows_used = take_at xs _ k is

  -- all rows past the first unused one
  rows_past : drop (k + 1) (then_empty n empty xs) ≡ replicate (n - (k + 1)) empty
  rows_past =
      let m : n - length xs - 1 ≡ n - (k + 1) = omega arith in
      sym (drop-drop 1 k (then_empty n empty xs)) ∙ ap (drop 1) (drop_at xs _ k is) ∙ drop-replicate 1 (n - length xs) empty ∙ ap (λ i. replicate i empty) m

-- rows written at the front of an empty table
pub written_empty : {X : Type 0} (n : ℕ) (empty : X) (xs rows : List X) → rows ≡ replicate n empty
    → written xs rows ≡ then_empty n empty xs
written_empty n empty xs rows is = ap (written xs) is ∙ ap (λ ys. xs ++ ys) (drop-replicate (length xs) n empty)

-- an empty table, and what is written into one
pub table_empty : {X : Type 0} (n : ℕ) (empty : X) (t : Beside X) → TableGood n empty t → t.has ≡ [] → t.rows ≡ replicate n empty
table_empty n empty t good none =
    let all : n - 0 ≡ n = omega arith in
    good.rows_are ∙ ap (then_empty n empty) none ∙ ap (λ k. replicate k empty) all

pub table_written : {X : Type 0} (n : ℕ) (empty : X) (t : Beside X) → TableGood n empty t → t.has ≡ [] → (xs : List X) (used : ℕ)
    → used ≡ length xs → TableGood n empty (record { used = used; rows = written xs t.rows; has = xs })
table_written n empty t good none xs used is =
    record { used_is = is; rows_are = written_empty n empty xs t.rows (table_empty n empty t good none) }

-- the rows in use of a table beside those of the orders
pub table_in_use : {X : Type 0} (n : ℕ) (empty : X) (t : Beside X) → TableGood n empty t → take t.used t.rows ≡ t.has
table_in_use n empty t good = ap (take t.used) good.rows_are ∙ rows_used n empty t.has t.used (sym good.used_is)

module _ (side : Side) (used : ℕ) (rows ws : List OrderRow) (good : SideGood side used rows ws) where
  as_used : length (ranked (ahead_on side) ws) ≡ used
  as_used = length_ranked (ahead_on side) ws ∙ sym good.used_is

  -- the rows in use are the orders in rank order
  pub in_use : take used rows ≡ ranked (ahead_on side) ws
  in_use = ap (take used) good.rows_is ∙ rows_used order_rows empty_row (ranked (ahead_on side) ws) used as_used

  pub past_use : drop (used + 1) rows ≡ replicate (order_rows - (used + 1)) empty_row
  past_use = ap (drop (used + 1)) good.rows_is ∙ rows_past order_rows empty_row (ranked (ahead_on side) ws) used as_used

module _ (e : Engine) (h : TableRows) (y : Tally) (good : Good e h y) where
  pub bids_in_use : take e.used.bids h.bids ≡ y.bids
  bids_in_use = table_in_use quote_rows no_quote (other_tables e.used h y).bids good.others.bids

  pub offers_in_use : take e.used.offers h.offers ≡ y.offers
  offers_in_use = table_in_use quote_rows no_quote (other_tables e.used h y).offers good.others.offers

  pub tickets_in_use : tickets_in e h ≡ y.tickets
  tickets_in_use = table_in_use ticket_rows empty_ticket (other_tables e.used h y).tickets good.others.tickets
