-- A change of the order with a number: a cancel, and the report of a ticket.
use Rattle.std.proofs.Common.{◌≡◌, ℕ, ◌-◌, ◌<◌, ◌≤◌, Bool, true, false, cond, eqb, ltb, List, ◌++◌, length, get_or, take, set, replicate, is_some, Some, None, sym, refl, ap, ◌∙◌, subst, arith}
use Rattle.std.specs.List.{AllByRecursion}
use Rattle.std.proofs.ByRecursion.{All-get_or}
use Rattle.std.proofs.lemmas.List.{get_or_append_left, set-append_left, length-set}
use Rattle.std.proofs.lemmas.Bool.{ltb-true}
use Rattle.ranking.specs.Ranked.{ranked}
use Rattle.ranking.proofs.Ranks.{all_ranked}
use Rattle.market.specs.declared.side.Side.{Side}
use Rattle.market.specs.declared.side.Side.TheVariants.{Buy, Sell}
use Rattle.orders.specs.declared.row.OrderRow.{OrderRow}
use Rattle.orders.specs.Rows.{empty_row, is_whole, with_cancelled, with_settled}
use Rattle.orders.specs.Tables.{before, place_of, if_whole}
use Rattle.orders.proofs.Conserved.{stays_whole}
use Rattle.routing.specs.declared.ticket.Ticket.{Ticket}
use Rattle.routing.specs.Tickets.{empty_ticket}
use Rattle.engine.specs.declared.state.Engine.{Engine}
use Rattle.engine.specs.Stages.{is_matched}
use Rattle.engine.specs.States.{TableRows, buys_in, tickets_in}
use Rattle.engine.specs.Questions.{ticket_at}
use Rattle.engine.specs.Effects.{ahead_on, changed_in, with_order, with_reported, reported, cancel, report}
use Rattle.engine.specs.Limits.{order_rows, ticket_rows}
use Rattle.auction.specs.Tallies.{Tally, on_number, changed, settled}
use Rattle.auction.proofs.Good.{Numbers, Free, SideGood, Good}
use Rattle.auction.proofs.Used.{in_use, tickets_in_use}
use Rattle.auction.proofs.Numbered.{numbers_ranked, free_unchanged, changed_at_lem, nowhere}
use Rattle.auction.proofs.OnBook.{off_book, on_book_lem}
use Rattle.auction.proofs.Mapping.{Keeps, side_mapped, apart_mapped}

module _ (f : OrderRow → OrderRow) (keeps : Keeps f) (n : ℕ) where
  keeps_on : Keeps (λ w. cond (eqb w.number n) (f w) w)
  keeps_on = record {
    number = λ w. elim (eqb w.number n) as (λ b. (cond b (f w) w).number ≡ w.number) [ true ↦ keeps.number w | false ↦ refl ];
    class = λ w. elim (eqb w.number n) as (λ b. (cond b (f w) w).class ≡ w.class) [ true ↦ keeps.class w | false ↦ refl ];
    price = λ w. elim (eqb w.number n) as (λ b. (cond b (f w) w).price ≡ w.price) [ true ↦ keeps.price w | false ↦ refl ];
    shares = λ w. elim (eqb w.number n) as (λ b. (cond b (f w) w).shares ≡ w.shares) [ true ↦ keeps.shares w | false ↦ refl ];
    whole = λ w h. elim (eqb w.number n) as (λ b. is_whole (cond b (f w) w) ≡ true) [ true ↦ keeps.whole w h | false ↦ h ];
  }

  -- the row at the number's place, if it has one, among whole rows with no number twice
  rows_changed : (rs past : List OrderRow) → Numbers rs → AllByRecursion (λ w. is_whole w ≡ true) rs → (t : Bool) → ltb (before n rs) (length rs) ≡ t
      → changed_in f (cond t (Some (before n rs)) None) (rs ++ past) ≡ on_number n f rs ++ past
  rows_changed rs past numbers whole true h =
      let k : ℕ = before n rs in
      let lt : k < length rs = ltb-true k (length rs) h in
      let w : OrderRow = get_or rs k empty_row in
      let all = All-get_or (λ v. is_whole v ≡ true) rs k empty_row lt whole in
      ap (λ v. set (rs ++ past) k (if_whole f v)) (get_or_append_left rs past empty_row k lt)
      ∙ ap (λ b. set (rs ++ past) k (cond b (f w) w)) all
      ∙ set-append_left rs past k (f w) lt
      ∙ ap (λ vs. vs ++ past) (changed_at_lem n f rs numbers)
  rows_changed rs past numbers whole false h = ap (λ vs. vs ++ past) (sym (free_unchanged n f rs (nowhere n rs h)))

  -- one side, with the number or without
  module _ (side : Side) (used : ℕ) (rows ws : List OrderRow) (good : SideGood side used rows ws) where
    side_changed : SideGood side used (changed_in f (place_of n (take used rows)) rows) (on_number n f ws)
    side_changed =
        let rs : List OrderRow = ranked (ahead_on side) ws in
        let is = in_use side used rows ws good in
        side_mapped (λ w. cond (eqb w.number n) (f w) w) keeps_on side used rows _ ws good
        (ap (λ r. changed_in f (place_of n r) rows) is
        ∙ ap (changed_in f (place_of n rs)) good.rows_is
        ∙ rows_changed rs (replicate (order_rows - length rs) empty_row) (numbers_ranked (ahead_on side) ws good.numbered)
        (all_ranked (ahead_on side) (λ w. is_whole w ≡ true) ws good.whole) (ltb (before n rs) (length rs)) refl)

    side_free : Free n ws → SideGood side used rows (on_number n f ws)
    side_free free = subst (SideGood side used rows) (sym (free_unchanged n f ws free)) good

-- the whole book
module _ (f : OrderRow → OrderRow) (keeps : Keeps f) (n : ℕ) (e : Engine) (h : TableRows) (y : Tally) (good : Good e h y) where
  changed_by : (t : Bool) → is_some (place_of n (buys_in e h)) ≡ t → Good e (with_order f n e h) (changed n f y)
  changed_by true is = rw is (record {
    stage_is = good.stage_is;
    fixed_is = good.fixed_is;
    buys = side_changed f keeps n Buy e.used.buys h.buys y.buys good.buys;
    sells = side_free f keeps n Sell e.used.sells h.sells y.sells good.sells
        (on_book_lem n Buy e.used.buys h.buys y.buys good.buys (λ k. Free k y.sells) is good.sides_apart);
    sides_apart = apart_mapped _ _ (keeps_on f keeps n) (keeps_on f keeps n) y.buys y.sells good.sides_apart;
    others = good.others;
    even = good.even;
  })
  changed_by false is = rw is (record {
    stage_is = good.stage_is;
    fixed_is = good.fixed_is;
    buys = side_free f keeps n Buy e.used.buys h.buys y.buys good.buys (off_book n Buy e.used.buys h.buys y.buys good.buys is);
    sells = side_changed f keeps n Sell e.used.sells h.sells y.sells good.sells;
    sides_apart = apart_mapped _ _ (keeps_on f keeps n) (keeps_on f keeps n) y.buys y.sells good.sides_apart;
    others = good.others;
    even = good.even;
  })

  changed_good : Good e (with_order f n e h) (changed n f y)
  changed_good = changed_by (is_some (place_of n (buys_in e h))) refl

pub keeps_cancelled : Keeps with_cancelled
keeps_cancelled = record { number = λ w. refl; class = λ w. refl; price = λ w. refl; shares = λ w. refl; whole = λ w h. (stays_whole w h).cancelled }

pub cancel_good : (e : Engine) (h : TableRows) (y : Tally) (n : ℕ) → Good e h y → Good (cancel e h n).engine (cancel e h n).held (changed n with_cancelled y)
cancel_good e h y n good = changed_good with_cancelled keeps_cancelled n e h y good

keeps_settled : (shares filled : ℕ) (late : Bool) → Keeps (with_settled shares filled late)
keeps_settled shares filled late = record { number = λ w. refl; class = λ w. refl; price = λ w. refl; shares = λ w. refl; whole = λ w h. (stays_whole w h).settled shares filled late }

module _ (e : Engine) (h : TableRows) (y : Tally) (good : Good e h y) (ticket filled : ℕ) where
  -- with any ticket in the place of one that exists
  settled_good : (t : Ticket) → 1 ≤ ticket → ticket ≤ length y.tickets
      → Good e (with_reported ticket t (with_order (with_settled t.shares filled (is_matched y.stage)) t.order e h)) (settled ticket filled t y)
  settled_good t low high =
      let late : Bool = is_matched y.stage in
      let c = changed_good (with_settled t.shares filled late) (keeps_settled t.shares filled late) t.order e h y good in
      let as_long = length-set y.tickets (ticket - 1) (reported t) in
      record {
        stage_is = c.stage_is;
        fixed_is = c.fixed_is;
        buys = c.buys;
        sells = c.sells;
        sides_apart = c.sides_apart;
        others = record {
          bids = c.others.bids;
          offers = c.others.offers;
          tickets = record {
            used_is = c.others.tickets.used_is ∙ sym as_long;
            rows_are =
                ap (λ ts. set ts (ticket - 1) (reported t)) c.others.tickets.rows_are
                ∙ set-append_left y.tickets (replicate (ticket_rows - length y.tickets) empty_ticket) (ticket - 1) (reported t) (omega arith)
                ∙ ap (λ n. set y.tickets (ticket - 1) (reported t) ++ replicate (ticket_rows - n) empty_ticket) (sym as_long);
          };
          tickets_few = rw as_long c.others.tickets_few;
        };
        even = c.even;
      }

  pub report_good : 1 ≤ ticket → ticket ≤ length (tickets_in e h)
      → Good (report e h ticket filled (is_matched e.stage)).engine (report e h ticket filled (is_matched e.stage)).held (settled ticket filled (get_or y.tickets (ticket - 1) empty_ticket) y)
  report_good low high =
      let are = tickets_in_use e h y good in
      let t : Ticket = get_or y.tickets (ticket - 1) empty_ticket in
      let is : ticket_at e h ticket ≡ t = ap (λ ts. get_or ts (ticket - 1) empty_ticket) are in
      let by_stage = subst (λ s. Good e (with_reported ticket t (with_order (with_settled t.shares filled (is_matched s)) t.order e h)) (settled ticket filled t y))
      (sym good.stage_is) (settled_good t low (rw are at high)) in
      subst (λ u. Good e (with_reported ticket u (with_order (with_settled u.shares filled (is_matched e.stage)) u.order e h)) (settled ticket filled t y)) (sym is) by_stage
