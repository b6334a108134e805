-- What is out of an order is on its tickets that are not yet reported.
use Rattle.std.proofs.Common.{◌≡◌, ℕ, zero, suc, ◌+◌, ◌-◌, ◌<◌, ◌≤◌, min, Bool, true, false, cond, not, ◌&&◌, eqb, List, [], ◌∷◌, ◌++◌, map, length, get_or, set, sum_by, sym, refl, ap, ◌∙◌, subst, inl, inr, arith, sum}
use Rattle.std.specs.List.{AllByRecursion}
use Rattle.std.proofs.ByRecursion.{All-get_or, All-from_get_or, All-map, All-push, All-weaker}
use Rattle.std.proofs.lemmas.List.{length-map, get_or-map}
use Rattle.std.proofs.lemmas.List.Sums.{sum_by-cons, sum_by-append, sum_by-set}
use Rattle.std.proofs.lemmas.Bool.{and_left, and_right, eqb-true, eqb-false, eq-eqb, ne_eqb, cases_Bool, cond-true, cond-false, cond_both}
use Rattle.ranking.specs.Ranked.{ranked}
use Rattle.ranking.proofs.Ranks.{sum_ranked, all_ranked, all_as_came}
use Rattle.market.specs.declared.quote.Quote.{Quote}
use Rattle.market.specs.declared.side.Side.{Side}
use Rattle.market.specs.declared.side.Side.TheVariants.{Buy, Sell}
use Rattle.market.specs.Markets.{Market}
use Rattle.market.specs.Rankings.{higher, lower, quote_ahead}
use Rattle.pricing.specs.Counting.{counting_market}
use Rattle.pricing.proofs.Levels.{sum_by_map, sum_by_same, sum_by_none}
use Rattle.orders.specs.declared.order.Order.{Order}
use Rattle.orders.specs.declared.row.OrderRow.{OrderRow}
use Rattle.orders.specs.Rows.{empty_row, entered_row, with_cancelled, with_here, with_out, with_settled}
use Rattle.routing.specs.declared.ticket.Ticket.{Ticket}
use Rattle.routing.specs.Shares.{Tie, shares_before, share, ties, of_order}
use Rattle.routing.specs.Owed.{executable_orders, owed}
use Rattle.routing.specs.Tickets.{empty_ticket, rests, sizes, ticket_of, tickets}
use Rattle.routing.proofs.Allots.{walk_allots}
use Rattle.routing.proofs.Owing.{owed_quoted}
use Rattle.routing.proofs.Sums.{sum-cons}
use Rattle.routing.proofs.Tied.{ties_orders, order_tied}
use Rattle.engine.specs.declared.stage.Stage.TheVariants.{Open}
use Rattle.engine.specs.Stages.{is_matched}
use Rattle.engine.specs.Effects.{ahead_on, ranked_bids, ranked_offers, reported}
use Rattle.auction.specs.Tallies.{Tally, tally_in_stage, entered, on_number, changed, orders_cancelled, share_of, handed_out, book_by, routed, unrouted, settled, executed}
use Rattle.auction.specs.Laws.{out_on, settled_row, TicketSettled, OutOnTickets}
use Rattle.auction.proofs.Routed.{tickets_of, tickets_both}
use Rattle.auction.proofs.Good.{Numbers, Free, Out}
use Rattle.auction.proofs.Numbered.{other_way, numbers_ranked}
use Rattle.auction.proofs.Ranking.{apart_on, sorted_on, distinct_on}

-- a change of every order that keeps its number and what is out
out_mapped : (g : OrderRow → OrderRow) → ((w : OrderRow) → (g w).number ≡ w.number) → ((w : OrderRow) → (g w).out ≡ w.out)
    → (ts : List Ticket) (ws : List OrderRow) → AllByRecursion (OutOnTickets ts) ws → AllByRecursion (OutOnTickets ts) (map g ws)
out_mapped g number out ts ws a =
    All-map (OutOnTickets ts) g ws
    (All-weaker (OutOnTickets ts) (λ w. OutOnTickets ts (g w)) (λ w h. out w ∙ h ∙ ap (λ n. out_on n ts) (sym (number w))) ws a)

module _ (y : Tally) (out : Out y) where
  pub enter_out : (order : Order) → y.tickets ≡ [] → Out (entered order y)
  enter_out order none =
      let entered-out : OutOnTickets y.tickets (entered_row order) = ap (out_on order.number) (sym none) in
      cond_both (eqb order.side 1) _ _ Out
      (λ _. record { buys = All-push (OutOnTickets y.tickets) y.buys (entered_row order) out.buys entered-out; sells = out.sells })
      (λ _. record { buys = out.buys; sells = All-push (OutOnTickets y.tickets) y.sells (entered_row order) out.sells entered-out })

  pub cancel_out : (number : ℕ) → Out (changed number with_cancelled y)
  cancel_out n = record { buys = one y.buys out.buys; sells = one y.sells out.sells }
    where
      one : (ws : List OrderRow) → AllByRecursion (OutOnTickets y.tickets) ws → AllByRecursion (OutOnTickets y.tickets) (on_number n with_cancelled ws)
      one ws a = out_mapped (λ w. cond (eqb w.number n) (with_cancelled w) w)
          (λ w. elim (eqb w.number n) as (λ b. (cond b (with_cancelled w) w).number ≡ w.number) [ true ↦ refl | false ↦ refl ])
          (λ w. elim (eqb w.number n) as (λ b. (cond b (with_cancelled w) w).out ≡ w.out) [ true ↦ refl | false ↦ refl ]) y.tickets ws a

  pub unpriced_out : (m : Market) → Out (unrouted m y)
  unpriced_out m = record { buys = out.buys; sells = out.sells }

  pub abort_out : Out (tally_in_stage Open (orders_cancelled y))
  abort_out = record {
    buys = out_mapped with_cancelled (λ w. refl) (λ w. refl) y.tickets y.buys out.buys;
    sells = out_mapped with_cancelled (λ w. refl) (λ w. refl) y.tickets y.sells out.sells;
  }

  pub match_out : (n : ℕ) → Out (executed n y)
  match_out n = record {
    buys = out_mapped (λ w. with_here (share_of Buy n y.buys w) w) (λ w. refl) (λ w. refl) y.tickets y.buys out.buys;
    sells = out_mapped (λ w. with_here (share_of Sell n y.sells w) w) (λ w. refl) (λ w. refl) y.tickets y.sells out.sells;
  }

-- the report of a ticket
and_true : (t : Bool) → (t && true) ≡ t
and_true true = refl
and_true false = refl

-- what is known where a report was granted
pub record ReportGranted (y : Tally) (ticket filled : ℕ) : Type 0 where
  pub within : ticket - 1 < length y.tickets
  pub unreported : (get_or y.tickets (ticket - 1) empty_ticket).reported ≡ false
  pub fills : filled ≤ (get_or y.tickets (ticket - 1) empty_ticket).shares

module _ (ts : List Ticket) (i : ℕ) (within : i < length ts) (t : Ticket) (is : t ≡ get_or ts i empty_ticket) (unreported : t.reported ≡ false) where
  -- its shares are no more on tickets of its order
  less_out : (n : ℕ) → out_on n (set ts i (reported t)) + cond (eqb t.order n) t.shares 0 ≡ out_on n ts
  less_out n =
      let on : Ticket → ℕ = λ u. cond (eqb u.order n && not u.reported) u.shares 0 in
      let mine : on t ≡ cond (eqb t.order n) t.shares 0 =
      ap (λ b. cond (eqb t.order n && not b) t.shares 0) unreported ∙ ap (λ b. cond b t.shares 0) (and_true (eqb t.order n)) in
      omega (
        arith,
        sum_by-set on ts i (reported t) empty_ticket within,
        ap on is,
        mine,
        cond-false (eqb t.order n && false) t.shares 0 (and_right (eqb t.order n) false refl),
      )

  module _ (w : OrderRow) (out : OutOnTickets ts w) where
    -- as many were out of its order
    was_out : eqb w.number t.order ≡ true → out_on w.number (set ts i (reported t)) + t.shares ≡ w.out
    was_out e =
        let same = eq-eqb t.order w.number (sym (eqb-true w.number t.order e)) in
        omega (arith, out, less_out w.number, cond-true (eqb t.order w.number) t.shares 0 same)

    settled_out : (filled : ℕ) (late : Bool) → OutOnTickets (set ts i (reported t)) (cond (eqb w.number t.order) (with_settled t.shares filled late w) w)
    settled_out filled late = cond_both (eqb w.number t.order) (with_settled t.shares filled late w) w (OutOnTickets (set ts i (reported t)))
        (λ e. omega (arith, was_out e))
        (λ e. omega (arith, out, less_out w.number, cond-false (eqb t.order w.number) t.shares 0 (other_way w.number t.order e)))

    settled_plainly : (filled : ℕ) (late : Bool) → filled ≤ t.shares
        → cond (eqb w.number t.order) (with_settled t.shares filled late w) w ≡ cond (eqb w.number t.order) (settled_row t.shares filled late w) w
    settled_plainly filled late fills = by_test (eqb w.number t.order) refl
      where
        by_test : (b : Bool) → eqb w.number t.order ≡ b → cond b (with_settled t.shares filled late w) w ≡ cond b (settled_row t.shares filled late w) w
        by_test true e =
            let was = was_out e in
            let all : min t.shares w.out ≡ t.shares = omega arith in
            let some : min filled t.shares ≡ filled = omega arith in
            rw (all, some)
        by_test false e = refl

  settled_all : (filled : ℕ) (late : Bool) (ws : List OrderRow) → AllByRecursion (OutOnTickets ts) ws
      → AllByRecursion (OutOnTickets (set ts i (reported t))) (on_number t.order (with_settled t.shares filled late) ws)
  settled_all filled late ws a = All-map (OutOnTickets (set ts i (reported t))) (λ w. cond (eqb w.number t.order) (with_settled t.shares filled late w) w) ws
      (All-weaker (OutOnTickets ts) _ (λ w h. settled_out w h filled late) ws a)

  plainly_all : (filled : ℕ) (late : Bool) → filled ≤ t.shares → (ws : List OrderRow) → AllByRecursion (OutOnTickets ts) ws
      → on_number t.order (with_settled t.shares filled late) ws ≡ on_number t.order (settled_row t.shares filled late) ws
  plainly_all filled late fills [] a = refl
  plainly_all filled late fills (w ∷ ws) a =
      ap (λ v. v ∷ on_number t.order (with_settled t.shares filled late) ws) (settled_plainly w a.0 filled late fills)
      ∙ ap (λ vs. cond (eqb w.number t.order) (settled_row t.shares filled late w) w ∷ vs) (plainly_all filled late fills ws a.1)

module _ (y : Tally) (out : Out y) (ticket filled : ℕ) (g : ReportGranted y ticket filled) where
  abbrev t : Ticket
  t = get_or y.tickets (ticket - 1) empty_ticket

  pub report_out : Out (settled ticket filled t y)
  report_out = record {
    buys = settled_all y.tickets (ticket - 1) g.within t refl g.unreported filled (is_matched y.stage) y.buys out.buys;
    sells = settled_all y.tickets (ticket - 1) g.within t refl g.unreported filled (is_matched y.stage) y.sells out.sells;
  }

  pub report_settles : TicketSettled t filled y (settled ticket filled t y)
  report_settles = record {
    buys = plainly_all y.tickets (ticket - 1) g.within t refl g.unreported filled (is_matched y.stage) g.fills y.buys out.buys;
    sells = plainly_all y.tickets (ticket - 1) g.within t refl g.unreported filled (is_matched y.stage) g.fills y.sells out.sells;
  }

-- a close that fixes a price
of_order_sum : (i : ℕ) (ts : List Tie) → of_order i ts ≡ sum_by (λ t. cond (eqb t.order i) t.shares 0) ts
of_order_sum i [] = refl
of_order_sum i (t ∷ ts) = omega (arith, sum_by-cons (λ u. cond (eqb u.order i) u.shares 0) t ts, of_order_sum i ts)

-- where no number stands twice, numbers tell places apart
same_place : (ws : List OrderRow) → Numbers ws → (i j : ℕ) → i < length ws → j < length ws → (get_or ws i empty_row).number ≡ (get_or ws j empty_row).number → i ≡ j
same_place [] n i j li lj e = absurd (omega arith)
same_place (w ∷ ws) n zero zero li lj e = refl
same_place (w ∷ ws) n zero (suc j) li lj e =
    absurd (eqb-false _ _ (All-get_or (λ v. eqb v.number w.number ≡ false) ws j empty_row (omega arith) n.0) (sym e))
same_place (w ∷ ws) n (suc i) zero li lj e =
    absurd (eqb-false _ _ (All-get_or (λ v. eqb v.number w.number ≡ false) ws i empty_row (omega arith) n.0) e)
same_place (w ∷ ws) n (suc i) (suc j) li lj e = ap suc (same_place ws n.1 i j (omega arith) (omega arith) e)

module _ (k : ℕ) (rows : List OrderRow) (quotes : List Quote) where
  ties_named : AllByRecursion (λ t. t.order < length rows) (ties k (rests rows) (sizes quotes))
  ties_named = subst (λ n. AllByRecursion (λ t. t.order < n) (ties k (rests rows) (sizes quotes))) (length-map rows (λ w. w.rest)) (ties_orders k (rests rows) (sizes quotes))

  -- no ticket names a number that no order has
  none_named : (n : ℕ) → Free n rows → out_on n (tickets k rows quotes) ≡ 0
  none_named n free =
      sum_by_map (λ u. cond (eqb u.order n && not u.reported) u.shares 0) (ticket_of rows quotes) (ties k (rests rows) (sizes quotes))
      ∙ sum_by_none (λ t. t.order < length rows) _
      (λ t l. cond-false (eqb (get_or rows t.order empty_row).number n && true) t.shares 0 (and_left _ true (All-get_or (λ w. eqb w.number n ≡ false) rows t.order empty_row l free)))
      (ties k (rests rows) (sizes quotes)) ties_named

  -- the tickets that name an order are those of its ties
  module _ (numbered : Numbers rows) (i : ℕ) (here : i < length rows) where
    same_test : (j : ℕ) → j < length rows → (eqb (get_or rows j empty_row).number (get_or rows i empty_row).number && true) ≡ eqb j i
    same_test j l =
        and_true (eqb (get_or rows j empty_row).number (get_or rows i empty_row).number)
        ∙ elim (cases_Bool (eqb j i)) [
          | inl e ↦ eq-eqb _ _ (ap (λ p. (get_or rows p empty_row).number) (eqb-true j i e)) ∙ sym e
          | inr e ↦ ne_eqb _ _ (λ p. eqb-false j i e (same_place rows numbered j i l here p)) ∙ sym e
        ]

    named_tied : out_on (get_or rows i empty_row).number (tickets k rows quotes) ≡ of_order i (ties k (rests rows) (sizes quotes))
    named_tied =
        sum_by_map (λ u. cond (eqb u.order (get_or rows i empty_row).number && not u.reported) u.shares 0) (ticket_of rows quotes) (ties k (rests rows) (sizes quotes))
        ∙ sum_by_same (λ t. t.order < length rows) _ (λ t. cond (eqb t.order i) t.shares 0) (λ t l. ap (λ b. cond b t.shares 0) (same_test t.order l))
        (ties k (rests rows) (sizes quotes)) ties_named
        ∙ sym (of_order_sum i (ties k (rests rows) (sizes quotes)))

-- the tickets of a side's order have what it gets of the shares that are routed
module _ (side : Side) (k : ℕ) (ws : List OrderRow) (quotes : List Quote) (numbered : Numbers ws) (enough : k ≤ sum (sizes quotes)) where
  abbrev rows : List OrderRow
  rows = ranked (ahead_on side) ws

  ranked_shares : (i : ℕ) → i < length rows → out_on (get_or rows i empty_row).number (tickets k rows quotes) ≡ share_of side k ws (get_or rows i empty_row)
  ranked_shares i l =
      let w : OrderRow = get_or rows i empty_row in
      let within : i < length (rests rows) = omega (arith, length-map rows (λ v. v.rest)) in
      named_tied k rows quotes (numbers_ranked (ahead_on side) ws numbered) i l
      ∙ order_tied k (rests rows) (sizes quotes) i within enough
      ∙ ap (λ r. share k r (shares_before (rests rows) i)) (get_or-map (λ v. v.rest) rows i empty_row 0 l)
      ∙ walk_allots (ahead_on side) (apart_on side) (λ v. v.rest) rows (sorted_on side ws) (distinct_on side ws numbered) k i empty_row l
      ∙ ap (λ n. min w.rest (k - n)) (sum_ranked (ahead_on side) (λ v. cond (ahead_on side v w) v.rest 0) ws)

  order_shares : AllByRecursion (λ w. out_on w.number (tickets k rows quotes) ≡ share_of side k ws w) ws
  order_shares = all_as_came (ahead_on side) (λ w. out_on w.number (tickets k rows quotes) ≡ share_of side k ws w) ws
      (All-from_get_or (λ w. out_on w.number (tickets k rows quotes) ≡ share_of side k ws w) rows empty_row ranked_shares)

-- with tickets of the other side, which name none of its orders
handed_out_lem : (side : Side) (k : ℕ) (ws : List OrderRow) (own ts : List Ticket) → AllByRecursion (OutOnTickets []) ws
    → AllByRecursion (λ w. out_on w.number own ≡ share_of side k ws w) ws → AllByRecursion (λ w. out_on w.number ts ≡ out_on w.number own) ws
    → AllByRecursion (OutOnTickets ts) (handed_out with_out side k ws)
handed_out_lem side k ws own ts none shares same = All-map (OutOnTickets ts) (λ w. with_out (share_of side k ws w) w) ws
    (All-from_get_or (λ w. OutOnTickets ts (with_out (share_of side k ws w) w)) ws empty_row (λ i l.
    let w : OrderRow = get_or ws i empty_row in
    omega (
      arith,
      All-get_or (OutOnTickets []) ws i empty_row l none,
      All-get_or (λ v. out_on v.number own ≡ share_of side k ws v) ws i empty_row l shares,
      All-get_or (λ v. out_on v.number ts ≡ out_on v.number own) ws i empty_row l same,
    )))

apart_too : (bs ss : List OrderRow) → AllByRecursion (λ b. Free b.number ss) bs → AllByRecursion (λ s. Free s.number bs) ss
apart_too bs ss apart = All-from_get_or (λ s. Free s.number bs) ss empty_row (λ i l. All-from_get_or _ bs empty_row (λ j k.
    other_way _ _ (All-get_or (λ s. eqb s.number (get_or bs j empty_row).number ≡ false) ss i empty_row l (All-get_or (λ b. Free b.number ss) bs j empty_row k apart))))

total_sizes : (xs : List Quote) → sum (sizes xs) ≡ sum_by (λ x. x.shares) xs
total_sizes [] = refl
total_sizes (x ∷ xs) = omega (arith, sum-cons x.shares (sizes xs), sum_by-cons (λ v. v.shares) x xs, total_sizes xs)

-- the quotes have what is owed to them
module _ (y : Tally) (m : Market) (p : ℕ) where
  pub offers_have : owed Buy (book_by y m) p ≤ sum (sizes (ranked_offers (counting_market m)))
  offers_have = omega (arith, total_sizes (ranked_offers (counting_market m)), sum_ranked (quote_ahead lower) (λ x. x.shares) (counting_market m).offers, owed_quoted Buy p (executable_orders Buy (book_by y m) p) (executable_orders Sell (book_by y m) p) (counting_market m).offers)

  pub bids_have : owed Sell (book_by y m) p ≤ sum (sizes (ranked_bids (counting_market m)))
  bids_have = omega (arith, total_sizes (ranked_bids (counting_market m)), sum_ranked (quote_ahead higher) (λ x. x.shares) (counting_market m).bids, owed_quoted Sell p (executable_orders Sell (book_by y m) p) (executable_orders Buy (book_by y m) p) (counting_market m).bids)

module _ (y : Tally) (out : Out y) (none : y.tickets ≡ []) (buys-numbered : Numbers y.buys) (sells-numbered : Numbers y.sells)
    (apart : AllByRecursion (λ b. Free b.number y.sells) y.buys) (m : Market) (p : ℕ) where
  abbrev ts : List Ticket
  ts = tickets_of Buy y m p ++ tickets_of Sell y m p

  on_both : (n : ℕ) → out_on n ts ≡ out_on n (tickets_of Buy y m p) + out_on n (tickets_of Sell y m p)
  on_both n = sum_by-append (λ t. cond (eqb t.order n && not t.reported) t.shares 0) (tickets_of Buy y m p) (tickets_of Sell y m p)

  buys_out : AllByRecursion (OutOnTickets ts) (handed_out with_out Buy (owed Buy (book_by y m) p) y.buys)
  buys_out = handed_out_lem Buy (owed Buy (book_by y m) p) y.buys (tickets_of Buy y m p) ts (subst (λ us. AllByRecursion (OutOnTickets us) y.buys) none out.buys)
      (order_shares Buy (owed Buy (book_by y m) p) y.buys (ranked_offers (counting_market m)) buys-numbered (offers_have y m p))
      (All-weaker (λ b. Free b.number y.sells) _ (λ b free. omega (
        arith,
        on_both b.number,
        none_named (owed Sell (book_by y m) p) (ranked (ahead_on Sell) y.sells) (ranked_bids (counting_market m)) b.number (all_ranked (ahead_on Sell) (λ s. eqb s.number b.number ≡ false) y.sells free),
      )) y.buys apart)

  sells_out : AllByRecursion (OutOnTickets ts) (handed_out with_out Sell (owed Sell (book_by y m) p) y.sells)
  sells_out = handed_out_lem Sell (owed Sell (book_by y m) p) y.sells (tickets_of Sell y m p) ts (subst (λ us. AllByRecursion (OutOnTickets us) y.sells) none out.sells)
      (order_shares Sell (owed Sell (book_by y m) p) y.sells (ranked_bids (counting_market m)) sells-numbered (bids_have y m p))
      (All-weaker (λ s. Free s.number y.buys) _ (λ s free. omega (
        arith,
        on_both s.number,
        none_named (owed Buy (book_by y m) p) (ranked (ahead_on Buy) y.buys) (ranked_offers (counting_market m)) s.number (all_ranked (ahead_on Buy) (λ b. eqb b.number s.number ≡ false) y.buys free),
      )) y.sells (apart_too y.buys y.sells apart))

  pub routed_out : (0 < owed Buy (book_by y m) p → owed Sell (book_by y m) p ≡ 0) → (deadline : ℕ) → Out (routed p deadline m y)
  routed_out one deadline =
      let both = tickets_both y m p one in
      record {
        buys = subst (λ us. AllByRecursion (OutOnTickets us) (handed_out with_out Buy (owed Buy (book_by y m) p) y.buys)) both buys_out;
        sells = subst (λ us. AllByRecursion (OutOnTickets us) (handed_out with_out Sell (owed Sell (book_by y m) p) y.sells)) both sells_out;
      }
