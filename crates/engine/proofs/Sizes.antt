-- No call changes how many rows a table has.
use Rattle.std.proofs.Common.{◌≡◌, ℕ, ◌<◌, ◌≤◌, Bool, true, false, cond, ◌&&◌, eqb, ltb, List, length, is_some, Some, None, Ok, Err, Option, sym, refl, ◌∙◌, subst, arith}
use Rattle.std.specs.List.{AllByRecursion}
use Rattle.std.proofs.lemmas.List.{length-append, length-take, length-drop, length-set, length-replicate, length-map}
use Rattle.std.proofs.lemmas.Bool.{and_parts, eqb-true, ltb-true, cond_both}
use Rattle.ranking.proofs.Insertion.{length_placed}
use Rattle.ranking.proofs.Listed.{length_ranked}
use Rattle.market.specs.declared.refusal.Refusal.{Refusal}
use Rattle.market.specs.declared.refusal.Refusal.TheVariants.{Quotes, SideFull}
use Rattle.market.specs.declared.side.Side.TheVariants.{Buy, Sell}
use Rattle.market.specs.Fits.{quotes_fit}
use Rattle.market.specs.Markets.{Market, no_quote}
use Rattle.market.specs.Questions.{first_no}
use Rattle.market.specs.Rankings.{higher, lower, quote_ahead}
use Rattle.market.proofs.Asked.{all_yes}
use Rattle.market.proofs.Fitting.{bids_fit, offers_fit, few_quotes}
use Rattle.pricing.specs.declared.cause.Cause.TheVariants.{Halted}
use Rattle.pricing.specs.Outcomes.{Outcome}
use Rattle.orders.specs.declared.order.Order.{Order}
use Rattle.orders.specs.declared.row.OrderRow.{OrderRow}
use Rattle.orders.specs.Rows.{empty_row, entered_row, with_cancelled, with_here, with_out, with_settled}
use Rattle.orders.specs.Tables.{place_of, if_whole}
use Rattle.orders.proofs.Conserved.{length_handed}
use Rattle.routing.specs.declared.ticket.Ticket.{Ticket}
use Rattle.routing.specs.Owed.{owed}
use Rattle.routing.specs.Tickets.{empty_ticket}
use Rattle.routing.proofs.Count.{tickets_most}
use Rattle.engine.specs.Asked.{Asked, Begin, Enter, Cancel, Close, Report, Match, Abort}
use Rattle.engine.specs.declared.state.Engine.{Engine}
use Rattle.engine.specs.declared.state.Used.{Used}
use Rattle.engine.specs.Limits.{order_rows, quote_rows, ticket_rows}
use Rattle.engine.specs.Stages.{is_matched, price_of}
use Rattle.engine.specs.States.{TableRows, IsSized, none_used, buys_in, sells_in}
use Rattle.engine.specs.Questions.{sizes_fit, questions, ticket_at}
use Rattle.engine.specs.Effects.{Left, unless, ahead_on, emptied, seated, order_held, changed_in, with_order, book_in, ranked_bids, ranked_offers, written, with_quotes, tickets_at, with_tickets, with_routed, rests_cancelled, reported, to_execute, close, done}
use Rattle.engine.specs.Steps.{Called, SameSizes}
use Rattle.engine.proofs.Answered.{yes_to}
use Rattle.engine.proofs.Routing.{buy_tickets, sell_tickets}

-- the sizes that every granted call finds
pub sizes : (h : TableRows) → sizes_fit h ≡ true → IsSized h
sizes h k =
    let parts = and_parts (eqb (length h.buys) order_rows && eqb (length h.sells) order_rows) _ k in
    let sides = and_parts (eqb (length h.buys) order_rows) (eqb (length h.sells) order_rows) parts.0 in
    let others = and_parts (eqb (length h.bids) quote_rows && eqb (length h.offers) quote_rows) (eqb (length h.tickets) ticket_rows) parts.1 in
    let quotes = and_parts (eqb (length h.bids) quote_rows) (eqb (length h.offers) quote_rows) others.0 in
    record {
      buys = eqb-true (length h.buys) order_rows sides.0;
      sells = eqb-true (length h.sells) order_rows sides.1;
      bids = eqb-true (length h.bids) quote_rows quotes.0;
      offers = eqb-true (length h.offers) quote_rows quotes.1;
      tickets = eqb-true (length h.tickets) ticket_rows others.1;
    }

same_sizes : (h : TableRows) → SameSizes h h
same_sizes h = record { buys = refl; sells = refl; bids = refl; offers = refl; tickets = refl }

sizes_on : {a b c : TableRows} → SameSizes a b → SameSizes b c → SameSizes a c
sizes_on s t = record {
  buys = s.buys ∙ t.buys;
  sells = s.sells ∙ t.sells;
  bids = s.bids ∙ t.bids;
  offers = s.offers ∙ t.offers;
  tickets = s.tickets ∙ t.tickets;
}

length_written : {X : Type 0} (xs rows : List X) → length xs ≤ length rows → length (written xs rows) ≡ length rows
length_written xs rows le = simp (length-append, length-drop) (omega arith)

length_seated : (ahead : OrderRow → OrderRow → Bool) (used : ℕ) (row : OrderRow) (rows : List OrderRow) → used < length rows
    → length (seated ahead used row rows) ≡ length rows
length_seated ahead used row rows room = simp (length-append, length_placed, length-take, length-drop) (omega arith)

length_changed : (f : OrderRow → OrderRow) (place : Option ℕ) (rows : List OrderRow) → length (changed_in f place rows) ≡ length rows
length_changed f None rows = refl
length_changed f (Some place) rows = length-set rows place _

emptied_sizes : (h : TableRows) → SameSizes (emptied h) h
emptied_sizes h = record {
  buys = length-replicate (length h.buys) empty_row;
  sells = length-replicate (length h.sells) empty_row;
  bids = length-replicate (length h.bids) no_quote;
  offers = length-replicate (length h.offers) no_quote;
  tickets = length-replicate (length h.tickets) empty_ticket;
}

-- an order for which its side has room
order_sizes : (o : Order) (used : Used) (h : TableRows)
    → (eqb o.side 1 ≡ true → used.buys < length h.buys) → (eqb o.side 1 ≡ false → used.sells < length h.sells) → SameSizes (order_held o used h) h
order_sizes o used h buys-room sells-room = cond_both (eqb o.side 1) _ _ (λ x. SameSizes x h)
    (λ t. record { buys = length_seated (ahead_on Buy) used.buys (entered_row o) h.buys (buys-room t); sells = refl; bids = refl; offers = refl; tickets = refl })
    (λ f. record { buys = refl; sells = length_seated (ahead_on Sell) used.sells (entered_row o) h.sells (sells-room f); bids = refl; offers = refl; tickets = refl })

changed_sizes : (f : OrderRow → OrderRow) (number : ℕ) (e : Engine) (h : TableRows) → SameSizes (with_order f number e h) h
changed_sizes f number e h = cond_both (is_some (place_of number (buys_in e h))) _ _ (λ x. SameSizes x h)
    (λ _. record { buys = length_changed f (place_of number (buys_in e h)) h.buys; sells = refl; bids = refl; offers = refl; tickets = refl })
    (λ _. record { buys = refl; sells = length_changed f (place_of number (sells_in e h)) h.sells; bids = refl; offers = refl; tickets = refl })

rests_sizes : (h : TableRows) → SameSizes (rests_cancelled h) h
rests_sizes h = record {
  buys = length-map h.buys (if_whole with_cancelled);
  sells = length-map h.sells (if_whole with_cancelled);
  bids = refl;
  offers = refl;
  tickets = refl;
}

module _ (e : Engine) (m : Market) (h : TableRows) (long : IsSized h) (fit : quotes_fit m ≡ true) where
  quotes_sizes : SameSizes (with_quotes m h) h
  quotes_sizes = record {
    buys = refl;
    sells = refl;
    bids = length_written (ranked_bids m) h.bids (omega (arith, long.bids, length_ranked (quote_ahead higher) m.bids, few_quotes m.bids (bids_fit m fit)));
    offers = length_written (ranked_offers m) h.offers (omega (arith, long.offers, length_ranked (quote_ahead lower) m.offers, few_quotes m.offers (offers_fit m fit)));
    tickets = refl;
  }

  -- there is room for all tickets
  buys_few : (p : ℕ) → length (buy_tickets e m h p) ≤ length h.tickets
  buys_few p = omega (
    arith,
    long.buys,
    long.tickets,
    tickets_most (owed Buy (book_in e m h) p) (buys_in e h) (ranked_offers m),
    length-take e.used.buys h.buys,
    length_ranked (quote_ahead lower) m.offers,
    few_quotes m.offers (offers_fit m fit),
  )

  sells_few : (p : ℕ) → length (sell_tickets e m h p) ≤ length h.tickets
  sells_few p = omega (
    arith,
    long.sells,
    long.tickets,
    tickets_most (owed Sell (book_in e m h) p) (sells_in e h) (ranked_bids m),
    length-take e.used.sells h.sells,
    length_ranked (quote_ahead higher) m.bids,
    few_quotes m.bids (bids_fit m fit),
  )

  tickets_room : (p : ℕ) → length (tickets_at e m h p) ≤ length h.tickets
  tickets_room p = cond_both (ltb 0 (owed Buy (book_in e m h) p)) (buy_tickets e m h p) (sell_tickets e m h p) (λ ts. length ts ≤ length h.tickets)
      (λ _. buys_few p)
      (λ _. sells_few p)

  routed_sizes : (p : ℕ) → SameSizes (with_routed e m (with_quotes m h) p) (with_quotes m h)
  routed_sizes p = cond_both (ltb 0 (owed Buy (book_in e m h) p)) _ _ (λ x. SameSizes (with_tickets (tickets_at e m h p) x) (with_quotes m h))
      (λ _. record { buys = length_handed with_out _ h.buys; sells = refl; bids = refl; offers = refl; tickets = length_written (tickets_at e m h p) h.tickets (tickets_room p) })
      (λ _. record { buys = refl; sells = length_handed with_out _ h.sells; bids = refl; offers = refl; tickets = length_written (tickets_at e m h p) h.tickets (tickets_room p) })

  close_sizes : (time : ℕ) (x : Outcome) → SameSizes (close e m h time x).held h
  close_sizes time (Ok x) = sizes_on (routed_sizes x.0) quotes_sizes
  close_sizes time (Err Halted) = rests_sizes h
  close_sizes time (Err cause) = quotes_sizes

module _ (e : Engine) (m : Market) (h : TableRows) where
  granted_sizes : (call : Asked) (x : Outcome) → AllByRecursion (λ q. q.yes ≡ true) (questions e m h call) → SameSizes (done e m h call x).held h
  granted_sizes (Begin time order facts) x all =
      let long = sizes h all.0 in
      let none = emptied_sizes h in
      sizes_on (order_sizes order none_used (emptied h) (λ _. omega arith) (λ _. omega arith)) none
  granted_sizes (Enter order) x all =
      let long = sizes h all.0 in
      let room = yes_to SideFull (questions e m h (Enter order)) all in
      order_sizes order e.used h
      (λ t. omega (arith, ltb-true e.used.buys order_rows (subst (λ b. cond b (ltb e.used.buys order_rows) (ltb e.used.sells order_rows) ≡ true) t room)))
      (λ f. omega (arith, ltb-true e.used.sells order_rows (subst (λ b. cond b (ltb e.used.buys order_rows) (ltb e.used.sells order_rows) ≡ true) f room)))
  granted_sizes (Cancel number) x all = changed_sizes with_cancelled number e h
  granted_sizes (Close time last) x all = close_sizes e m h (sizes h all.0) (yes_to Quotes (questions e m h (Close time last)) all) time x
  granted_sizes (Report ticket filled) x all =
      let t : Ticket = ticket_at e h ticket in
      let c = changed_sizes (with_settled t.shares filled (is_matched e.stage)) t.order e h in
      record { buys = c.buys; sells = c.sells; bids = c.bids; offers = c.offers; tickets = length-set _ _ (reported t) ∙ c.tickets }
  granted_sizes (Match time) x all =
      let n : ℕ = to_execute h (price_of e.stage) in
      record { buys = length_handed with_here n h.buys; sells = length_handed with_here n h.sells; bids = refl; offers = refl; tickets = refl }
  granted_sizes (Abort time) x all = rests_sizes h
  granted_sizes call x all = same_sizes h

  left_sizes : (call : Asked) (x : Outcome) (r : Option Refusal) → first_no (questions e m h call) ≡ r → SameSizes (unless r e h (done e m h call x)).held h
  left_sizes call x (Some refusal) is = same_sizes h
  left_sizes call x None is = granted_sizes call x (all_yes (questions e m h call) is)

pub call_sizes : (e : Engine) (m : Market) (h : TableRows) (call : Asked) (left : Left) → Called e m h call left → SameSizes left.held h
call_sizes e m h call left c = subst (λ l. SameSizes l.held h) (sym c.is) (left_sizes e m h call c.outcome (first_no (questions e m h call)) refl)
