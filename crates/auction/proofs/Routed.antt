-- A close that fixes a price keeps the engine, its tables and the tally together.
use Rattle.std.proofs.Common.{◌≡◌, ℕ, ◌+◌, ◌<◌, ◌≤◌, Bool, true, false, cond, ltb, List, ◌++◌, length, Ok, sym, refl, ap, ◌∙◌, subst, arith}
use Rattle.std.proofs.lemmas.Bool.{cond_both}
use Rattle.ranking.specs.Ranked.{ranked}
use Rattle.ranking.proofs.Listed.{length_ranked}
use Rattle.market.specs.declared.side.Side.{Side}
use Rattle.market.specs.declared.side.Side.TheVariants.{Buy, Sell}
use Rattle.market.specs.Fits.{quotes_fit}
use Rattle.market.specs.Markets.{Market, no_quote}
use Rattle.market.specs.Rankings.{higher, lower, quote_ahead}
use Rattle.market.proofs.Fitting.{bids_fit, offers_fit, few_quotes}
use Rattle.pricing.specs.Counting.{counting_market}
use Rattle.pricing.specs.Outcomes.{IsOutcome}
use Rattle.orders.specs.declared.row.OrderRow.{OrderRow}
use Rattle.orders.specs.Rows.{with_out}
use Rattle.orders.specs.Tables.{handed}
use Rattle.routing.specs.declared.ticket.Ticket.{Ticket}
use Rattle.routing.specs.Owed.{owed}
use Rattle.routing.specs.Tickets.{empty_ticket, tickets}
use Rattle.routing.proofs.Count.{tickets_fit}
use Rattle.routing.proofs.Owing.{one_side_owes}
use Rattle.routing.proofs.CloseTickets.{sells_owe_none, buys_owe_none, close_both}
use Rattle.engine.specs.declared.state.Engine.{Engine}
use Rattle.engine.specs.Limits.{order_rows, quote_rows, ticket_time, ticket_rows}
use Rattle.engine.specs.States.{TableRows, buys_in, sells_in}
use Rattle.engine.specs.Effects.{ahead_on, book_in, ranked_bids, ranked_offers, tickets_at, with_quotes, written, owed_out, close}
use Rattle.engine.proofs.Routing.{buy_tickets, sell_tickets}
use Rattle.auction.specs.Tallies.{Tally, handed_out, book_by, tickets_by, routed}
use Rattle.auction.proofs.Good.{SideGood, TableGood, OtherTables, other_tables, Good, Unnoted}
use Rattle.auction.proofs.Handing.{out_takes, side_handed, apart_handed, none_handed}
use Rattle.auction.proofs.Used.{table_written, in_use}
use Rattle.auction.proofs.Books.{counting_fit, owed_like, books_alike}

-- a side that owes nothing stays as it is
unrouted_side : (side : Side) (k used : ℕ) (rows ws : List OrderRow) → SideGood side used rows ws → k ≡ 0 → SideGood side used rows (handed_out with_out side k ws)
unrouted_side side k used rows ws good none =
    subst (SideGood side used rows) (sym (ap (λ n. handed_out with_out side n ws) none ∙ none_handed with_out out_takes side ws)) good

-- a part of what is chosen
cond_part : {X Y : Type 0} (f : X → Y) (t : Bool) (a b : X) → f (cond t a b) ≡ cond t (f a) (f b)
cond_part f true a b = refl
cond_part f false a b = refl

-- the tickets of one side at a price
abbrev pub tickets_of : Side → Tally → Market → ℕ → List Ticket
tickets_of Buy y m price = tickets (owed Buy (book_by y m) price) (ranked (ahead_on Buy) y.buys) (ranked_offers (counting_market m))
tickets_of Sell y m price = tickets (owed Sell (book_by y m) price) (ranked (ahead_on Sell) y.sells) (ranked_bids (counting_market m))

-- where only one side owes, they are those of both
pub tickets_both : (y : Tally) (m : Market) (p : ℕ) → (0 < owed Buy (book_by y m) p → owed Sell (book_by y m) p ≡ 0)
    → tickets_of Buy y m p ++ tickets_of Sell y m p ≡ tickets_by y m p
tickets_both y m p one =
    sym (close_both (book_by y m) p one (ranked (ahead_on Buy) y.buys) (ranked (ahead_on Sell) y.sells) (ranked_bids (counting_market m)) (ranked_offers (counting_market m)))

module _ (e : Engine) (h : TableRows) (y : Tally) (good : Good e h y) (m : Market) (p : ℕ) where
  owed_by : (side : Side) → owed side (book_in e m h) p ≡ owed side (book_by y m) p
  owed_by side = owed_like (books_alike e h y good m) side p

  buys_ticketed : buy_tickets e m h p ≡ tickets_of Buy y m p
  buys_ticketed =
      ap (λ rows. tickets (owed Buy (book_in e m h) p) rows (ranked_offers (counting_market m))) (in_use Buy e.used.buys h.buys y.buys good.buys)
      ∙ ap (λ n. tickets n (ranked (ahead_on Buy) y.buys) (ranked_offers (counting_market m))) (owed_by Buy)

  sells_ticketed : sell_tickets e m h p ≡ tickets_of Sell y m p
  sells_ticketed =
      ap (λ rows. tickets (owed Sell (book_in e m h) p) rows (ranked_bids (counting_market m))) (in_use Sell e.used.sells h.sells y.sells good.sells)
      ∙ ap (λ n. tickets n (ranked (ahead_on Sell) y.sells) (ranked_bids (counting_market m))) (owed_by Sell)

  tickets_same : tickets_at e m h p ≡ tickets_by y m p
  tickets_same =
      ap (λ n. cond (ltb 0 n) (buy_tickets e m h p) (sell_tickets e m h p)) (owed_by Buy)
      ∙ ap (λ ts. cond (ltb 0 (owed Buy (book_by y m) p)) ts (sell_tickets e m h p)) buys_ticketed
      ∙ ap (λ ts. cond (ltb 0 (owed Buy (book_by y m) p)) (tickets_of Buy y m p) ts) sells_ticketed

  -- one side owes at most
  module _ (one : 0 < owed Buy (book_in e m h) p → owed Sell (book_in e m h) p ≡ 0) where
    one_owes : 0 < owed Buy (book_by y m) p → owed Sell (book_by y m) p ≡ 0
    one_owes some = omega (arith, owed_by Sell, one (omega (arith, owed_by Buy)))

    module _ (fit : quotes_fit m ≡ true) where
      tickets_within : length (tickets_at e m h p) + 1 ≤ order_rows + quote_rows
      tickets_within = cond_both (ltb 0 (owed Buy (book_in e m h) p)) (buy_tickets e m h p) (sell_tickets e m h p) (λ ts. length ts + 1 ≤ order_rows + quote_rows)
          (λ t. tickets_fit order_rows quote_rows (omega arith) (omega arith) (owed Buy (book_in e m h) p) (buys_in e h) (ranked_offers (counting_market m))
          (omega (arith, ap length (in_use Buy e.used.buys h.buys y.buys good.buys), length_ranked (ahead_on Buy) y.buys, good.buys.within))
          (omega (arith, length_ranked (quote_ahead lower) (counting_market m).offers, few_quotes (counting_market m).offers (offers_fit (counting_market m) (counting_fit m fit)))))
          (λ t. tickets_fit order_rows quote_rows (omega arith) (omega arith) (owed Sell (book_in e m h) p) (sells_in e h) (ranked_bids (counting_market m))
          (omega (arith, ap length (in_use Sell e.used.sells h.sells y.sells good.sells), length_ranked (ahead_on Sell) y.sells, good.sells.within))
          (omega (arith, length_ranked (quote_ahead higher) (counting_market m).bids, few_quotes (counting_market m).bids (bids_fit (counting_market m) (counting_fit m fit)))))

      routed_good : Unnoted y.bids y.offers y.tickets → (time count : ℕ)
          → Good (close e m h time (Ok ((p, count)))).engine (close e m h time (Ok ((p, count)))).held (routed p (time + ticket_time) m y)
      routed_good none time count =
          let ts : List Ticket = tickets_at e m h p in
          let b : ℕ = owed Buy (book_in e m h) p in
          let s : ℕ = owed Sell (book_in e m h) p in
          let routes : Bool = ltb 0 b in
          let before : OtherTables = other_tables e.used h y in
          let bought : TableRows = owed_out Buy e m (with_quotes m h) p in
          let sold : TableRows = owed_out Sell e m (with_quotes m h) p in
          let bids-found = table_written quote_rows no_quote before.bids good.others.bids none.bids (ranked_bids m) (length m.bids)
          (sym (length_ranked (quote_ahead higher) m.bids)) in
          let offers-found = table_written quote_rows no_quote before.offers good.others.offers none.offers (ranked_offers m) (length m.offers)
          (sym (length_ranked (quote_ahead lower) m.offers)) in
          let tickets-found = table_written ticket_rows empty_ticket before.tickets good.others.tickets none.tickets ts (length ts) refl in
          record {
            stage_is = refl;
            fixed_is = good.fixed_is;
            buys = subst (λ rows. SideGood Buy e.used.buys rows (handed_out with_out Buy (owed Buy (book_by y m) p) y.buys)) (sym (cond_part (λ x. x.buys) routes bought sold))
                (subst (λ k. SideGood Buy e.used.buys (cond routes (handed with_out b h.buys) h.buys) (handed_out with_out Buy k y.buys)) (owed_by Buy)
                (cond_both routes (handed with_out b h.buys) h.buys (λ rows. SideGood Buy e.used.buys rows (handed_out with_out Buy b y.buys))
                (λ _. side_handed with_out out_takes Buy b y.buys e.used.buys h.buys good.buys)
                (λ f. unrouted_side Buy b e.used.buys h.buys y.buys good.buys (buys_owe_none (book_in e m h) p one f))));
            sells = subst (λ rows. SideGood Sell e.used.sells rows (handed_out with_out Sell (owed Sell (book_by y m) p) y.sells)) (sym (cond_part (λ x. x.sells) routes bought sold))
                (subst (λ k. SideGood Sell e.used.sells (cond routes h.sells (handed with_out s h.sells)) (handed_out with_out Sell k y.sells)) (owed_by Sell)
                (cond_both routes h.sells (handed with_out s h.sells) (λ rows. SideGood Sell e.used.sells rows (handed_out with_out Sell s y.sells))
                (λ t. unrouted_side Sell s e.used.sells h.sells y.sells good.sells (sells_owe_none (book_in e m h) p one t))
                (λ _. side_handed with_out out_takes Sell s y.sells e.used.sells h.sells good.sells)));
            sides_apart = apart_handed with_out out_takes (owed Buy (book_by y m) p) (owed Sell (book_by y m) p) y.buys y.sells good.sides_apart;
            others = record {
              bids = cond_both routes bought sold (λ x. TableGood quote_rows no_quote (record { used = length m.bids; rows = x.bids; has = ranked_bids m }))
                  (λ _. bids-found) (λ _. bids-found);
              offers = cond_both routes bought sold (λ x. TableGood quote_rows no_quote (record { used = length m.offers; rows = x.offers; has = ranked_offers m }))
                  (λ _. offers-found) (λ _. offers-found);
              tickets = subst (λ us. TableGood ticket_rows empty_ticket (record { used = length ts; rows = written ts (cond routes bought sold).tickets; has = us })) tickets_same
                  (cond_both routes bought sold (λ x. TableGood ticket_rows empty_ticket (record { used = length ts; rows = written ts x.tickets; has = ts }))
                  (λ _. tickets-found) (λ _. tickets-found));
              tickets_few = subst (λ xs. length xs + 1 ≤ order_rows + quote_rows) tickets_same tickets_within;
            };
            even = good.even;
          }

pub priced_good : (e : Engine) (h : TableRows) (y : Tally) → Good e h y → Unnoted y.bids y.offers y.tickets → (m : Market) → quotes_fit m ≡ true
    → (time last : ℕ) (x : ℕ × ℕ) → IsOutcome m.halted (book_in e m h) last (Ok x)
    → Good (close e m h time (Ok x)).engine (close e m h time (Ok x)).held (routed x.0 (time + ticket_time) m y)
priced_good e h y good none m fit time last x closing =
    routed_good e h y good m x.0 (one_side_owes (book_in e m h) x.0 closing.0.apart) fit none time x.1

-- at the price of a close only one side owes, by the tally too
pub one_side_by : (e : Engine) (h : TableRows) (y : Tally) → Good e h y → (m : Market) (last : ℕ) (x : ℕ × ℕ) → IsOutcome m.halted (book_in e m h) last (Ok x)
    → 0 < owed Buy (book_by y m) x.0 → owed Sell (book_by y m) x.0 ≡ 0
one_side_by e h y good m last x closing = one_owes e h y good m x.0 (one_side_owes (book_in e m h) x.0 closing.0.apart)
