-- What every call keeps in the tally alone, whatever it is told.
use Rattle.std.proofs.Common.{◌≡◌, ℕ, ◌+◌, ◌-◌, ◌≤◌, min, Bool, true, false, cond, eqb, ltb, List, [], ◌∷◌, ◌++◌, map, get_or, set, sum_by, zero, suc, sym, refl, ap, ◌∙◌, arith}
use Rattle.std.specs.List.{AllByRecursion}
use Rattle.std.proofs.lemmas.List.Sums.{sum_by-cons, sum_by_push}
use Rattle.std.proofs.lemmas.Bool.{cond_both, both_ways, false≢true}
use Rattle.ranking.specs.Ranked.{ranked, Sorted}
use Rattle.ranking.proofs.Ranks.{sorted_ranked}
use Rattle.market.specs.declared.quote.Quote.{Quote}
use Rattle.market.specs.declared.side.Side.{Side}
use Rattle.market.specs.declared.side.Side.TheVariants.{Buy, Sell}
use Rattle.market.specs.Markets.{Market}
use Rattle.market.specs.Rankings.{higher, lower, quote_ahead}
use Rattle.market.specs.RankingLaws.{higher_laws, lower_laws, quote_apart, quote_through, quote_level}
use Rattle.pricing.specs.Counting.{counting_market}
use Rattle.orders.specs.declared.order.Order.{Order}
use Rattle.orders.specs.declared.row.OrderRow.{OrderRow}
use Rattle.orders.specs.Rows.{entered_row, with_cancelled, with_here, with_out, with_settled}
use Rattle.routing.specs.declared.ticket.Ticket.{Ticket}
use Rattle.routing.specs.Owed.{owed}
use Rattle.routing.specs.Tickets.{empty_ticket}
use Rattle.routing.proofs.Filled.{tickets_some}
use Rattle.engine.specs.declared.stage.Stage.{Stage}
use Rattle.engine.specs.declared.stage.Stage.TheVariants.{Open, Satisfaction, Matched}
use Rattle.engine.specs.Stages.{is_acceptance, is_matched}
use Rattle.engine.specs.Effects.{ahead_on, ranked_bids, ranked_offers, reported}
use Rattle.auction.specs.Tallies.{Tally, tally_in_stage, entered, new_cycle, on_number, changed, orders_cancelled, share_of, handed_out, book_by, tickets_by, routed, unrouted, settled, executed}
use Rattle.auction.proofs.Good.{Unnoted, Noted, Tallied}

-- what is filled here, where it was changed by the same for all orders of a side
pub sum_rises : (count add : OrderRow → ℕ) (g : OrderRow → OrderRow) → ((w : OrderRow) → count (g w) ≡ count w + add w) → (ws : List OrderRow)
    → sum_by count (map g ws) ≡ sum_by count ws + sum_by add ws
sum_rises count add g rises [] = refl
sum_rises count add g rises (w ∷ ws) = omega (
  arith,
  sum_by-cons count (g w) (map g ws),
  sum_by-cons count w ws,
  sum_by-cons add w ws,
  rises w,
  sum_rises count add g rises ws,
)

here_kept : (g : OrderRow → OrderRow) → ((w : OrderRow) → (g w).here ≡ w.here) → (ws : List OrderRow) → sum_by (λ w. w.here) (map g ws) ≡ sum_by (λ w. w.here) ws
here_kept g same [] = refl
here_kept g same (w ∷ ws) = omega (arith, sum_by-cons (λ v. v.here) (g w) (map g ws), sum_by-cons (λ v. v.here) w ws, same w, here_kept g same ws)

-- a change of the order with a number that fills nothing here
here_on : (f : OrderRow → OrderRow) → ((w : OrderRow) → (f w).here ≡ w.here) → (n : ℕ) (ws : List OrderRow) → sum_by (λ w. w.here) (on_number n f ws) ≡ sum_by (λ w. w.here) ws
here_on f same n ws = here_kept (λ w. cond (eqb w.number n) (f w) w)
    (λ w. elim (eqb w.number n) as (λ b. (cond b (f w) w).here ≡ w.here) [ true ↦ same w | false ↦ refl ]) ws

here_entered : (o : Order) (ws : List OrderRow) → sum_by (λ w. w.here) (ws ++ (entered_row o ∷ [])) ≡ sum_by (λ w. w.here) ws
here_entered o ws = omega (arith, sum_by_push (λ w. w.here) ws (entered_row o))

-- shares handed out to be filled here are so on their side
here_handed : (side : Side) (n : ℕ) (ws : List OrderRow)
    → sum_by (λ w. w.here) (handed_out with_here side n ws) ≡ sum_by (λ w. w.here) ws + sum_by (share_of side n ws) ws
here_handed side n ws = sum_rises (λ w. w.here) (share_of side n ws) (λ w. with_here (share_of side n ws w) w)
    (λ w. let some : min (share_of side n ws w) w.rest ≡ share_of side n ws w = omega arith in ap (λ k. w.here + k) some) ws

-- a ticket that is marked is for as many shares as before
marked_some : (ts : List Ticket) (i : ℕ) → AllByRecursion (λ t. 1 ≤ t.shares) ts → AllByRecursion (λ t. 1 ≤ t.shares) (set ts i (reported (get_or ts i empty_ticket)))
marked_some [] i a = tt
marked_some (t ∷ ts) zero a = (a.0, a.1)
marked_some (t ∷ ts) (suc i) a = (a.0, marked_some ts i a.1)

-- nothing is noted, at whatever stage
unnoted : (stage : Stage) → Noted stage false [] [] []
unnoted stage = record {
  bids_sorted = tt;
  offers_sorted = tt;
  some_shares = tt;
  accepting = λ k. refl;
  unquoted = λ k. record { bids = refl; offers = refl; tickets = refl };
}

-- what is noted stays so at a stage that is no new acceptance
pub past : {stage : Stage} {noted : Bool} {bids offers : List Quote} {ts : List Ticket} → Noted stage noted bids offers ts
    → (s : Stage) → (is_acceptance s ≡ true → is_acceptance stage ≡ true) → Noted s noted bids offers ts
past n s none = record {
  bids_sorted = n.bids_sorted;
  offers_sorted = n.offers_sorted;
  some_shares = n.some_shares;
  accepting = λ k. n.accepting (none k);
  unquoted = n.unquoted;
}

-- a new cycle, at whatever stage
pub new_tallied : (stage : Stage) → Tallied (new_cycle stage)
new_tallied stage = record { bought = refl; sold = refl; noted = unnoted stage }

module _ (y : Tally) (kept : Tallied y) where
  -- in acceptance no quotes are noted
  pub accepting_unnoted : is_acceptance y.stage ≡ true → Unnoted y.bids y.offers y.tickets
  accepting_unnoted is = kept.noted.unquoted (kept.noted.accepting is)

  -- an order more
  pub entered_tallied : (order : Order) → Tallied (entered order y)
  entered_tallied order = cond_both (eqb order.side 1) _ _ Tallied
      (λ _. record { bought = kept.bought ∙ sym (here_entered order y.buys); sold = kept.sold; noted = kept.noted })
      (λ _. record { bought = kept.bought; sold = kept.sold ∙ sym (here_entered order y.sells); noted = kept.noted })

  pub cancelled_tallied : (number : ℕ) → Tallied (changed number with_cancelled y)
  cancelled_tallied number = record {
    bought = kept.bought ∙ sym (here_on with_cancelled (λ w. refl) number y.buys);
    sold = kept.sold ∙ sym (here_on with_cancelled (λ w. refl) number y.sells);
    noted = kept.noted;
  }

  pub ended_tallied : Tallied (tally_in_stage Open (orders_cancelled y))
  ended_tallied = record {
    bought = kept.bought ∙ sym (here_kept with_cancelled (λ w. refl) y.buys);
    sold = kept.sold ∙ sym (here_kept with_cancelled (λ w. refl) y.sells);
    noted = past kept.noted Open (λ k. absurd (false≢true k));
  }

  pub settled_tallied : (ticket filled : ℕ) → Tallied (settled ticket filled (get_or y.tickets (ticket - 1) empty_ticket) y)
  settled_tallied ticket filled =
      let t : Ticket = get_or y.tickets (ticket - 1) empty_ticket in
      record {
        bought = kept.bought ∙ sym (here_on (with_settled t.shares filled (is_matched y.stage)) (λ w. refl) t.order y.buys);
        sold = kept.sold ∙ sym (here_on (with_settled t.shares filled (is_matched y.stage)) (λ w. refl) t.order y.sells);
        noted = record {
          bids_sorted = kept.noted.bids_sorted;
          offers_sorted = kept.noted.offers_sorted;
          some_shares = marked_some y.tickets (ticket - 1) kept.noted.some_shares;
          accepting = kept.noted.accepting;
          unquoted = λ k. let e = kept.noted.unquoted k in record {
            bids = e.bids;
            offers = e.offers;
            tickets = ap (λ ts. set ts (ticket - 1) (reported t)) e.tickets;
          };
        };
      }

  pub executed_tallied : (n : ℕ) → Tallied (executed n y)
  executed_tallied n = record {
    bought = omega (arith, kept.bought, here_handed Buy n y.buys);
    sold = omega (arith, kept.sold, here_handed Sell n y.sells);
    noted = past kept.noted Matched (λ k. absurd (false≢true k));
  }

  module _ (m : Market) where
    bids_in_order : Sorted (quote_ahead higher) (ranked_bids m)
    bids_in_order = sorted_ranked (quote_ahead higher) (quote_apart higher higher_laws) (quote_through higher higher_laws) (quote_level higher higher_laws) m.bids

    offers_in_order : Sorted (quote_ahead lower) (ranked_offers m)
    offers_in_order = sorted_ranked (quote_ahead lower) (quote_apart lower lower_laws) (quote_through lower lower_laws) (quote_level lower lower_laws) m.offers

    -- both lists of the source are noted, with tickets for some shares each
    noted_past : (s : Stage) → is_acceptance s ≡ false → (ts : List Ticket) → AllByRecursion (λ t. 1 ≤ t.shares) ts
        → Noted s true (ranked_bids m) (ranked_offers m) ts
    noted_past s is ts some = record {
      bids_sorted = bids_in_order;
      offers_sorted = offers_in_order;
      some_shares = some;
      accepting = λ k. absurd (both_ways (is_acceptance s) is k);
      unquoted = λ k. absurd (false≢true (sym k));
    }

    pub unpriced_tallied : Tallied (unrouted m y)
    unpriced_tallied =
        record { bought = kept.bought; sold = kept.sold; noted = noted_past Matched refl y.tickets kept.noted.some_shares }

    pub routed_tallied : (price deadline : ℕ) → Tallied (routed price deadline m y)
    routed_tallied price deadline = record {
      bought = kept.bought ∙ sym (here_kept (λ w. with_out (share_of Buy (owed Buy (book_by y m) price) y.buys w) w) (λ w. refl) y.buys);
      sold = kept.sold ∙ sym (here_kept (λ w. with_out (share_of Sell (owed Sell (book_by y m) price) y.sells w) w) (λ w. refl) y.sells);
      noted = noted_past (Satisfaction price deadline) refl (tickets_by y m price)
          (cond_both (ltb 0 (owed Buy (book_by y m) price)) _ _ (AllByRecursion (λ t. 1 ≤ t.shares))
          (λ _. tickets_some (owed Buy (book_by y m) price) (ranked (ahead_on Buy) y.buys) (ranked_offers (counting_market m)))
          (λ _. tickets_some (owed Sell (book_by y m) price) (ranked (ahead_on Sell) y.sells) (ranked_bids (counting_market m))));
    }
