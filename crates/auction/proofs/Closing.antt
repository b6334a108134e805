-- What a granted close leaves standing, with its laws.
use Rattle.std.proofs.Common.{◌≡◌, ℕ, ◌+◌, true, length, None, Ok, Err, sym, refl, subst}
use Rattle.std.specs.List.{AllByRecursion}
use Rattle.std.specs.List.Sorted.{IsPermutation}
use Rattle.ranking.proofs.Ranks.{shuffled_ranked}
use Rattle.market.specs.declared.refusal.Refusal.TheVariants.{WrongStage, Quotes}
use Rattle.market.specs.declared.side.Side.TheVariants.{Buy, Sell}
use Rattle.market.specs.Fits.{quotes_fit}
use Rattle.market.specs.Markets.{Market}
use Rattle.market.specs.Rankings.{higher, lower, quote_ahead}
use Rattle.pricing.specs.declared.cause.Cause.{Cause}
use Rattle.pricing.specs.declared.cause.Cause.TheVariants.{Halted}
use Rattle.pricing.specs.Outcomes.{Outcome, IsOutcome}
use Rattle.orders.specs.Rows.{with_out}
use Rattle.routing.specs.Owed.{owed}
use Rattle.engine.specs.Asked.{Asked, Close}
use Rattle.engine.specs.declared.state.Engine.{Engine}
use Rattle.engine.specs.Limits.{ticket_time}
use Rattle.engine.specs.Stages.{is_acceptance}
use Rattle.engine.specs.States.{TableRows}
use Rattle.engine.specs.Questions.{questions}
use Rattle.engine.specs.Effects.{Left, book_in, ranked_bids, ranked_offers, tickets_at, close}
use Rattle.engine.specs.Steps.{PricedBy}
use Rattle.engine.proofs.Answered.{yes_to}
use Rattle.auction.specs.Tallies.{Tally, share_of, book_by, routed, unrouted, fed}
use Rattle.auction.specs.Laws.{BestPrice, over_all, QuotesNoted, but_out, FixesPrice, NoPrice, CallLaws}
use Rattle.auction.proofs.Good.{Unnoted, Running}
use Rattle.auction.proofs.RankOrder.{routed_in_rank}
use Rattle.auction.proofs.Reaching.{routed_limits}
use Rattle.auction.proofs.Sending.{close_sends}
use Rattle.auction.proofs.TicketRank.{routed_new, routed_ticket_order}
use Rattle.auction.proofs.Books.{counting_fit, book_sound, close_laws}
use Rattle.auction.proofs.Outs.{unpriced_out, abort_out, routed_out}
use Rattle.auction.proofs.Ticketing.{ticketed_whole}
use Rattle.auction.proofs.Ending.{unpriced_good}
use Rattle.auction.proofs.Routed.{priced_good, one_side_by}
use Rattle.auction.proofs.Leaving.{map_kept, ends}
use Rattle.auction.proofs.Tallied.{accepting_unnoted, ended_tallied, unpriced_tallied, routed_tallied}

-- what a granted call leaves standing, and its laws
pub record Granted (y : Tally) (m : Market) (call : Asked) (left : Left) : Type 0 where
  pub running : Running left.engine left.held (fed y m call left.answer)
  pub laws : CallLaws y m call left.answer (fed y m call left.answer)

-- what is known where a close was granted
pub record CloseGranted (e : Engine) (m : Market) (h : TableRows) (y : Tally) (last : ℕ) (x : Outcome) : Type 0 where
  pub accepting : is_acceptance y.stage ≡ true
  pub none : Unnoted y.bids y.offers y.tickets
  pub fit : quotes_fit m ≡ true
  pub closing : IsOutcome m.halted (book_in e m h) last x

noted : (y : Tally) (m : Market) (found : y.quotes_noted ≡ true) → y.bids ≡ ranked_bids m → y.offers ≡ ranked_offers m → QuotesNoted m y
noted y m found bids offers = record {
  noted = found;
  bids = subst (IsPermutation m.bids) (sym bids) (shuffled_ranked (quote_ahead higher) m.bids);
  offers = subst (IsPermutation m.offers) (sym offers) (shuffled_ranked (quote_ahead lower) m.offers);
}

module _ (e : Engine) (m : Market) (h : TableRows) (y : Tally) (r : Running e h y) where
  best_price_lem : (last : ℕ) (x : Outcome) → CloseGranted e m h y last x → BestPrice y m last x
  best_price_lem last x g = close_laws e h y r.good m g.fit last x g.closing

  -- no price
  no_price : (last : ℕ) (cause : Cause) → CloseGranted e m h y last (Err cause) → NoPrice y m last cause (unrouted m y)
  no_price last cause g = record {
    best = best_price_lem last (Err cause) g;
    only = refl;
    no_tickets = g.none.tickets;
    quotes = noted (unrouted m y) m refl refl refl;
  }

  -- a price
  fixes_price : (time last : ℕ) (x : ℕ × ℕ) → CloseGranted e m h y last (Ok x)
      → FixesPrice y m time last x.0 x.1 (length (tickets_at e m h x.0)) (routed x.0 (time + ticket_time) m y)
  fixes_price time last x g =
      let deadline : ℕ = time + ticket_time in
      let after : Tally = routed x.0 deadline m y in
      let buys = r.good.buys in
      let sells = r.good.sells in
      let best = best_price_lem last (Ok x) g in
      let sent = close_sends y m (counting_fit m g.fit) deadline last x best.defined buys.whole buys.numbered sells.whole sells.numbered in
      let none = g.none.tickets in
      let out = routed_out y r.out none buys.numbered sells.numbered r.good.sides_apart m x.0 (one_side_by e h y r.good m last x g.closing) deadline in
      record {
        best = best;
        stage = refl;
        rank = routed_in_rank x.0 deadline m y;
        ticket_rank = routed_ticket_order y m x.0 deadline r.out none out (routed_tallied y r.tallied m x.0 deadline).noted.some_shares;
        limits = routed_limits y m deadline last x best.defined;
        whole = ticketed_whole y m (counting_fit m g.fit) deadline last x best.defined;
        tickets_are = (priced_good e h y r.good g.none m g.fit time last x g.closing).others.tickets.used_is;
        sends = sent.sends;
        counted = sent.counted;
        unreported = routed_new y m x.0 deadline;
        buys = map_kept but_out (λ w. with_out (share_of Buy (owed Buy (book_by y m) x.0) y.buys w) w) (λ w. refl) y.buys;
        sells = map_kept but_out (λ w. with_out (share_of Sell (owed Sell (book_by y m) x.0) y.sells w) w) (λ w. refl) y.sells;
        quotes = noted after m refl refl refl;
        only = refl;
      }

  -- by the outcome
  closed_by : (time last : ℕ) (x : Outcome) → CloseGranted e m h y last x → Granted y m (Close time last) (close e m h time x)
  closed_by time last (Ok x) g = record {
    running = record {
      begun = r.begun;
      good = priced_good e h y r.good g.none m g.fit time last x g.closing;
      out = routed_out y r.out g.none.tickets r.good.buys.numbered r.good.sells.numbered r.good.sides_apart m x.0
          (one_side_by e h y r.good m last x g.closing) (time + ticket_time);
      tallied = routed_tallied y r.tallied m x.0 (time + ticket_time);
    };
    laws = fixes_price time last x g;
  }
  closed_by time last (Err Halted) g = record {
    running = record {
      begun = r.begun;
      good = unpriced_good e h y r.good time m g.none Halted;
      out = abort_out y r.out;
      tallied = ended_tallied y r.tallied;
    };
    laws = record {
      best = best_price_lem last (Err Halted) g;
      ends = ends (over_all (λ w. w.rest) y) y refl;
      unquoted = r.tallied.noted.accepting g.accepting;
    };
  }
  closed_by time last (Err cause) g = record {
    running = record {
      begun = r.begun;
      good = unpriced_good e h y r.good time m g.none cause;
      out = unpriced_out y r.out m;
      tallied = unpriced_tallied y r.tallied m;
    };
    laws = no_price last cause g;
  }

  pub close_granted : (time last : ℕ) (x : Outcome) → AllByRecursion (λ q. q.yes ≡ true) (questions e m h (Close time last))
      → PricedBy None e m h (Close time last) x → Granted y m (Close time last) (close e m h time x)
  close_granted time last x all pricing =
      let fits : is_acceptance e.stage ≡ true = yes_to WrongStage (questions e m h (Close time last)) all in
      let fit : quotes_fit m ≡ true = yes_to Quotes (questions e m h (Close time last)) all in
      let accepting : is_acceptance y.stage ≡ true = subst (λ s. is_acceptance s ≡ true) r.good.stage_is fits in
      closed_by time last x (record {
        accepting = accepting;
        none = accepting_unnoted y r.tallied accepting;
        fit = fit;
        closing = pricing refl (book_sound e h y r.good m fit);
      })
