-- What holds after every run of calls.
use Rattle.std.proofs.Common.{◌≡◌, ℕ, true, false, List, [], ◌∷◌, take, sym, refl, ap, subst, inl, inr, arith}
use Rattle.std.specs.List.{AllByRecursion}
use Rattle.std.specs.List.Sorted.{IsPermutation}
use Rattle.std.proofs.ByRecursion.{All-weaker}
use Rattle.std.proofs.lemmas.Bool.{cases_Bool, eqb-true, false≢true, both_ways}
use Rattle.ranking.specs.Ranked.{Sorted}
use Rattle.ranking.proofs.Ranks.{shuffled_ranked}
use Rattle.market.specs.declared.side.Side.{Side}
use Rattle.market.specs.declared.side.Side.TheVariants.{Buy, Sell}
use Rattle.market.specs.Markets.{no_quote}
use Rattle.market.specs.Prices.{Permitted}
use Rattle.orders.specs.declared.row.OrderRow.{OrderRow}
use Rattle.orders.specs.Rows.{is_whole}
use Rattle.routing.specs.Tickets.{empty_ticket}
use Rattle.engine.specs.declared.state.Engine.{Engine}
use Rattle.engine.specs.Limits.{quote_rows, ticket_rows}
use Rattle.engine.specs.Stages.{is_acceptance}
use Rattle.engine.specs.States.{TableRows}
use Rattle.engine.specs.Effects.{ahead_on}
use Rattle.auction.specs.Histories.{History, fresh, more}
use Rattle.auction.specs.Laws.{Whole, OneEach, Fit, TablesTally, Unbegun, NoQuotesYet, Standing}
use Rattle.auction.specs.Tallies.{Tally, first_tally}
use Rattle.auction.specs.Posts.{Posts}
use Rattle.auction.proofs.Good.{Numbers, Sized, SideGood, other_tables, Running, Kept}
use Rattle.auction.proofs.Used.{table_empty, in_use, bids_in_use, offers_in_use, tickets_in_use}
use Rattle.auction.proofs.Ranking.{sorted_on}
use Rattle.auction.proofs.Going.{fresh_kept}
use Rattle.auction.proofs.Granting.{after_call}

pub run_kept : {e : Engine} {h : TableRows} {y : Tally} {p : Posts} → History e h y p → Kept e h y
run_kept (fresh issue h) = fresh_kept issue h
run_kept (more m call left run called) = (after_call _ m _ _ (run_kept run) call left called).kept

each_whole : (ws : List OrderRow) → AllByRecursion (λ w. is_whole w ≡ true) ws → AllByRecursion Whole ws
each_whole ws a = All-weaker (λ w. is_whole w ≡ true) Whole (λ w h. eqb-true _ _ h) ws a

one_each : (ws : List OrderRow) → Numbers ws → OneEach ws
one_each [] n = tt
one_each (w ∷ ws) n = (n.0, one_each ws n.1)

each_fit : (ws : List OrderRow) → AllByRecursion (λ w. Permitted w.price) ws → AllByRecursion Sized ws → AllByRecursion Fit ws
each_fit [] p s = tt
each_fit (w ∷ ws) p s = (record { number = s.0.number; class = s.0.class; price = p.0; least = s.0.least; most = s.0.most }, each_fit ws p.1 s.1)

-- the rows in use of a side are its orders, in rank order
module _ (side : Side) (used : ℕ) (rows ws : List OrderRow) (good : SideGood side used rows ws) where
  in_use_sorted : Sorted (ahead_on side) (take used rows)
  in_use_sorted = subst (Sorted (ahead_on side)) (sym (in_use side used rows ws good)) (sorted_on side ws)

  in_use_listed : IsPermutation ws (take used rows)
  in_use_listed = subst (IsPermutation ws) (sym (in_use side used rows ws good)) (shuffled_ranked (ahead_on side) ws)

module _ (e : Engine) (h : TableRows) (y : Tally) (r : Running e h y) where
  running_tables : TablesTally e h y
  running_tables = record {
    stage = r.good.stage_is;
    fixed = r.good.fixed_is;
    buys_used = r.good.buys.used_is;
    sells_used = r.good.sells.used_is;
    bids_used = r.good.others.bids.used_is;
    offers_used = r.good.others.offers.used_is;
    tickets_used = r.good.others.tickets.used_is;
    buys = r.good.buys.rows_is;
    sells = r.good.sells.rows_is;
    bids = r.good.others.bids.rows_are;
    offers = r.good.others.offers.rows_are;
    tickets = r.good.others.tickets.rows_are;
    buys_sorted = in_use_sorted Buy e.used.buys h.buys y.buys r.good.buys;
    sells_sorted = in_use_sorted Sell e.used.sells h.sells y.sells r.good.sells;
    buys_listed = in_use_listed Buy e.used.buys h.buys y.buys r.good.buys;
    sells_listed = in_use_listed Sell e.used.sells h.sells y.sells r.good.sells;
    bids_in_use = bids_in_use e h y r.good;
    offers_in_use = offers_in_use e h y r.good;
    tickets_in_use = tickets_in_use e h y r.good;
  }

  running_unquoted : y.quotes_noted ≡ false → NoQuotesYet h y
  running_unquoted k =
      let none = r.tallied.noted.unquoted k in
      let tables = other_tables e.used h y in
      record {
        bids = none.bids;
        offers = none.offers;
        tickets = none.tickets;
        bid_rows = table_empty quote_rows no_quote tables.bids r.good.others.bids none.bids;
        offer_rows = table_empty quote_rows no_quote tables.offers r.good.others.offers none.offers;
        ticket_rows_empty = table_empty ticket_rows empty_ticket tables.tickets r.good.others.tickets none.tickets;
      }

  running_standing : Standing e h y
  running_standing = record {
    tables = λ _. running_tables;
    unbegun = λ k. absurd (both_ways y.begun k r.begun);
    buys_whole = each_whole y.buys r.good.buys.whole;
    sells_whole = each_whole y.sells r.good.sells.whole;
    buys_fit = each_fit y.buys r.good.buys.priced r.good.buys.sized;
    sells_fit = each_fit y.sells r.good.sells.priced r.good.sells.sized;
    buys_out = r.out.buys;
    sells_out = r.out.sells;
    buys_numbered = one_each y.buys r.good.buys.numbered;
    sells_numbered = one_each y.sells r.good.sells.numbered;
    sides_apart = r.good.sides_apart;
    bought = r.tallied.bought;
    sold = r.tallied.sold;
    even = r.good.even;
    accepting = λ closes is. r.tallied.noted.accepting (ap is_acceptance is);
    unquoted = λ _. running_unquoted;
    bids_sorted = r.tallied.noted.bids_sorted;
    offers_sorted = r.tallied.noted.offers_sorted;
    few = r.good.others.tickets_few;
    some_shares = r.tallied.noted.some_shares;
  }

start_standing : (e : Engine) (h : TableRows) → Unbegun e first_tally → Standing e h first_tally
start_standing e h none = record {
  tables = λ k. absurd (false≢true k);
  unbegun = λ _. none;
  buys_whole = tt;
  sells_whole = tt;
  buys_fit = tt;
  sells_fit = tt;
  buys_out = tt;
  sells_out = tt;
  buys_numbered = tt;
  sells_numbered = tt;
  sides_apart = tt;
  bought = refl;
  sold = refl;
  even = refl;
  accepting = λ closes is. refl;
  unquoted = λ k. absurd (false≢true k);
  bids_sorted = tt;
  offers_sorted = tt;
  few = omega arith;
  some_shares = tt;
}

pub run_standing : {e : Engine} {h : TableRows} {y : Tally} {p : Posts} → History e h y p → Standing e h y
run_standing {e} {h} {y} run = elim (cases_Bool y.begun) [
  | inl begun ↦ running_standing e h y ((run_kept run).running begun)
  | inr none ↦
      let is = (run_kept run).fresh none in
      subst (Standing e h) (sym is.empty) (start_standing e h (record { open_stage = is.open_stage; unfixed = is.unfixed; none = is.none; empty = refl }))
]
