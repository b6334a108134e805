-- Where a close tickets an order, no order ahead of it is left with rest.
use Rattle.std.proofs.Common.{◌≡◌, ℕ, ◌<◌, ◌≤◌, false, cond, not, ◌&&◌, eqb, ltb, List, [], length, get_or, refl, ap, ◌∙◌, subst, arith}
use Rattle.std.specs.List.{AllByRecursion}
use Rattle.std.proofs.ByRecursion.{All-get_or, All-map, All-from_get_or}
use Rattle.std.proofs.lemmas.List.{get_or-map, length-map}
use Rattle.std.proofs.lemmas.List.Sums.{get_or-le-sum_by}
use Rattle.std.proofs.lemmas.Bool.{eq-eqb, cond_both}
use Rattle.ranking.specs.Ranked.{ranked}
use Rattle.market.specs.declared.quote.Quote.{Quote}
use Rattle.market.specs.declared.side.Side.{Side}
use Rattle.market.specs.declared.side.Side.TheVariants.{Buy, Sell}
use Rattle.market.specs.Markets.{Market}
use Rattle.pricing.specs.Counting.{counting_market}
use Rattle.orders.specs.declared.row.OrderRow.{OrderRow}
use Rattle.orders.specs.Rows.{empty_row, with_out}
use Rattle.routing.specs.declared.ticket.Ticket.{Ticket}
use Rattle.routing.specs.Owed.{owed}
use Rattle.routing.specs.Shares.{Tie, ties}
use Rattle.routing.specs.Tickets.{empty_ticket, rests, sizes, ticket_of, tickets}
use Rattle.engine.specs.Effects.{ahead_on, ranked_bids, ranked_offers}
use Rattle.auction.specs.Tallies.{Tally, share_of, handed_out, book_by, routed}
use Rattle.auction.specs.Laws.{InRank, out_on, OutOnTickets, TicketedInRank, TicketOrder}
use Rattle.auction.proofs.Good.{Out}
use Rattle.auction.proofs.RankOrder.{routed_in_rank}

-- new tickets are not reported
tickets_new : (n : ℕ) (rows : List OrderRow) (quotes : List Quote) → AllByRecursion (λ t. t.reported ≡ false) (tickets n rows quotes)
tickets_new n rows quotes = All-map (λ t. t.reported ≡ false) (ticket_of rows quotes) (ties n (rests rows) (sizes quotes))
    (All-from_get_or (λ t. (ticket_of rows quotes t).reported ≡ false) (ties n (rests rows) (sizes quotes)) no_tie (λ i h. refl))
  where
    no_tie : Tie
    no_tie = record { order = 0; quote = 0; shares = 0 }

pub routed_new : (y : Tally) (m : Market) (p deadline : ℕ) → AllByRecursion (λ t. t.reported ≡ false) (routed p deadline m y).tickets
routed_new y m p deadline = cond_both (ltb 0 (owed Buy (book_by y m) p)) _ _ (AllByRecursion (λ t. t.reported ≡ false))
    (λ _. tickets_new (owed Buy (book_by y m) p) (ranked (ahead_on Buy) y.buys) (ranked_offers (counting_market m)))
    (λ _. tickets_new (owed Sell (book_by y m) p) (ranked (ahead_on Sell) y.sells) (ranked_bids (counting_market m)))

-- an order that an unreported ticket of some shares names has shares on tickets
module _ (ts : List Ticket) (some : AllByRecursion (λ t. 1 ≤ t.shares) ts) (new : AllByRecursion (λ t. t.reported ≡ false) ts) where
  named_out : (n k : ℕ) → k < length ts → (get_or ts k empty_ticket).order ≡ n → 1 ≤ out_on n ts
  named_out n k l is =
      let on : Ticket → ℕ = λ t. cond (eqb t.order n && not t.reported) t.shares 0 in
      let t : Ticket = get_or ts k empty_ticket in
      let names : on t ≡ t.shares = ap (λ b. cond (b && not t.reported) t.shares 0) (eq-eqb t.order n is) ∙ ap (λ b. cond (not b) t.shares 0) (All-get_or (λ u. u.reported ≡ false) ts k empty_ticket l new) in
      omega (arith, names, All-get_or (λ u. 1 ≤ u.shares) ts k empty_ticket l some, get_or-le-sum_by on ts k empty_ticket l)

  -- on a side whose orders had nothing out, and now have on their tickets what is out of them
  ticketed_side : (side : Side) (k : ℕ) (ws : List OrderRow) → AllByRecursion (OutOnTickets []) ws → AllByRecursion (OutOnTickets ts) (handed_out with_out side k ws)
      → InRank side (λ w. w.out) ws (handed_out with_out side k ws) → TicketedInRank side ts ws (handed_out with_out side k ws)
  ticketed_side side k ws none out rank t i j lt li lj names ahead =
      let after : OrderRow → OrderRow = λ w. with_out (share_of side k ws w) w in
      let w : OrderRow = get_or ws i empty_row in
      let at : get_or (handed_out with_out side k ws) i empty_row ≡ after w = get_or-map after ws i empty_row empty_row li in
      let now : i < length (handed_out with_out side k ws) = omega (arith, length-map ws after) in
      let is = All-get_or (OutOnTickets ts) (handed_out with_out side k ws) i empty_row now out in
      let was = All-get_or (OutOnTickets []) ws i empty_row li none in
      rank i j li lj ahead (omega (
        arith,
        is,
        was,
        named_out w.number t lt names,
        ap (λ v. out_on v.number ts) at,
      ))

pub routed_ticket_order : (y : Tally) (m : Market) (p deadline : ℕ) → Out y → y.tickets ≡ [] → Out (routed p deadline m y)
    → AllByRecursion (λ t. 1 ≤ t.shares) (routed p deadline m y).tickets → TicketOrder y (routed p deadline m y)
routed_ticket_order y m p deadline out none out' some =
    let ts : List Ticket = (routed p deadline m y).tickets in
    let new = routed_new y m p deadline in
    let rank = routed_in_rank p deadline m y in
    record {
      buys = ticketed_side ts some new Buy (owed Buy (book_by y m) p) y.buys (subst (λ us. AllByRecursion (OutOnTickets us) y.buys) none out.buys) out'.buys rank.buys;
      sells = ticketed_side ts some new Sell (owed Sell (book_by y m) p) y.sells (subst (λ us. AllByRecursion (OutOnTickets us) y.sells) none out.sells) out'.sells rank.sells;
    }
