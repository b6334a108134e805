-- The tickets of a close go to quotes at its price or better.
use Rattle.std.proofs.Common.{◌≡◌, ℕ, Ok, min, zero, suc, ◌+◌, ◌-◌, ◌<◌, ◌≤◌, Bool, true, false, cond, ◌&&◌, eqb, ltb, leb, List, [], ◌∷◌, length, get_or, sum_by, sym, ap, refl, ◌∙◌, subst, inl, inr, arith}
use Rattle.std.specs.List.{AllByRecursion, Any, list_any}
use Rattle.std.proofs.ByRecursion.{All-map, All-weaker, All-append, All-get_or, All-from_get_or}
use Rattle.std.proofs.lemmas.List.{length-map, get_or_default, get_or-map}
use Rattle.std.proofs.lemmas.List.Folds.{list_any-from_Any}
use Rattle.std.proofs.lemmas.List.Sorted.{list_any-IsPermutation, IsPermutation-sym}
use Rattle.std.proofs.lemmas.List.Sums.{sum_by-cons, sum_by-le-sum_by}
use Rattle.std.proofs.lemmas.Bool.{cases_Bool, eq-eqb, eqb-true, leb-true, and_from, and_parts, cond-false}
use Rattle.std.proofs.lemmas.Bool.Decides.{nat_tests}
use Rattle.ranking.specs.Ranked.{ranked, Sorted}
use Rattle.ranking.proofs.Ranks.{sum_ranked, shuffled_ranked, sorted_ranked}
use Rattle.market.specs.declared.quote.Quote.{Quote}
use Rattle.market.specs.declared.side.Side.{Side}
use Rattle.market.specs.declared.side.Side.TheVariants.{Buy, Sell}
use Rattle.market.specs.Fits.{quotes_fit}
use Rattle.market.specs.Markets.{Market, no_quote}
use Rattle.pricing.specs.Counting.{counting_market}
use Rattle.pricing.specs.Books.{Book, count_at, executable_at}
use Rattle.pricing.specs.Candidates.{Clears}
use Rattle.pricing.specs.Outcomes.{IsOutcome, best_on, reference, touching}
use Rattle.pricing.proofs.Choosing.{price_clears}
use Rattle.pricing.proofs.Levels.{sum_by_map, sum_by_none}
use Rattle.orders.specs.declared.row.OrderRow.{OrderRow}
use Rattle.orders.specs.Rows.{empty_row, is_whole, with_out}
use Rattle.orders.specs.Tables.{rest_levels}
use Rattle.routing.specs.declared.ticket.Ticket.{Ticket}
use Rattle.routing.specs.Owed.{reach_part, reach, quoted_better, better_part, owed, owed_of}
use Rattle.routing.proofs.CloseTickets.{sells_owe_none, buys_owe_none}
use Rattle.routing.proofs.Owing.{one_side_owes, owed_within, counted_lem, beyond_lem}
use Rattle.routing.proofs.Sums.{shares_before-cons}
use Rattle.routing.proofs.Totals.{tickets_all}
use Rattle.routing.specs.Shares.{Tie, shares_before, cell, put, line, lines, ties}
use Rattle.routing.specs.Tickets.{empty_ticket, rests, sizes, ticket_of, tickets}
use Rattle.routing.proofs.Tied.{ties_orders}
use Rattle.engine.specs.Effects.{ahead_on, ranked_bids, ranked_offers}
use Rattle.auction.specs.Tallies.{Tally, book_by, tickets_by, routed}
use Rattle.auction.specs.Laws.{at_or_better, Sends, quote_first, QuotesInRank, SideSends, OneSideSends}
use Rattle.auction.proofs.Good.{Numbers}
use Rattle.auction.proofs.Handing.{out_takes}
use Rattle.auction.proofs.Outs.{offers_have, bids_have}
use Rattle.auction.proofs.RankOrder.{not_itself}
use Rattle.auction.proofs.Reaching.{executable_left}
use Rattle.auction.proofs.Taken.{ties_whole}
use Rattle.auction.proofs.Ticketing.{quote_apart, quote_through, quote_level, total_rests, buys_enough, sells_enough}

-- a tie of a line that begins at quote j, with b quoted ahead of it: its quote is one of them, and
-- starts within the first n shares
pub record Within (n j b : ℕ) (ss : List ℕ) (t : Tie) : Type 0 where
  pub least : j ≤ t.quote
  pub most : t.quote - j < length ss
  pub starts : b + shares_before ss (t.quote - j) < n

later : (n j b s : ℕ) (ss : List ℕ) (t : Tie) → Within n (j + 1) (b + s) ss t → Within n j b (s ∷ ss) t
later n j b s ss t w =
    let k : ℕ = t.quote - (j + 1) in
    let l = w.least in
    let m = w.most in
    let e : t.quote - j ≡ suc k = omega arith in
    record {
      least = omega arith;
      most = omega arith;
      starts = rw e (omega (arith, w.starts, shares_before-cons s ss k));
    }

put_within : (n i a r j b s : ℕ) (ss : List ℕ) (c : ℕ) → c ≡ cell n a r b s → (ts : List Tie) → AllByRecursion (Within n j b (s ∷ ss)) ts → AllByRecursion (Within n j b (s ∷ ss)) (put i j c ts)
put_within n i a r j b s ss zero is ts all = all
put_within n i a r j b s ss (suc c) is ts all =
    let e : j - j ≡ 0 = omega arith in
    (record { least = omega arith; most = omega arith; starts = rw e (omega (arith, is)) }, all)

line_within : (n i a r j b : ℕ) (ss : List ℕ) → AllByRecursion (Within n j b ss) (line n i a r j b ss)
line_within n i a r j b [] = tt
line_within n i a r j b (s ∷ ss) = put_within n i a r j b s ss (cell n a r b s) refl (line n i a r (j + 1) (b + s) ss)
    (All-weaker (Within n (j + 1) (b + s) ss) (Within n j b (s ∷ ss)) (later n j b s ss) (line n i a r (j + 1) (b + s) ss) (line_within n i a r (j + 1) (b + s) ss))

lines_within : (n i a : ℕ) (rs : List ℕ) (j b : ℕ) (ss : List ℕ) → AllByRecursion (Within n j b ss) (lines n i a rs j b ss)
lines_within n i a [] j b ss = tt
lines_within n i a (r ∷ rs) j b ss = All-append (Within n j b ss) (line n i a r j b ss) (lines n (i + 1) (a + r) rs j b ss) (line_within n i a r j b ss) (lines_within n (i + 1) (a + r) rs j b ss)

-- which quotes are at a price or better
abbrev good : Side → ℕ → Quote → Bool
good Buy p x = leb x.price p
good Sell p x = leb p x.price

sorted_quotes : (side : Side) (xs : List Quote) → Sorted (quote_first side) (ranked (quote_first side) xs)
sorted_quotes side xs = sorted_ranked (quote_first side) (quote_apart side) (quote_through side) (quote_level side) xs

-- what does not go ahead of a quote that is worse than a price is worse too, and adds nothing to
-- what is quoted to it
worse_later : (side : Side) (p : ℕ) (x y : Quote) → good side p x ≡ false → quote_first side y x ≡ false → reach_part side p y ≡ 0
worse_later Buy p x y h k = grind (arith, nat_tests)
worse_later Sell p x y h k = grind (arith, nat_tests)

worse_none : (side : Side) (p : ℕ) (x : Quote) → good side p x ≡ false → reach_part side p x ≡ 0
worse_none Buy p x h = grind (arith, nat_tests)
worse_none Sell p x h = grind (arith, nat_tests)

part_most : (side : Side) (p : ℕ) (x : Quote) → reach_part side p x ≤ x.shares
part_most Buy p x = grind (arith, nat_tests)
part_most Sell p x = grind (arith, nat_tests)

better_reaches : (side : Side) (p : ℕ) (x : Quote) → better_part side p x ≤ reach_part side p x
better_reaches Buy p x = grind (arith, nat_tests)
better_reaches Sell p x = grind (arith, nat_tests)

-- all that is quoted at a price or better stands before a quote that is worse
reached_before : (side : Side) (p : ℕ) (xs : List Quote) → Sorted (quote_first side) xs → (k : ℕ) → k < length xs → good side p (get_or xs k no_quote) ≡ false
    → sum_by (reach_part side p) xs ≤ shares_before (sizes xs) k
reached_before side p [] s k l h = absurd (omega arith)
reached_before side p (x ∷ xs) s zero l h = omega (
  arith,
  sum_by-cons (reach_part side p) x xs,
  worse_none side p x h,
  sum_by_none (λ y. quote_first side y x ≡ false) (reach_part side p) (λ y k. worse_later side p x y h k) xs s.0,
)
reached_before side p (x ∷ xs) s (suc k) l h = omega (
  arith,
  sum_by-cons (reach_part side p) x xs,
  shares_before-cons x.shares (sizes xs) k,
  part_most side p x,
  reached_before side p xs s.1 k (omega arith) h,
)

good_price : (side : Side) (p : ℕ) (x : Quote) → good side p x ≡ true → at_or_better side p x.price
good_price Buy p x h = leb-true x.price p h
good_price Sell p x h = leb-true p x.price h

at_place : {X : Type 0} (p : X → Bool) (xs : List X) (k : ℕ) (d : X) → k < length xs → p (get_or xs k d) ≡ true → list_any p xs ≡ true
at_place p xs k d l h = list_any-from_Any p xs (k, get_or xs k d, l, get_or_default xs k (get_or xs k d) d l, h)

-- what is ahead of a quote stays so where one that is no later is looked at
first_up : (side : Side) (q x y : Quote) → quote_first side y x ≡ false → quote_first side y q ≡ true → quote_first side x q ≡ true
first_up Buy q x y h k = grind (arith, nat_tests)
first_up Sell q x y h k = grind (arith, nat_tests)

-- all that is ahead of a quote stands before it
ahead_before : (side : Side) (xs : List Quote) → Sorted (quote_first side) xs → (k : ℕ) → k < length xs
    → sum_by (λ y. cond (quote_first side y (get_or xs k no_quote)) y.shares 0) xs ≤ shares_before (sizes xs) k
ahead_before side [] s k l = absurd (omega arith)
ahead_before side (x ∷ xs) s zero l = omega (
  arith,
  sum_by-cons (λ y. cond (quote_first side y x) y.shares 0) x xs,
  cond-false (quote_first side x x) x.shares 0 (not_itself (quote_first side) (λ y. y.shares) (quote_apart side) x),
  sum_by_none (λ y. quote_first side y x ≡ false) (λ y. cond (quote_first side y x) y.shares 0) (λ y h. cond-false (quote_first side y x) y.shares 0 h) xs s.0,
)
ahead_before side (x ∷ xs) s (suc k) l =
    let q : Quote = get_or xs k no_quote in
    omega (
      arith,
      sum_by-cons (λ y. cond (quote_first side y q) y.shares 0) x xs,
      shares_before-cons x.shares (sizes xs) k,
      cond_most (quote_first side x q) x.shares,
      ahead_before side xs s.1 k (omega arith),
    )
  where
    cond_most : (t : Bool) (n : ℕ) → cond t n 0 ≤ n
    cond_most true n = omega arith
    cond_most false n = omega arith

-- quotes of one venue and price rank alike
same_first : (side : Side) (x y q r : Quote) → y.venue ≡ x.venue → y.price ≡ x.price → r.venue ≡ q.venue → r.price ≡ q.price → quote_first side x q ≡ true → quote_first side y r ≡ true
same_first Buy x y q r a b c d h = grind (arith, nat_tests)
same_first Sell x y q r a b c d h = grind (arith, nat_tests)

module _ (side : Side) (p n : ℕ) (ws : List OrderRow) (xs : List Quote) (few : n ≤ reach side p xs) (enough : n ≤ sum_by (λ w. w.rest) (ranked (ahead_on side) ws)) where
  abbrev rows : List OrderRow
  rows = ranked (ahead_on side) ws

  abbrev quotes : List Quote
  quotes = ranked (quote_first side) xs

  few_ranked : n ≤ sum_by (reach_part side p) quotes
  few_ranked = omega (arith, sum_ranked (quote_first side) (reach_part side p) xs, few)

  tie_sends : (t : Tie) → t.order < length rows → Within n 0 0 (sizes quotes) t → Sends side p ws xs (ticket_of rows quotes t)
  tie_sends t o w =
      let q : ℕ = t.quote - 0 in
      let e : t.quote - 0 ≡ t.quote = omega arith in
      let l : t.quote < length quotes = omega (arith, w.most, length-map quotes (λ x. x.shares)) in
      let x : Quote = get_or quotes t.quote no_quote in
      record {
        order =
            sym (list_any-IsPermutation (λ v. eqb v.number (get_or rows t.order empty_row).number) rows ws (IsPermutation-sym ws rows (shuffled_ranked (ahead_on side) ws)))
            ∙ at_place (λ v. eqb v.number (get_or rows t.order empty_row).number) rows t.order empty_row o (eq-eqb (get_or rows t.order empty_row).number (get_or rows t.order empty_row).number refl);
        quote =
            sym (list_any-IsPermutation (λ y. eqb y.venue x.venue && eqb y.price x.price) quotes xs (IsPermutation-sym xs quotes (shuffled_ranked (quote_first side) xs)))
            ∙ at_place (λ y. eqb y.venue x.venue && eqb y.price x.price) quotes t.quote no_quote l (and_from (eqb x.venue x.venue) (eqb x.price x.price) (eq-eqb x.venue x.venue refl) (eq-eqb x.price x.price refl));
        good = elim (cases_Bool (good side p x)) [
          | inl reached ↦ good_price side p x reached
          | inr worse ↦ absurd (omega (arith, few_ranked, reached_before side p quotes (sorted_quotes side xs) t.quote l worse, subst (λ k. 0 + shares_before (sizes quotes) k < n) e w.starts))
        ];
      }

  tickets_send : AllByRecursion (Sends side p ws xs) (tickets n rows quotes)
  tickets_send =
      let ts : List Tie = ties n (rests rows) (sizes quotes) in
      let named = subst (λ k. AllByRecursion (λ t. t.order < k) ts) (length-map rows (λ w. w.rest)) (ties_orders n (rests rows) (sizes quotes)) in
      let within = lines_within n 0 0 (rests rows) 0 0 (sizes quotes) in
      All-map (Sends side p ws xs) (ticket_of rows quotes) ts
      (All-from_get_or (λ t. Sends side p ws xs (ticket_of rows quotes t)) ts no_tie (λ i h.
      tie_sends (get_or ts i no_tie) (All-get_or (λ t. t.order < length rows) ts i no_tie h named) (All-get_or (Within n 0 0 (sizes quotes)) ts i no_tie h within)))
    where
      no_tie : Tie
      no_tie = record { order = 0; quote = 0; shares = 0 }

  -- the quotes are taken in rank order
  quotes_ranked : QuotesInRank side xs (tickets n rows quotes)
  quotes_ranked k i j lk li lj venue price ahead =
      let ts : List Tie = ties n (rests rows) (sizes quotes) in
      let l : k < length ts = omega (arith, length-map ts (ticket_of rows quotes)) in
      let t : Tie = get_or ts k no_tie in
      let at : get_or (tickets n rows quotes) k empty_ticket ≡ ticket_of rows quotes t = get_or-map (ticket_of rows quotes) ts k no_tie empty_ticket l in
      let w = All-get_or (Within n 0 0 (sizes quotes)) ts k no_tie l (lines_within n 0 0 (rests rows) 0 0 (sizes quotes)) in
      let e : t.quote - 0 ≡ t.quote = omega arith in
      let lq : t.quote < length quotes = omega (arith, w.most, length-map quotes (λ x. x.shares)) in
      let q : Quote = get_or quotes t.quote no_quote in
      let r : Quote = get_or xs i no_quote in
      let x : Quote = get_or xs j no_quote in
      let q-venue : q.venue ≡ r.venue = sym (ap (λ u. u.venue) at) ∙ venue in
      let q-price : q.price ≡ r.price = sym (ap (λ u. u.price) at) ∙ price in
      let here : Quote → Bool = λ y. eqb y.venue x.venue && eqb y.price x.price in
      let within : (y : Quote) → here y ≡ true → quote_first side y q ≡ true = λ y h.
      let both = and_parts (eqb y.venue x.venue) (eqb y.price x.price) h in
      same_first side x y r q (eqb-true y.venue x.venue both.0) (eqb-true y.price x.price both.1) q-venue q-price ahead in
      sum_by_map (λ u. cond (eqb u.venue x.venue && eqb u.price x.price) u.shares 0) (ticket_of rows quotes) ts
      ∙ ties_whole here (quote_first side) (λ y. quote_first side y q) (first_up side q) within n (rests rows) (omega (arith, total_rests rows, enough)) quotes
      (sorted_quotes side xs) (omega (arith, ahead_before side quotes (sorted_quotes side xs) t.quote lq, subst (λ m. 0 + shares_before (sizes quotes) m < n) e w.starts))
      ∙ sum_ranked (quote_first side) (λ y. cond (here y) y.shares 0) xs
    where
      no_tie : Tie
      no_tie = record { order = 0; quote = 0; shares = 0 }

  side_sends : SideSends side p ws xs (tickets n rows quotes)
  side_sends = record { each = tickets_send; ranked_quotes = quotes_ranked }

  -- where a ticket is at the price itself, more is routed than is quoted better
  past_better : (k : ℕ) → k < length (tickets n rows quotes) → (get_or (tickets n rows quotes) k empty_ticket).price ≡ p → quoted_better side p xs < n
  past_better k lk price =
      let ts : List Tie = ties n (rests rows) (sizes quotes) in
      let l : k < length ts = omega (arith, length-map ts (ticket_of rows quotes)) in
      let t : Tie = get_or ts k no_tie in
      let at : get_or (tickets n rows quotes) k empty_ticket ≡ ticket_of rows quotes t = get_or-map (ticket_of rows quotes) ts k no_tie empty_ticket l in
      let w = All-get_or (Within n 0 0 (sizes quotes)) ts k no_tie l (lines_within n 0 0 (rests rows) 0 0 (sizes quotes)) in
      let e : t.quote - 0 ≡ t.quote = omega arith in
      let lq : t.quote < length quotes = omega (arith, w.most, length-map quotes (λ x. x.shares)) in
      let q : Quote = get_or quotes t.quote no_quote in
      let q-price : q.price ≡ p = sym (ap (λ u. u.price) at) ∙ price in
      omega (
        arith,
        sum_ranked (quote_first side) (better_part side p) xs,
        sum_by-le-sum_by (better_part side p) (λ y. cond (quote_first side y q) y.shares 0) quotes (λ y. better_first_of side p q y q-price),
        ahead_before side quotes (sorted_quotes side xs) t.quote lq,
        subst (λ m. 0 + shares_before (sizes quotes) m < n) e w.starts,
      )
    where
      no_tie : Tie
      no_tie = record { order = 0; quote = 0; shares = 0 }

      better_first_of : (side : Side) (p : ℕ) (q y : Quote) → q.price ≡ p → better_part side p y ≤ cond (quote_first side y q) y.shares 0
      better_first_of Buy p q y h = grind (arith, nat_tests)
      better_first_of Sell p q y h = grind (arith, nat_tests)

owed_reach : (side : Side) (p own other : ℕ) (xs : List Quote) → owed_of (quoted_better side p xs) (reach side p xs) own other ≤ reach side p xs
owed_reach side p own other xs = omega (arith, sum_by-le-sum_by (better_part side p) (reach_part side p) xs (better_reaches side p))

-- by the side that owes, of orders that are whole and have numbers of their own
module _ (y : Tally) (m : Market) (fit : quotes_fit (counting_market m) ≡ true) (p deadline : ℕ) (apart : touching (best_on Buy (book_by y m)) (best_on Sell (book_by y m)) ≡ false)
    (clears : Clears (book_by y m) p)
    (buys-whole : AllByRecursion (λ w. is_whole w ≡ true) y.buys) (buys-numbered : Numbers y.buys)
    (sells-whole : AllByRecursion (λ w. is_whole w ≡ true) y.sells) (sells-numbered : Numbers y.sells) where
  abbrev book : Book
  book = book_by y m

  abbrev after : Tally
  after = routed p deadline m y

  abbrev buy_tickets : List Ticket
  buy_tickets = tickets (owed Buy book p) (ranked (ahead_on Buy) y.buys) (ranked_offers (counting_market m))

  abbrev sell_tickets : List Ticket
  sell_tickets = tickets (owed Sell book p) (ranked (ahead_on Sell) y.sells) (ranked_bids (counting_market m))

  -- what each side can execute afterwards
  buys_left : executable_at Buy p (rest_levels after.buys) + owed Buy book p ≡ executable_at Buy p (rest_levels y.buys)
  buys_left = executable_left with_out out_takes Buy p (owed Buy book p) y.buys (owed_within Buy book p apart clears) buys-whole buys-numbered

  sells_left : executable_at Sell p (rest_levels after.sells) + owed Sell book p ≡ executable_at Sell p (rest_levels y.sells)
  sells_left = executable_left with_out out_takes Sell p (owed Sell book p) y.sells (owed_within Sell book p apart clears) sells-whole sells-numbered

  sends_by : (t : Bool) → ltb 0 (owed Buy book p) ≡ t → (ts : List Ticket) → ts ≡ cond t buy_tickets sell_tickets → OneSideSends p y m (record after { tickets = ts })
  sends_by true t ts is =
      let send = side_sends Buy p (owed Buy book p) y.buys (counting_market m).offers (owed_reach Buy p _ _ (counting_market m).offers) (buys_enough y m fit p apart clears) in
      inl (
        subst (SideSends Buy p y.buys (counting_market m).offers) (sym is) send,
        λ a.
            let k = subst (λ us. Any (λ u. u.price ≡ p) us) is a in
            let past = past_better Buy p (owed Buy book p) y.buys (counting_market m).offers (owed_reach Buy p _ _ (counting_market m).offers) (buys_enough y m fit p apart clears) k.0 k.2
            (ap (λ u. u.price) (get_or_default buy_tickets k.0 empty_ticket k.1 k.2 ∙ k.3) ∙ k.4) in
            omega (arith, (beyond_lem book p).0 past, buys_left, sells_left),
      )
  sends_by false f ts is =
      let send = side_sends Sell p (owed Sell book p) y.sells (counting_market m).bids (owed_reach Sell p _ _ (counting_market m).bids) (sells_enough y m fit p apart clears) in
      inr (
        subst (SideSends Sell p y.sells (counting_market m).bids) (sym is) send,
        λ a.
            let k = subst (λ us. Any (λ u. u.price ≡ p) us) is a in
            let past = past_better Sell p (owed Sell book p) y.sells (counting_market m).bids (owed_reach Sell p _ _ (counting_market m).bids) (sells_enough y m fit p apart clears) k.0 k.2
            (ap (λ u. u.price) (get_or_default sell_tickets k.0 empty_ticket k.1 k.2 ∙ k.3) ∙ k.4) in
            omega (arith, (beyond_lem book p).1 past, buys_left, sells_left),
      )

  sends_at : OneSideSends p y m after
  sends_at = sends_by (ltb 0 (owed Buy book p)) refl (tickets_by y m p) refl

  -- the shares on all tickets
  ticketed_by : (t : Bool) → ltb 0 (owed Buy book p) ≡ t → sum_by (λ u. u.shares) (cond t buy_tickets sell_tickets) ≡ owed Buy book p + owed Sell book p
  ticketed_by true t = omega (
    arith,
    tickets_all (owed Buy book p) (ranked (ahead_on Buy) y.buys) (ranked_offers (counting_market m)) (omega (arith, total_rests (ranked (ahead_on Buy) y.buys), buys_enough y m fit p apart clears)) (offers_have y m p),
    sells_owe_none book p (one_side_owes book p apart) t,
  )
  ticketed_by false f = omega (
    arith,
    tickets_all (owed Sell book p) (ranked (ahead_on Sell) y.sells) (ranked_bids (counting_market m)) (omega (arith, total_rests (ranked (ahead_on Sell) y.sells), sells_enough y m fit p apart clears)) (bids_have y m p),
    buys_owe_none book p (one_side_owes book p apart) f,
  )

  counted_at : count_at book p ≡ sum_by (λ t. t.shares) after.tickets + min (executable_at Buy p (rest_levels after.buys)) (executable_at Sell p (rest_levels after.sells))
  counted_at = omega (arith, counted_lem book p apart clears, ticketed_by (ltb 0 (owed Buy book p)) refl, buys_left, sells_left)

-- a close that fixed a price
pub record Sent (y : Tally) (m : Market) (deadline : ℕ) (x : ℕ × ℕ) : Type 0 where
  pub sends : OneSideSends x.0 y m (routed x.0 deadline m y)
  pub counted : x.1 ≡ sum_by (λ t. t.shares) (routed x.0 deadline m y).tickets
      + min (executable_at Buy x.0 (rest_levels (routed x.0 deadline m y).buys)) (executable_at Sell x.0 (rest_levels (routed x.0 deadline m y).sells))

pub close_sends : (y : Tally) (m : Market) → quotes_fit (counting_market m) ≡ true → (deadline last : ℕ) (x : ℕ × ℕ) → IsOutcome m.halted (book_by y m) last (Ok x)
    → AllByRecursion (λ w. is_whole w ≡ true) y.buys → Numbers y.buys → AllByRecursion (λ w. is_whole w ≡ true) y.sells → Numbers y.sells → Sent y m deadline x
close_sends y m fit deadline last x closing bw bn sw sn =
    let apart = closing.0.apart in
    let clears = price_clears (book_by y m) (reference (book_by y m) last) x.0 closing.1.1.price_is in
    record {
      sends = sends_at y m fit x.0 deadline apart clears bw bn sw sn;
      counted = closing.1.1.count_is ∙ counted_at y m fit x.0 deadline apart clears bw bn sw sn;
    }
