-- A close that fixes a price tickets every better quote whole.
use Rattle.std.proofs.Common.{◌≡◌, ℕ, ◌+◌, ◌<◌, ◌≤◌, Bool, true, false, cond, ◌&&◌, eqb, ltb, leb, List, [], ◌∷◌, ◌++◌, length, get_or, Ok, sum_by, sym, refl, ap, ◌∙◌, subst, inl, inr, arith, sum}
use Rattle.std.specs.List.{AllByRecursion, list_all}
use Rattle.std.proofs.ByRecursion.{All-get_or, All-from_get_or}
use Rattle.std.proofs.lemmas.List.Sums.{sum_by-cons, sum_by-append, get_or-le-sum_by}
use Rattle.std.proofs.lemmas.Bool.{and_parts, eqb-true, leb-true, cases_lt, cond-true}
use Rattle.std.proofs.lemmas.Bool.Decides.{nat_tests}
use Rattle.ranking.specs.Ranked.{ranked}
use Rattle.ranking.proofs.Ranks.{sum_ranked, sorted_ranked}
use Rattle.market.specs.declared.quote.Quote.{Quote}
use Rattle.market.specs.declared.side.Side.{Side}
use Rattle.market.specs.declared.side.Side.TheVariants.{Buy, Sell}
use Rattle.market.specs.Fits.{quote_fits, side_fits, quotes_fit}
use Rattle.market.specs.Limits.{most_quotes, most_shares}
use Rattle.market.specs.Markets.{Market, no_quote}
use Rattle.market.specs.Prices.{permitted}
use Rattle.market.proofs.Fitting.{bids_fit, offers_fit}
use Rattle.pricing.specs.Counting.{counting_market}
use Rattle.pricing.specs.Candidates.{Clears}
use Rattle.pricing.specs.Outcomes.{IsOutcome, best_on, reference, touching}
use Rattle.pricing.proofs.Levels.{sum_by_map}
use Rattle.pricing.proofs.Choosing.{price_clears}
use Rattle.orders.specs.declared.row.OrderRow.{OrderRow}
use Rattle.routing.specs.Shares.{ties}
use Rattle.routing.specs.Owed.{quoted_better, owed}
use Rattle.routing.specs.Tickets.{rests, sizes, ticket_of, tickets, to_venue}
use Rattle.routing.proofs.Owing.{one_side_owes, owed_within}
use Rattle.routing.proofs.Sums.{sum-cons}
use Rattle.routing.proofs.CloseTickets.{none_ticketed}
use Rattle.engine.specs.Effects.{ahead_on, ranked_bids, ranked_offers}
use Rattle.auction.specs.Tallies.{Tally, book_by, routed}
use Rattle.auction.specs.Laws.{quoted_at, quote_first, TicketedWhole}
use Rattle.auction.proofs.Resting.{executable_within}
use Rattle.auction.proofs.Routed.{tickets_of, tickets_both}
use Rattle.auction.proofs.Taken.{ties_whole}

-- which of the quotes that a side takes are better than a price
abbrev is_better : Side → ℕ → Quote → Bool
is_better Buy p x = ltb x.price p
is_better Sell p x = ltb p x.price

pub quote_apart : (side : Side) (a b : Quote) → quote_first side a b ≡ true → quote_first side b a ≡ false
quote_apart Buy a b h = grind (arith, nat_tests)
quote_apart Sell a b h = grind (arith, nat_tests)

pub quote_through : (side : Side) (a b c : Quote) → quote_first side a b ≡ true → quote_first side b c ≡ true → quote_first side a c ≡ true
quote_through Buy a b c h k = grind (arith, nat_tests)
quote_through Sell a b c h k = grind (arith, nat_tests)

pub quote_level : (side : Side) (a b c : Quote) → quote_first side a b ≡ false → quote_first side b a ≡ false → quote_first side b c ≡ false
    → quote_first side c b ≡ false → quote_first side a c ≡ false
quote_level Buy a b c h k l m = grind (arith, nat_tests)
quote_level Sell a b c h k l m = grind (arith, nat_tests)

-- the better quotes rank first
better_first : (side : Side) (p : ℕ) (x y : Quote) → quote_first side y x ≡ false → is_better side p y ≡ true → is_better side p x ≡ true
better_first Buy p x y h t = grind (arith, nat_tests)
better_first Sell p x y h t = grind (arith, nat_tests)

better_sum : (side : Side) (p : ℕ) (xs : List Quote) → quoted_better side p xs ≡ sum_by (λ x. cond (is_better side p x) x.shares 0) xs
better_sum Buy p xs = refl
better_sum Sell p xs = refl

-- the quotes of one venue and price
abbrev stands : ℕ → ℕ → Quote → Bool
stands venue price x = eqb x.venue venue && eqb x.price price

same_better : (side : Side) (p : ℕ) (x y : Quote) → is_better side p x ≡ true → stands x.venue x.price y ≡ true → is_better side p y ≡ true
same_better side p x y t h = by_price side t (eqb-true y.price x.price (and_parts (eqb y.venue x.venue) (eqb y.price x.price) h).1)
  where
    by_price : (s : Side) → is_better s p x ≡ true → y.price ≡ x.price → is_better s p y ≡ true
    by_price Buy u e = subst (λ q. ltb q p ≡ true) (sym e) u
    by_price Sell u e = subst (λ q. ltb p q ≡ true) (sym e) u

pub total_rests : (rows : List OrderRow) → sum (rests rows) ≡ sum_by (λ w. w.rest) rows
total_rests [] = refl
total_rests (w ∷ ws) = omega (arith, sum-cons w.rest (rests ws), sum_by-cons (λ v. v.rest) w ws, total_rests ws)

-- where the orders have what is routed, and all that is quoted better is routed, the better quotes
-- are ticketed whole
side_whole : (side : Side) (p n : ℕ) (rows : List OrderRow) (xs : List Quote) → n ≤ sum_by (λ w. w.rest) rows → quoted_better side p xs ≤ n
    → (x : Quote) → is_better side p x ≡ true
    → to_venue x.venue x.price (tickets n rows (ranked (quote_first side) xs)) ≡ quoted_at x.venue x.price xs
side_whole side p n rows xs enough all x t =
    let ahead : Quote → Quote → Bool = quote_first side in
    let qs : List Quote = ranked ahead xs in
    let here : Quote → Bool = stands x.venue x.price in
    let B : Quote → ℕ = λ y. cond (is_better side p y) y.shares 0 in
    sum_by_map (λ k. cond (eqb k.venue x.venue && eqb k.price x.price) k.shares 0) (ticket_of rows qs) (ties n (rests rows) (sizes qs))
    ∙ ties_whole here ahead (is_better side p) (better_first side p) (λ y h. same_better side p x y t h) n (rests rows) (omega (arith, total_rests rows)) qs
    (sorted_ranked ahead (quote_apart side) (quote_through side) (quote_level side) xs) (omega (arith, sum_ranked ahead B xs, better_sum side p xs))
    ∙ sum_ranked ahead (λ y. cond (here y) y.shares 0) xs

-- quotes that fit have shares
quotes_shares : (xs : List Quote) → list_all quote_fits xs ≡ true → AllByRecursion (λ x. 1 ≤ x.shares) xs
quotes_shares [] h = tt
quotes_shares (x ∷ xs) h =
    let both = and_parts (quote_fits x) (list_all quote_fits xs) h in
    let some = and_parts (permitted x.price) (leb 1 x.shares && leb x.shares most_shares) both.0 in
    (leb-true 1 x.shares (and_parts (leb 1 x.shares) (leb x.shares most_shares) some.1).0, quotes_shares xs both.1)

some_better : (side : Side) (p : ℕ) (xs : List Quote) (i : ℕ) → i < length xs → side_fits xs ≡ true → is_better side p (get_or xs i no_quote) ≡ true → 0 < quoted_better side p xs
some_better side p xs i l fit t =
    let x : Quote = get_or xs i no_quote in
    let shares = All-get_or (λ y. 1 ≤ y.shares) xs i no_quote l (quotes_shares xs (and_parts (leb (length xs) most_quotes) (list_all quote_fits xs) fit).1) in
    omega (
      arith,
      shares,
      better_sum side p xs,
      get_or-le-sum_by (λ y. cond (is_better side p y) y.shares 0) xs i no_quote l,
      cond-true (is_better side p x) x.shares 0 t,
    )

module _ (y : Tally) (m : Market) (fit : quotes_fit (counting_market m) ≡ true) (p : ℕ) (apart : touching (best_on Buy (book_by y m)) (best_on Sell (book_by y m)) ≡ false)
    (clears : Clears (book_by y m) p) where
  pub buys_enough : owed Buy (book_by y m) p ≤ sum_by (λ w. w.rest) (ranked (ahead_on Buy) y.buys)
  buys_enough = omega (arith, owed_within Buy (book_by y m) p apart clears, executable_within Buy p y.buys, sum_ranked (ahead_on Buy) (λ w. w.rest) y.buys)

  pub sells_enough : owed Sell (book_by y m) p ≤ sum_by (λ w. w.rest) (ranked (ahead_on Sell) y.sells)
  sells_enough = omega (arith, owed_within Sell (book_by y m) p apart clears, executable_within Sell p y.sells, sum_ranked (ahead_on Sell) (λ w. w.rest) y.sells)

  on_both : (v q : ℕ) → to_venue v q (tickets_of Buy y m p ++ tickets_of Sell y m p) ≡ to_venue v q (tickets_of Buy y m p) + to_venue v q (tickets_of Sell y m p)
  on_both v q = sum_by-append (λ t. cond (eqb t.venue v && eqb t.price q) t.shares 0) (tickets_of Buy y m p) (tickets_of Sell y m p)

  -- a side that owes nothing has no tickets
  none_on : (side : Side) (v q : ℕ) → owed side (book_by y m) p ≡ 0 → to_venue v q (tickets_of side y m p) ≡ 0
  none_on Buy v q none =
      ap (λ n. to_venue v q (tickets n (ranked (ahead_on Buy) y.buys) (ranked_offers (counting_market m)))) none
      ∙ ap (to_venue v q) (none_ticketed (ranked (ahead_on Buy) y.buys) (ranked_offers (counting_market m)))
  none_on Sell v q none =
      ap (λ n. to_venue v q (tickets n (ranked (ahead_on Sell) y.sells) (ranked_bids (counting_market m)))) none
      ∙ ap (to_venue v q) (none_ticketed (ranked (ahead_on Sell) y.sells) (ranked_bids (counting_market m)))

  offer_whole : (i : ℕ) → i < length (counting_market m).offers → ltb (get_or (counting_market m).offers i no_quote).price p ≡ true
      → to_venue (get_or (counting_market m).offers i no_quote).venue (get_or (counting_market m).offers i no_quote).price (tickets_of Buy y m p ++ tickets_of Sell y m p)
      ≡ quoted_at (get_or (counting_market m).offers i no_quote).venue (get_or (counting_market m).offers i no_quote).price (counting_market m).offers
  offer_whole i l t =
      let x : Quote = get_or (counting_market m).offers i no_quote in
      let some = some_better Buy p (counting_market m).offers i l (offers_fit (counting_market m) fit) t in
      let none = one_side_owes (book_by y m) p apart (omega arith) in
      omega (
        arith,
        on_both x.venue x.price,
        side_whole Buy p (owed Buy (book_by y m) p) (ranked (ahead_on Buy) y.buys) (counting_market m).offers buys_enough (omega arith) x t,
        none_on Sell x.venue x.price none,
      )

  bid_whole : (i : ℕ) → i < length (counting_market m).bids → ltb p (get_or (counting_market m).bids i no_quote).price ≡ true
      → to_venue (get_or (counting_market m).bids i no_quote).venue (get_or (counting_market m).bids i no_quote).price (tickets_of Buy y m p ++ tickets_of Sell y m p)
      ≡ quoted_at (get_or (counting_market m).bids i no_quote).venue (get_or (counting_market m).bids i no_quote).price (counting_market m).bids
  bid_whole i l t =
      let x : Quote = get_or (counting_market m).bids i no_quote in
      let some = some_better Sell p (counting_market m).bids i l (bids_fit (counting_market m) fit) t in
      let none : owed Buy (book_by y m) p ≡ 0 = elim (cases_lt 0 (owed Buy (book_by y m) p)) [
        | inl owes ↦ absurd (omega (arith, one_side_owes (book_by y m) p apart owes))
        | inr not ↦ omega arith
      ] in
      omega (
        arith,
        on_both x.venue x.price,
        side_whole Sell p (owed Sell (book_by y m) p) (ranked (ahead_on Sell) y.sells) (counting_market m).bids sells_enough (omega arith) x t,
        none_on Buy x.venue x.price none,
      )

  all_whole : (deadline : ℕ) → TicketedWhole p (counting_market m) (routed p deadline m y).tickets
  all_whole deadline =
      subst (TicketedWhole p (counting_market m)) (tickets_both y m p (one_side_owes (book_by y m) p apart)) (record {
        offers = All-from_get_or _ (counting_market m).offers no_quote offer_whole;
        bids = All-from_get_or _ (counting_market m).bids no_quote bid_whole;
      })

pub ticketed_whole : (y : Tally) (m : Market) → quotes_fit (counting_market m) ≡ true → (deadline last : ℕ) (x : ℕ × ℕ) → IsOutcome m.halted (book_by y m) last (Ok x)
    → TicketedWhole x.0 (counting_market m) (routed x.0 deadline m y).tickets
ticketed_whole y m fit deadline last x closing =
    all_whole y m fit x.0 closing.0.apart (price_clears (book_by y m) (reference (book_by y m) last) x.0 closing.1.1.price_is) deadline
