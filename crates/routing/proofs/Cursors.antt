-- The walk over rows and quotes: what is written and what is still to come are the tickets.
use Rattle.std.proofs.Common.{◌≡◌, ℕ, ◌+◌, ◌-◌, ◌<◌, ◌≤◌, min, cond, ◌&&◌, ltb, List, [], ◌∷◌, map, length, get_or, take, drop, set, sym, refl, ap, ◌∙◌, arith, length-drop}
use Rattle.std.proofs.lemmas.List.{length-map, get_or-map, take_all, drop_more}
use Rattle.market.specs.declared.quote.Quote.{Quote}
use Rattle.orders.specs.declared.row.OrderRow.{OrderRow}
use Rattle.orders.specs.Rows.{empty_row}
use Rattle.routing.specs.declared.ticket.Ticket.{Ticket}
use Rattle.market.specs.Markets.{no_quote}
use Rattle.routing.specs.Tickets.{rests, sizes, ticket_for, ticket_of, tickets, Ticketed, TicketedIn}
use Rattle.routing.specs.Shares.{Tie, put, ties}
use Rattle.routing.proofs.Count.{ties_within}
use Rattle.routing.proofs.Write.{Written, written_none, written_all, put_done}
use Rattle.routing.proofs.Steps.{onward, onward_start, onward_no_orders, onward_no_quotes, onward_quote, onward_order}

-- what is first in a list from a place on, and what is past it
module _ {X : Type 0} (xs : List X) (i : ℕ) (d : X) (ys : List X) (e : ys ≡ drop i xs) (some : 1 ≤ length ys) where
  place_in : i < length xs
  place_in = omega (arith, ap length e, length-drop i xs)

  place_more : ys ≡ get_or xs i d ∷ drop (i + 1) xs
  place_more = e ∙ drop_more xs i d place_in

  place_is : get_or xs i d ≡ get_or ys 0 d
  place_is = sym (rw place_more)

  place_later : take (length ys - 1) (drop 1 ys) ≡ drop (i + 1) xs
  place_later = take_all (length ys - 1) (drop 1 ys) (omega (arith, length-drop 1 ys)) ∙ ap (drop 1) place_more

-- `waiting` are the rows from the i-th on, of the first of which `filled` shares are done; `standing` are the quotes from the
-- j-th on, of the first of which `taken` are done; of the shares routed `left` are still to write
pub record Walked (rows : List OrderRow) (quotes : List Quote) (routed : ℕ) (from : List Ticket) (count : ℕ) (out : List Ticket) (left : ℕ)
    (waiting : List OrderRow) (filled : ℕ) (standing : List Quote) (taken : ℕ) : Type 0 where
  pub i : ℕ
  pub j : ℕ
  pub orders_are : waiting ≡ drop i rows
  pub quotes_are : standing ≡ drop j quotes
  pub filled_within : filled ≤ (get_or waiting 0 empty_row).rest
  pub taken_within : taken ≤ (get_or standing 0 no_quote).shares
  pub here : Written (tickets routed rows quotes) from count out (map (ticket_of rows quotes) (onward left (rests rows) i filled (sizes quotes) j taken))

module _ (rows : List OrderRow) (quotes : List Quote) (routed : ℕ) (from : List Ticket) where
  pub at_start : Walked rows quotes routed from 0 from routed rows 0 quotes 0
  at_start = record {
    i = 0;
    j = 0;
    orders_are = refl;
    quotes_are = refl;
    filled_within = omega arith;
    taken_within = omega arith;
    here = rw (onward_start routed (rests rows) (sizes quotes)) (written_none (tickets routed rows quotes) from);
  }

  -- the ticket of a turn was put, if there was a place
  module _ (count : ℕ) (out : List Ticket) (left : ℕ) (waiting : List OrderRow) (filled : ℕ) (standing : List Quote) (taken : ℕ)
      (g : Walked rows quotes routed from count out left waiting filled standing taken) (some : 1 ≤ length waiting) (some_quotes : 1 ≤ length standing)
      (t : Ticket) (count' : ℕ) (out' : List Ticket)
      (count_is : count' ≡ cond (ltb 0 t.shares && ltb count (length out)) (count + 1) count)
      (out_is : out' ≡ cond (ltb 0 t.shares && ltb count (length out)) (set out count t) out)
      (r s c : ℕ) (r_is : r ≡ (get_or waiting 0 empty_row).rest - filled) (s_is : s ≡ (get_or standing 0 no_quote).shares - taken)
      (c_is : c ≡ min left (min r s))
      (t_is : t ≡ ticket_for (get_or waiting 0 empty_row) (get_or standing 0 no_quote) c) where
    order_there : get_or rows g.i empty_row ≡ get_or waiting 0 empty_row
    order_there = place_is rows g.i empty_row waiting g.orders_are some

    quote_there : get_or quotes g.j no_quote ≡ get_or standing 0 no_quote
    quote_there = place_is quotes g.j no_quote standing g.quotes_are some_quotes

    order_in : g.i < length rows
    order_in = place_in rows g.i empty_row waiting g.orders_are some

    quote_in : g.j < length quotes
    quote_in = place_in quotes g.j no_quote standing g.quotes_are some_quotes

    in_orders : g.i < length (rests rows)
    in_orders = omega (arith, length-map rows (λ w. w.rest), order_in)

    in_quotes : g.j < length (sizes quotes)
    in_quotes = omega (arith, length-map quotes (λ x. x.shares), quote_in)

    r_there : r ≡ get_or (rests rows) g.i 0 - filled
    r_there = omega (arith, r_is, get_or-map (λ w. w.rest) rows g.i empty_row 0 order_in, ap (λ w. w.rest) order_there)

    s_there : s ≡ get_or (sizes quotes) g.j 0 - taken
    s_there = omega (arith, s_is, get_or-map (λ x. x.shares) quotes g.j no_quote 0 quote_in, ap (λ x. x.shares) quote_there)

    t_there : t ≡ ticket_of rows quotes (record { order = g.i; quote = g.j; shares = c })
    t_there = rw (order_there, quote_there) t_is

    put_count : count' ≡ cond (ltb 0 c && ltb count (length out)) (count + 1) count
    put_count = rw t_is at count_is

    put_out : out' ≡ cond (ltb 0 c && ltb count (length out)) (set out count (ticket_of rows quotes (record { order = g.i; quote = g.j; shares = c }))) out
    put_out = rw (t_there) at out_is

    -- the walk goes on with what `rest` says
    goes_on : (rest : List Tie) → onward left (rests rows) g.i filled (sizes quotes) g.j taken ≡ put g.i g.j (min (min r s) left) rest
        → Written (tickets routed rows quotes) from count' out' (map (ticket_of rows quotes) rest)
    goes_on rest e =
        let c_there : min (min r s) left ≡ c = omega arith in
        put_done (ticket_of rows quotes) (tickets routed rows quotes) from count out g.i g.j c rest count' out' put_count put_out (rw (e, c_there) at g.here)

    pub order_ends : r < s → Walked rows quotes routed from count' out' (left - c) (take (length waiting - 1) (drop 1 waiting)) 0 standing (taken + r)
    order_ends h =
        let after : left - c ≡ left - r = omega arith in
        record {
          i = g.i + 1;
          j = g.j;
          orders_are = place_later rows g.i empty_row waiting g.orders_are some;
          quotes_are = g.quotes_are;
          filled_within = omega arith;
          taken_within = let within = g.taken_within in omega arith;
          here = rw after (goes_on _ (onward_order left (rests rows) g.i filled (sizes quotes) g.j taken r s in_orders in_quotes r_there s_there h));
        }

    pub quote_ends : s ≤ r → Walked rows quotes routed from count' out' (left - c) waiting (filled + s) (take (length standing - 1) (drop 1 standing)) 0
    quote_ends h =
        let after : left - c ≡ left - s = omega arith in
        record {
          i = g.i;
          j = g.j + 1;
          orders_are = g.orders_are;
          quotes_are = place_later quotes g.j no_quote standing g.quotes_are some_quotes;
          filled_within = let within = g.filled_within in omega arith;
          taken_within = omega arith;
          here = rw after (goes_on _ (onward_quote left (rests rows) g.i filled (sizes quotes) g.j taken r s in_orders in_quotes r_there s_there h));
        }

  -- no order is left, or no quote
  module _ (count : ℕ) (out : List Ticket) (left : ℕ) (waiting : List OrderRow) (filled : ℕ) (standing : List Quote) (taken : ℕ)
      (g : Walked rows quotes routed from count out left waiting filled standing taken) (long : length out ≡ length from) where
    all_done : onward left (rests rows) g.i filled (sizes quotes) g.j taken ≡ [] → TicketedIn routed rows quotes from count out
    all_done e =
        let w = written_all _ _ _ _ (rw e at g.here) in
        record { count_is = omega (arith, w.0); written = w.1; kept = w.2 }

    pub orders_done : length waiting ≡ 0 → TicketedIn routed rows quotes from count out
    orders_done h = all_done (onward_no_orders left (rests rows) g.i filled (sizes quotes) g.j taken
        (omega (arith, length-map rows (λ w. w.rest), ap length g.orders_are, length-drop g.i rows)))

    pub quotes_done : length standing ≡ 0 → TicketedIn routed rows quotes from count out
    quotes_done h = all_done (onward_no_quotes left (rests rows) g.i filled (sizes quotes) g.j taken
        (omega (arith, length-map quotes (λ x. x.shares), ap length g.quotes_are, length-drop g.j quotes)))

  -- a table of this length has places for all
  pub ticketed_all : (count : ℕ) (out : List Ticket) → TicketedIn routed rows quotes from count out → length rows + length quotes ≤ length from + 1
      → Ticketed routed rows quotes from count out
  ticketed_all count out t room =
      let a = length-map rows (λ w. w.rest) in
      let b = length-map quotes (λ x. x.shares) in
      let m = length-map (ties routed (rests rows) (sizes quotes)) (ticket_of rows quotes) in
      let most : length (tickets routed rows quotes) ≤ length from = omega (arith, m, ties_within routed (rests rows) (sizes quotes) (length from) (omega (arith, a, b))) in
      let e : count ≡ length (tickets routed rows quotes) = omega (arith, t.count_is) in
      record { count_is = e; written = t.written ∙ take_all count (tickets routed rows quotes) (omega arith); kept = t.kept }
