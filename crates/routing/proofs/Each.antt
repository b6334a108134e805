-- Each ticket is as large as its order, its quote and the shares routed still allow.
use Rattle.std.proofs.Common.{◌≡◌, ℕ, ◌-◌, ◌<◌, List, [], ◌∷◌, ◌++◌, map, length, get_or, refl, subst, arith}
use Rattle.std.specs.List.{AllByRecursion}
use Rattle.std.proofs.lemmas.List.{length-map, get_or-map}
use Rattle.market.specs.declared.quote.Quote.{Quote}
use Rattle.market.specs.Markets.{no_quote}
use Rattle.orders.specs.declared.row.OrderRow.{OrderRow}
use Rattle.orders.specs.Rows.{empty_row}
use Rattle.routing.specs.Shares.{Tie, ties, order_left, quote_left}
use Rattle.routing.specs.Tickets.{rests, sizes, ticket_of, of_number, to_venue}
use Rattle.routing.specs.Laws.{OnlyOrder, OnlyQuote, Fills, AsLarge, TicketsFill}
use Rattle.routing.proofs.Tied.{ties_orders, ties_quotes}
use Rattle.routing.proofs.Filling.{ties_fill}
use Rattle.routing.proofs.Named.{order_named, quote_named}
use Rattle.routing.proofs.Totals.{on_tickets}

-- a list in parts, of which f makes those of another
record Parts {X Y : Type 0} (f : X → Y) (xs : List X) (before : List Y) (y : Y) : Type 0 where
  first : List X
  here : X
  later : List X
  parts : xs ≡ first ++ (here ∷ later)
  first_is : map f first ≡ before
  here_is : f here ≡ y

parts_of : {X Y : Type 0} (f : X → Y) (xs : List X) (before after : List Y) (y : Y) → map f xs ≡ before ++ (y ∷ after) → Parts f xs before y
parts_of f [] [] after y e = absurd (cc)
parts_of f [] (z ∷ before) after y e = absurd (cc)
parts_of f (x ∷ xs) [] after y e = record { first = []; here = x; later = xs; parts = refl; first_is = refl; here_is = cc }
parts_of f (x ∷ xs) (z ∷ before) after y e =
    let p = parts_of f xs before after y (cc) in
    record { first = x ∷ p.first; here = p.here; later = p.later; parts = let q = p.parts in cc; first_is = cc; here_is = p.here_is }

-- what is true of each of some entries is of those of a first part, and of the one behind it
all_first : {X : Type 0} (P : X → Type 0) (first later : List X) (x : X) → AllByRecursion P (first ++ (x ∷ later)) → AllByRecursion P first
all_first P [] later x a = tt
all_first P (y ∷ first) later x a = (a.0, all_first P first later x a.1)

all_here : {X : Type 0} (P : X → Type 0) (first later : List X) (x : X) → AllByRecursion P (first ++ (x ∷ later)) → P x
all_here P [] later x a = a.0
all_here P (y ∷ first) later x a = all_here P first later x a.1

module _ (n : ℕ) (rows : List OrderRow) (quotes : List Quote) (only_order : (i : ℕ) → i < length rows → OnlyOrder rows i)
    (only_quote : (j : ℕ) → j < length quotes → OnlyQuote quotes j) (first later : List Tie) (t : Tie) (e : ties n (rests rows) (sizes quotes) ≡ first ++ (t ∷ later)) where
  orders_in : AllByRecursion (λ u. u.order < length rows) (first ++ (t ∷ later))
  orders_in =
      subst (AllByRecursion (λ u. u.order < length rows)) e
      (subst (λ k. AllByRecursion (λ u. u.order < k) (ties n (rests rows) (sizes quotes))) (length-map rows (λ w. w.rest)) (ties_orders n (rests rows) (sizes quotes)))

  quotes_in : AllByRecursion (λ u. u.quote < length quotes) (first ++ (t ∷ later))
  quotes_in =
      subst (AllByRecursion (λ u. u.quote < length quotes)) e
      (subst (λ k. AllByRecursion (λ u. u.quote < k) (ties n (rests rows) (sizes quotes))) (length-map quotes (λ x. x.shares)) (ties_quotes n (rests rows) (sizes quotes)))

  order_in : t.order < length rows
  order_in = all_here (λ u. u.order < length rows) first later t orders_in

  quote_in : t.quote < length quotes
  quote_in = all_here (λ u. u.quote < length quotes) first later t quotes_in

  order_before : (i : ℕ) → i < length rows → order_left (rests rows) first i ≡ (get_or rows i empty_row).rest - of_number (get_or rows i empty_row).number (map (ticket_of rows quotes) first)
  order_before i l = omega (
    arith,
    order_named rows quotes i (only_order i l) first (all_first (λ u. u.order < length rows) first later t orders_in),
    get_or-map (λ w. w.rest) rows i empty_row 0 l,
  )

  quote_before : (j : ℕ) → j < length quotes
      → quote_left (sizes quotes) first j ≡ (get_or quotes j no_quote).shares - to_venue (get_or quotes j no_quote).venue (get_or quotes j no_quote).price (map (ticket_of rows quotes) first)
  quote_before j l = omega (
    arith,
    quote_named rows quotes j (only_quote j l) first (all_first (λ u. u.quote < length quotes) first later t quotes_in),
    get_or-map (λ x. x.shares) quotes j no_quote 0 l,
  )

  large : AsLarge n rows quotes (map (ticket_of rows quotes) first) (ticket_of rows quotes t)
  large =
      let f : Fills n (rests rows) (sizes quotes) first t = (ties_fill n (rests rows) (sizes quotes)).each first later t e in
      record {
        i = t.order;
        j = t.quote;
        order = (order_in, refl);
        quote = (quote_in, refl, refl);
        shares = omega (arith, f.shares, order_before t.order order_in, quote_before t.quote quote_in, on_tickets rows quotes first);
        orders_done = λ k lt. let in_rows : k < length rows = omega (arith, order_in) in omega (arith, f.orders k lt, order_before k in_rows);
        quotes_done = λ k lt. let in_quotes : k < length quotes = omega (arith, quote_in) in omega (arith, f.quotes k lt, quote_before k in_quotes);
      }

pub tickets_fill : TicketsFill
tickets_fill n rows quotes only_order only_quote before after t e =
    let p = parts_of (ticket_of rows quotes) (ties n (rests rows) (sizes quotes)) before after t e in
    subst (λ ts. AsLarge n rows quotes ts t) p.first_is
    (subst (AsLarge n rows quotes (map (ticket_of rows quotes) p.first)) p.here_is (large n rows quotes only_order only_quote p.first p.later p.here p.parts))
