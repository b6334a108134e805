-- What the tickets of one order, and those to one quote, come to.
use Rattle.std.proofs.Common.{◌≡◌, ℕ, ◌<◌, Bool, true, false, cond, ◌&&◌, eqb, List, [], ◌∷◌, map, length, get_or, sym, refl, ap, ◌∙◌, subst, arith}
use Rattle.std.specs.List.{AllByRecursion}
use Rattle.std.proofs.lemmas.List.{length-map, get_or-map}
use Rattle.std.proofs.lemmas.List.Sums.{sum_by-cons}
use Rattle.std.proofs.lemmas.Bool.{and_parts, and_from, eqb-true, eq-eqb}
use Rattle.market.specs.declared.quote.Quote.{Quote}
use Rattle.market.specs.Markets.{no_quote}
use Rattle.orders.specs.declared.row.OrderRow.{OrderRow}
use Rattle.orders.specs.Rows.{empty_row}
use Rattle.routing.specs.Shares.{Tie, shares_before, share, ties, of_order, of_quote}
use Rattle.routing.specs.Tickets.{rests, sizes, ticket_of, of_number, to_venue}
use Rattle.routing.specs.Laws.{OnlyOrder, OnlyQuote, OrderTicketed, QuoteTicketed}
use Rattle.routing.proofs.Tied.{order_tied, quote_tied, ties_orders, ties_quotes}

-- of two tests that come out alike
same_test : (a b : Bool) → (a ≡ true → b ≡ true) → (b ≡ true → a ≡ true) → a ≡ b
same_test true true f g = refl
same_test true false f g = sym (f refl)
same_test false true f g = g refl
same_test false false f g = refl

module _ (rows : List OrderRow) (quotes : List Quote) where
  order_test : (i k : ℕ) → OnlyOrder rows i → k < length rows → eqb (get_or rows k empty_row).number (get_or rows i empty_row).number ≡ eqb k i
  order_test i k only l = same_test _ _
      (λ e. eq-eqb k i (only k l (eqb-true _ _ e)))
      (λ e. eq-eqb _ _ (ap (λ x. (get_or rows x empty_row).number) (eqb-true k i e)))

  quote_test : (j k : ℕ) → OnlyQuote quotes j → k < length quotes
      → (eqb (get_or quotes k no_quote).venue (get_or quotes j no_quote).venue && eqb (get_or quotes k no_quote).price (get_or quotes j no_quote).price) ≡ eqb k j
  quote_test j k only l = same_test _ _
      (λ e. let both = and_parts (eqb (get_or quotes k no_quote).venue (get_or quotes j no_quote).venue) _ e in eq-eqb k j (only k l (eqb-true _ _ both.0) (eqb-true _ _ both.1)))
      (λ e. let same = eqb-true k j e in
      and_from _ _ (eq-eqb _ _ (ap (λ x. (get_or quotes x no_quote).venue) same)) (eq-eqb _ _ (ap (λ x. (get_or quotes x no_quote).price) same)))

  pub order_named : (i : ℕ) → OnlyOrder rows i → (ts : List Tie) → AllByRecursion (λ t. t.order < length rows) ts
      → of_number (get_or rows i empty_row).number (map (ticket_of rows quotes) ts) ≡ of_order i ts
  order_named i only [] a = refl
  order_named i only (t ∷ ts) a = omega (
    arith,
    sum_by-cons (λ u. cond (eqb u.order (get_or rows i empty_row).number) u.shares 0) (ticket_of rows quotes t) (map (ticket_of rows quotes) ts),
    ap (λ b. cond b t.shares 0) (order_test i t.order only a.0),
    order_named i only ts a.1,
  )

  pub quote_named : (j : ℕ) → OnlyQuote quotes j → (ts : List Tie) → AllByRecursion (λ t. t.quote < length quotes) ts
      → to_venue (get_or quotes j no_quote).venue (get_or quotes j no_quote).price (map (ticket_of rows quotes) ts) ≡ of_quote j ts
  quote_named j only [] a = refl
  quote_named j only (t ∷ ts) a = omega (
    arith,
    sum_by-cons (λ u. cond (eqb u.venue (get_or quotes j no_quote).venue && eqb u.price (get_or quotes j no_quote).price) u.shares 0) (ticket_of rows quotes t) (map (ticket_of rows quotes) ts),
    ap (λ b. cond b t.shares 0) (quote_test j t.quote only a.0),
    quote_named j only ts a.1,
  )

pub order_ticketed : OrderTicketed
order_ticketed n rows quotes i l only enough =
    let rests-long = length-map rows (λ w. w.rest) in
    order_named rows quotes i only (ties n (rests rows) (sizes quotes))
    (subst (λ k. AllByRecursion (λ t. t.order < k) (ties n (rests rows) (sizes quotes))) rests-long (ties_orders n (rests rows) (sizes quotes)))
    ∙ order_tied n (rests rows) (sizes quotes) i (omega (arith, rests-long)) enough
    ∙ ap (λ r. share n r (shares_before (rests rows) i)) (get_or-map (λ w. w.rest) rows i empty_row 0 l)

pub quote_ticketed : QuoteTicketed
quote_ticketed n rows quotes j l only enough =
    let sizes-long = length-map quotes (λ x. x.shares) in
    quote_named rows quotes j only (ties n (rests rows) (sizes quotes))
    (subst (λ k. AllByRecursion (λ t. t.quote < k) (ties n (rests rows) (sizes quotes))) sizes-long (ties_quotes n (rests rows) (sizes quotes)))
    ∙ (quote_tied n (rests rows) (sizes quotes) j (omega (arith, sizes-long)) enough).0
    ∙ ap (λ s. share n s (shares_before (sizes quotes) j)) (get_or-map (λ x. x.shares) quotes j no_quote 0 l)
