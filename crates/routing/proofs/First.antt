-- Where a ticket goes to a quote, each quote ahead of it is ticketed whole.
use Rattle.std.proofs.Common.{◌≡◌, ℕ, ◌+◌, ◌<◌, List, ◌∷◌, ◌++◌, length, get_or, take, drop, sym, ap, ◌∙◌, subst, arith}
use Rattle.std.specs.List.{AllByRecursion}
use Rattle.std.proofs.ByRecursion.{All-get_or}
use Rattle.std.proofs.lemmas.List.{length-map, get_or-map, take-append-drop, drop_more}
use Rattle.market.specs.Markets.{no_quote}
use Rattle.routing.specs.Shares.{Tie, ties, of_quote}
use Rattle.routing.specs.Tickets.{empty_ticket, rests, sizes, ticket_of}
use Rattle.routing.specs.Laws.{Fills, QuotesFirst}
use Rattle.routing.proofs.Tied.{of_quote_append, of_quote_most, ties_quotes}
use Rattle.routing.proofs.Filling.{ties_fill}
use Rattle.routing.proofs.Named.{quote_named}

pub no_tie : Tie
no_tie = record { order = 0; quote = 0; shares = 0 }

-- a list is what stands before a place, the entry at it, and what stands behind
parts_at : (ts : List Tie) (k : ℕ) → k < length ts → ts ≡ take k ts ++ (get_or ts k no_tie ∷ drop (k + 1) ts)
parts_at ts k l = sym (take-append-drop k ts) ∙ ap (λ us. take k ts ++ us) (drop_more ts k no_tie l)

module _ (n : ℕ) (rs ss : List ℕ) where
  -- of ties: where one is of a quote, nothing is left of each quote ahead
  pub quote_whole : (k j : ℕ) → k < length (ties n rs ss) → j < (get_or (ties n rs ss) k no_tie).quote → j < length ss → of_quote j (ties n rs ss) ≡ get_or ss j 0
  quote_whole k j l lt in_quotes =
      let ts : List Tie = ties n rs ss in
      let t : Tie = get_or ts k no_tie in
      let parts : ts ≡ take k ts ++ (t ∷ drop (k + 1) ts) = parts_at ts k l in
      let f : Fills n rs ss (take k ts) t = (ties_fill n rs ss).each (take k ts) (drop (k + 1) ts) t parts in
      omega (
        arith,
        f.quotes j lt,
        ap (of_quote j) parts,
        of_quote_append j (take k ts) (t ∷ drop (k + 1) ts),
        of_quote_most n rs ss j in_quotes,
      )

pub quotes_first : QuotesFirst
quotes_first n rows quotes only k i j l in_quotes lt venue price =
    let rs : List ℕ = rests rows in
    let ss : List ℕ = sizes quotes in
    let ts : List Tie = ties n rs ss in
    let t : Tie = get_or ts k no_tie in
    let long = length-map quotes (λ x. x.shares) in
    let tied : k < length ts = omega (arith, length-map ts (ticket_of rows quotes)) in
    let all : AllByRecursion (λ u. u.quote < length quotes) ts = subst (λ m. AllByRecursion (λ u. u.quote < m) ts) long (ties_quotes n rs ss) in
    let is = get_or-map (ticket_of rows quotes) ts k no_tie empty_ticket tied in
    let place : t.quote ≡ i = only i in_quotes t.quote (All-get_or (λ u. u.quote < length quotes) ts k no_tie tied all)
    (sym (ap (λ u. u.venue) is) ∙ venue) (sym (ap (λ u. u.price) is) ∙ price) in
    let here : j < length quotes = omega arith in
    quote_named rows quotes j (only j here) ts all
    ∙ quote_whole n rs ss k j tied (omega arith) (omega (arith, long))
    ∙ get_or-map (λ x. x.shares) quotes j no_quote 0 here
