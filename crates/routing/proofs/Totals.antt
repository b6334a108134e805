-- What all tickets come to.
use Rattle.std.proofs.Common.{◌≡◌, ℕ, ◌+◌, ◌-◌, ◌≤◌, min, max, List, [], ◌∷◌, map, sum, sum_by, arith}
use Rattle.std.proofs.lemmas.List.Sums.{sum_by-cons}
use Rattle.market.specs.declared.quote.Quote.{Quote}
use Rattle.orders.specs.declared.row.OrderRow.{OrderRow}
use Rattle.routing.specs.Shares.{Tie, cell, across, line, lines, ties, of_all}
use Rattle.routing.specs.Tickets.{rests, sizes, ticket_of, tickets}
use Rattle.routing.specs.Laws.{TicketsTotal}
use Rattle.routing.proofs.Sums.{sum-cons, across_is}
use Rattle.routing.proofs.Filling.{of_all_append, all_put}

all_line : (n i a r j b : ℕ) (ss : List ℕ) → of_all (line n i a r j b ss) ≡ across n a r b ss
all_line n i a r j b [] = omega arith
all_line n i a r j b (s ∷ ss) = omega (arith, all_put i j (cell n a r b s) (line n i a r (j + 1) (b + s) ss), all_line n i a r (j + 1) (b + s) ss)

all_lines : (n i a : ℕ) (rs : List ℕ) (j b : ℕ) (ss : List ℕ) → of_all (lines n i a rs j b ss) ≡ min (min (a + sum rs) (b + sum ss)) n - max a b
all_lines n i a [] j b ss = omega arith
all_lines n i a (r ∷ rs) j b ss =
    grind (
      arith,
      of_all_append (line n i a r j b ss) (lines n (i + 1) (a + r) rs j b ss),
      all_line n i a r j b ss,
      sum-cons r rs,
      across_is n a r b ss,
      all_lines n (i + 1) (a + r) rs j b ss,
    )

-- the shares on tickets are those on their ties
pub on_tickets : (rows : List OrderRow) (quotes : List Quote) (ts : List Tie) → sum_by (λ t. t.shares) (map (ticket_of rows quotes) ts) ≡ of_all ts
on_tickets rows quotes [] = omega arith
on_tickets rows quotes (t ∷ ts) =
    omega (arith, sum_by-cons (λ u. u.shares) (ticket_of rows quotes t) (map (ticket_of rows quotes) ts), on_tickets rows quotes ts)

pub tickets_total : TicketsTotal
tickets_total n rows quotes =
    omega (arith, on_tickets rows quotes (ties n (rests rows) (sizes quotes)), all_lines n 0 0 (rests rows) 0 0 (sizes quotes))

-- all n shares are ticketed, where the orders and the quotes have as many
pub tickets_all : (n : ℕ) (rows : List OrderRow) (quotes : List Quote) → n ≤ sum (rests rows) → n ≤ sum (sizes quotes)
    → sum_by (λ t. t.shares) (tickets n rows quotes) ≡ n
tickets_all n rows quotes orders enough = omega (arith, tickets_total n rows quotes)
