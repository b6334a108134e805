-- No tie is of 0 shares, and no ticket.
use Rattle.std.proofs.Common.{ℕ, zero, suc, ◌+◌, ◌<◌, ◌≤◌, List, [], ◌∷◌, arith}
use Rattle.std.specs.List.{AllByRecursion}
use Rattle.std.proofs.ByRecursion.{All-append, All-weaker, All-map}
use Rattle.routing.specs.Shares.{Tie, cell, put, line, lines, ties}
use Rattle.routing.specs.Tickets.{rests, sizes, ticket_of}
use Rattle.routing.specs.Laws.{NoneEmpty, TicketsSome}

put_filled : (i j c : ℕ) (ts : List Tie) → AllByRecursion (λ t. 0 < t.shares) ts → AllByRecursion (λ t. 0 < t.shares) (put i j c ts)
put_filled i j zero ts a = a
put_filled i j (suc c) ts a = (omega arith, a)

line_filled : (n i a r j b : ℕ) (ss : List ℕ) → AllByRecursion (λ t. 0 < t.shares) (line n i a r j b ss)
line_filled n i a r j b [] = tt
line_filled n i a r j b (s ∷ ss) = put_filled i j (cell n a r b s) (line n i a r (j + 1) (b + s) ss) (line_filled n i a r (j + 1) (b + s) ss)

lines_filled : (n i a : ℕ) (rs : List ℕ) (j b : ℕ) (ss : List ℕ) → AllByRecursion (λ t. 0 < t.shares) (lines n i a rs j b ss)
lines_filled n i a [] j b ss = tt
lines_filled n i a (r ∷ rs) j b ss = All-append (λ t. 0 < t.shares) (line n i a r j b ss) (lines n (i + 1) (a + r) rs j b ss) (line_filled n i a r j b ss) (lines_filled n (i + 1) (a + r) rs j b ss)

pub none_empty : NoneEmpty
none_empty n rs ss = lines_filled n 0 0 rs 0 0 ss

pub tickets_some : TicketsSome
tickets_some n rows quotes = All-map (λ t. 1 ≤ t.shares) (ticket_of rows quotes) (ties n (rests rows) (sizes quotes))
    (All-weaker (λ t. 0 < t.shares) (λ t. 1 ≤ t.shares) (λ t h. omega arith) (ties n (rests rows) (sizes quotes)) (none_empty n (rests rows) (sizes quotes)))
