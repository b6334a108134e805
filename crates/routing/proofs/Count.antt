-- How many ties there are, and so tickets.
use Rattle.std.proofs.Common.{◌≡◌, ℕ, zero, suc, ◌+◌, ◌-◌, ◌≤◌, min, List, [], ◌∷◌, length, ap, arith, length-append}
use Rattle.std.proofs.lemmas.List.{length-map}
use Rattle.market.specs.declared.quote.Quote.{Quote}
use Rattle.orders.specs.declared.row.OrderRow.{OrderRow}
use Rattle.routing.specs.Shares.{Tie, cell, put, line, lines, ties}
use Rattle.routing.specs.Tickets.{rests, sizes, ticket_of, tickets}
use Rattle.routing.specs.Laws.{TiesFew, TicketsFit}
use Rattle.routing.proofs.Walk.{line_late, lines_none}

length_put : (i j c : ℕ) (ts : List Tie) → length (put i j c ts) ≡ min 1 c + length ts
length_put i j zero ts = omega arith
length_put i j (suc c) ts = omega arith

-- how many of the quotes, of which the first starts at b, end at x or before
abbrev done : ℕ → ℕ → List ℕ → ℕ
done x b [] = 0
done x b (s ∷ ss) = (1 - ((b + s) - x)) + done x (b + s) ss

done_mono : (x y b : ℕ) (ss : List ℕ) → x ≤ y → done x b ss ≤ done y b ss
done_mono x y b [] h = omega arith
done_mono x y b (s ∷ ss) h = omega (arith, done_mono x y (b + s) ss h)

-- an order's ties are with quotes that end past its start
line_most : (n i a r j b : ℕ) (ss : List ℕ) → length (line n i a r j b ss) + done a b ss ≤ length ss
line_most n i a r j b [] = omega arith
line_most n i a r j b (s ∷ ss) =
    grind (arith, length_put i j (cell n a r b s) (line n i a r (j + 1) (b + s) ss), line_most n i a r (j + 1) (b + s) ss)

-- and all of these but one end by the order's end
line_next : (n i a r j b : ℕ) (ss : List ℕ) → length (line n i a r j b ss) + done a b ss ≤ done (a + r) b ss + 1
line_next n i a r j b [] = omega arith
line_next n i a r j b (s ∷ ss) =
    grind (
      arith,
      length_put i j (cell n a r b s) (line n i a r (j + 1) (b + s) ss),
      line_next n i a r (j + 1) (b + s) ss,
      (λ (h : a + r ≤ b + s). ap length (line_late n i a r (j + 1) (b + s) ss h)),
      done_mono a (a + r) (b + s) ss,
    )

lines_most : (n i a r : ℕ) (rs : List ℕ) (j b : ℕ) (ss : List ℕ)
    → length (lines n i a (r ∷ rs) j b ss) + done a b ss ≤ length rs + length ss
lines_most n i a r [] j b ss =
    simp length-append (omega (arith, line_most n i a r j b ss))
lines_most n i a r (r' ∷ rs) j b ss =
    omega (
      arith,
      length-append (line n i a r j b ss) (lines n (i + 1) (a + r) (r' ∷ rs) j b ss),
      line_next n i a r j b ss,
      lines_most n (i + 1) (a + r) r' rs j b ss,
    )

pub ties_few : TiesFew
ties_few n [] ss h k = omega arith
ties_few n (r ∷ rs) ss h k = omega (arith, lines_most n 0 0 r rs 0 0 ss)

-- where one order or quote may be left over, there are places for all
pub ties_within : (n : ℕ) (rs ss : List ℕ) (l : ℕ) → length rs + length ss ≤ l + 1 → length (ties n rs ss) ≤ l
ties_within n [] ss l h = omega arith
ties_within n (r ∷ rs) [] l h = omega (arith, ap length (lines_none n 0 0 (r ∷ rs) 0 0))
ties_within n (r ∷ rs) (s ∷ ss) l h = omega (arith, ties_few n (r ∷ rs) (s ∷ ss) (omega arith) (omega arith))

pub tickets_most : (n : ℕ) (rows : List OrderRow) (quotes : List Quote) → length (tickets n rows quotes) ≤ length rows + length quotes
tickets_most n rows quotes = omega (
  arith,
  length-map (ties n (rests rows) (sizes quotes)) (ticket_of rows quotes),
  ties_within n (rests rows) (sizes quotes) (length rows + length quotes),
  length-map rows (λ w. w.rest),
  length-map quotes (λ x. x.shares),
)

pub tickets_fit : TicketsFit
tickets_fit a b one one' n rows quotes r q =
    let within = ties_within n (rests rows) (sizes quotes) (a + b - 1) (omega (arith, length-map rows (λ w. w.rest), length-map quotes (λ x. x.shares))) in
    omega (arith, length-map (ties n (rests rows) (sizes quotes)) (ticket_of rows quotes), within)
