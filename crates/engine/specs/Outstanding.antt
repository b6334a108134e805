-- A ticket that is not yet reported.
use Rattle.std.specs.Prelude.{◌≡◌, ℕ, ◌+◌, true, false, cond, List, length, Some, None, Ok, Err, Option, Result, nat_lt}
use Rattle.std.specs.List.{prefix_len, list_all}
use Rattle.market.specs.declared.refusal.Refusal.{Refusal}
use Rattle.market.specs.declared.refusal.Refusal.TheVariants.{TableSizes}
use Rattle.market.specs.Refusals.{refusal_number}
use Rattle.routing.specs.declared.ticket.Ticket.{Ticket}
use Rattle.engine.specs.declared.outstanding.OutstandingNumbers.{OutstandingNumbers}
use Rattle.engine.specs.declared.state.Engine.{Engine}
use Rattle.engine.specs.States.{TableRows, tickets_in}
use Rattle.engine.specs.Questions.{sizes_fit, is_ticket, ticket_at}

-- the first ticket that is not reported; tickets count from 1
abbrev pub first_open : List Ticket → Option ℕ
first_open ts = cond (nat_lt (prefix_len (λ t. t.reported) ts) (length ts)) (Some (prefix_len (λ t. t.reported) ts + 1)) None

abbrev pub outstanding_of : Engine → TableRows → Result (Option ℕ) Refusal
outstanding_of e h = cond (sizes_fit h) (Ok (first_open (tickets_in e h))) (Err TableSizes)

-- a number that is answered is that of a ticket that is not reported; where none is answered, all are
abbrev pub OpenTicket : Engine → TableRows → Option ℕ → Type 0
OpenTicket e h None = list_all (λ t. t.reported) (tickets_in e h) ≡ true
OpenTicket e h (Some n) = (is_ticket e h n ≡ true) × ((ticket_at e h n).reported ≡ false)

abbrev pub Outstanding : Engine → TableRows → Result (Option ℕ) Refusal → Type 0
Outstanding e h (Ok o) = OpenTicket e h o
Outstanding e h (Err refusal) = refusal ≡ TableSizes

-- its numbers: that of the refusal, or 0 and the ticket's, 0 for none
abbrev pub outstanding_numbers : Result (Option ℕ) Refusal → OutstandingNumbers
outstanding_numbers (Err refusal) = record { refusal = refusal_number refusal; ticket = 0 }
outstanding_numbers (Ok None) = record { refusal = 0; ticket = 0 }
outstanding_numbers (Ok (Some n)) = record { refusal = 0; ticket = n }

-- 1 where the tables have other sizes; else 0 and the number of a ticket that is not reported, or 0 where all are
pub record NumberedOutstanding (e : Engine) (h : TableRows) (n : OutstandingNumbers) : Type 0 where
  pub refusal : n.refusal ≡ cond (sizes_fit h) 0 1
  pub refused : sizes_fit h ≡ false → n.ticket ≡ 0
  pub none : sizes_fit h ≡ true → n.ticket ≡ 0 → list_all (λ t. t.reported) (tickets_in e h) ≡ true
  pub unreported : sizes_fit h ≡ true → (n.ticket ≡ 0 → ⊥) → (is_ticket e h n.ticket ≡ true) × ((ticket_at e h n.ticket).reported ≡ false)
