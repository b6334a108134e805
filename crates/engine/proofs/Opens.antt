-- The first ticket that is not reported.
use Rattle.std.proofs.Common.{◌≡◌, ℕ, ◌+◌, ◌-◌, ◌<◌, ◌≤◌, Bool, true, false, cond, not, ltb, leb, List, length, get_or, Some, None, Ok, Err, Option, refl, sym, ap, ◌∙◌, arith}
use Rattle.std.specs.List.{prefix_len, position_or_len, position, list_all}
use Rattle.std.specs.Option.{option_map}
use Rattle.std.proofs.lemmas.List.Sums.{prefix_len_passes, prefix_len_stops}
use Rattle.std.proofs.lemmas.List.Recursion.{is_position_or_len, and_from_places}
use Rattle.std.proofs.lemmas.Bool.{and_from, and_parts, leb-true, false≢true, le-leb, ltb-true, ltb-false}
use Rattle.market.specs.declared.refusal.Refusal.TheVariants.{TableSizes}
use Rattle.routing.specs.declared.ticket.Ticket.{Ticket}
use Rattle.routing.specs.Tickets.{empty_ticket}
use Rattle.engine.specs.declared.state.Engine.{Engine}
use Rattle.engine.specs.States.{TableRows, tickets_in}
use Rattle.engine.specs.Questions.{sizes_fit}
use Rattle.engine.specs.Outstanding.{first_open, outstanding_of, OpenTicket, Outstanding, outstanding_numbers, NumberedOutstanding}

-- the tickets before the first that is not reported
module _ (p : Ticket → Bool) where
  flipped : (t : Bool) (n : ℕ) → cond t (1 + n) 0 ≡ cond (not t) 0 (1 + n)
  flipped true n = refl
  flipped false n = refl

  before_first : (ts : List Ticket) → prefix_len p ts ≡ position_or_len (λ t. not (p t)) ts
  before_first = is_position_or_len (prefix_len p) (λ t. not (p t)) refl (λ t ts. flipped (p t) (prefix_len p ts))

next_of : (t : Bool) (n : ℕ) → cond t (Some (n + 1)) None ≡ option_map (λ i. i + 1) (cond t (Some n) None)
next_of true n = refl
next_of false n = refl

-- it is numbered one more than its place
pub first_open_at : (ts : List Ticket) → first_open ts ≡ option_map (λ i. i + 1) (position (λ t. not t.reported) ts)
first_open_at ts = ap (λ n. cond (ltb n (length ts)) (Some (n + 1)) None) (before_first (λ t. t.reported) ts) ∙ next_of (ltb (position_or_len (λ t. not t.reported) ts) (length ts)) (position_or_len (λ t. not t.reported) ts)

module _ (e : Engine) (h : TableRows) where
  abbrev ts : List Ticket
  ts = tickets_in e h

  all_pass : length ts ≤ prefix_len (λ x. x.reported) ts → list_all (λ x. x.reported) ts ≡ true
  all_pass h = and_from_places (list_all (λ x. x.reported)) (λ x. x.reported) refl (λ _ _. refl) ts empty_ticket (λ i l. prefix_len_passes (λ x. x.reported) ts i empty_ticket (omega arith))

  open_by : (t : Bool) → ltb (prefix_len (λ x. x.reported) ts) (length ts) ≡ t → OpenTicket e h (cond t (Some (prefix_len (λ x. x.reported) ts + 1)) None)
  open_by true k =
      let n : ℕ = prefix_len (λ x. x.reported) ts in
      let within : n < length ts = ltb-true n (length ts) k in
      let place : (n + 1) - 1 ≡ n = omega arith in
      (and_from (leb 1 (n + 1)) (leb (n + 1) (length ts)) (le-leb 1 (n + 1) (omega arith)) (le-leb (n + 1) (length ts) (omega arith)), ap (λ i. (get_or ts i empty_ticket).reported) place ∙ prefix_len_stops (λ x. x.reported) ts empty_ticket within)
  open_by false k = all_pass (ltb-false (prefix_len (λ x. x.reported) ts) (length ts) k)

  answer_by : (t : Bool) → sizes_fit h ≡ t → Outstanding e h (cond t (Ok (first_open ts)) (Err TableSizes))
  answer_by true k = open_by (ltb (prefix_len (λ x. x.reported) ts) (length ts)) refl
  answer_by false k = refl

  pub outstanding_law : Outstanding e h (outstanding_of e h)
  outstanding_law = answer_by (sizes_fit h) refl

  -- a ticket's number is not 0
  open_numbers : (o : Option ℕ) → sizes_fit h ≡ true → OpenTicket e h o → NumberedOutstanding e h (outstanding_numbers (Ok o))
  open_numbers None fit all = record {
    refusal = sym (ap (λ t. cond t 0 1) fit);
    refused = λ not. absurd (false≢true (sym not ∙ fit));
    none = λ _ _. all;
    unreported = λ _ not_0. absurd (not_0 refl);
  }
  open_numbers (Some n) fit is = record {
    refusal = sym (ap (λ t. cond t 0 1) fit);
    refused = λ not. absurd (false≢true (sym not ∙ fit));
    none = λ _ is_0. absurd (omega (arith, leb-true 1 n (and_parts (leb 1 n) (leb n (length ts)) is.0).0));
    unreported = λ _ _. is;
  }

  numbers_by : (t : Bool) → sizes_fit h ≡ t → OpenTicket e h (first_open ts) → NumberedOutstanding e h (outstanding_numbers (cond t (Ok (first_open ts)) (Err TableSizes)))
  numbers_by true fit law = open_numbers (first_open ts) fit law
  numbers_by false not law = record {
    refusal = sym (ap (λ t. cond t 0 1) not);
    refused = λ _. refl;
    none = λ fit. absurd (false≢true (sym not ∙ fit));
    unreported = λ fit. absurd (false≢true (sym not ∙ fit));
  }

  pub outstanding_numbered : NumberedOutstanding e h (outstanding_numbers (outstanding_of e h))
  outstanding_numbered = numbers_by (sizes_fit h) refl (open_by (ltb (prefix_len (λ x. x.reported) ts) (length ts)) refl)
