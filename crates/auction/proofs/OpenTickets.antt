-- What outstanding answers, by the tally.
use Rattle.std.proofs.Common.{◌≡◌, ℕ, ◌+◌, ◌-◌, ◌<◌, Bool, true, false, cond, leb, ltb, List, length, take, get_or, Some, None, Ok, Err, Option, Result, sym, refl, ap, ◌∙◌, subst, inl, inr, arith}
use Rattle.std.specs.List.{prefix_len, list_all}
use Rattle.std.proofs.lemmas.List.Sums.{prefix_len_passes}
use Rattle.std.proofs.lemmas.Bool.{false≢true, and_parts, leb-true, cases_Bool}
use Rattle.market.specs.Markets.{Market}
use Rattle.market.specs.Questions.{first_no}
use Rattle.engine.specs.Asked.{Asked}
use Rattle.market.specs.declared.refusal.Refusal.{Refusal}
use Rattle.market.specs.declared.refusal.Refusal.TheVariants.{TableSizes}
use Rattle.routing.specs.declared.ticket.Ticket.{Ticket}
use Rattle.routing.specs.Tickets.{empty_ticket}
use Rattle.engine.specs.declared.state.Engine.{Engine}
use Rattle.engine.specs.States.{TableRows, none_used, tickets_in}
use Rattle.engine.specs.Questions.{sizes_fit, questions}
use Rattle.engine.specs.Outstanding.{first_open, outstanding_of, OpenTicket, Outstanding}
use Rattle.engine.specs.Effects.{Left, unless, done}
use Rattle.engine.specs.Steps.{Called}
use Rattle.engine.proofs.Answered.{yes_of}
use Rattle.engine.proofs.Sizes.{call_sizes}
use Rattle.engine.proofs.Unread.{sizes_same}
use Rattle.auction.specs.Tallies.{Tally, fed}
use Rattle.auction.specs.Posts.{Posts}
use Rattle.auction.specs.Laws.{OpenBy}
use Rattle.auction.specs.Histories.{History, fresh, more}
use Rattle.auction.specs.Runs.{NoneYet, OpenNow}
use Rattle.auction.proofs.Good.{Kept}
use Rattle.auction.proofs.Used.{tickets_in_use}
use Rattle.auction.proofs.Kept.{run_kept}

tickets_kept : (e : Engine) (h : TableRows) (y : Tally) → Kept e h y → tickets_in e h ≡ y.tickets
tickets_kept e h y kept = elim (cases_Bool y.begun) [
  | inl t ↦ tickets_in_use e h y (kept.running t).good
  | inr f ↦ ap (λ u. take u.tickets h.tickets) (kept.fresh f).none ∙ sym (ap (λ z. z.tickets) (kept.fresh f).empty)
]

first_is : (t : Bool) (k n : ℕ) → cond t (Some (k + 1)) None ≡ Some n → k + 1 ≡ n
first_is true k n e = cc
first_is false k n e = absurd (let z : ⊥ = cc in z)

answered_is : (t : Bool) (o p : Option ℕ) → cond t (Ok p) (Err TableSizes) ≡ Ok o → p ≡ o
answered_is true o p e = cc
answered_is false o p e = absurd (let z : ⊥ = cc in z)

-- each ticket before the first that is not reported is reported
reported_before : (ts : List Ticket) (n : ℕ) → first_open ts ≡ Some n → (i : ℕ) → i + 1 < n → (get_or ts i empty_ticket).reported ≡ true
reported_before ts n e i l =
    let k : ℕ = prefix_len (λ t. t.reported) ts in
    let is : k + 1 ≡ n = first_is (ltb k (length ts)) k n e in
    prefix_len_passes (λ t. t.reported) ts i empty_ticket (omega (arith, is, l))

open_by : (e : Engine) (h : TableRows) (y : Tally) (p : Posts) → History e h y p → (o : Option ℕ) → first_open (tickets_in e h) ≡ o → OpenTicket e h o → OpenBy y o
open_by e h y p run None first open' = subst (λ ts. list_all (λ t. t.reported) ts ≡ true) (tickets_kept e h y (run_kept run)) open'
open_by e h y p run (Some n) first open' =
    let are = tickets_kept e h y (run_kept run) in
    let is = and_parts (leb 1 n) (leb n (length (tickets_in e h))) open'.0 in
    record {
      least = leb-true 1 n is.0;
      most = omega (arith, leb-true n (length (tickets_in e h)) is.1, ap length are);
      unreported = sym (ap (λ ts. (get_or ts (n - 1) empty_ticket).reported) are) ∙ open'.1;
      before = λ i l. sym (ap (λ ts. (get_or ts i empty_ticket).reported) are) ∙ reported_before (tickets_in e h) n first i l;
    }

pub outstanding_by : (e : Engine) (h : TableRows) (y : Tally) (p : Posts) → History e h y p → (r : Result (Option ℕ) Refusal) → r ≡ outstanding_of e h → Outstanding e h r
    → (o : Option ℕ) → r ≡ Ok o → OpenBy y o
outstanding_by e h y p run r law-of law o is =
    open_by e h y p run o (answered_is (sizes_fit h) o (first_open (tickets_in e h)) (sym law-of ∙ is)) (subst (Outstanding e h) is law)

-- none of the rows of a table is in use
none_open : (e : Engine) (h : TableRows) → e.used ≡ none_used → outstanding_of e h ≡ cond (sizes_fit h) (Ok None) (Err TableSizes)
none_open e h is = ap (λ u. cond (sizes_fit h) (Ok (first_open (take u.tickets h.tickets))) (Err TableSizes)) is

pub none_yet : (e : Engine) (h : TableRows) (y : Tally) (p : Posts) → History e h y p → y.begun ≡ false → NoneYet e h (outstanding_of e h)
none_yet e h y p run is =
    let none = ((run_kept run).fresh is).none in
    record {
      none = λ fit. none_open e h none ∙ ap (λ t. cond t (Ok None) (Err TableSizes)) fit;
      unread = λ h' same. none_open e h' none ∙ ap (λ t. cond t (Ok None) (Err TableSizes)) (sym (sizes_same h h' same)) ∙ sym (none_open e h none);
    }

-- once a cycle has begun the tables have the sizes that the engine works on
module _ (e : Engine) (m : Market) (h : TableRows) (y : Tally) (call : Asked) (left : Left) (before : y.begun ≡ true → sizes_fit h ≡ true) (called : Called e m h call left) where
  sizes_by : (r : Option Refusal) → first_no (questions e m h call) ≡ r → left ≡ unless r e h (done e m h call called.outcome)
      → (fed y m call (unless r e h (done e m h call called.outcome)).answer).begun ≡ true → sizes_fit left.held ≡ true
  sizes_by (Some refusal) asked is begun = ap (λ l. sizes_fit l.held) is ∙ before begun
  sizes_by None asked is begun = sizes_same left.held h (call_sizes e m h call left called) ∙ (yes_of TableSizes (questions e m h call) asked)

  sizes_after : (fed y m call left.answer).begun ≡ true → sizes_fit left.held ≡ true
  sizes_after begun = sizes_by (first_no (questions e m h call)) refl called.is (subst (λ l. (fed y m call l.answer).begun ≡ true) called.is begun)

sizes_next : {e : Engine} {h : TableRows} {y : Tally} {p : Posts} → History e h y p → (y.begun ≡ true → sizes_fit h ≡ true) → (m : Market) (call : Asked) (left : Left)
    → Called e m h call left → (fed y m call left.answer).begun ≡ true → sizes_fit left.held ≡ true
sizes_next {e} {h} {y} run before m call left called = sizes_after e m h y call left before called

run_sizes : {e : Engine} {h : TableRows} {y : Tally} {p : Posts} → History e h y p → y.begun ≡ true → sizes_fit h ≡ true
run_sizes (fresh issue h) begun = absurd (false≢true begun)
run_sizes (more m call left run called) begun = sizes_next run (run_sizes run) m call left called begun

pub open_now : (e : Engine) (h : TableRows) (y : Tally) (p : Posts) → History e h y p → y.begun ≡ true → (r : Result (Option ℕ) Refusal) → r ≡ outstanding_of e h → Outstanding e h r → OpenNow y r
open_now e h y p run begun r is law =
    let o : Option ℕ = first_open (tickets_in e h) in
    let ok : r ≡ Ok o = is ∙ ap (λ t. cond t (Ok o) (Err TableSizes)) (run_sizes run begun) in
    record { ticket = o; answered = ok; by_tally = outstanding_by e h y p run r is law o ok }
