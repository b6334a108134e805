-- The numbers that a call answers, by the call and by what it met. Each number is written out beside its rule.
use Rattle.std.specs.Prelude.{◌≡◌, ℕ, Bool, true, false, cond, not, ◌||◌, ◌&&◌, ◌==◌, List, [], ◌∷◌, length, nat_le, nat_lt}
use Rattle.std.specs.List.{list_all}
use Rattle.market.specs.Limits.{highest_price}
use Rattle.market.specs.Markets.{Market}
use Rattle.market.specs.Fits.{quotes_fit}
use Rattle.market.specs.declared.side.Side.TheVariants.{Buy, Sell}
use Rattle.pricing.specs.Books.{Book, Sound}
use Rattle.pricing.specs.Outcomes.{best_on, touching, reference, Orderly, Nothing, Undecided, Priced}
use Rattle.orders.specs.Orders.{well_formed}
use Rattle.engine.specs.declared.answer.CloseAnswer.{CloseAnswer}
use Rattle.engine.specs.declared.answer.Numbers.{Numbers}
use Rattle.engine.specs.Asked.{Asked, Begin, Enter, Cancel, Close, Report, Match, Finish, Abort}
use Rattle.engine.specs.declared.state.Engine.{Engine}
use Rattle.engine.specs.Answers.{close_answer, no_close_answer, numbers, stage_number}
use Rattle.engine.specs.Minimum.{minimum}
use Rattle.engine.specs.Stages.{closes_at, deadline_of, price_of}
use Rattle.engine.specs.States.{TableRows, tickets_in}
use Rattle.engine.specs.Questions.{sizes_fit, time_fits, two_sided, reaches, start_time_fits, acceptance_fits, on_book, has_room, rest_of, is_ticket, ticket_at}
use Rattle.engine.specs.Effects.{book_in, tickets_at, all_rests, to_execute}

-- whether a call comes in a stage: 0 open, 1 acceptance, 2 satisfaction, 3 matched
abbrev pub in_stage : Asked → ℕ → Bool
in_stage (Begin time order facts) stage = stage == 0
in_stage (Enter order) stage = stage == 1
in_stage (Cancel number) stage = stage == 1
in_stage (Close time last) stage = stage == 1
in_stage (Report ticket filled) stage = stage == 2 || stage == 3
in_stage (Match time) stage = stage == 2
in_stage (Finish time) stage = stage == 3
in_stage (Abort time) stage = nat_le 1 stage && nat_le stage 3

-- the questions of each call with their numbers, in their order
abbrev pub own_numbered : Engine → Market → TableRows → Asked → List (ℕ × Bool)
own_numbered e m h (Begin time order facts) =
    (3, time_fits e time)
    ∷ (4, quotes_fit m)
    ∷ (5, not m.halted)
    ∷ (6, two_sided m)
    ∷ (7, well_formed order)
    ∷ (8, not facts.short_sale)
    ∷ (9, nat_le (minimum e.issue order.price) order.shares)
    ∷ (10, reaches order m)
    ∷ (11, start_time_fits e time facts)
    ∷ (12, facts.routing)
    ∷ (13, acceptance_fits facts)
    ∷ []
own_numbered e m h (Enter order) = (7, well_formed order) ∷ (14, not (on_book e h order.number)) ∷ (15, has_room e order) ∷ []
own_numbered e m h (Cancel number) = (16, on_book e h number) ∷ (17, nat_lt 0 (rest_of e h number)) ∷ []
own_numbered e m h (Close time last) =
    (3, time_fits e time) ∷ (18, nat_le (closes_at e.stage) time) ∷ (4, quotes_fit m) ∷ (19, nat_le last highest_price) ∷ []
own_numbered e m h (Report ticket filled) =
    (20, is_ticket e h ticket) ∷ (21, not (ticket_at e h ticket).reported) ∷ (22, nat_le filled (ticket_at e h ticket).shares) ∷ []
own_numbered e m h (Match time) =
    (3, time_fits e time) ∷ (23, list_all (λ t. t.reported) (tickets_in e h) || nat_le (deadline_of e.stage) time) ∷ []
own_numbered e m h (Finish time) = (3, time_fits e time) ∷ []
own_numbered e m h (Abort time) = (3, time_fits e time) ∷ []

abbrev pub numbered : Engine → Market → TableRows → Asked → List (ℕ × Bool)
numbered e m h call = (1, sizes_fit h) ∷ (2, in_stage call (stage_number e.stage)) ∷ own_numbered e m h call

-- the number of the first question that is answered "no"; 0 where none is
abbrev pub first_number : List (ℕ × Bool) → ℕ
first_number [] = 0
first_number (q ∷ qs) = cond q.1 (first_number qs) q.0

-- cause, price and count of a close: 4 halted, 2 locked or crossed, 1 nothing to trade, 3 no reference, 0 priced
pub data CloseRule (halted : Bool) (b : Book) (last : ℕ) : ℕ → ℕ → ℕ → Type 0 where
  priced : {price count : ℕ} → Orderly halted b → (Nothing b → ⊥) → Priced b (reference b last) price count → CloseRule halted b last 0 price count
  nothing_to_trade : Orderly halted b → Nothing b → CloseRule halted b last 1 0 0
  locked_or_crossed : halted ≡ false → touching (best_on Buy b) (best_on Sell b) ≡ true → CloseRule halted b last 2 0 0
  no_reference : Orderly halted b → (Nothing b → ⊥) → Undecided b (reference b last) → CloseRule halted b last 3 0 0
  trading_halted : halted ≡ true → CloseRule halted b last 4 0 0

-- what a close answers on a book of permitted prices; price, count and tickets are 0 unless the cause is 0
pub record CloseNumbers (e : Engine) (m : Market) (h : TableRows) (last : ℕ) (c : CloseAnswer) : Type 0 where
  pub rule : Sound (book_in e m h) → CloseRule m.halted (book_in e m h) last c.cause c.price c.count
  pub tickets : c.cause ≡ 0 → c.tickets ≡ length (tickets_at e m h c.price)
  pub zeros : (c.cause ≡ 0 → ⊥) → c ≡ close_answer c.cause 0 0 0

-- the shares, and what a close answers, of each kind of call that is granted
abbrev pub Answered : Engine → Market → TableRows → Asked → ℕ → CloseAnswer → Type 0
Answered e m h (Cancel number) shares c = (shares ≡ rest_of e h number) × (c ≡ no_close_answer)
Answered e m h (Close time last) shares c = (shares ≡ 0) × CloseNumbers e m h last c
Answered e m h (Match time) shares c = (shares ≡ to_execute h (price_of e.stage)) × (c ≡ no_close_answer)
Answered e m h (Abort time) shares c = (shares ≡ all_rests h) × (c ≡ no_close_answer)
Answered e m h call shares c = (shares ≡ 0) × (c ≡ no_close_answer)

-- the number of the first "no" with zeros; else 0 with what a call of its kind answers
pub record Numbered (e : Engine) (m : Market) (h : TableRows) (call : Asked) (n : Numbers) : Type 0 where
  pub refusal : n.refusal ≡ first_number (numbered e m h call)
  pub refused : (n.refusal ≡ 0 → ⊥) → n ≡ numbers n.refusal 0 no_close_answer
  pub granted : n.refusal ≡ 0 → Answered e m h call n.shares n.close
