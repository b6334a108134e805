-- A whole call: refused by the first "no" of its questions, and then all is as it stood; else granted.
use Rattle.std.specs.Prelude.{◌≡◌, ℕ, true, false, is_ok, None, Option}
use Rattle.market.specs.declared.refusal.Refusal.{Refusal}
use Rattle.market.specs.Markets.{Market}
use Rattle.market.specs.Questions.{first_no}
use Rattle.pricing.specs.Books.{Sound}
use Rattle.pricing.specs.Outcomes.{Outcome, IsOutcome}
use Rattle.engine.specs.Asked.{Asked, Close}
use Rattle.engine.specs.declared.state.Engine.{Engine}
pub use Rattle.engine.specs.States.{SameSizes}
use Rattle.engine.specs.States.{TableRows, IsFresh}
use Rattle.engine.specs.Questions.{questions}
use Rattle.engine.specs.Effects.{Left, unless, book_in, close, done}

-- what a granted close leaves: by the outcome that its pricing has on a book of permitted prices
pub record Closed (e : Engine) (m : Market) (h : TableRows) (time last : ℕ) (left : Left) : Type 0 where
  pub outcome : Outcome
  pub pricing : Sound (book_in e m h) → IsOutcome m.halted (book_in e m h) last outcome
  pub is : left ≡ close e m h time outcome

-- a close that was granted fixed its price so; of another call nothing is priced
abbrev pub PricedBy : Option Refusal → Engine → Market → TableRows → Asked → Outcome → Type 0
PricedBy refusal e m h (Close time last) x = refusal ≡ None → Sound (book_in e m h) → IsOutcome m.halted (book_in e m h) last x
PricedBy refusal e m h call x = Unit {0}

-- what a call leaves, by the refusal that it met, if any: the engine, all five tables and the answer
pub record Stepped (refusal : Option Refusal) (e : Engine) (m : Market) (h : TableRows) (call : Asked) (left : Left) : Type 0 where
  pub outcome : Outcome
  pub pricing : PricedBy refusal e m h call outcome
  pub is : left ≡ unless refusal e h (done e m h call outcome)

abbrev pub Called : Engine → Market → TableRows → Asked → Left → Type 0
Called e m h call left = Stepped (first_no (questions e m h call)) e m h call left

-- a refused call leaves the engine and every table as they stood
abbrev pub Untouched : Engine → TableRows → Left → Type 0
Untouched e h left = is_ok left.answer ≡ false → (left.engine ≡ e) × (left.held ≡ h)

-- two calls end alike: the same engine and the same answer, and where it was granted the same rows in all tables
abbrev pub Alike : Left → Left → Type 0
Alike l l' = (l'.engine ≡ l.engine) × (l'.answer ≡ l.answer) × (is_ok l.answer ≡ true → l'.held ≡ l.held)

-- until the first granted begin the engine is fresh: then nothing that a call leaves depends on what a row held, but that a
-- refused one leaves the rows as they are
abbrev pub Unread : Engine → Market → TableRows → Asked → Left → Type 0
Unread e m h call left = IsFresh e → (h' : TableRows) (left' : Left) → SameSizes h h' → Called e m h' call left' → Alike left left'
