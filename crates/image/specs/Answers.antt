-- What image pricing asks, and what it answers.
use Rattle.std.specs.Prelude.{◌≡◌, ℕ, false, List, [], ◌∷◌, ◌++◌, ◌*◌, length, Some, None, Ok, Err, Option, Result, ◌==◌, nat_le}
use Rattle.market.specs.Limits.{highest_price}
use Rattle.market.specs.Fits.{quotes_fit}
use Rattle.market.specs.Questions.{Question, first_no}
use Rattle.market.specs.Refusals.{refusal_number}
use Rattle.market.specs.declared.refusal.Refusal.{Refusal}
use Rattle.market.specs.declared.refusal.Refusal.TheVariants.{Quotes, LastSale, OutputLength, ImageLayout, ImageOrder}
use Rattle.pricing.specs.Outcomes.{Outcome, IsOutcome, Best, outcome_number, outcome_price, outcome_count}
use Rattle.image.specs.Limits.{word_length, answer_length}
use Rattle.image.specs.Words.{little_endian}
use Rattle.image.specs.Images.{is_image, image_book, image_market, orders_fit}

-- the questions about an image and a last sale, in their order
abbrev pub image_questions : List ℕ → ℕ → List Question
image_questions image last =
    record { yes = is_image image; refusal = ImageLayout }
    ∷ record { yes = orders_fit (image_book image); refusal = ImageOrder }
    ∷ record { yes = quotes_fit (image_market (image_book image)); refusal = Quotes }
    ∷ record { yes = nat_le last highest_price; refusal = LastSale }
    ∷ []

-- the closing outcome of the book that an image means, which no price betters
pub record IsPricing (image : List ℕ) (last : ℕ) (x : Outcome) : Type 0 where
  pub closing : IsOutcome false (image_book image) last x
  pub best : Best (image_book image) x

-- the first "no" refuses; where there is none, the image is priced
abbrev pub PricedUnless : Option Refusal → List ℕ → ℕ → Result Outcome Refusal → Type 0
PricedUnless None image last (Ok x) = IsPricing image last x
PricedUnless None image last (Err e) = ⊥
PricedUnless (Some refusal) image last r = r ≡ Err refusal

-- what image pricing answers
abbrev pub PricedAs : List ℕ → ℕ → Result Outcome Refusal → Type 0
PricedAs image last r = PricedUnless (first_no (image_questions image last)) image last r

-- the questions of the pricing that is exported: the first asks about the output
abbrev pub export_questions : List ℕ → ℕ → List ℕ → List Question
export_questions image last out =
    record { yes = (length out == answer_length); refusal = OutputLength } ∷ image_questions image last

-- an answer in bytes: price and cause in a word each, and the count in two
abbrev pub answer_bytes : ℕ → ℕ → ℕ → List ℕ
answer_bytes price cause count =
    little_endian word_length price ++ (little_endian word_length cause ++ little_endian (2 * word_length) count)

abbrev pub outcome_bytes : Outcome → List ℕ
outcome_bytes x = answer_bytes (outcome_price x) (outcome_number x) (outcome_count x)

-- the answer 0, and the bytes of the outcome
pub record Granted (image : List ℕ) (last r : ℕ) (after : List ℕ) : Type 0 where
  pub answer : r ≡ 0
  pub outcome : Outcome
  pub settled : IsPricing image last outcome
  pub bytes : after ≡ outcome_bytes outcome

-- the number of the refusal, and the output as it stood
pub record Refused (refusal : Refusal) (r : ℕ) (out after : List ℕ) : Type 0 where
  pub answer : r ≡ refusal_number refusal
  pub same : after ≡ out

-- the first "no" refuses; where there is none, the outcome is written
abbrev pub AnsweredBy : Option Refusal → List ℕ → ℕ → List ℕ → ℕ → List ℕ → Type 0
AnsweredBy None image last out r after = Granted image last r after
AnsweredBy (Some refusal) image last out r after = Refused refusal r out after

-- what the exported pricing answers, and leaves in the output
abbrev pub ImagePricing : List ℕ → ℕ → List ℕ → ℕ → List ℕ → Type 0
ImagePricing image last out r after =
    AnsweredBy (first_no (export_questions image last out)) image last out r after
