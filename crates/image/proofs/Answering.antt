-- What the questions tell once all are answered yes.
use Rattle.std.proofs.Common.{◌≡◌, ℕ, ◌≤◌, Bool, true, false, cond, ◌&&◌, eqb, leb, List, [], ◌∷◌, length, Some, None, Ok, Err, Option, Result, IfOk, sym, refl, ap, ◌∙◌, subst, arith}
use Rattle.std.specs.List.{list_all}
use Rattle.std.proofs.lemmas.Bool.{and_parts, and_from, le-leb, eq-eqb}
use Rattle.market.specs.declared.refusal.Refusal.{Refusal}
use Rattle.market.specs.declared.refusal.Refusal.TheVariants.{Quotes, LastSale, OutputLength, ImageLayout, ImageOrder}
use Rattle.market.specs.Refusals.{refusal_number, answer_number}
use Rattle.market.proofs.Refusing.{refusal_counts}
use Rattle.market.specs.Prices.{permitted}
use Rattle.market.specs.Limits.{highest_price}
use Rattle.market.specs.Fits.{side_fits, quotes_fit}
use Rattle.market.specs.Questions.{Question, first_no}
use Rattle.pricing.specs.declared.level.Level.{Level}
use Rattle.pricing.specs.Books.{Book, AtPermitted, Sound}
use Rattle.pricing.proofs.PermittedLevels.{side_stands}
use Rattle.pricing.specs.Outcomes.{Outcome, IsOutcome, Best}
use Rattle.image.specs.Limits.{answer_length}
use Rattle.image.specs.Entries.{level_fits}
use Rattle.image.specs.Images.{is_image, image_book, image_market, orders_fit}
use Rattle.image.specs.Answers.{image_questions, PricedUnless, PricedAs, outcome_bytes, AnsweredBy, ImagePricing}
use Rattle.image.specs.Numbers.{image_number, OutcomeSays, PricedNumbers, pricing_numbers}
use Rattle.image.proofs.Saying.{says}

-- a list of questions that are all answered yes refuses nothing
all_yes : (qs : List Question) → list_all (λ q. q.yes) qs ≡ true → first_no qs ≡ None
all_yes [] h = refl
all_yes (q ∷ qs) h =
    let parts = and_parts q.yes (list_all (λ x. x.yes) qs) h in
    rw parts.0 (all_yes qs parts.1)

-- entries that fit stand at permitted prices
orders_stand : (ls : List Level) → list_all level_fits ls ≡ true → AtPermitted ls
orders_stand [] h = tt
orders_stand (l ∷ ls) h =
    let parts = and_parts (level_fits l) (list_all level_fits ls) h in
    ((and_parts (permitted l.price) (leb 1 l.shares && leb l.shares 1000000) parts.0).0, orders_stand ls parts.1)

pub sound_since : (b : Book) → orders_fit b ≡ true → quotes_fit (image_market b) ≡ true → Sound b
sound_since b orders quotes =
    let o = and_parts (list_all level_fits b.buys) (list_all level_fits b.sells) orders in
    let q = and_parts (side_fits b.bids) (side_fits b.offers) quotes in
    record {
      buys = orders_stand b.buys o.0;
      sells = orders_stand b.sells o.1;
      bids = side_stands b.bids q.0;
      offers = side_stands b.offers q.1;
    }

-- all four questions were answered yes, and the book was settled
pub priced : (image : List ℕ) (last : ℕ) (b : Book) (x : Outcome) → is_image image ≡ true → b ≡ image_book image → orders_fit b ≡ true → quotes_fit (image_market b) ≡ true → last ≤ highest_price → (Sound b → IsOutcome false b last x) → (Sound b → Best b x) → PricedAs image last (Ok x)
priced image last b x layout e orders quotes sale closing best =
    let sound = sound_since b orders quotes in
    let orders_there : orders_fit (image_book image) ≡ true = subst (λ y. orders_fit y ≡ true) e orders in
    let quotes_there : quotes_fit (image_market (image_book image)) ≡ true = subst (λ y. quotes_fit (image_market y) ≡ true) e quotes in
    let yes-all : list_all (λ q. q.yes) (image_questions image last) ≡ true =
    and_from (is_image image) _ layout
    (and_from (orders_fit (image_book image)) _ orders_there (and_from (quotes_fit (image_market (image_book image))) _ quotes_there (and_from (leb last highest_price) true (le-leb last highest_price sale) refl))) in
    subst (λ o. PricedUnless o image last (Ok x)) (sym (all_yes (image_questions image last) yes-all)) (record {
      closing = subst (λ y. IsOutcome false y last x) e (closing sound);
      best = subst (λ y. Best y x) e (best sound);
    })

-- the image was refused, and the output has its length
refused_by : (o : Option Refusal) (image : List ℕ) (last : ℕ) (out : List ℕ) (e : Refusal) → PricedUnless o image last (Err e) → AnsweredBy o image last out (refusal_number e) out
refused_by None image last out e p = absurd p
refused_by (Some f) image last out e p = let same : e ≡ f = cc in record { answer = ap refusal_number same; same = refl }

pub refused : (image : List ℕ) (last : ℕ) (out : List ℕ) (e : Refusal) → length out ≡ answer_length → PricedAs image last (Err e) → ImagePricing image last out (refusal_number e) out
refused image last out e long p =
    let t : eqb (length out) answer_length ≡ true = eq-eqb (length out) answer_length long in
    subst (λ b. AnsweredBy (cond b (first_no (image_questions image last)) (Some OutputLength)) image last out (refusal_number e) out) (sym t)
    (refused_by (first_no (image_questions image last)) image last out e p)

-- the image was priced, and the outcome was written
granted_by : (o : Option Refusal) (image : List ℕ) (last : ℕ) (out : List ℕ) (x : Outcome) (after : List ℕ) → PricedUnless o image last (Ok x) → after ≡ outcome_bytes x → AnsweredBy o image last out 0 after
granted_by None image last out x after p e = record { answer = refl; outcome = x; settled = p; bytes = e }
granted_by (Some f) image last out x after p e = cc

pub granted : (image : List ℕ) (last : ℕ) (out : List ℕ) (x : Outcome) (after : List ℕ) → length out ≡ answer_length → PricedAs image last (Ok x) → after ≡ outcome_bytes x → ImagePricing image last out 0 after
granted image last out x after long p e =
    let t : eqb (length out) answer_length ≡ true = eq-eqb (length out) answer_length long in
    subst (λ b. AnsweredBy (cond b (first_no (image_questions image last)) (Some OutputLength)) image last out 0 after) (sym t)
    (granted_by (first_no (image_questions image last)) image last out x after p e)

-- what an outcome says, in numbers
outcome_says_by : (o : Option Refusal) (image : List ℕ) (last : ℕ) (r : Result Outcome Refusal) → PricedUnless o image last r → IfOk r (OutcomeSays (image_book image) last)
outcome_says_by None image last (Ok x) p = says (image_book image) last x p.closing p.best
outcome_says_by None image last (Err e) p = absurd p
outcome_says_by (Some f) image last (Ok x) p = cc
outcome_says_by (Some f) image last (Err e) p = tt

pub outcome_says : (image : List ℕ) (last : ℕ) (r : Result Outcome Refusal) → PricedAs image last r → IfOk r (OutcomeSays (image_book image) last)
outcome_says image last r p = outcome_says_by (first_no (image_questions image last)) image last r p

-- the number of an answer is that of the first question with the answer no
abbrev number_or_0 : Option Refusal → ℕ
number_or_0 None = 0
number_or_0 (Some refusal) = refusal_number refusal

number_by : (o : Option Refusal) (image : List ℕ) (last : ℕ) (r : Result Outcome Refusal) → PricedUnless o image last r → answer_number r ≡ number_or_0 o
number_by None image last (Ok x) p = refl
number_by None image last (Err e) p = absurd p
number_by (Some f) image last (Ok x) p = cc
number_by (Some f) image last (Err e) p = let same : e ≡ f = cc in ap refusal_number same

asked : (layout orders quotes sale : Bool) → number_or_0 (cond layout (cond orders (cond quotes (cond sale None (Some LastSale)) (Some Quotes)) (Some ImageOrder)) (Some ImageLayout)) ≡ cond layout (cond orders (cond quotes (cond sale 0 19) 4) 26) 25
asked true true true true = refl
asked true true true false = refl
asked true true false sale = refl
asked true false quotes sale = refl
asked false orders quotes sale = refl

-- the numbers of a whole answer
with_number : (image : List ℕ) (last : ℕ) (r : Result Outcome Refusal) → answer_number r ≡ image_number image last → IfOk r (OutcomeSays (image_book image) last) → PricedNumbers image last (pricing_numbers r)
with_number image last (Ok (Ok x)) number says = record { refusal_is = number; refused = λ h. absurd (omega arith); says = λ e. says }
with_number image last (Ok (Err cause)) number says = record { refusal_is = number; refused = λ h. absurd (omega arith); says = λ e. says }
with_number image last (Err refusal) number says = record {
  refusal_is = number;
  refused = λ h. (refl, refl, refl);
  says = λ e. absurd (omega (arith, refusal_counts refusal, e));
}

pub priced_numbers : (image : List ℕ) (last : ℕ) (r : Result Outcome Refusal) → PricedAs image last r → PricedNumbers image last (pricing_numbers r)
priced_numbers image last r p =
    let is = number_by (first_no (image_questions image last)) image last r p in
    with_number image last r (is ∙ asked (is_image image) (orders_fit (image_book image)) (quotes_fit (image_market (image_book image))) (leb last highest_price)) (outcome_says image last r p)
