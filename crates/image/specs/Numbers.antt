-- What reading and pricing an image answer, in numbers: all that a caller in another language has.
use Rattle.std.specs.Prelude.{◌≡◌, ℕ, ◌+◌, ◌*◌, ◌≤◌, ◌↔◌, true, false, cond, List, length, Ok, Err, Result, ◌==◌, nat_le}
use Rattle.market.specs.declared.side.Side.TheVariants.{Buy, Sell}
use Rattle.market.specs.Limits.{highest_price}
use Rattle.market.specs.Fits.{quotes_fit}
use Rattle.market.specs.Refusals.{refusal_number}
use Rattle.market.specs.declared.refusal.Refusal.{Refusal}
use Rattle.pricing.specs.Books.{Book, count_at}
use Rattle.pricing.specs.Outcomes.{Outcome, Nothing, Undecided, Priced, best_on, touching, reference, cause_number, outcome_number, outcome_price, outcome_count}
use Rattle.image.specs.Limits.{answer_length}
use Rattle.image.specs.Words.{word}
use Rattle.image.specs.Images.{is_image, image_book, image_market, orders_fit}

-- 0, or the refusal: 25 for the layout, 26 for an order, 4 for a quote, 19 for the last sale, 24 for the output
abbrev pub read_number : List ℕ → ℕ
read_number image = cond (is_image image) 0 25

abbrev pub image_number : List ℕ → ℕ → ℕ
image_number image last =
    let quotes : ℕ =
    cond (quotes_fit (image_market (image_book image))) (cond (nat_le last highest_price) 0 19) 4 in
    cond (is_image image) (cond (orders_fit (image_book image)) quotes 26) 25

abbrev pub export_number : List ℕ → ℕ → List ℕ → ℕ
export_number image last out =
    cond (length out == answer_length) (image_number image last) 24

-- what the numbers of an outcome say of the book: cause 0 comes with the price and its count, which no other price betters; 2 comes
-- exactly where the market is locked or crossed, and on any other 1 exactly where no price counts a share, and 3 exactly where
-- something can trade, at several prices, and there is no reference
pub record Says (b : Book) (last cause price count : ℕ) : Type 0 where
  pub causes : cause ≤ 3
  pub priced :
      cause ≡ 0
      → Priced b (reference b last) price count × (1 ≤ count) × ((q : ℕ) → count_at b q ≤ count)
  pub nothing :
      cause ≡ 1
      ↔ (touching (best_on Buy b) (best_on Sell b) ≡ false) × ((q : ℕ) → count_at b q ≡ 0)
  pub locked : cause ≡ 2 ↔ touching (best_on Buy b) (best_on Sell b) ≡ true
  pub undecided :
      cause ≡ 3
      ↔ (touching (best_on Buy b) (best_on Sell b) ≡ false)
      × (Nothing b → ⊥) × Undecided b (reference b last)
  pub zeros : 1 ≤ cause → (price ≡ 0) × (count ≡ 0)

abbrev pub OutcomeSays : Book → ℕ → Outcome → Type 0
OutcomeSays b last x = Says b last (outcome_number x) (outcome_price x) (outcome_count x)

-- a whole answer in numbers: the refusal, or 0, and the cause, or 0, with the price and its count
pub record PricingNumbers : Type 0 where
  pub refusal : ℕ
  pub cause : ℕ
  pub price : ℕ
  pub count : ℕ

abbrev pub pricing : ℕ → ℕ → ℕ → ℕ → PricingNumbers
pricing refusal cause price count = record {
  refusal = refusal;
  cause = cause;
  price = price;
  count = count;
}

abbrev pub pricing_numbers : Result Outcome Refusal → PricingNumbers
pricing_numbers (Err refusal) = pricing (refusal_number refusal) 0 0 0
pricing_numbers (Ok (Err cause)) = pricing 0 (cause_number cause) 0 0
pricing_numbers (Ok (Ok x)) = pricing 0 0 x.0 x.1

-- what the numbers of an answer are: the refusal is that of the first question with the answer no, and comes with zeros; where there
-- is none, the other three say what they say of the book
pub record PricedNumbers (image : List ℕ) (last : ℕ) (n : PricingNumbers) : Type 0 where
  pub refusal_is : n.refusal ≡ image_number image last
  pub refused : 1 ≤ n.refusal → (n.cause ≡ 0) × (n.price ≡ 0) × (n.count ≡ 0)
  pub says : n.refusal ≡ 0 → Says (image_book image) last n.cause n.price n.count

-- the three numbers in the bytes of an answer
pub record Reads (bytes : List ℕ) (price cause count : ℕ) : Type 0 where
  pub price_is : word bytes 0 ≡ price
  pub cause_is : word bytes 4 ≡ cause
  pub count_is : word bytes 8 + 4294967296 * word bytes 12 ≡ count

-- what they say of the book, as a caller reads them
abbrev pub BytesSay : Book → ℕ → List ℕ → Type 0
BytesSay b last bytes =
    Says b last (word bytes 4) (word bytes 0) (word bytes 8 + 4294967296 * word bytes 12)
