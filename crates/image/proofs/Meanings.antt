-- The parts that a reader cuts out of an image mean the lists of the image.
use Rattle.std.proofs.Common.{◌≡◌, ℕ, zero, suc, ◌+◌, ◌-◌, ◌*◌, ◌<◌, ◌≤◌, List, ◌∷◌, map, length, take, drop, refl, ap, ◌∙◌, arith, length-drop, length-take}
use Rattle.std.specs.List.{range_with_len}
use Rattle.pricing.specs.Books.{levels}
use Rattle.image.specs.Limits.{most_entries}
use Rattle.image.specs.Words.{word}
use Rattle.image.specs.Entries.{level_at, quote_at, length_in, levels_in, quotes_in}
use Rattle.image.specs.Images.{entries_in, price_in, shares_in, orders_from, quotes_from}
use Rattle.image.proofs.Parts.{word_part}

counted_same_from : {X : Type 0} (f g : ℕ → X) (a n : ℕ) → ((k : ℕ) → k < a + n → f k ≡ g k) → map f (range_with_len a n) ≡ map g (range_with_len a n)
counted_same_from f g a zero h = refl
counted_same_from f g a (suc n) h =
    let first = h a (omega arith) in
    let rest = counted_same_from f g (a + 1) n (λ k l. h k (omega arith)) in
    cc

-- lists made by two functions that agree at each place
counted_same : {X : Type 0} (f g : ℕ → X) (m n : ℕ) → m ≡ n → ((k : ℕ) → k < n → f k ≡ g k) → map f (range_with_len 0 m) ≡ map g (range_with_len 0 n)
counted_same f g m n e h = ap (λ x. map f (range_with_len 0 x)) e ∙ counted_same_from f g 0 n (λ k l. h k (omega arith))

module _ (bs : List ℕ) (n from count : ℕ) (exact : length bs ≡ 16 + 8 * n) (size : n ≡ entries_in bs) (within : from + count ≤ n) (few : count ≤ most_entries) where
  abbrev prices : List ℕ
  prices = take (4 * count) (drop (4 * from) (take (16 + 4 * n - 16) (drop 16 bs)))

  abbrev shares : List ℕ
  shares = take (4 * count) (drop (4 * from) (take (length bs - (16 + 4 * n)) (drop (16 + 4 * n) bs)))

  long : length_in prices shares ≡ count
  long =
      let p : length prices ≡ 4 * count = simp (length-take, length-drop) (omega arith) in
      let s : length shares ≡ 4 * count = simp (length-take, length-drop) (omega arith) in
      omega (arith, p, s)

  price_there : (k : ℕ) → k < count → word prices (4 * k) ≡ price_in bs (from + k)
  price_there k h =
      word_part (take (16 + 4 * n - 16) (drop 16 bs)) (4 * from) (4 * count) (4 * k) (4 * (from + k)) (omega arith) (omega arith)
      ∙ word_part bs 16 (16 + 4 * n - 16) (4 * (from + k)) (16 + 4 * (from + k)) (omega arith) (omega arith)

  shares_there : (k : ℕ) → k < count → word shares (4 * k) ≡ shares_in bs (from + k)
  shares_there k h =
      word_part (take (length bs - (16 + 4 * n)) (drop (16 + 4 * n) bs)) (4 * from) (4 * count) (4 * k) (4 * (from + k)) (omega arith) (omega arith)
      ∙ word_part bs (16 + 4 * n) (length bs - (16 + 4 * n)) (4 * (from + k)) (16 + 4 * entries_in bs + 4 * (from + k)) (omega arith) (omega arith)

  pub orders_there : levels_in prices shares ≡ orders_from bs from count
  orders_there =
      counted_same (level_at prices shares) (λ k. record { price = price_in bs (from + k); shares = shares_in bs (from + k) }) (length_in prices shares) count long
      (λ k h. let p = price_there k h in let s = shares_there k h in cc)

  pub quotes_there : quotes_in prices shares ≡ quotes_from bs from count
  quotes_there =
      counted_same (quote_at prices shares) (λ k. record { price = price_in bs (from + k); shares = shares_in bs (from + k); venue = k + 1 }) (length_in prices shares) count long
      (λ k h. let p = price_there k h in let s = shares_there k h in cc)

-- quotes without their venues are the same entries
levels_from : (ps ss : List ℕ) (a n : ℕ) → levels (map (quote_at ps ss) (range_with_len a n)) ≡ map (level_at ps ss) (range_with_len a n)
levels_from ps ss a zero = refl
levels_from ps ss a (suc n) = ap (λ ls. level_at ps ss a ∷ ls) (levels_from ps ss (a + 1) n)

pub levels_in_lem : (ps ss : List ℕ) → levels (quotes_in ps ss) ≡ levels_in ps ss
levels_in_lem ps ss = levels_from ps ss 0 (length_in ps ss)
