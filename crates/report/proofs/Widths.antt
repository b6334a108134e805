-- How many digits a number has.
use Rattle.std.proofs.Common.{◌≡◌, ℕ, zero, suc, ◌+◌, ◌*◌, ◌/◌, ◌%◌, ◌^◌, ◌<◌, ◌≤◌, min, max, [], ◌∷◌, length, decimal, ap, ◌∙◌, pow-suc, arith, lit<, length-append}
use native.Mathlib.Nat.{one-le-pow}
use Rattle.report.specs.Numbers.{grouped_width}
use Rattle.std.proofs.lemmas.Fmt.{decimal_step, decimal_nonempty, length-decimal-le}

at_least : (k n : ℕ) → 10 ^ k ≤ n → n < 2 ^ 64 → k < length (decimal n)
at_least zero n h small = decimal_nonempty n small
at_least (suc k) n h small =
    let power : 10 ^ suc k ≡ 10 ^ k * 10 = pow-suc 10 k in
    let one : 1 ≤ 10 ^ k = one-le-pow k 10 (lit< tt) in
    let step : decimal n ≡ _ = decimal_step n (omega (arith, power, one)) small in
    let longer : length (decimal n) ≡ length (decimal (n / 10)) + 1 = ap (λ ds. length ds) step ∙ length-append (decimal (n / 10)) ((48 + n % 10) ∷ []) in
    omega (arith, longer, at_least k (n / 10) (omega (arith, power)) (omega arith))

-- a number from 10 ^ k up to the next power of ten has k + 1 digits; 0 has one, as 1 has
digits_are : (k n : ℕ) → 10 ^ k ≤ max n 1 → max n 1 < 10 * 10 ^ k → n < 2 ^ 64 → length (decimal n) ≡ k + 1
digits_are zero n low high small = omega (arith, decimal_nonempty n small, length-decimal-le 1 n (lit< tt) (omega (arith, high)) small)
digits_are (suc k) n low high small =
    let power : 10 ^ suc k ≡ 10 ^ k * 10 = pow-suc 10 k in
    let next : 10 ^ suc (suc k) ≡ 10 ^ suc k * 10 = pow-suc 10 (suc k) in
    let one : 1 ≤ 10 ^ k = one-le-pow k 10 (lit< tt) in
    omega (arith, at_least (suc k) n (omega (arith, power, one, low)) small, length-decimal-le (suc (suc k)) n (omega arith) (omega (arith, next, high)) small)

-- its width, with a comma before each three digits but at the front
pub width_is : (k m n w : ℕ) → m ≡ max n 1 → 10 ^ k ≤ m → m < 10 * 10 ^ k → w ≡ min (k + 1 + k / 3) 14 → n < 2 ^ 64 → w ≡ grouped_width n
width_is k m n w least low high width small =
    let digits = digits_are k n (omega (arith, low, least)) (omega (arith, high, least)) small in
    grind (arith, digits, width)
