-- A number in a hole with a width and zeros, and an empty text in a hole with a width.
use Rattle.std.proofs.Common.{◌≡◌, ℕ, zero, suc, ◌-◌, ◌/◌, ◌%◌, ◌<◌, ◌^◌, [], ◌∷◌, ◌++◌, false, replicate, decimal, codes, refl, ap, rules, append_assoc}
use Rattle.std.specs.Fmt.{format_spec, padded_integral, padded, styled_text, char_count, take_chars}
use Rattle.std.specs.List.{repeat}
use Rattle.report.specs.Numbers.{zero_filled, grouped_text}

pub filled : (width n : ℕ) → padded_integral (format_spec 32 0 4 width (2 ^ 64 - 1)) false [] (decimal n) ≡ zero_filled width n
unfolding padded_integral char_count
filled width n = search rules

-- with two commas, and with three
pub in_millions : (n : ℕ) → 0 < n / 1000 / 1000 → n / 1000 / 1000 / 1000 ≡ 0
    → grouped_text n ≡ decimal (n / 1000 / 1000 % 1000) ++ (codes "," ++ (zero_filled 3 (n / 1000 % 1000) ++ (codes "," ++ zero_filled 3 (n % 1000))))
in_millions n some none = search (rules, append_assoc)

pub in_billions : (n : ℕ) → 0 < n / 1000 / 1000 / 1000
    → grouped_text n ≡ decimal (n / 1000 / 1000 / 1000) ++ (codes "," ++ (zero_filled 3 (n / 1000 / 1000 % 1000) ++ (codes "," ++ (zero_filled 3 (n / 1000 % 1000) ++ (codes "," ++ zero_filled 3 (n % 1000))))))
in_billions n some = search (rules, append_assoc)

blanks : (n : ℕ) → repeat {A = ℕ} n (32 ∷ []) ≡ replicate n 32
blanks zero = refl
blanks (suc n) = ap (λ xs. 32 ∷ xs) (blanks n)

pub blanked : (width : ℕ) → styled_text (format_spec 32 0 0 width (2 ^ 64 - 1)) [] ≡ replicate width 32
unfolding padded char_count take_chars lib.Utf8.encode
blanked width = search (rules, blanks)
