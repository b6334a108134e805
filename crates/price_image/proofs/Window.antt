-- A window that slides over a list: its last n items.
use Rattle.std.proofs.Common.{◌≡◌, ◌∙◌, ◌<◌, ◌≤◌, ◌+◌, ◌-◌, ℕ, List, [], ◌∷◌, ◌++◌, length, drop, ap, subst, sym, arith}
use Rattle.std.specs.List.{remove}
use Rattle.std.proofs.lemmas.List.{drop-append-le, drop-drop, length-drop, length_push}

-- one item more where the window has room: nothing of it goes
pub grown : (n : ℕ) (xs : List ℕ) (x : ℕ) → length (drop (length xs - n) xs) < n
    → drop (length (xs ++ x ∷ []) - n) (xs ++ x ∷ []) ≡ drop (length xs - n) xs ++ x ∷ []
grown n xs x room =
    let few : length xs - (length xs - n) < n = subst (λ k. k < n) (length-drop (length xs - n) xs) room in
    let now : length (xs ++ x ∷ []) - n ≡ 0 = omega (arith, few, length_push xs x) in
    let before : length xs - n ≡ 0 = omega (arith, few) in
    ap (λ k. drop k (xs ++ x ∷ [])) now ∙ ap (λ k. drop k xs ++ x ∷ []) (sym before)

-- one item more where it is full: its first goes
pub slid : (n : ℕ) (xs : List ℕ) (x : ℕ) → 0 < n → length (drop (length xs - n) xs) ≡ n
    → drop (length (xs ++ x ∷ []) - n) (xs ++ x ∷ []) ≡ remove (drop (length xs - n) xs) 0 ++ x ∷ []
slid n xs x some full =
    let all : length xs - (length xs - n) ≡ n = sym (length-drop (length xs - n) xs) ∙ full in
    let now : length (xs ++ x ∷ []) - n ≡ (length xs - n) + 1 = omega (arith, some, all, length_push xs x) in
    let within : (length xs - n) + 1 ≤ length xs = omega (arith, some, all) in
    ap (λ k. drop k (xs ++ x ∷ [])) now ∙ drop-append-le ((length xs - n) + 1) xs (x ∷ []) within ∙ ap (λ ys. ys ++ x ∷ []) (sym (drop-drop 1 (length xs - n) xs))
