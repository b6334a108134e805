-- A word of a part of some bytes is a word of the whole.
use Rattle.std.proofs.Common.{◌≡◌, ℕ, ◌+◌, ◌<◌, ◌≤◌, List, get_or, take, drop, ap, ◌∙◌, arith, get_or-drop, get_or-take}
use Rattle.image.specs.Words.{word}

byte_part : (bs : List ℕ) (a n j at : ℕ) → j < n → a + j ≡ at → get_or (take n (drop a bs)) j 0 ≡ get_or bs at 0
byte_part bs a n j at h e = get_or-take n (drop a bs) j 0 h ∙ get_or-drop a bs j 0 ∙ ap (λ i. get_or bs i 0) e

pub word_part : (bs : List ℕ) (a n j at : ℕ) → j + 4 ≤ n → a + j ≡ at → word (take n (drop a bs)) j ≡ word bs at
word_part bs a n j at h e =
    let b0 = byte_part bs a n j at (omega arith) e in
    let b1 = byte_part bs a n (j + 1) (at + 1) (omega arith) (omega arith) in
    let b2 = byte_part bs a n (j + 2) (at + 2) (omega arith) (omega arith) in
    let b3 = byte_part bs a n (j + 3) (at + 3) (omega arith) (omega arith) in
    omega arith
