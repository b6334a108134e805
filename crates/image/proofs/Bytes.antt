-- Little-endian bytes, as `to_le_bytes` gives them, and as three copies lay them side by side.
use Rattle.std.proofs.Common.{◌≡◌, ℕ, ◌/◌, ◌%◌, List, [], ◌∷◌, ◌++◌, length, drop, arith, length-drop}
use native.Mathlib.Nat.{div-div-eq-div-mul}
use borrow.Rule.Slice.PartMut.{put_mid, post_of}
use Rattle.std.proofs.lemmas.List.{drop_all}
use Rattle.image.specs.Words.{little_endian}

module _ (x : ℕ) where
  pub le4 : (x % 256) ∷ (x / 256 % 256) ∷ (x / 65536 % 256) ∷ (x / 16777216 % 256) ∷ [] ≡ little_endian 4 x
  le4 = simp div-div-eq-div-mul

  pub le8 :
      (x % 256) ∷ (x / 256 % 256) ∷ (x / 65536 % 256) ∷ (x / 16777216 % 256) ∷ (x / 4294967296 % 256) ∷ (x / 1099511627776 % 256) ∷ (x / 281474976710656 % 256) ∷ (x / 72057594037927936 % 256) ∷ []
      ≡ little_endian 8 x
  le8 = simp div-div-eq-div-mul

pub laid :
    (out : List ℕ) (x y z : ℕ) → length out ≡ 16
    → put_mid 8 8 (put_mid 4 4 (little_endian 4 x ++ post_of 0 4 out) (little_endian 4 y)) (little_endian 8 z) ≡ little_endian 4 x ++ (little_endian 4 y ++ little_endian 8 z)
laid out x y z h =
    let t : drop 8 (drop 4 (drop 4 out)) ≡ [] = drop_all 8 (drop 4 (drop 4 out)) (simp length-drop (omega arith)) in
    rw t
