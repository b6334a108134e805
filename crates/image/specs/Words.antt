-- Little-endian words in a list of bytes.
use Rattle.std.specs.Prelude.{ℕ, zero, suc, ◌+◌, ◌*◌, ◌/◌, ◌%◌, List, [], ◌∷◌, slice_index}

-- the word of four bytes that begins at a byte
abbrev pub word : List ℕ → ℕ → ℕ
word bs at =
    slice_index bs at + 256 * slice_index bs (at + 1)
    + 65536 * slice_index bs (at + 2) + 16777216 * slice_index bs (at + 3)

-- the n lowest bytes of x, lowest first
abbrev pub little_endian : ℕ → ℕ → List ℕ
little_endian zero x = []
little_endian (suc n) x = (x % 256) ∷ little_endian n (x / 256)
