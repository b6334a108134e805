-- What a refused entry is told.
use Rattle.std.specs.Prelude.{ℕ, List, codes}

abbrev pub full_text : List ℕ
full_text = codes "no row is free"
