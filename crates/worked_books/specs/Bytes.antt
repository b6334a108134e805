-- The image of a worked book, and an answer that is read back.
use Rattle.std.specs.Prelude.{◌≡◌, ℕ, ◌+◌, ◌*◌, List, [], ◌∷◌, ◌++◌, Some, None, Option}
use Rattle.std.specs.List.{AllByRecursion}
use Rattle.image.specs.Images.{image_book}
use Rattle.image.specs.Words.{word, little_endian}
use Rattle.pricing.specs.declared.level.Level.{Level}
use Rattle.worked_books.specs.declared.books.Worked.{Worked}
use Rattle.worked_books.specs.declared.bytes.Priced.{Priced}
use Rattle.worked_books.specs.Table.{worked_book, books}

-- the bytes of each list, one after another
abbrev pub laid : (Option Level → List ℕ) → List (Option Level) → List ℕ
laid f [] = []
laid f (x ∷ xs) = f x ++ laid f xs

abbrev pub size_in : Option Level → List ℕ
size_in None = little_endian 4 0
size_in (Some l) = little_endian 4 1

abbrev pub price_in : Option Level → List ℕ
price_in None = []
price_in (Some l) = little_endian 4 l.price

abbrev pub shares_in : Option Level → List ℕ
shares_in None = []
shares_in (Some l) = little_endian 4 l.shares

abbrev pub lists_of : Worked → List (Option Level)
lists_of w = w.buy ∷ w.sell ∷ w.bid ∷ w.offer ∷ []

-- four sizes, then the prices, then the shares
abbrev pub image_of : Worked → List ℕ
image_of w = laid size_in (lists_of w) ++ (laid price_in (lists_of w) ++ laid shares_in (lists_of w))

-- the image of each worked book means it
abbrev pub BooksImaged : Type 0
BooksImaged = AllByRecursion (λ e. image_book (image_of e.book) ≡ worked_book e.book) books

-- price and cause in four bytes each, the count in eight
abbrev pub answer_in : List ℕ → Priced
answer_in bs = record { price = word bs 0; cause = word bs 4; count = word bs 8 + 4294967296 * word bs 12 }
