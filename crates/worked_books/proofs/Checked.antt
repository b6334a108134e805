-- The table of worked books, settled by computing.
use Rattle.std.proofs.Common.{◌≡◌, Bool, true, false, ◌&&◌, List, [], ◌∷◌, map, refl, subst}
use Rattle.std.specs.List.{AllByRecursion, list_all}
use Rattle.std.proofs.lemmas.Bool.{and_parts}
use Rattle.pricing.specs.Books.{at_or_above, at_or_below, above, below}
use Rattle.pricing.specs.Outcomes.{Outcome, IsOutcome}
use Rattle.image.specs.Images.{image_book}
use Rattle.worked_books.specs.Bytes.{image_of, BooksImaged}
use Rattle.worked_books.specs.Table.{Example, worked_book, routed, books, BooksClose, BooksRoute}
use Rattle.worked_books.proofs.Deciding.{is_sound, is_lowest, low_of, decided, sound_since, lowest_since, decided_right}

-- the book of a row is sound, and its lowest candidate was found
abbrev passes : Example → Bool
passes e = is_sound (worked_book e.book) && is_lowest (worked_book e.book) (low_of (worked_book e.book))

abbrev answer : Example → Outcome
answer e = decided (worked_book e.book) e.book.last_sale (low_of (worked_book e.book))

abbrev Closes : Example → Type 0
Closes e = IsOutcome false (worked_book e.book) e.book.last_sale e.outcome

closes : (e : Example) → passes e ≡ true → answer e ≡ e.outcome → Closes e
closes e ok same =
    let b = worked_book e.book in
    let parts = and_parts (is_sound (worked_book e.book)) (is_lowest (worked_book e.book) (low_of (worked_book e.book))) ok in
    let right = decided_right b (sound_since b parts.0) (low_of b) (lowest_since b (low_of b) parts.1) e.book.last_sale in
    subst (λ x. IsOutcome false b e.book.last_sale x) same right

close_all : (es : List Example) → list_all passes es ≡ true → map answer es ≡ map (λ e. e.outcome) es → AllByRecursion Closes es
close_all [] ok same = tt
close_all (e ∷ es) ok same =
    let parts = and_parts (passes e) (list_all passes es) ok in
    let head : answer e ≡ e.outcome = cc in
    let tail : map answer es ≡ map (λ x. x.outcome) es = cc in
    (closes e parts.0 head, close_all es parts.1 tail)

all_pass_lem : list_all passes books ≡ true
unfolding at_or_above at_or_below above below
all_pass_lem = refl

all_answered : map answer books ≡ map (λ e. e.outcome) books
unfolding at_or_above at_or_below above below
all_answered = refl

pub books_close : BooksClose
books_close = close_all books all_pass_lem all_answered

-- what is the same of every row
same_all : {A : Type 0} (f g : Example → A) (es : List Example) → map f es ≡ map g es → AllByRecursion (λ e. f e ≡ g e) es
same_all f g [] same = tt
same_all f g (e ∷ es) same =
    let head : f e ≡ g e = cc in
    let tail : map f es ≡ map g es = cc in
    (head, same_all f g es tail)

pub books_route : BooksRoute
unfolding at_or_above at_or_below
books_route = same_all (λ e. routed (worked_book e.book) e.outcome) (λ e. e.sent) books refl

pub books_imaged : BooksImaged
books_imaged = same_all (λ e. image_book (image_of e.book)) (λ e. worked_book e.book) books refl
