use Rattle.std.proofs.Common.{refl}
use Rattle.worked_books.proofs.Checked.{books_close, books_route, books_imaged}
use Rattle.worked_books.proofs.books.worked_books_close.Goals as goal

pub returns : goal.returns
returns c = record { books = refl; close = books_close; route = books_route; imaged = books_imaged }
