use Rattle.std.proofs.Common.{refl}
use Rattle.image.proofs.image.BookImage.read.Goals as goal

pub returns-clause-book : goal.returns-clause-book
returns-clause-book c = (c.in_ok-sizes.ensures.0, refl)
