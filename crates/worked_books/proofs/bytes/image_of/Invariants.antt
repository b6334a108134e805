use Rattle.std.proofs.Common.{◌≡◌, ◌++◌, take, vec_items}
use Rattle.worked_books.specs.Bytes.{laid, size_in, price_in, shares_in}
use Rattle.worked_books.proofs.bytes.image_of.Given as goal

abbrev pub invariant-loop-list : goal.invariant-loop-list
invariant-loop-list l = vec_items l.bytes ≡ laid size_in (take l.list-index l.list-items)

abbrev pub invariant-loop-list-2 : goal.invariant-loop-list-2
invariant-loop-list-2 l = vec_items l.bytes ≡ laid size_in l.list-items ++ laid price_in (take l.list-index l.list-items)

abbrev pub invariant-loop-list-3 : goal.invariant-loop-list-3
invariant-loop-list-3 l = vec_items l.bytes ≡ (laid size_in l.list-items ++ laid price_in l.list-items) ++ laid shares_in (take l.list-index l.list-items)
