-- Which rows have a record, and what is said of the others.
use Rattle.std.specs.Prelude.{◌≡◌, ℕ, true, false, List, ◌++◌, Result, MatchResult, codes, decimal}
use Rattle.orders.specs.declared.record.OrderRecord.{OrderRecord}
use Rattle.orders.specs.declared.record.NotWhole.{NotWhole}
use Rattle.orders.specs.declared.row.OrderRow.{OrderRow}
use Rattle.orders.specs.Rows.{is_whole}

-- the record of a row where its counts add up; else the row is refused
abbrev pub RecordOf : OrderRow → Result OrderRecord NotWhole → Type 0
RecordOf w r = MatchResult r (λ x. (x ≡ w) × (is_whole w ≡ true)) (λ e. (e.0 ≡ w) × (is_whole w ≡ false))

-- what is said of a row that has none
abbrev pub not_whole_text : OrderRow → List ℕ
not_whole_text w = codes "the counts of order " ++ (decimal w.number ++ codes " do not add up")
