-- The calls as the definitions know them: what is asked of the engine. The code's `Call` is read into it by `asked`, so
-- that a call which comes to the engine in another way costs the definitions and the proofs nothing.
use Rattle.std.specs.Prelude.{ℕ}
use Rattle.orders.specs.declared.order.Order.{Order}
use Rattle.engine.specs.declared.call.Call.{Call}
use Rattle.engine.specs.declared.call.Call.TheVariants as call
use Rattle.engine.specs.declared.call.Facts.{Facts}

-- times are milliseconds since midnight, `last` is the last sale in points, 0 for none, and tickets count from 1
pub data Asked : Type 0 where
  Begin : (time : ℕ) (order : Order) (facts : Facts) → Asked
  Enter : (order : Order) → Asked
  Cancel : (number : ℕ) → Asked
  Close : (time last : ℕ) → Asked
  Report : (ticket filled : ℕ) → Asked
  Match : (time : ℕ) → Asked
  Finish : (time : ℕ) → Asked
  Abort : (time : ℕ) → Asked

-- what a call of the code asks
abbrev pub asked : Call → Asked
asked (call.Begin time order facts) = Begin time order facts
asked (call.Enter order) = Enter order
asked (call.Cancel number) = Cancel number
asked (call.Close time last) = Close time last
asked (call.Report ticket filled) = Report ticket filled
asked (call.Match time) = Match time
asked (call.Finish time) = Finish time
asked (call.Abort time) = Abort time
