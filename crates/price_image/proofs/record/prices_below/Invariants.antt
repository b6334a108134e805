use Rattle.std.proofs.Common.{◌≡◌, ◌-◌, length, drop}
use Rattle.price_image.specs.declared.record.TheConstants.{SHOWN}
use Rattle.price_image.proofs.record.prices_below.Given as goal

-- the last of the prices so far
abbrev pub invariant-loop-price : goal.invariant-loop-price
invariant-loop-price l = l.last.items ≡ drop (length l.yielded - SHOWN) l.yielded
