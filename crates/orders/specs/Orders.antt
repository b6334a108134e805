-- What the numbers of an order say, and when it is well formed.
use Rattle.std.specs.Prelude.{ℕ, Bool, cond, not, ◌&&◌, List, ◌++◌, is_some, Some, None, Option, ◌==◌, codes, decimal}
use Rattle.market.specs.Prices.{fits}
pub use Rattle.market.specs.Sides.{side_numbered}
use Rattle.market.specs.declared.side.Side.{Side}
use Rattle.orders.specs.declared.order.Order.{Order}
use Rattle.orders.specs.declared.order.Class.{Class}
use Rattle.orders.specs.declared.order.UnknownClass.{UnknownClass}
use Rattle.orders.specs.declared.order.Class.TheVariants.{Displayed, Reserve, Hidden}

abbrev pub class_number : Class → ℕ
class_number Displayed = 0
class_number Reserve = 1
class_number Hidden = 2

abbrev pub class_numbered : ℕ → Option Class
class_numbered n =
    cond (n == 0) (Some Displayed)
    (cond (n == 1) (Some Reserve)
    (cond (n == 2) (Some Hidden) None))

-- a number that no class has
abbrev pub unknown_class : ℕ → UnknownClass
unknown_class n = record { 0 = n }

abbrev pub unknown_class_text : ℕ → List ℕ
unknown_class_text n = codes "no class of orders has number " ++ decimal n

-- a number that is not 0, a side, a class, a permitted price, and 1 share to the most that one has
abbrev pub well_formed : Order → Bool
well_formed o =
    not (o.number == 0)
    && (fits o.price o.shares
    && (is_some (side_numbered o.side) && is_some (class_numbered o.class)))

-- both, where both are there
abbrev pub both_of : {A B : Type 0} → Option A → Option B → Option (A × B)
both_of (Some a) (Some b) = Some (a, b)
both_of (Some a) None = None
both_of None _ = None

-- the side and the class of a well-formed order
abbrev pub typed : Order → Option (Side × Class)
typed o = cond (well_formed o) (both_of (side_numbered o.side) (class_numbered o.class)) None
