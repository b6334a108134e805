-- Laws of the rows that hold whatever they hold.
use Rattle.std.specs.Prelude.{◌≡◌, ℕ, ◌+◌, ◌-◌, ◌<◌, ◌≤◌, ◌↔◌, ◌⊎◌, min, Bool, true, List, ◌++◌, Some, sum_by, nat_lt}
use Rattle.market.specs.Limits.{most_shares}
use Rattle.market.specs.Prices.{Permitted}
use Rattle.market.specs.Rankings.{higher, lower}
use Rattle.orders.specs.declared.order.Class.{Class}
use Rattle.orders.specs.declared.order.Order.{Order}
use Rattle.orders.specs.declared.row.OrderRow.{OrderRow}
use Rattle.orders.specs.Orders.{class_number, class_numbered, well_formed}
use Rattle.orders.specs.Rankings.{row_ahead}
use Rattle.orders.specs.Rows.{is_whole, entered_row, with_cancelled, with_here, with_out, with_settled, Moved}
use Rattle.orders.specs.Tables.{available, handed}

-- each class is found by its number
abbrev pub ClassesNumbered : Type 0
ClassesNumbered = (x : Class) → class_numbered (class_number x) ≡ Some x

-- an order has a number, a side, a class, a permitted price, and 1 share to the most that one has
pub record Formed (o : Order) : Type 0 where
  pub number : 1 ≤ o.number
  pub side : (o.side ≡ 1) ⊎ (o.side ≡ 2)
  pub class : o.class ≤ 2
  pub price : Permitted o.price
  pub least : 1 ≤ o.shares
  pub most : o.shares ≤ most_shares

-- it is well formed just then
abbrev pub OrdersFormed : Type 0
OrdersFormed = (o : Order) → well_formed o ≡ true ↔ Formed o

-- buys go by higher price and sells by lower price; of one price the lower class goes first, and of one class the lower number
pub record Ranks (a b : OrderRow) : Type 0 where
  pub buys : b.price < a.price → row_ahead higher a b ≡ true
  pub sells : a.price < b.price → row_ahead lower a b ≡ true
  pub classes : a.price ≡ b.price → a.class < b.class
      → (row_ahead higher a b ≡ true) × (row_ahead lower a b ≡ true)
  pub numbers : a.price ≡ b.price → a.class ≡ b.class
      → let lower_number : Bool = nat_lt a.number b.number in
      (row_ahead higher a b ≡ lower_number) × (row_ahead lower a b ≡ lower_number)

abbrev pub OrdersRank : Type 0
OrdersRank = (a b : OrderRow) → Ranks a b

-- the row of an order just accepted is whole
abbrev pub EnteredWhole : Type 0
EnteredWhole = (o : Order) → is_whole (entered_row o) ≡ true

-- each change keeps a whole row whole: no share is lost, and none is made
pub record KeptWhole (w : OrderRow) : Type 0 where
  pub cancelled : is_whole (with_cancelled w) ≡ true
  pub here : (n : ℕ) → is_whole (with_here n w) ≡ true
  pub out : (n : ℕ) → is_whole (with_out n w) ≡ true
  pub settled : (shares filled : ℕ) (late : Bool) → is_whole (with_settled shares filled late w) ≡ true

abbrev pub StaysWhole : Type 0
StaysWhole = (w : OrderRow) → is_whole w ≡ true → KeptWhole w

-- each change leaves a row as it may have become, and so do any changes one after another
pub record OnlyMoved (w : OrderRow) : Type 0 where
  pub cancelled : Moved w (with_cancelled w)
  pub here : (n : ℕ) → Moved w (with_here n w)
  pub out : (n : ℕ) → Moved w (with_out n w)
  pub settled : (shares filled : ℕ) (late : Bool) → Moved w (with_settled shares filled late w)
  pub on : (v u : OrderRow) → Moved w v → Moved v u → Moved w u

abbrev pub StaysMoved : Type 0
StaysMoved = (w : OrderRow) → OnlyMoved w

-- later rows get only what the rows before them leave of k
abbrev pub InOrder : Type 0
InOrder =
    (g : ℕ → OrderRow → OrderRow) (k : ℕ) (xs ys : List OrderRow)
    → handed g k (xs ++ ys) ≡ handed g k xs ++ handed g (k - sum_by available xs) ys

-- all of k that is handed out by a change g leaves the rests, and stands in a count of the rows afterwards
pub record Gains (g : ℕ → OrderRow → OrderRow) (count : OrderRow → ℕ)
    (k : ℕ) (ws : List OrderRow) : Type 0 where
  pub rests : sum_by (λ w. w.rest) (handed g k ws) + min k (sum_by available ws) ≡ sum_by (λ w. w.rest) ws
  pub counts : sum_by count (handed g k ws) ≡ sum_by count ws + min k (sum_by available ws)

-- what is handed out here is here afterwards, and what is handed out to other venues is out
abbrev pub HereGains : Type 0
HereGains = (k : ℕ) (ws : List OrderRow) → Gains with_here (λ w. w.here) k ws

abbrev pub OutGains : Type 0
OutGains = (k : ℕ) (ws : List OrderRow) → Gains with_out (λ w. w.out) k ws
