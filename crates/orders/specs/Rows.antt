-- The row of an order, its price for ranking and counting, and each change of its counts.
use Rattle.std.specs.Prelude.{◌≡◌, ℕ, ◌+◌, ◌-◌, ◌≤◌, min, Bool, cond, ◌==◌}
use Rattle.pricing.specs.declared.level.Level.{Level}
use Rattle.orders.specs.declared.order.Order.{Order}
use Rattle.orders.specs.declared.row.OrderRow.{OrderRow}
use Rattle.orders.specs.declared.record.Destination.{Destination}
use Rattle.orders.specs.declared.record.Destination.TheVariants.{Here, Out}

-- a row with no order in it
abbrev pub empty_row : OrderRow
empty_row = record {
  number = 0;
  class = 0;
  price = 0;
  shares = 0;
  rest = 0;
  here = 0;
  away = 0;
  out = 0;
  cancelled = 0;
  late = 0;
}

-- what rests of a row, and the price at which it ranks and counts
abbrev pub level_of : OrderRow → Level
level_of w = record { price = w.price; shares = w.rest }

-- all shares of an order just accepted are rest
abbrev pub entered_row : Order → OrderRow
entered_row o = record empty_row {
  number = o.number;
  class = o.class;
  price = o.price;
  shares = o.shares;
  rest = o.shares;
}

-- the counts add up to the shares as entered
abbrev pub is_whole : OrderRow → Bool
is_whole w = w.shares == w.rest + w.here + w.away + w.out + w.cancelled + w.late

-- the rest is cancelled
abbrev pub with_cancelled : OrderRow → OrderRow
with_cancelled w = record w { rest = 0; cancelled = w.cancelled + w.rest }

-- n shares of the rest, or all of it, are filled here
abbrev pub with_here : ℕ → OrderRow → OrderRow
with_here n w = record w { rest = w.rest - n; here = w.here + min n w.rest }

-- n shares of the rest, or all of it, go out
abbrev pub with_out : ℕ → OrderRow → OrderRow
with_out n w = record w { rest = w.rest - n; out = w.out + min n w.rest }

-- n shares of the rest, or all of it, go where they are sent
abbrev pub sent : Destination → ℕ → OrderRow → OrderRow
sent Here = with_here
sent Out = with_out

-- of a ticket's shares those that were out come back, and of these up to `filled` are filled
abbrev pub back : ℕ → OrderRow → ℕ
back shares w = min shares w.out

abbrev pub gained : ℕ → ℕ → OrderRow → ℕ
gained shares filled w = min filled (back shares w)

-- what came back unfilled is late, or rests again
abbrev pub with_settled : ℕ → ℕ → Bool → OrderRow → OrderRow
with_settled shares filled late w =
    let unfilled : ℕ = back shares w - gained shares filled w in
    record w {
      rest = w.rest + cond late 0 unfilled;
      away = w.away + gained shares filled w;
      out = w.out - back shares w;
      late = w.late + cond late unfilled 0;
    }

-- what may have become of a row: it is of the same order, what is filled, cancelled or late stays so, and of what does not, no
-- more is rest or out than was
pub record Moved (from to : OrderRow) : Type 0 where
  pub number : to.number ≡ from.number
  pub class : to.class ≡ from.class
  pub price : to.price ≡ from.price
  pub shares : to.shares ≡ from.shares
  pub here : from.here ≤ to.here
  pub away : from.away ≤ to.away
  pub cancelled : from.cancelled ≤ to.cancelled
  pub late : from.late ≤ to.late
  pub left : to.rest + to.out ≤ from.rest + from.out
