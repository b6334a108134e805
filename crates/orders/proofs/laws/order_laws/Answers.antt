use Rattle.std.proofs.Common.{refl}
use Rattle.orders.specs.Rows.{with_here, with_out}
use Rattle.orders.proofs.Conserved.{class_numbered_lem, entered_whole, stays_whole, stays_moved, in_order, gains}
use Rattle.orders.proofs.Ranks.{orders_formed, orders_rank}
use Rattle.orders.proofs.laws.order_laws.Goals as goal

pub returns : goal.returns
returns c = record {
  classes = class_numbered_lem;
  formed = orders_formed;
  ranks = orders_rank;
  entered = entered_whole;
  whole = stays_whole;
  moved = stays_moved;
  order = in_order;
  here = gains with_here (λ w. w.here) (λ n w. refl) (λ n w. refl);
  out = gains with_out (λ w. w.out) (λ n w. refl) (λ n w. refl);
}
