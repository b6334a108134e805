use Rattle.std.proofs.Common.{◌-◌, get_or, refl, rules, arith}
use borrow.Author.Tests.{ltb-true, ltb-false}
use Rattle.market.specs.Markets.{no_quote}
use Rattle.orders.specs.Rows.{empty_row}
use Rattle.routing.proofs.Cursors.{at_start, order_ends, quote_ends, orders_done, quotes_done, ticketed_all}
use Rattle.routing.proofs.tickets.write_tickets.Goals as goal

pub loop-waiting-init : goal.loop-waiting-init
loop-waiting-init c = at_start _ _ _ _

pub loop-waiting-preserved-then-rest-shares : goal.loop-waiting-preserved-then-rest-shares
loop-waiting-preserved-then-rest-shares c =
    let l = c.loop-waiting in
    let put = c.put_ticket-count.ensures in
    order_ends _ _ _ _ _ _ _ _ _ _ _ l.invariant (omega (arith, ltb-false)) (omega (arith, ltb-false)) _ _ _ put.count put.out
    ((get_or l.waiting.now 0 empty_row).rest - l.filled) ((get_or l.standing.now 0 no_quote).shares - l.taken) c.min-tied.result
    refl refl (omega arith) (search rules) (omega arith)

pub loop-waiting-preserved : goal.loop-waiting-preserved
loop-waiting-preserved c =
    let l = c.loop-waiting in
    let put = c.put_ticket-count-else-rest-shares.ensures in
    quote_ends _ _ _ _ _ _ _ _ _ _ _ l.invariant (omega (arith, ltb-false)) (omega (arith, ltb-false)) _ _ _ put.count put.out
    ((get_or l.waiting.now 0 empty_row).rest - l.filled) ((get_or l.standing.now 0 no_quote).shares - l.taken) c.min-tied-else-rest-shares.result
    refl refl (omega arith) (search rules) (omega arith)

pub returns-in_default : goal.returns-in_default
returns-in_default c =
    let t = orders_done _ _ _ _ _ _ _ _ _ _ _ c.loop-waiting.invariant (omega arith) (omega (arith, ltb-true)) in
    record { part = t; all = ticketed_all _ _ _ _ _ _ t }

pub returns-in_default-2 : goal.returns-in_default-2
returns-in_default-2 c =
    let t = quotes_done _ _ _ _ _ _ _ _ _ _ _ c.loop-waiting.invariant (omega arith) (omega (arith, ltb-true)) in
    record { part = t; all = ticketed_all _ _ _ _ _ _ t }
