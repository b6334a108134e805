use Rattle.routing.proofs.Tied.{order_tied, quote_tied}
use Rattle.routing.proofs.Filling.{ties_fill, no_other_fills, ties_ranked}
use Rattle.routing.proofs.Count.{ties_few, tickets_fit}
use Rattle.routing.proofs.Named.{order_ticketed, quote_ticketed}
use Rattle.routing.proofs.Filled.{none_empty, tickets_some}
use Rattle.routing.proofs.CloseTickets.{close_ticketed}
use Rattle.routing.proofs.Owing.{one_side_owes, owed_within, quoted_lem, counted_lem, beyond_lem}
use Rattle.routing.proofs.Totals.{tickets_total}
use Rattle.routing.proofs.Each.{tickets_fill}
use Rattle.routing.proofs.First.{quotes_first}
use Rattle.routing.proofs.laws.ticket_laws.Goals as goal

pub returns : goal.returns
returns c = record { orders = order_tied; quotes = quote_tied; fill = ties_fill; no_other = no_other_fills; ranked = ties_ranked; few = ties_few; order_ticketed = order_ticketed; quote_ticketed = quote_ticketed; fit = tickets_fit; none_empty = none_empty; some = tickets_some; one_side = one_side_owes; close = close_ticketed; within = owed_within; quoted = quoted_lem; counted = counted_lem; beyond = beyond_lem; all = tickets_total; each = tickets_fill; quotes_first = quotes_first }
