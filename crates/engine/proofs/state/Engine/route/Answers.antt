use Rattle.std.proofs.Common.{arith, rules}
use Rattle.engine.specs.States.{table_rows}
use Rattle.engine.specs.Books.{listed_market}
use Rattle.engine.proofs.Routing.{buys_routed, sells_routed}
use Rattle.engine.proofs.state.Engine.route.Goals as goal

pub returns-then-owed-gt0 : goal.returns-then-owed-gt0
returns-then-owed-gt0 c =
    let r = buys_routed c.args.self.now (listed_market c.args.quotes.now) (table_rows c.args.tables.now) (table_rows c.rank_both.new.self) c.rank_both.ensures.rows c.args.price c.owed_at-owed.result (table_rows c.route_side.new.self) c.route_side.result c.owed_at-owed.ensures c.if-owed-gt0.true c.route_side.ensures.rows c.route_side.ensures.count in
    record { rows = r.0; count = r.1; names = search rules }

pub returns : goal.returns
returns c =
    let r = sells_routed c.args.self.now (listed_market c.args.quotes.now) (table_rows c.args.tables.now) (table_rows c.rank_both.new.self) c.rank_both.ensures.rows c.args.price c.owed_at-owed-2.result (table_rows c.route_side-2.new.self) c.route_side-2.result (omega (arith, c.owed_at-owed.ensures)) c.owed_at-owed-2.ensures c.route_side-2.ensures.rows c.route_side-2.ensures.count in
    record { rows = r.0; count = r.1; names = search rules }
