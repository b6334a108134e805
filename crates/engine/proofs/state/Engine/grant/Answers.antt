use Rattle.std.proofs.Common.{◌∙◌, ap, sym, Err, rules}
use Rattle.pricing.specs.declared.cause.Cause.TheVariants.{NothingToTrade}
use Rattle.market.specs.declared.refusal.Refusal.TheVariants.{TableSizes, OrderForm, AcceptanceLength, SideFull}
use Rattle.engine.specs.Asked.{asked}
use Rattle.engine.specs.Asked.{Begin, Enter, Cancel, Report, Match, Finish, Abort}
use Rattle.engine.specs.States.{table_rows}
use Rattle.engine.specs.Stages.{is_matched, price_of}
use Rattle.engine.specs.Effects.{granted, report, matched, to_execute}
use Rattle.engine.proofs.Sizes.{sizes}
use Rattle.engine.proofs.Turning.{answered, granted_by}
use Rattle.engine.proofs.state.Engine.grant.Goals as goal

pub begin-requires-clause-formed : goal.begin-requires-clause-formed
begin-requires-clause-formed g c =
    let k = c.in-Open-Begin in
    answered c.args.self.now (g.S.QuoteSource.meaning c.args.source.now) (table_rows c.args.tables.now) (asked c.args.call.now) (Begin k.time k.order k.facts) (ap asked k.is-1) c.requires OrderForm

pub begin-requires-clause-acceptance : goal.begin-requires-clause-acceptance
begin-requires-clause-acceptance g c =
    let k = c.in-Open-Begin in
    answered c.args.self.now (g.S.QuoteSource.meaning c.args.source.now) (table_rows c.args.tables.now) (asked c.args.call.now) (Begin k.time k.order k.facts) (ap asked k.is-1) c.requires AcceptanceLength

pub returns-in-Open-Begin-clause-called : goal.returns-in-Open-Begin-clause-called
returns-in-Open-Begin-clause-called g c =
    let k = c.in-Open-Begin in
    granted_by c.args.self.now (g.S.QuoteSource.meaning c.args.source.now) (table_rows c.args.tables.now) (asked c.args.call.now) (Begin k.time k.order k.facts) (ap asked k.is-1) c.requires (granted c.begin.new.self (table_rows c.begin.new.tables) c.begin.result) (Err NothingToTrade) tt c.begin.ensures.step

pub enter-requires-clause-sized : goal.enter-requires-clause-sized
enter-requires-clause-sized g c =
    let k = c.in-Acceptance-Enter in
    sizes (table_rows c.args.tables.now) (answered c.args.self.now (g.S.QuoteSource.meaning c.args.source.now) (table_rows c.args.tables.now) (asked c.args.call.now) (Enter k.order) (ap asked k.is-1) c.requires TableSizes)

pub enter-requires-clause-formed : goal.enter-requires-clause-formed
enter-requires-clause-formed g c =
    let k = c.in-Acceptance-Enter in
    answered c.args.self.now (g.S.QuoteSource.meaning c.args.source.now) (table_rows c.args.tables.now) (asked c.args.call.now) (Enter k.order) (ap asked k.is-1) c.requires OrderForm

pub enter-requires-clause-room : goal.enter-requires-clause-room
enter-requires-clause-room g c =
    let k = c.in-Acceptance-Enter in
    answered c.args.self.now (g.S.QuoteSource.meaning c.args.source.now) (table_rows c.args.tables.now) (asked c.args.call.now) (Enter k.order) (ap asked k.is-1) c.requires SideFull

pub returns-in-Acceptance-Enter-clause-called : goal.returns-in-Acceptance-Enter-clause-called
returns-in-Acceptance-Enter-clause-called g c =
    let k = c.in-Acceptance-Enter in
    granted_by c.args.self.now (g.S.QuoteSource.meaning c.args.source.now) (table_rows c.args.tables.now) (asked c.args.call.now) (Enter k.order) (ap asked k.is-1) c.requires (granted c.enter.new.self (table_rows c.enter.new.tables) c.enter.result) (Err NothingToTrade) tt c.enter.ensures.step

pub returns-in-Acceptance-Cancel-clause-called : goal.returns-in-Acceptance-Cancel-clause-called
returns-in-Acceptance-Cancel-clause-called g c =
    let k = c.in-Acceptance-Cancel in
    granted_by c.args.self.now (g.S.QuoteSource.meaning c.args.source.now) (table_rows c.args.tables.now) (asked c.args.call.now) (Cancel k.number) (ap asked k.is-1) c.requires (granted c.args.self.now (table_rows c.cancel.new.tables) c.cancel.result) (Err NothingToTrade) tt c.cancel.ensures.step

-- what is not filled rests again, since the stage is satisfaction; late, since it is matched
pub returns-in-Satisfaction-Report-clause-called : goal.returns-in-Satisfaction-Report-clause-called
returns-in-Satisfaction-Report-clause-called g c =
    let k = c.in-Satisfaction-Report in
    let e = c.args.self.now in
    let h = table_rows c.args.tables.now in
    granted_by e (g.S.QuoteSource.meaning c.args.source.now) h (asked c.args.call.now) (Report k.ticket k.filled) (ap asked k.is-1) c.requires (granted e (table_rows c.report.new.tables) c.report.result) (Err NothingToTrade) tt
    (c.report.ensures.step ∙ ap (λ s. report e h k.ticket k.filled (is_matched s)) (sym k.is-0))

pub returns-in-Matched-Report-clause-called : goal.returns-in-Matched-Report-clause-called
returns-in-Matched-Report-clause-called g c =
    let k = c.in-Matched-Report in
    let e = c.args.self.now in
    let h = table_rows c.args.tables.now in
    granted_by e (g.S.QuoteSource.meaning c.args.source.now) h (asked c.args.call.now) (Report k.ticket k.filled) (ap asked k.is-1) c.requires (granted e (table_rows c.report-in-Matched-Report.new.tables) c.report-in-Matched-Report.result) (Err NothingToTrade) tt
    (c.report-in-Matched-Report.ensures.step ∙ ap (λ s. report e h k.ticket k.filled (is_matched s)) (sym k.is-0))

-- at the price that the stage keeps
pub returns-in-Satisfaction-Match-clause-called : goal.returns-in-Satisfaction-Match-clause-called
returns-in-Satisfaction-Match-clause-called g c =
    let k = c.in-Satisfaction-Match in
    let e = c.args.self.now in
    let h = table_rows c.args.tables.now in
    granted_by e (g.S.QuoteSource.meaning c.args.source.now) h (asked c.args.call.now) (Match k.time) (ap asked k.is-1) c.requires (granted c.match_sides.new.self (table_rows c.match_sides.new.tables) c.match_sides.result) (Err NothingToTrade) tt
    (c.match_sides.ensures.step ∙ ap (λ s. matched e h k.time (price_of s) (to_execute h (price_of s))) (sym k.is-0))

pub returns-in-Matched-Finish-clause-called : goal.returns-in-Matched-Finish-clause-called
returns-in-Matched-Finish-clause-called g c =
    let k = c.in-Matched-Finish in
    granted_by c.args.self.now (g.S.QuoteSource.meaning c.args.source.now) (table_rows c.args.tables.now) (asked c.args.call.now) (Finish k.time) (ap asked k.is-1) c.requires (granted c.finish.new.self (table_rows c.args.tables.now) c.finish.result) (Err NothingToTrade) tt (search (rules, c.finish.ensures.engine, c.finish.ensures.answer))

pub returns-in-Acceptance-Abort-clause-called : goal.returns-in-Acceptance-Abort-clause-called
returns-in-Acceptance-Abort-clause-called g c =
    let k = c.in-Acceptance-Abort in
    granted_by c.args.self.now (g.S.QuoteSource.meaning c.args.source.now) (table_rows c.args.tables.now) (asked c.args.call.now) (Abort k.time) (ap asked k.is-1) c.requires (granted c.abort.new.self (table_rows c.abort.new.tables) c.abort.result) (Err NothingToTrade) tt c.abort.ensures.step

pub returns-in-Satisfaction-Abort-clause-called : goal.returns-in-Satisfaction-Abort-clause-called
returns-in-Satisfaction-Abort-clause-called g c =
    let k = c.in-Satisfaction-Abort in
    granted_by c.args.self.now (g.S.QuoteSource.meaning c.args.source.now) (table_rows c.args.tables.now) (asked c.args.call.now) (Abort k.time) (ap asked k.is-1) c.requires (granted c.abort-in-Satisfaction-Abort.new.self (table_rows c.abort-in-Satisfaction-Abort.new.tables) c.abort-in-Satisfaction-Abort.result) (Err NothingToTrade) tt c.abort-in-Satisfaction-Abort.ensures.step

pub returns-in-Matched-Abort-clause-called : goal.returns-in-Matched-Abort-clause-called
returns-in-Matched-Abort-clause-called g c =
    let k = c.in-Matched-Abort in
    granted_by c.args.self.now (g.S.QuoteSource.meaning c.args.source.now) (table_rows c.args.tables.now) (asked c.args.call.now) (Abort k.time) (ap asked k.is-1) c.requires (granted c.abort-in-Matched-Abort.new.self (table_rows c.abort-in-Matched-Abort.new.tables) c.abort-in-Matched-Abort.result) (Err NothingToTrade) tt c.abort-in-Matched-Abort.ensures.step
