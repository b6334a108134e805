use Rattle.std.proofs.Common.{◌∙◌, get_or, sym, refl, subst}
use Rattle.std.proofs.lemmas.Option.{slice_get-get_or}
use Rattle.market.specs.Markets.{Market}
use Rattle.market.specs.Venues.{market_in}
use Rattle.engine.specs.States.{TableRows, table_rows}
use Rattle.engine.specs.Asked.{asked}
use Rattle.engine.specs.Effects.{Left, left}
use Rattle.engine.specs.Steps.{Called}
use Rattle.orders.specs.declared.order.Order.{Order}
use Rattle.benches.specs.Calls.{call_with, Brought, none, more}
use Rattle.benches.proofs.calls.take_orders.Goals as goal

pub loop-place-init : goal.loop-place-init
loop-place-init c =
    let m : Market = market_in c.args.venues.now in
    let h : TableRows = table_rows c.args.tables.now in (
      subst (λ e. Brought m h c.args.orders.now 0 e h) (sym c.new-engine.ensures) none,
      record { buys = refl; sells = refl; bids = refl; offers = refl; tickets = refl },
    )

pub loop-place-preserved : goal.loop-place-preserved
loop-place-preserved c =
    let m : Market = market_in c.args.venues.now in
    let order : Order = get_or c.args.orders.now c.loop-place.place (record { number = 0; side = 0; class = 0; price = 0; shares = 0 }) in
    let left : Left = left c.call.new.engine c.call.new.tables c.call.result in
    let called : Called c.loop-place.engine m (table_rows c.loop-place.tables) (asked (call_with c.loop-place.place order)) left =
    subst (λ call. Called c.loop-place.engine m (table_rows c.loop-place.tables) (asked call) left) c.call_with.ensures c.call.ensures.called in
    let before = c.loop-place.invariant.1 in
    let after = c.call.ensures.names in (
      more order left (slice_get-get_or c.args.orders.now c.loop-place.place _ c.loop-place-test.true) c.loop-place.invariant.0 called,
      record {
        buys = after.buys ∙ before.buys;
        sells = after.sells ∙ before.sells;
        bids = after.bids ∙ before.bids;
        offers = after.offers ∙ before.offers;
        tickets = after.tickets ∙ before.tickets;
      },
    )
