-- A begin, and an order that is entered.
use Rattle.std.proofs.Common.{◌≡◌, ℕ, ◌+◌, ◌-◌, ◌<◌, Bool, true, false, cond, eqb, ltb, List, [], ◌∷◌, ◌++◌, length, drop, replicate, is_some, sym, refl, ap, ◌∙◌, arith}
use Rattle.std.specs.List.{AllByRecursion}
use Rattle.std.proofs.ByRecursion.{All-push}
use Rattle.std.proofs.lemmas.List.{length_push}
use Rattle.std.proofs.lemmas.Bool.{or_parts, ltb-true}
use Rattle.ranking.specs.Ranked.{placed, ranked}
use Rattle.ranking.proofs.Listed.{ranked_push, length_ranked}
use Rattle.market.specs.Markets.{Market, no_quote}
use Rattle.market.specs.Prices.{Permitted}
use Rattle.market.specs.declared.side.Side.{Side}
use Rattle.market.specs.declared.side.Side.TheVariants.{Buy, Sell}
use Rattle.pricing.specs.Outcomes.{Outcome}
use Rattle.orders.specs.declared.order.Order.{Order}
use Rattle.orders.specs.declared.row.OrderRow.{OrderRow}
use Rattle.orders.specs.Orders.{well_formed}
use Rattle.orders.specs.Rows.{empty_row, entered_row, is_whole}
use Rattle.orders.specs.Tables.{place_of}
use Rattle.orders.proofs.Conserved.{entered_whole}
use Rattle.orders.proofs.Ranks.{orders_formed}
use Rattle.routing.specs.Tickets.{empty_ticket}
use Rattle.engine.specs.Asked.{Begin}
use Rattle.engine.specs.declared.call.Facts.{Facts}
use Rattle.engine.specs.declared.stage.Stage.{Stage}
use Rattle.engine.specs.declared.stage.Stage.TheVariants.{Acceptance}
use Rattle.engine.specs.declared.state.Engine.{Engine}
use Rattle.engine.specs.States.{TableRows, IsSized, none_used, buys_in, sells_in}
use Rattle.engine.specs.Questions.{on_book, has_room}
use Rattle.engine.specs.Effects.{ahead_on, seated, begin, enter, emptied, begun}
use Rattle.engine.specs.Limits.{order_rows}
use Rattle.auction.specs.Tallies.{Tally, entered, new_cycle, granted_to}
use Rattle.auction.proofs.Good.{Free, Sized, SideGood, Good}
use Rattle.auction.proofs.Used.{in_use, past_use}
use Rattle.auction.proofs.Numbered.{other_way, numbers_push}
use Rattle.auction.proofs.OnBook.{off_book}

-- one more order on a side
side_entered : (side : Side) (used : ℕ) (rows ws : List OrderRow) (w : OrderRow) → SideGood side used rows ws
    → used < order_rows → is_whole w ≡ true → Permitted w.price → Sized w → Free w.number ws
    → SideGood side (used + 1) (seated (ahead_on side) used w rows) (ws ++ (w ∷ []))
side_entered side used rows ws w good room whole' price size free =
    let ahead : OrderRow → OrderRow → Bool = ahead_on side in
    let is = good.used_is in
    let more = length_push ws w in
    let all : length (ranked ahead (ws ++ (w ∷ []))) ≡ used + 1 = length_ranked ahead (ws ++ (w ∷ [])) ∙ omega arith in
    record {
      used_is = omega arith;
      within = omega arith;
      rows_is =
          ap (λ rs. placed ahead w rs ++ drop (used + 1) rows) (in_use side used rows ws good)
          ∙ ap (λ rs. placed ahead w (ranked ahead ws) ++ rs) (past_use side used rows ws good)
          ∙ ap (λ rs. rs ++ replicate (order_rows - (used + 1)) empty_row) (sym (ranked_push ahead ws w))
          ∙ ap (λ n. ranked ahead (ws ++ (w ∷ [])) ++ replicate (order_rows - n) empty_row) (sym all);
      whole = All-push (λ v. is_whole v ≡ true) ws w good.whole whole';
      priced = All-push (λ v. Permitted v.price) ws w good.priced price;
      sized = All-push Sized ws w good.sized size;
      numbered = numbers_push ws w good.numbered free;
    }

-- an order on the sells is apart from each buy where it is apart from all of them
apart_push : (bs ss : List OrderRow) (w : OrderRow) → Free w.number bs → AllByRecursion (λ b. Free b.number ss) bs
    → AllByRecursion (λ b. Free b.number (ss ++ (w ∷ []))) bs
apart_push [] ss w f a = tt
apart_push (b ∷ bs) ss w f a = (All-push (λ v. eqb v.number b.number ≡ false) ss w a.0 (other_way b.number w.number f.0), apart_push bs ss w f.1 a.1)

permitted_price : (o : Order) → well_formed o ≡ true → Permitted o.price
permitted_price o h = ((orders_formed o).0 h).price

order_sized : (o : Order) → well_formed o ≡ true → Sized (entered_row o)
order_sized o h = let f = (orders_formed o).0 h in record { number = f.number; class = f.class; least = f.least; most = f.most }

module _ (e : Engine) (h : TableRows) (y : Tally) (order : Order) (good : Good e h y) (formed : well_formed order ≡ true)
    (free-buys : Free order.number y.buys) (free-sells : Free order.number y.sells) where
  entered_by : (t : Bool) → eqb order.side 1 ≡ t → cond t (ltb e.used.buys order_rows) (ltb e.used.sells order_rows) ≡ true
      → Good (enter e h order).engine (enter e h order).held (entered order y)
  entered_by true is room = rw is (record {
    stage_is = good.stage_is;
    fixed_is = good.fixed_is;
    buys = side_entered Buy e.used.buys h.buys y.buys (entered_row order) good.buys (ltb-true e.used.buys order_rows room)
        (entered_whole order) (permitted_price order formed) (order_sized order formed) free-buys;
    sells = good.sells;
    sides_apart = All-push (λ b. Free b.number y.sells) y.buys (entered_row order) good.sides_apart free-sells;
    others = good.others;
    even = good.even;
  })
  entered_by false is room = rw is (record {
    stage_is = good.stage_is;
    fixed_is = good.fixed_is;
    buys = good.buys;
    sells = side_entered Sell e.used.sells h.sells y.sells (entered_row order) good.sells (ltb-true e.used.sells order_rows room)
        (entered_whole order) (permitted_price order formed) (order_sized order formed) free-sells;
    sides_apart = apart_push y.buys y.sells (entered_row order) free-buys good.sides_apart;
    others = good.others;
    even = good.even;
  })

pub enter_good : (e : Engine) (h : TableRows) (y : Tally) (order : Order) → Good e h y → well_formed order ≡ true
    → on_book e h order.number ≡ false → has_room e order ≡ true
    → Good (enter e h order).engine (enter e h order).held (entered order y)
enter_good e h y order good formed off room =
    let none = or_parts (is_some (place_of order.number (buys_in e h))) (is_some (place_of order.number (sells_in e h))) off in
    entered_by e h y order good formed
    (off_book order.number Buy e.used.buys h.buys y.buys good.buys none.0)
    (off_book order.number Sell e.used.sells h.sells y.sells good.sells none.1)
    (eqb order.side 1) refl room

-- emptied tables
none_good : (side : Side) (rows : List OrderRow) → length rows ≡ order_rows → SideGood side 0 (replicate (length rows) empty_row) []
none_good side rows is = record {
  used_is = refl;
  within = omega arith;
  rows_is = ap (λ n. replicate n empty_row) is;
  whole = tt;
  priced = tt;
  sized = tt;
  numbered = tt;
}

module _ (e : Engine) (h : TableRows) (long : IsSized h) where
  emptied_good : (stage : Stage) (time : ℕ) → Good (begun stage time none_used e) (emptied h) (new_cycle stage)
  emptied_good stage time = record {
    stage_is = refl;
    fixed_is = refl;
    buys = none_good Buy h.buys long.buys;
    sells = none_good Sell h.sells long.sells;
    sides_apart = tt;
    others = record {
      bids = record { used_is = refl; rows_are = ap (λ n. replicate n no_quote) long.bids };
      offers = record { used_is = refl; rows_are = ap (λ n. replicate n no_quote) long.offers };
      tickets = record { used_is = refl; rows_are = ap (λ n. replicate n empty_ticket) long.tickets };
      tickets_few = omega arith;
    };
    even = refl;
  }

  pub begin_good : (y : Tally) (m : Market) (time : ℕ) (order : Order) (facts : Facts) (x : Outcome) → well_formed order ≡ true
      → Good (begin e h time order facts).engine (begin e h time order facts).held (granted_to y m (Begin time order facts) x)
  begin_good y m time order facts x formed =
      let stage : Stage = Acceptance (time + facts.acceptance) in
      entered_by (begun stage time none_used e) (emptied h) (new_cycle stage) order (emptied_good stage time) formed tt tt (eqb order.side 1) refl (room (eqb order.side 1))
    where
      room : (t : Bool) → cond t (ltb 0 order_rows) (ltb 0 order_rows) ≡ true
      room true = refl
      room false = refl
