-- The ends of a cycle, and a close that fixes no price.
use Rattle.std.proofs.Common.{◌≡◌, ℕ, zero, suc, ◌-◌, true, cond, List, [], ◌∷◌, ◌++◌, map, length, replicate, Err, sym, refl, ap, ◌∙◌}
use Rattle.std.specs.List.{AllByRecursion}
use Rattle.std.proofs.lemmas.List.{map-append}
use Rattle.ranking.specs.Ranked.{ranked}
use Rattle.ranking.proofs.Ranks.{all_ranked}
use Rattle.ranking.proofs.Listed.{length_ranked}
use Rattle.market.specs.Markets.{Market, no_quote}
use Rattle.market.specs.Rankings.{higher, lower, quote_ahead}
use Rattle.market.specs.declared.side.Side.{Side}
use Rattle.market.specs.declared.side.Side.TheVariants.{Buy, Sell}
use Rattle.pricing.specs.declared.cause.Cause.{Cause}
use Rattle.pricing.specs.declared.cause.Cause.TheVariants.{Halted}
use Rattle.orders.specs.declared.row.OrderRow.{OrderRow}
use Rattle.orders.specs.Rows.{empty_row, is_whole, with_cancelled}
use Rattle.orders.specs.Tables.{if_whole}
use Rattle.engine.specs.declared.stage.Stage.TheVariants.{Open, Matched}
use Rattle.engine.specs.declared.state.Engine.{Engine}
use Rattle.engine.specs.States.{TableRows}
use Rattle.engine.specs.Effects.{ahead_on, at_stage, ended, rests_cancelled, ranked_bids, ranked_offers, quotes_used, with_quotes, close}
use Rattle.engine.specs.Limits.{order_rows, quote_rows}
use Rattle.auction.specs.Tallies.{Tally, tally_in_stage, orders_cancelled, unrouted, closed}
use Rattle.auction.proofs.Good.{SideGood, other_tables, Good, Unnoted}
use Rattle.auction.proofs.Used.{table_written}
use Rattle.auction.proofs.Mapping.{side_mapped, apart_mapped}
use Rattle.auction.proofs.Changing.{keeps_cancelled}

map_replicate : {X : Type 0} (f : X → X) (x : X) → f x ≡ x → (n : ℕ) → map f (replicate n x) ≡ replicate n x
map_replicate f x is zero = refl
map_replicate f x is (suc n) = ap (λ y. y ∷ map f (replicate n x)) is ∙ ap (λ ys. x ∷ ys) (map_replicate f x is n)

map_whole : (f : OrderRow → OrderRow) (ws : List OrderRow) → AllByRecursion (λ w. is_whole w ≡ true) ws → map (if_whole f) ws ≡ map f ws
map_whole f [] a = refl
map_whole f (w ∷ ws) a = ap (λ b. cond b (f w) w ∷ map (if_whole f) ws) a.0 ∙ ap (λ vs. f w ∷ vs) (map_whole f ws a.1)

-- each rest of a side is cancelled
side_cancelled : (side : Side) (used : ℕ) (rows ws : List OrderRow) → SideGood side used rows ws → SideGood side used (map (if_whole with_cancelled) rows) (map with_cancelled ws)
side_cancelled side used rows ws good =
    let rs : List OrderRow = ranked (ahead_on side) ws in
    let past : List OrderRow = replicate (order_rows - length rs) empty_row in
    side_mapped with_cancelled keeps_cancelled side used rows (map (if_whole with_cancelled) rows) ws good
    (ap (map (if_whole with_cancelled)) good.rows_is
    ∙ map-append (if_whole with_cancelled) rs past
    ∙ ap (λ vs. vs ++ map (if_whole with_cancelled) past) (map_whole with_cancelled rs (all_ranked (ahead_on side) (λ w. is_whole w ≡ true) ws good.whole))
    ∙ ap (λ vs. map with_cancelled rs ++ vs) (map_replicate (if_whole with_cancelled) empty_row refl (order_rows - length rs)))

module _ (e : Engine) (h : TableRows) (y : Tally) (good : Good e h y) (time : ℕ) where
  pub abort_good : Good (ended time e) (rests_cancelled h) (tally_in_stage Open (orders_cancelled y))
  abort_good = record {
    stage_is = refl;
    fixed_is = good.fixed_is;
    buys = side_cancelled Buy e.used.buys h.buys y.buys good.buys;
    sells = side_cancelled Sell e.used.sells h.sells y.sells good.sells;
    sides_apart = apart_mapped with_cancelled with_cancelled keeps_cancelled keeps_cancelled y.buys y.sells good.sides_apart;
    others = good.others;
    even = good.even;
  }

  module _ (m : Market) (none : Unnoted y.bids y.offers y.tickets) where
    -- no ticket was made yet
    no_price_good : Good (at_stage Matched time (quotes_used m 0 e.used) e) (with_quotes m h) (unrouted m y)
    no_price_good = record {
      stage_is = refl;
      fixed_is = good.fixed_is;
      buys = good.buys;
      sells = good.sells;
      sides_apart = good.sides_apart;
      others = record {
        bids = table_written quote_rows no_quote (other_tables e.used h y).bids good.others.bids none.bids (ranked_bids m) (length m.bids)
            (sym (length_ranked (quote_ahead higher) m.bids));
        offers = table_written quote_rows no_quote (other_tables e.used h y).offers good.others.offers none.offers (ranked_offers m)
            (length m.offers) (sym (length_ranked (quote_ahead lower) m.offers));
        tickets = record { used_is = sym (ap length none.tickets); rows_are = good.others.tickets.rows_are };
        tickets_few = good.others.tickets_few;
      };
      even = good.even;
    }

    pub unpriced_good : (cause : Cause)
        → Good (close e m h time (Err cause)).engine (close e m h time (Err cause)).held (closed time m (Err cause) y)
    unpriced_good Halted = abort_good
    unpriced_good cause = no_price_good
