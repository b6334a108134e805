-- The book that a close prices and the tally's book are alike, and stand at permitted prices.
use Rattle.std.proofs.Common.{◌≡◌, ℕ, true, List, take, sum_by, sym, refl, ap, ◌∙◌, subst, arith}
use Rattle.std.proofs.ByRecursion.{All-map}
use Rattle.ranking.specs.Ranked.{ranked}
use Rattle.ranking.proofs.Ranks.{sum_ranked, all_ranked}
use Rattle.market.specs.declared.side.Side.{Side}
use Rattle.market.specs.declared.side.Side.TheVariants.{Buy, Sell}
use Rattle.market.specs.Fits.{quotes_fit}
use Rattle.market.specs.Markets.{Market}
use Rattle.market.specs.Prices.{Permitted}
use Rattle.market.proofs.Fitting.{bids_fit, offers_fit}
use Rattle.pricing.specs.declared.level.Level.{Level}
use Rattle.pricing.specs.Books.{Book, Sound, AtPermitted, at_or_above, at_or_below, above, below}
use Rattle.pricing.specs.Counting.{counting_market}
use Rattle.pricing.specs.Outcomes.{Outcome, IsOutcome}
use Rattle.pricing.proofs.Levels.{sum_by_map}
use Rattle.pricing.proofs.Alike.{Alike, closing_like}
use Rattle.pricing.proofs.Outcomes.{best, zero_nothing}
use Rattle.pricing.proofs.PermittedLevels.{side_stands}
use Rattle.orders.specs.declared.row.OrderRow.{OrderRow}
use Rattle.orders.specs.Rows.{level_of}
use Rattle.orders.specs.Tables.{rest_levels}
use Rattle.routing.specs.Owed.{quoted_better, reach, owed}
use Rattle.engine.specs.declared.state.Engine.{Engine}
use Rattle.engine.specs.States.{TableRows}
use Rattle.engine.specs.Effects.{ahead_on, book_in}
use Rattle.auction.specs.Tallies.{Tally, book_by}
use Rattle.auction.specs.Laws.{BestPrice}
use Rattle.auction.proofs.Good.{SideGood, Good}
use Rattle.auction.proofs.Used.{in_use}

-- the quotes that count fit where all quotes do
pub counting_fit : (m : Market) → quotes_fit m ≡ true → quotes_fit (counting_market m) ≡ true
counting_fit m fit = fit

-- books that are alike owe alike
pub owed_like : {a b : Book} → Alike a b → (side : Side) (p : ℕ) → owed side a p ≡ owed side b p
owed_like like Buy p =
    omega (arith, like.buys_from p, like.sells_to p, ap (quoted_better Buy p) like.offers, ap (reach Buy p) like.offers)
owed_like like Sell p =
    omega (arith, like.buys_from p, like.sells_to p, ap (quoted_better Sell p) like.bids, ap (reach Sell p) like.bids)

-- sums over what rests do not depend on how the orders are listed
module _ (side : Side) (used : ℕ) (rows ws : List OrderRow) (good : SideGood side used rows ws) where
  listed : (f : Level → ℕ) → sum_by f (rest_levels (take used rows)) ≡ sum_by f (rest_levels ws)
  listed f =
      ap (λ xs. sum_by f (rest_levels xs)) (in_use side used rows ws good)
      ∙ sum_by_map f level_of (ranked (ahead_on side) ws)
      ∙ sum_ranked (ahead_on side) (λ w. f (level_of w)) ws
      ∙ sym (sum_by_map f level_of ws)

  from_price : (q : ℕ) → at_or_above q (rest_levels (take used rows)) ≡ at_or_above q (rest_levels ws)
  unfolding at_or_above
  from_price q = listed _

  past_price : (q : ℕ) → above q (rest_levels (take used rows)) ≡ above q (rest_levels ws)
  unfolding above
  past_price q = listed _

  to_price : (q : ℕ) → at_or_below q (rest_levels (take used rows)) ≡ at_or_below q (rest_levels ws)
  unfolding at_or_below
  to_price q = listed _

  under_price : (q : ℕ) → below q (rest_levels (take used rows)) ≡ below q (rest_levels ws)
  unfolding below
  under_price q = listed _

  standing : AtPermitted (rest_levels (take used rows))
  standing = subst (λ xs. AtPermitted (rest_levels xs)) (sym (in_use side used rows ws good))
      (All-map (λ l. Permitted l.price) level_of (ranked (ahead_on side) ws) (all_ranked (ahead_on side) (λ w. Permitted w.price) ws good.priced))

  standing_tally : AtPermitted (rest_levels ws)
  standing_tally = All-map (λ l. Permitted l.price) level_of ws good.priced

module _ (e : Engine) (h : TableRows) (y : Tally) (good : Good e h y) (m : Market) where
  pub books_alike : Alike (book_in e m h) (book_by y m)
  books_alike = record {
    bids = refl;
    offers = refl;
    buys_from = from_price Buy e.used.buys h.buys y.buys good.buys;
    buys_past = past_price Buy e.used.buys h.buys y.buys good.buys;
    sells_to = to_price Sell e.used.sells h.sells y.sells good.sells;
    sells_under = under_price Sell e.used.sells h.sells y.sells good.sells;
  }

  module _ (fit : quotes_fit m ≡ true) where
    pub book_sound : Sound (book_in e m h)
    book_sound = record {
      buys = standing Buy e.used.buys h.buys y.buys good.buys;
      sells = standing Sell e.used.sells h.sells y.sells good.sells;
      bids = side_stands (counting_market m).bids (bids_fit (counting_market m) (counting_fit m fit));
      offers = side_stands (counting_market m).offers (offers_fit (counting_market m) (counting_fit m fit));
    }

    tally_sound : Sound (book_by y m)
    tally_sound = record {
      buys = standing_tally Buy e.used.buys h.buys y.buys good.buys;
      sells = standing_tally Sell e.used.sells h.sells y.sells good.sells;
      bids = side_stands (counting_market m).bids (bids_fit (counting_market m) (counting_fit m fit));
      offers = side_stands (counting_market m).offers (offers_fit (counting_market m) (counting_fit m fit));
    }

    pub close_laws : (last : ℕ) (x : Outcome) → IsOutcome m.halted (book_in e m h) last x → BestPrice y m last x
    close_laws last x c =
        let c' : IsOutcome m.halted (book_by y m) last x = closing_like books_alike m.halted last x c in
        record {
          defined = c';
          best = best m.halted (book_by y m) last x tally_sound c';
          nothing = zero_nothing m.halted (book_by y m) last x c';
        }
