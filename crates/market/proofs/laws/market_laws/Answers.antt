use Rattle.std.proofs.Common.{refl}
use Rattle.market.proofs.Lawful.{sets, clears, best_is}
use Rattle.market.proofs.Grid.{price_grid, entry_fits, quotes_rank}
use Rattle.market.proofs.Tables.{tables}
use Rattle.market.proofs.Fitting.{quotes_fit_lem}
use Rattle.market.proofs.laws.market_laws.Goals as goal

pub returns : goal.returns
returns c = record {
  limits = record {
    lowest = refl;
    highest = refl;
    dollars = refl;
    steps = refl;
    cents = refl;
    shares = refl;
    orders = refl;
    quotes = refl;
    venue_slots = refl;
  };
  prices = price_grid;
  entries = entry_fits;
  sets = sets;
  clears = clears;
  tables = tables;
  best = best_is;
  ranks = quotes_rank;
  fits = quotes_fit_lem;
}
