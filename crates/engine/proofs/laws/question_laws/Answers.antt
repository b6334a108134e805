use Rattle.std.proofs.Common.{refl}
use Rattle.engine.proofs.Asking.{table_sizes_fit, times_fit, starts_fit, acceptance_lem, minimums_fit, markets_fit, reaches_fit, room_fits}
use Rattle.engine.proofs.Staging.{stages_fit}
use Rattle.engine.proofs.laws.question_laws.Goals as goal

pub returns : goal.returns
returns c =
    record {
      limits = record {
        orders = refl;
        quotes = refl;
        tickets = refl;
        day = refl;
        first = refl;
        last = refl;
        age = refl;
        gap = refl;
        shortest = refl;
        longest = refl;
        reports = refl;
      };
      sizes = table_sizes_fit;
      stages = stages_fit;
      times = times_fit;
      starts = starts_fit;
      acceptance = acceptance_lem;
      minimums = minimums_fit;
      markets = markets_fit;
      reaches = reaches_fit;
      room = room_fits;
    }
