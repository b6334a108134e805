use Rattle.std.proofs.Common.{sym}
use Rattle.ranking.proofs.Orders.{one_order_lem, either_first_lem}
use Rattle.ranking.proofs.Insertion.{stable}
use Rattle.ranking.proofs.Ranks.{sorted_ranked, shuffled_ranked}
use Rattle.ranking.proofs.Removal.{sorted_removed, shuffled_removed, taken_back}
use Rattle.ranking.proofs.Stays.{ranked_stays}
use Rattle.ranking.proofs.laws.ranking_laws.Goals as goal

pub returns : goal.returns
returns g c =
    let apart = g.met.R.Ranking.apart in
    let through = g.met.R.Ranking.through in
    let evens = g.met.R.Ranking.level in
    record {
      one_order = one_order_lem g.R.Ranking.ahead apart;
      either_first = either_first_lem g.R.Ranking.ahead apart through evens;
      stable = λ e. stable g.R.Ranking.ahead e apart through evens;
      ranked_sorted = sorted_ranked g.R.Ranking.ahead apart through evens;
      ranked_same = shuffled_ranked g.R.Ranking.ahead;
      ranked_stable = ranked_stays g.R.Ranking.ahead evens;
      removed_sorted = sorted_removed g.R.Ranking.ahead;
      removed_same = λ e xs place there. shuffled_removed e xs place (sym there);
      removed_back = λ e xs sorted. let back = taken_back g.R.Ranking.ahead e apart through evens xs sorted in record { there = back.0; back = back.1 };
    }
