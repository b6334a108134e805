use Rattle.routing.proofs.Allots.{rows_handed, none_kept_ahead}
use Rattle.routing.proofs.laws.row_laws.Goals as goal

pub returns : goal.returns
returns g c = record { handed = rows_handed g.R.Ranking.ahead g.met.R.Ranking.apart; kept = none_kept_ahead }
