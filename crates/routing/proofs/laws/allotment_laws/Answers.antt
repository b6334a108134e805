use Rattle.routing.proofs.Sums.{handed_out_lem, ahead_first}
use Rattle.routing.proofs.Allots.{walk_allots}
use Rattle.routing.proofs.laws.allotment_laws.Goals as goal

pub returns : goal.returns
returns g c = record { handed = handed_out_lem; rank = ahead_first; allots = walk_allots g.R.Ranking.ahead g.met.R.Ranking.apart }
