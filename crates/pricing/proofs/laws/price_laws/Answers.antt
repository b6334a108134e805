use Rattle.std.proofs.Common.{refl, ap₂}
use Rattle.market.proofs.Grid.{midpoint_whole}
use Rattle.pricing.specs.Candidates.{Candidate}
use Rattle.pricing.proofs.Sides.{counts_most}
use Rattle.pricing.proofs.Rows.{some_candidate}
use Rattle.pricing.proofs.Choosing.{chosen_once, price_clears, only_chosen}
use Rattle.pricing.proofs.Outcomes.{nothing_all, closing_once}
use Rattle.pricing.proofs.Quoted.{reference_is, touching_is, touching_parts, crossed_is}
use Rattle.pricing.proofs.laws.price_laws.Goals as goal

pub returns : goal.returns
returns c = record {
  most = counts_most;
  candidate = some_candidate;
  price = λ b. chosen_once (Candidate b);
  clears = price_clears;
  nothing = λ b sound. (nothing_all b sound, λ none q _. none q);
  outcome = closing_once;
  midpoint = midpoint_whole;
  only = λ b ref p c alone. only_chosen (Candidate b) ref p (record { candidate = c; alone = alone });
  reference = reference_is;
  touching = touching_is;
  parts = touching_parts;
  crossed = crossed_is;
  counting = λ b m bids offers. ap₂ (λ xs zs. record b { bids = xs; offers = zs }) bids offers;
  ladder = record { first = refl; fine = refl; coarse = refl; last = refl };
  limits = record { prices = refl; fine = refl; word = refl; executable = refl };
}
