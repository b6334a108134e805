-- What is known of the quotes of a market that fit.
use Rattle.std.proofs.Common.{◌≡◌, ◌≤◌, true, leb, List, [], ◌∷◌, length, ◌↔◌, refl}
use Rattle.std.specs.List.{AllByRecursion, list_all}
use Rattle.std.proofs.lemmas.Bool.{and_parts, and_from, leb-true, le-leb}
use Rattle.market.specs.declared.quote.Quote.{Quote}
use Rattle.market.specs.Fits.{quote_fits, side_fits, quotes_fit}
use Rattle.market.specs.Limits.{most_shares, most_quotes}
use Rattle.market.specs.Markets.{Market}
use Rattle.market.specs.Prices.{Permitted}
use Rattle.market.specs.Laws.{ListFits, QuotesFit}
use Rattle.market.proofs.Grid.{entry_fits}

module _ (m : Market) (fit : quotes_fit m ≡ true) where
  pub bids_fit : side_fits m.bids ≡ true
  bids_fit = (and_parts (side_fits m.bids) (side_fits m.offers) fit).0

  pub offers_fit : side_fits m.offers ≡ true
  offers_fit = (and_parts (side_fits m.bids) (side_fits m.offers) fit).1

pub few_quotes : (xs : List Quote) → side_fits xs ≡ true → length xs ≤ most_quotes
few_quotes xs h = leb-true (length xs) most_quotes (and_parts (leb (length xs) most_quotes) (list_all quote_fits xs) h).0

-- a list that fits, said of its length and of each quote
abbrev Fit : Quote → Type 0
Fit x = Permitted x.price × (1 ≤ x.shares) × (x.shares ≤ most_shares)

each_since : (xs : List Quote) → list_all quote_fits xs ≡ true → AllByRecursion Fit xs
each_since [] h = tt
each_since (x ∷ xs) h =
    let parts = and_parts (quote_fits x) (list_all quote_fits xs) h in
    ((entry_fits x.price x.shares).0 parts.0, each_since xs parts.1)

all_since : (xs : List Quote) → AllByRecursion Fit xs → list_all quote_fits xs ≡ true
all_since [] each = refl
all_since (x ∷ xs) each = and_from (quote_fits x) (list_all quote_fits xs) ((entry_fits x.price x.shares).1 each.0) (all_since xs each.1)

list_fits : (xs : List Quote) → side_fits xs ≡ true ↔ ListFits xs
list_fits xs = (
  λ h. record { few = few_quotes xs h; each = each_since xs (and_parts (leb (length xs) most_quotes) (list_all quote_fits xs) h).1 },
  λ l. and_from (leb (length xs) most_quotes) (list_all quote_fits xs) (le-leb (length xs) most_quotes l.few) (all_since xs l.each),
)

pub quotes_fit_lem : QuotesFit
quotes_fit_lem m = (
  λ h. ((list_fits m.bids).0 (bids_fit m h), (list_fits m.offers).0 (offers_fit m h)),
  λ l. and_from (side_fits m.bids) (side_fits m.offers) ((list_fits m.bids).1 l.0) ((list_fits m.offers).1 l.1),
)
