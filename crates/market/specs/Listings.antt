-- What the slots of a side list, and what always holds of it.
use Rattle.std.specs.Prelude.{◌≡◌, ℕ, ◌+◌, ◌<◌, ◌≤◌, true, List, [], ◌∷◌, Some, None, Option}
use Rattle.std.specs.List.{AllByRecursion}
use Rattle.market.specs.Limits.{venues}
use Rattle.market.specs.Fits.{quote_fits}
use Rattle.market.specs.declared.quote.Quote.{Quote}
use Rattle.market.specs.declared.terms.QuoteTerms.{QuoteTerms}

-- the quote of a venue, by its terms
abbrev pub quote_of : QuoteTerms → ℕ → Quote
quote_of terms v = record { price = terms.price; shares = terms.shares; venue = v }

-- the quotes whose terms are there, each with its venue; the first slot is that of venue v
abbrev pub quotes_listed : ℕ → List (Option QuoteTerms) → List Quote
quotes_listed v [] = []
quotes_listed v (None ∷ slots) = quotes_listed (v + 1) slots
quotes_listed v (Some terms ∷ slots) = quote_of terms v ∷ quotes_listed (v + 1) slots

-- quotes by rising venue, so at most one for each
abbrev pub Rising : List Quote → Type 0
Rising [] = Unit {0}
Rising (x ∷ xs) = AllByRecursion (λ y. x.venue < y.venue) xs × Rising xs

-- a venue that a table has room for, with a permitted price and shares that a quote may have
pub record OfVenue (x : Quote) : Type 0 where
  pub first : 1 ≤ x.venue
  pub last : x.venue ≤ venues
  pub fit : quote_fits x ≡ true

-- what a table lists on a side
pub record WellListed (xs : List Quote) : Type 0 where
  pub rise : Rising xs
  pub each : AllByRecursion OfVenue xs
