-- The list of a table's slots: a loop's steps, what a write to a slot does, and that it goes by venue.
use Rattle.std.proofs.Common.{◌≡◌, ℕ, zero, suc, ◌+◌, ◌-◌, ◌<◌, ◌≤◌, List, [], ◌∷◌, length, get_or, drop, set, cond, is_some, Some, None, Option, sym, refl, ap, ◌∙◌, arith}
use Rattle.std.specs.List.{slice_get, AllByRecursion}
use Rattle.std.proofs.lemmas.Bool.{le-ltb, lt-ltb, eq-eqb, ne_eqb}
use Rattle.std.proofs.lemmas.List.{at_drop_more, at_drop_all}
use Rattle.std.proofs.ByRecursion.{All-weaker}
use Rattle.market.specs.Limits.{venues}
use Rattle.market.specs.Listings.{quotes_listed, quote_of, Rising, OfVenue, WellListed}
use Rattle.market.specs.Venues.{quoted, without, with_terms, market_in, ByVenue}
use Rattle.market.specs.declared.terms.QuoteTerms.{QuoteTerms}
use Rattle.market.specs.declared.venues.VenueTable.{VenueTable}
use Rattle.market.specs.declared.quote.Quote.{Quote}

-- a turn of a loop over the slots, and its end
module _ (slots : List (Option QuoteTerms)) (i v : ℕ) (d : Option QuoteTerms) where
  pub listed_none : i < length slots → get_or slots i d ≡ None → quotes_listed v (drop i slots) ≡ quotes_listed (v + 1) (drop (i + 1) slots)
  listed_none h e = at_drop_more (quotes_listed v) slots i d h ∙ ap (λ y. quotes_listed v (y ∷ drop (i + 1) slots)) e

  pub listed_some : (m : QuoteTerms) → i < length slots → get_or slots i d ≡ Some m → quotes_listed v (drop i slots) ≡ quote_of m v ∷ quotes_listed (v + 1) (drop (i + 1) slots)
  listed_some m h e = at_drop_more (quotes_listed v) slots i d h ∙ ap (λ y. quotes_listed v (y ∷ drop (i + 1) slots)) e

  pub listed_all : length slots ≤ i → quotes_listed v (drop i slots) ≡ []
  listed_all h = at_drop_all (quotes_listed v) slots i h

-- how many a slot adds
pub listed_turn : (slots : List (Option QuoteTerms)) (i v : ℕ) (slot : Option QuoteTerms) → i < length slots → slot ≡ get_or slots i slot
    → length (quotes_listed v (drop i slots)) ≡ cond (is_some slot) 1 0 + length (quotes_listed (v + 1) (drop (i + 1) slots))
listed_turn slots i v None h e = let l = ap length (listed_none slots i v None h (sym e)) in omega (arith, l)
listed_turn slots i v (Some m) h e = let l = ap length (listed_some slots i v (Some m) m h (sym e)) in omega (arith, l)

pub nth_tail : (x : Quote) (xs : List Quote) (n : ℕ) → 0 < n → slice_get (x ∷ xs) n ≡ slice_get xs (n - 1)
nth_tail x xs zero h = absurd (omega arith)
nth_tail x xs (suc n) h = ap (slice_get xs) (omega arith)

-- a quote of an earlier venue goes in front
quoted_first : (q : Quote) (b : ℕ) (slots : List (Option QuoteTerms)) → q.venue < b → quoted q (quotes_listed b slots) ≡ q ∷ quotes_listed b slots
quoted_first q b [] h = refl
quoted_first q b (None ∷ slots) h = quoted_first q (b + 1) slots (omega arith)
quoted_first q b (Some m ∷ slots) h = rw (le-ltb b q.venue (omega arith), ne_eqb b q.venue (λ z. omega arith))

-- terms that are written to a slot
pub listed_set : (m : QuoteTerms) (a i v : ℕ) (slots : List (Option QuoteTerms)) → a + i ≡ v → i < length slots → quotes_listed a (set slots i (Some m)) ≡ quoted (quote_of m v) (quotes_listed a slots)
listed_set m a i v [] e h = absurd (omega arith)
listed_set m a zero v (None ∷ slots) e h =
    let same : a ≡ v = omega arith in
    ap (λ u. quote_of m u ∷ quotes_listed (a + 1) slots) same ∙ sym (quoted_first (quote_of m v) (a + 1) slots (omega arith))
listed_set m a zero v (Some y ∷ slots) e h =
    let same : a ≡ v = omega arith in
    rw (le-ltb a v (omega arith), eq-eqb a v same) (ap (λ u. quote_of m u ∷ quotes_listed (a + 1) slots) same)
listed_set m a (suc i) v (None ∷ slots) e h = listed_set m (a + 1) i v slots (omega arith) (omega arith)
listed_set m a (suc i) v (Some y ∷ slots) e h =
    rw (lt-ltb a v (omega arith)) (ap (λ l. quote_of y a ∷ l) (listed_set m (a + 1) i v slots (omega arith) (omega arith)))

-- a venue before the first slot's has no quote
without_first : (v b : ℕ) (slots : List (Option QuoteTerms)) → v < b → without v (quotes_listed b slots) ≡ quotes_listed b slots
without_first v b [] h = refl
without_first v b (None ∷ slots) h = without_first v (b + 1) slots (omega arith)
without_first v b (Some m ∷ slots) h = rw (ne_eqb b v (λ z. omega arith)) (ap (λ l. quote_of m b ∷ l) (without_first v (b + 1) slots (omega arith)))

-- a slot that is emptied
pub listed_clear : (a i v : ℕ) (slots : List (Option QuoteTerms)) → a + i ≡ v → i < length slots → quotes_listed a (set slots i None) ≡ without v (quotes_listed a slots)
listed_clear a i v [] e h = absurd (omega arith)
listed_clear a zero v (None ∷ slots) e h = sym (without_first v (a + 1) slots (omega arith))
listed_clear a zero v (Some y ∷ slots) e h = rw (eq-eqb a v (omega arith))
listed_clear a (suc i) v (None ∷ slots) e h = listed_clear (a + 1) i v slots (omega arith) (omega arith)
listed_clear a (suc i) v (Some y ∷ slots) e h =
    rw (ne_eqb a v (λ z. omega arith)) (ap (λ l. quote_of y a ∷ l) (listed_clear (a + 1) i v slots (omega arith) (omega arith)))

pub listed_put : (terms : Option QuoteTerms) (a i v : ℕ) (slots : List (Option QuoteTerms)) → a + i ≡ v → i < length slots → quotes_listed a (set slots i terms) ≡ with_terms v terms (quotes_listed a slots)
listed_put None = listed_clear
listed_put (Some m) = listed_set m

-- the list goes by rising venue
listed_from : (v : ℕ) (slots : List (Option QuoteTerms)) → AllByRecursion (λ x. v ≤ x.venue) (quotes_listed v slots)
listed_from v [] = tt
listed_from v (None ∷ slots) = All-weaker (λ x. v + 1 ≤ x.venue) (λ x. v ≤ x.venue) (λ x h. omega arith) (quotes_listed (v + 1) slots) (listed_from (v + 1) slots)
listed_from v (Some m ∷ slots) = (omega arith, All-weaker (λ x. v + 1 ≤ x.venue) (λ x. v ≤ x.venue) (λ x h. omega arith) (quotes_listed (v + 1) slots) (listed_from (v + 1) slots))

pub listed_rising : (v : ℕ) (slots : List (Option QuoteTerms)) → Rising (quotes_listed v slots)
listed_rising v [] = tt
listed_rising v (None ∷ slots) = listed_rising (v + 1) slots
listed_rising v (Some m ∷ slots) = (All-weaker (λ x. v + 1 ≤ x.venue) (λ x. v < x.venue) (λ x h. omega arith) (quotes_listed (v + 1) slots) (listed_from (v + 1) slots), listed_rising (v + 1) slots)

pub by_venue : (t : VenueTable) → ByVenue (market_in t)
by_venue t = record { bids_rise = t.bids_listed.rise; offers_rise = t.offers_listed.rise }

-- each quote of the list is of a venue that has a slot, and fits
listed_each : (v : ℕ) (slots : List (Option QuoteTerms)) → 1 ≤ v → v + length slots ≤ venues + 1 → AllByRecursion OfVenue (quotes_listed v slots)
listed_each v [] low high = tt
listed_each v (None ∷ slots) low high = listed_each (v + 1) slots (omega arith) (omega arith)
listed_each v (Some m ∷ slots) low high = (record { first = low; last = omega arith; fit = m.fit }, listed_each (v + 1) slots (omega arith) (omega arith))

pub well_listed : (slots : List (Option QuoteTerms)) → length slots ≡ venues → WellListed (quotes_listed 1 slots)
well_listed slots long = record { rise = listed_rising 1 slots; each = listed_each 1 slots (omega arith) (omega arith) }
