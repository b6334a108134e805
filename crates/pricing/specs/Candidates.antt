-- The SNAP Price: a relation between a book, a reference and a price.
use Rattle.std.specs.Prelude.{◌≡◌, ℕ, ◌+◌, ◌-◌, ◌<◌, ◌≤◌, ◌⊎◌, Some, None, Option, ◌≢◌}
use Rattle.market.specs.Prices.{Permitted}
use Rattle.pricing.specs.Books.{Book, demand_at, supply_at, wanted_above, offered_below}

-- a price passes over nothing better: what is wanted above it can be had at it, and what is offered below it is wanted at it
pub record Clears (b : Book) (q : ℕ) : Type 0 where
  pub buyers : wanted_above b q ≤ supply_at b q
  pub sellers : offered_below b q ≤ demand_at b q

-- a candidate is a permitted price that clears
pub record Candidate (b : Book) (q : ℕ) : Type 0 where
  pub permitted : Permitted q
  pub clears : Clears b q

-- how far two prices are apart
abbrev pub distance : ℕ → ℕ → ℕ
distance a b = (a - b) + (b - a)

-- p is the only candidate
pub record Only (C : ℕ → Type 0) (p : ℕ) : Type 0 where
  pub candidate : C p
  pub alone : (q : ℕ) → C q → q ≡ p

-- p is the candidate nearest to the reference r: every other is farther
pub record Nearest (C : ℕ → Type 0) (r p : ℕ) : Type 0 where
  pub candidate : C p
  pub nearest : (q : ℕ) → C q → (q ≢ p) → distance r p < distance r q

-- two candidates are equally near to the reference and none is nearer: the price is the reference itself
pub record Midway (C : ℕ → Type 0) (r p : ℕ) : Type 0 where
  pub low : ℕ
  pub high : ℕ
  pub low_of : C low
  pub high_of : C high
  pub order : low < high
  pub level : distance r low ≡ distance r high
  pub nearest : (q : ℕ) → C q → distance r low ≤ distance r q
  pub itself : p ≡ r

-- the price among the candidates C, under a reference if there is one
abbrev pub Chosen : (ℕ → Type 0) → Option ℕ → ℕ → Type 0
Chosen C None p = Only C p
Chosen C (Some r) p = Only C p ⊎ (Nearest C r p ⊎ Midway C r p)

abbrev pub SnapPrice : Book → Option ℕ → ℕ → Type 0
SnapPrice b ref p = Chosen (Candidate b) ref p
