-- Which of two quotes goes ahead.
use Rattle.std.specs.Prelude.{◌≡◌, ℕ, Bool, true, false, cond, ◌==◌, nat_lt}
use Rattle.market.specs.declared.quote.Quote.{Quote}

-- which of two prices is the better one, for those who buy and for those who sell
abbrev pub higher : ℕ → ℕ → Bool
higher a b = nat_lt b a

abbrev pub lower : ℕ → ℕ → Bool
lower a b = nat_lt a b

-- never are two prices better than each other, what is better than a price is better than all that it is better than, and of two different
-- prices one is the better
pub record IsPriceOrder (better : ℕ → ℕ → Bool) : Type 0 where
  pub apart : (a b : ℕ) → better a b ≡ true → better b a ≡ false
  pub through : (a b c : ℕ) → better a b ≡ true → better b c ≡ true → better a c ≡ true
  pub either : (a b : ℕ) → better a b ≡ false → better b a ≡ false → a ≡ b

-- the better price, then the lower venue
abbrev pub quote_ahead : (ℕ → ℕ → Bool) → Quote → Quote → Bool
quote_ahead better a b = cond (a.price == b.price) (nat_lt a.venue b.venue) (better a.price b.price)
