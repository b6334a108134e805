-- Which prices and shares an order or quote may have.
use Rattle.std.specs.Prelude.{◌≡◌, ℕ, ◌%◌, Bool, true, ◌&&◌, ◌||◌, ◌==◌, nat_le, nat_lt}
use Rattle.market.specs.Limits.{lowest_price, highest_price, dollar, fine_step, cent, most_shares}

-- even points from the lowest price up to below a dollar, or whole cents from a dollar to the highest price
abbrev pub permitted : ℕ → Bool
permitted p =
    (nat_le lowest_price p && (nat_lt p dollar && p % fine_step == 0))
    || (nat_le dollar p && (nat_le p highest_price && p % cent == 0))

abbrev pub Permitted : ℕ → Type 0
Permitted p = permitted p ≡ true

-- a permitted price, and from one share to the most
abbrev pub fits : ℕ → ℕ → Bool
fits price shares = permitted price && (nat_le 1 shares && nat_le shares most_shares)
