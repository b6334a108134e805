-- What can trade of a list, and the next price in it, summed and sought entry by entry.
use Rattle.std.proofs.Common.{ap, ◌∙◌, ◌≡◌, ℕ, ◌+◌, ◌<◌, ◌≤◌, min, cond, Option, leb, List, [], ◌∷◌, map, sum_by, sym, arith}
use Rattle.std.proofs.lemmas.List.{map-id}
use Rattle.std.specs.List.{fold}
use Rattle.std.specs.Bool.{⊤}
use Rattle.std.specs.Iterator.Runs.{Run, WholeRun, EachRunFrom}
use Rattle.market.specs.declared.side.Side.{Side}
use Rattle.market.specs.declared.side.Side.TheVariants.{Buy, Sell}
use Rattle.market.specs.Limits.{highest_price}
use Rattle.pricing.specs.declared.level.Level.{Level}
use Rattle.pricing.specs.Books.{at_or_above, at_or_below, executable_shares, executable_at}
use Rattle.pricing.specs.Ranges.{standing_above, next_above}
use Rattle.pricing.proofs.Levels.{sum_by_map}
use Rattle.pricing.proofs.Next.{next_most}

pub executable_sum : {X : Type 0} (side : Side) (q : ℕ) (f : X → Level) (xs : List X) → sum_by (λ x. executable_shares side q (f x)) xs ≡ executable_at side q (map f xs)
unfolding at_or_above at_or_below
executable_sum Buy q f xs = sym (sum_by_map (λ l. cond (leb q l.price) l.shares 0) f xs)
executable_sum Sell q f xs = sym (sum_by_map (λ l. cond (leb l.price q) l.shares 0) f xs)

pub executable_total : (side : Side) (q : ℕ) (ls : List Level) → sum_by (executable_shares side q) ls ≡ executable_at side q ls
executable_total side q ls = executable_sum side q (λ l. l) ls ∙ ap (executable_at side q) (map-id ls)

least_from : {X : Type 0} (q m : ℕ) (f : X → Level) (xs : List X) → m ≤ highest_price → fold (λ least p. min least p) m (map (λ x. standing_above q (f x)) xs) ≡ min m (next_above q (map f xs))
least_from q m f [] h = omega (arith, h)
least_from q m f (x ∷ xs) h = omega (arith, least_from q (min m (standing_above q (f x))) f xs (omega (arith, h)))

pub least_above : {X : Type 0} (q : ℕ) (f : X → Level) (xs : List X) → fold (λ least p. min least p) highest_price (map (λ x. standing_above q (f x)) xs) ≡ next_above q (map f xs)
least_above q f xs = omega (arith, least_from q highest_price f xs (omega arith), next_most q (map f xs))

pub least_of : (q : ℕ) (ls : List Level) → fold (λ least p. min least p) highest_price (map (standing_above q) ls) ≡ next_above q ls
least_of q ls = least_above q (λ l. l) ls ∙ ap (next_above q) (map-id ls)

-- a sum is at most what the sum of each run is
pub sum_most : {S A : Type 0} {steps : S → Option A → S → Type 0} {s : S} {total : Run steps → ℕ} {r : ℕ} (top : ℕ) → (⊤ → WholeRun steps s (λ p. r ≡ total p)) → EachRunFrom steps s (λ p. total p < top + 1) → r ≤ top
sum_most top whole fits = let p = whole tt in omega (arith, fits p.0 p.0.seen p.1, p.3)
