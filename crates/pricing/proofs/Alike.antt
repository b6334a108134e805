-- Books with the same quotes, and with the same shares at every price, have the same outcome.
use Rattle.std.proofs.Common.{◌≡◌, ℕ, Bool, Ok, Err, Option, sym, ap, ◌∙◌, subst, arith}
use Rattle.market.specs.declared.side.Side.{Side}
use Rattle.market.specs.declared.side.Side.TheVariants.{Buy, Sell}
use Rattle.pricing.specs.declared.cause.Cause.TheVariants.{NothingToTrade, LockedOrCrossed, NoReference, Halted}
use Rattle.pricing.specs.Books.{Book, levels, at_or_above, at_or_below, above, below, count_at}
use Rattle.pricing.specs.Candidates.{Clears, Candidate}
use Rattle.pricing.specs.Outcomes.{Outcome, Nothing, Undecided, Priced, Snapped, IsOutcome, Orderly, touching, best_on, reference, reference_of}
use Rattle.pricing.proofs.Choosing.{chosen_like}

pub record Alike (a b : Book) : Type 0 where
  pub bids : a.bids ≡ b.bids
  pub offers : a.offers ≡ b.offers
  pub buys_from : (q : ℕ) → at_or_above q a.buys ≡ at_or_above q b.buys
  pub buys_past : (q : ℕ) → above q a.buys ≡ above q b.buys
  pub sells_to : (q : ℕ) → at_or_below q a.sells ≡ at_or_below q b.sells
  pub sells_under : (q : ℕ) → below q a.sells ≡ below q b.sells

alike_sym : {a b : Book} → Alike a b → Alike b a
alike_sym like = record {
  bids = sym like.bids;
  offers = sym like.offers;
  buys_from = λ q. sym (like.buys_from q);
  buys_past = λ q. sym (like.buys_past q);
  sells_to = λ q. sym (like.sells_to q);
  sells_under = λ q. sym (like.sells_under q);
}

module _ {a b : Book} (like : Alike a b) where
  count_like : (q : ℕ) → count_at a q ≡ count_at b q
  count_like q = omega (
    arith,
    like.buys_from q,
    like.sells_to q,
    ap (λ xs. at_or_above q (levels xs)) like.bids,
    ap (λ xs. at_or_below q (levels xs)) like.offers,
  )

  clears_like : (q : ℕ) → Clears a q → Clears b q
  clears_like q c = record {
    buyers = omega (
      arith,
      c.buyers,
      like.buys_past q,
      like.sells_to q,
      ap (λ xs. above q (levels xs)) like.bids,
      ap (λ xs. at_or_below q (levels xs)) like.offers,
    );
    sellers = omega (
      arith,
      c.sellers,
      like.buys_from q,
      like.sells_under q,
      ap (λ xs. at_or_above q (levels xs)) like.bids,
      ap (λ xs. below q (levels xs)) like.offers,
    );
  }

  candidate_like : (q : ℕ) → Candidate a q → Candidate b q
  candidate_like q c = record { permitted = c.permitted; clears = clears_like q c.clears }

  best_like : (side : Side) → best_on side a ≡ best_on side b
  best_like Buy = let e = like.bids in cc
  best_like Sell = let e = like.offers in cc

  touching_like : touching (best_on Buy a) (best_on Sell a) ≡ touching (best_on Buy b) (best_on Sell b)
  touching_like = let x = best_like Buy in let y = best_like Sell in cc

  orderly_like : (halted : Bool) → Orderly halted a → Orderly halted b
  orderly_like halted o = record { trading = o.trading; apart = sym touching_like ∙ o.apart }

  reference_like : (last : ℕ) → reference a last ≡ reference b last
  reference_like last = ap (λ x. reference_of last x (best_on Sell a)) (best_like Buy) ∙ ap (λ x. reference_of last (best_on Buy b) x) (best_like Sell)

-- what holds of the outcome of one holds of the other's
module _ {a b : Book} (like : Alike a b) where
  nothing_like : Nothing a → Nothing b
  nothing_like none q c = sym (count_like like q) ∙ none q (candidate_like (alike_sym like) q c)

  something_like : (Nothing a → ⊥) → Nothing b → ⊥
  something_like some none = some (λ q c. count_like like q ∙ none q (candidate_like like q c))

  undecided_like : (ref : Option ℕ) → Undecided a ref → Undecided b ref
  undecided_like ref u = record {
    low = u.low;
    high = u.high;
    low_of = candidate_like like u.low u.low_of;
    high_of = candidate_like like u.high u.high_of;
    order = u.order;
    none = u.none;
  }

  priced_like : (ref : Option ℕ) (p n : ℕ) → Priced a ref p n → Priced b ref p n
  priced_like ref p n x = record {
    price_is = chosen_like (Candidate a) (Candidate b) (candidate_like like) (candidate_like (alike_sym like)) ref p x.price_is;
    count_is = x.count_is ∙ count_like like p;
  }

  snapped_like : (ref : Option ℕ) (x : Outcome) → Snapped a ref x → Snapped b ref x
  snapped_like ref (Ok x) s = (something_like s.0, priced_like ref x.0 x.1 s.1)
  snapped_like ref (Err NothingToTrade) s = nothing_like s
  snapped_like ref (Err NoReference) s = (something_like s.0, undecided_like ref s.1)
  snapped_like ref x s = s

  pub closing_like : (halted : Bool) (last : ℕ) (x : Outcome) → IsOutcome halted a last x → IsOutcome halted b last x
  closing_like halted last (Err Halted) c = c
  closing_like halted last (Err LockedOrCrossed) c = (c.0, sym (touching_like like) ∙ c.1)
  closing_like halted last x c =
      (orderly_like like halted c.0, subst (λ r. Snapped b r x) (reference_like like last) (snapped_like (reference a last) x c.1))
