-- What an outcome says of its book, in numbers and in bytes.
use Rattle.std.proofs.Common.{◌≡◌, ℕ, zero, suc, ◌<◌, ◌≤◌, ◌++◌, Bool, true, false, Ok, Err, refl, arith}
use Rattle.pricing.specs.declared.cause.Cause.TheVariants.{NothingToTrade, LockedOrCrossed, NoReference, Halted}
use Rattle.pricing.specs.Books.{Book}
use Rattle.pricing.specs.Outcomes.{Outcome, IsOutcome, Best, reference}
use Rattle.pricing.proofs.Outcomes.{undecided_priced}
use Rattle.image.specs.Words.{little_endian}
use Rattle.image.specs.Numbers.{OutcomeSays, Reads}

positive : (n : ℕ) → (n ≡ 0 → ⊥) → 1 ≤ n
positive zero h = absurd (h refl)
positive (suc n) h = omega arith

never : {A : Type 0} (t : Bool) → t ≡ false → t ≡ true → A
never t f e = cc

pub says : (b : Book) (last : ℕ) (x : Outcome) → IsOutcome false b last x → Best b x → OutcomeSays b last x
says b last (Err Halted) closing best = absurd (let z : false ≡ true = closing in cc)
says b last (Err LockedOrCrossed) closing best = record {
  causes = omega arith;
  priced = λ e. absurd (omega arith);
  nothing = (λ e. absurd (omega arith), λ n. never _ n.0 closing.1);
  locked = (λ e. closing.1, λ t. refl);
  undecided = (λ e. absurd (omega arith), λ u. never _ u.0 closing.1);
  zeros = λ h. (refl, refl);
}
says b last (Err NothingToTrade) closing best = record {
  causes = omega arith;
  priced = λ e. absurd (omega arith);
  nothing = (λ e. (closing.0.apart, best), λ n. refl);
  locked = (λ e. absurd (omega arith), never _ closing.0.apart);
  undecided = (λ e. absurd (omega arith), λ u. absurd (u.1 closing.1));
  zeros = λ h. (refl, refl);
}
says b last (Err NoReference) closing best = record {
  causes = omega arith;
  priced = λ e. absurd (omega arith);
  nothing = (λ e. absurd (omega arith), λ n. absurd (closing.1.0 (λ q c. n.1 q)));
  locked = (λ e. absurd (omega arith), never _ closing.0.apart);
  undecided = (λ e. (closing.0.apart, closing.1.0, closing.1.1), λ u. refl);
  zeros = λ h. (refl, refl);
}
says b last (Ok x) closing best = record {
  causes = omega arith;
  priced = λ e. (closing.1.1, positive x.1 (λ z. closing.1.0 (λ q c. let most = best q in omega arith)), best);
  nothing = (λ e. absurd (omega arith), λ n. absurd (closing.1.0 (λ q c. n.1 q)));
  locked = (λ e. absurd (omega arith), never _ closing.0.apart);
  undecided = (λ e. absurd (omega arith), λ u. absurd (undecided_priced b (reference b last) x.0 x.1 u.2 closing.1.1));
  zeros = λ h. absurd (omega arith);
}

-- numbers that fit their bytes are read again
pub reads : (price cause count : ℕ) → price < 4294967296 → cause < 4294967296 → count < 18446744073709551616 → Reads (little_endian 4 price ++ (little_endian 4 cause ++ little_endian 8 count)) price cause count
reads price cause count p c n = record { price_is = omega arith; cause_is = omega arith; count_is = omega arith }
