-- What each cause means, in words.
use Rattle.std.specs.Prelude.{ℕ, List, codes}
use Rattle.pricing.specs.declared.cause.Cause.{Cause}
use Rattle.pricing.specs.declared.cause.Cause.TheVariants.{NothingToTrade, LockedOrCrossed, NoReference, Halted}

abbrev pub cause_words : Cause → List ℕ
cause_words NothingToTrade = codes "nothing to trade: no price finds both a buyer and a seller"
cause_words LockedOrCrossed =
    codes "the outside market is locked or crossed: the best bid reaches the best offer"
cause_words NoReference =
    codes "several prices are possible, and there is no reference to choose by"
cause_words Halted = codes "trading in the security is halted"
