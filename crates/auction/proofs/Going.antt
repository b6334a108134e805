-- What a granted call finds, and what is known of a call by what it leaves alone.
use Rattle.std.proofs.Common.{◌≡◌, Bool, true, false, eqb, refl, sym, ap, ◌∙◌, subst, inl, inr}
use Rattle.std.proofs.lemmas.Bool.{cases_Bool, both_ways, false≢true}
use Rattle.market.specs.declared.side.Side.TheVariants.{Buy, Sell}
use Rattle.orders.specs.declared.order.Order.{Order}
use Rattle.engine.specs.Asked.{Asked}
use Rattle.engine.specs.declared.stage.Issue.{Issue}
use Rattle.engine.specs.declared.stage.Stage.{Stage}
use Rattle.engine.specs.declared.stage.Stage.TheVariants.{Open}
use Rattle.engine.specs.declared.state.Engine.{Engine}
use Rattle.engine.specs.Stages.{is_acceptance}
use Rattle.engine.specs.States.{TableRows, made}
use Rattle.engine.specs.Questions.{stage_fits}
use Rattle.auction.specs.Tallies.{Tally, first_tally, tally_in_stage, entered}
use Rattle.auction.proofs.Good.{SideGood, OthersGood, other_tables, Running, Kept}
use Rattle.auction.proofs.Tallied.{past}

pub fresh_kept : (issue : Issue) (h : TableRows) → Kept (made issue) h first_tally
fresh_kept issue h = record {
  running = λ k. absurd (false≢true k);
  fresh = λ k. record { open_stage = refl; unfixed = refl; empty = refl; none = refl };
}

-- once a cycle has begun
pub running_kept : {e : Engine} {h : TableRows} {y : Tally} → Running e h y → Kept e h y
running_kept {e} {h} {y} r = record { running = λ k. r; fresh = λ k. absurd (both_ways y.begun k r.begun) }

-- a call that an open engine refuses finds a cycle begun
pub running_by : {e : Engine} {h : TableRows} {y : Tally} → Kept e h y → (call : Asked) → stage_fits call e.stage ≡ true
    → stage_fits call Open ≡ false → Running e h y
running_by {e} {h} {y} kept call fits none = elim (cases_Bool y.begun) [
  | inl t ↦ kept.running t
  | inr f ↦ absurd (both_ways (stage_fits call Open) none (ap (stage_fits call) (sym (kept.fresh f).open_stage) ∙ fits))
]

-- a call that leaves the tables, the rows in use, what a match fixed, and of the tally all but a
-- stage that is no new acceptance, whatever else of the engine it changes: a finish does; at the
-- stage that was, so does a call that touches nothing
pub restaged : {e : Engine} {h : TableRows} {y : Tally} → Running e h y → (e' : Engine) (s : Stage) → e'.stage ≡ s
    → (is_acceptance s ≡ true → is_acceptance y.stage ≡ true) → e'.fixed ≡ e.fixed → e'.used ≡ e.used
    → Running e' h (tally_in_stage s y)
restaged {e} {h} {y} r e' s stage none fixed used = record {
  begun = r.begun;
  good = record {
    stage_is = stage;
    fixed_is = fixed ∙ r.good.fixed_is;
    buys = subst (λ u. SideGood Buy u.buys h.buys y.buys) (sym used) r.good.buys;
    sells = subst (λ u. SideGood Sell u.sells h.sells y.sells) (sym used) r.good.sells;
    sides_apart = r.good.sides_apart;
    others = subst (λ u. OthersGood (other_tables u h y)) (sym used) r.good.others;
    even = r.good.even;
  };
  out = record { buys = r.out.buys; sells = r.out.sells };
  tallied = record { bought = r.tallied.bought; sold = r.tallied.sold; noted = past r.tallied.noted s none };
}

pub entered_begun : (order : Order) (y : Tally) → (entered order y).begun ≡ y.begun
entered_begun order y = by_side (eqb order.side 1) refl
  where
    by_side : (t : Bool) → eqb order.side 1 ≡ t → (entered order y).begun ≡ y.begun
    by_side true is = rw is refl
    by_side false is = rw is refl
