-- Writing a list into a slice, from its start.
use Rattle.std.proofs.Common.{◌≡◌, ℕ, zero, suc, ◌+◌, ◌-◌, ◌<◌, ◌≤◌, min, true, false, cond, ◌&&◌, ltb, List, [], ◌∷◌, ◌++◌, map, length, take, drop, set, sym, refl, ap, ◌∙◌, inl, inr, append_assoc, append-nil, arith, length-append, length-set}
use Rattle.std.proofs.lemmas.Bool.{cases_lt}
use Rattle.std.proofs.lemmas.Bool.Decides.{nat_tests}
use Rattle.std.proofs.lemmas.List.{take_more_set, take_all, take-append-le, drop-set-lt, drop-drop, length-take-le}
use Rattle.routing.specs.Shares.{Tie, put}
use Rattle.routing.proofs.Walk.{put_none}

-- the first `count` places of `out` are those of `whole`, which goes on with `rest` where a place is left; no place past
-- them was written since `from`
pub record Written {X : Type 0} (whole from : List X) (count : ℕ) (out rest : List X) : Type 0 where
  pub first : take count out ≡ take count whole
  pub kept : drop count out ≡ drop count from
  pub within : count ≤ length out
  pub few : count ≤ length whole
  pub onto : count < length out → take count out ++ rest ≡ whole

put_some : (i j c : ℕ) (ts : List Tie) → 0 < c → put i j c ts ≡ record { order = i; quote = j; shares = c } ∷ ts
put_some i j zero ts h = absurd (omega arith)
put_some i j (suc c) ts h = refl

drop_later : {X : Type 0} (c d : ℕ) (xs ys : List X) → drop c xs ≡ drop c ys → c ≤ d → drop d xs ≡ drop d ys
drop_later c d xs ys e h =
    let p : c + (d - c) ≡ d = omega arith in
    let x = drop-drop (d - c) c xs in
    let y = drop-drop (d - c) c ys in
    cc

module _ {X : Type 0} (whole from : List X) (count : ℕ) (out : List X) where
  written_more : (t : X) (rest : List X) → Written whole from count out (t ∷ rest) → count < length out → Written whole from (count + 1) (set out count t) rest
  written_more t rest w h =
      let same : take (count + 1) (set out count t) ++ rest ≡ whole = rw (take_more_set out count t h, append_assoc) (w.onto h) in
      let within : count + 1 ≤ length (set out count t) = rw length-set (omega arith) in
      let long : length (take (count + 1) (set out count t)) ≡ count + 1 = length-take-le (count + 1) (set out count t) within in
      record {
        first =
            sym (take_all (count + 1) (take (count + 1) (set out count t)) (omega arith))
            ∙ sym (take-append-le (count + 1) (take (count + 1) (set out count t)) rest (omega arith)) ∙ ap (take (count + 1)) same;
        kept = rw (drop-set-lt (count + 1) out count t (omega arith)) (drop_later count (count + 1) out from w.kept (omega arith));
        within = within;
        few = omega (arith, ap length same, length-append (take (count + 1) (set out count t)) rest);
        onto = λ _. same;
      }

  -- no place is left
  written_full : (rest next : List X) → Written whole from count out rest → length out ≤ count → Written whole from count out next
  written_full rest next w h = record { first = w.first; kept = w.kept; within = w.within; few = w.few; onto = λ lt. absurd (omega arith) }

pub written_none : {X : Type 0} (whole out : List X) → Written whole out 0 out whole
written_none whole out = record { first = refl; kept = refl; within = omega arith; few = omega arith; onto = λ _. refl }

-- all is written, or all that there is a place for
pub written_all : {X : Type 0} (whole from : List X) (count : ℕ) (out : List X) → Written whole from count out []
    → (count ≡ min (length whole) (length out)) × (take count out ≡ take count whole) × (drop count out ≡ drop count from)
written_all whole from count out w =
    let l = w.within in
    let f = w.few in (
      elim (cases_lt count (length out)) [
        | inl lt ↦
            let s : take count out ≡ whole = rw append-nil at (w.onto lt) in
            omega (arith, ap length s, length-take-le count out l)
        | inr ge ↦ omega arith
      ],
      w.first,
      w.kept,
    )

-- a tie that may be empty, where one that is not has been written
module _ {X : Type 0} (f : Tie → X) (whole from : List X) (count : ℕ) (out : List X) (i j c : ℕ) (rest : List Tie) where
  put_wrote : 0 < c → count < length out → Written whole from count out (map f (put i j c rest))
      → Written whole from (count + 1) (set out count (f (record { order = i; quote = j; shares = c }))) (map f rest)
  put_wrote p h w = written_more whole from count out _ _ (rw (put_some i j c rest p) at w) h

  put_passed : c ≤ 0 → Written whole from count out (map f (put i j c rest)) → Written whole from count out (map f rest)
  put_passed p w = rw (put_none i j c rest (omega arith)) at w

  -- a ticket was put where it is for some shares and there is a place
  pub put_done : (count' : ℕ) (out' : List X)
      → count' ≡ cond (ltb 0 c && ltb count (length out)) (count + 1) count
      → out' ≡ cond (ltb 0 c && ltb count (length out)) (set out count (f (record { order = i; quote = j; shares = c }))) out
      → Written whole from count out (map f (put i j c rest)) → Written whole from count' out' (map f rest)
  put_done count' out' x y w =
      elim (cases_lt 0 c) [
        | inl p ↦ elim (cases_lt count (length out)) [
          | inl h ↦ let t : (ltb 0 c && ltb count (length out)) ≡ true = grind (arith, nat_tests) in rw (x, y, t) (put_wrote p h w)
          | inr z ↦ let t : (ltb 0 c && ltb count (length out)) ≡ false = grind (arith, nat_tests) in rw (x, y, t) (written_full whole from count out _ _ w z)
        ]
        | inr z ↦ let t : (ltb 0 c && ltb count (length out)) ≡ false = grind (arith, nat_tests) in rw (x, y, t) (put_passed z w)
      ]
