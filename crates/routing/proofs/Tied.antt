-- What the ties of one order, and of one quote, come to.
use Rattle.std.proofs.Common.{◌≡◌, ℕ, zero, suc, ◌+◌, ◌<◌, ◌≤◌, cond, eqb, List, [], ◌∷◌, ◌++◌, length, get_or, refl, arith}
use Rattle.std.specs.List.{AllByRecursion}
use Rattle.std.proofs.ByRecursion.{All-append, All-weaker}
use Rattle.std.proofs.lemmas.Bool.Decides.{nat_tests}
use Rattle.routing.specs.Shares.{Tie, shares_before, cell, across, down, put, line, lines, ties, of_order, of_quote}
use Rattle.routing.specs.Laws.{OrderTied, QuoteTied}
use Rattle.routing.proofs.Sums.{shares_before-cons, across_is, down_is}

pub of_order_append : (k : ℕ) (xs ys : List Tie) → of_order k (xs ++ ys) ≡ of_order k xs + of_order k ys
of_order_append k [] ys = omega arith
of_order_append k (x ∷ xs) ys = omega (arith, of_order_append k xs ys)

pub of_quote_append : (k : ℕ) (xs ys : List Tie) → of_quote k (xs ++ ys) ≡ of_quote k xs + of_quote k ys
of_quote_append k [] ys = omega arith
of_quote_append k (x ∷ xs) ys = omega (arith, of_quote_append k xs ys)

pub order_put : (k i j c : ℕ) (ts : List Tie) → of_order k (put i j c ts) ≡ cond (eqb i k) c 0 + of_order k ts
order_put k i j zero ts = grind (arith, nat_tests)
order_put k i j (suc c) ts = refl

pub quote_put : (k i j c : ℕ) (ts : List Tie) → of_quote k (put i j c ts) ≡ cond (eqb j k) c 0 + of_quote k ts
quote_put k i j zero ts = grind (arith, nat_tests)
quote_put k i j (suc c) ts = refl

order_line : (k n i a r j b : ℕ) (ss : List ℕ) → of_order k (line n i a r j b ss) ≡ cond (eqb i k) (across n a r b ss) 0
order_line k n i a r j b [] = grind (arith, nat_tests)
order_line k n i a r j b (s ∷ ss) =
    grind (arith, nat_tests, order_put k i j (cell n a r b s) (line n i a r (j + 1) (b + s) ss), order_line k n i a r (j + 1) (b + s) ss)

order_lines_past : (k n i a : ℕ) (rs : List ℕ) (j b : ℕ) (ss : List ℕ) → k < i → of_order k (lines n i a rs j b ss) ≡ 0
order_lines_past k n i a [] j b ss h = refl
order_lines_past k n i a (r ∷ rs) j b ss h =
    grind (
      arith,
      nat_tests,
      of_order_append k (line n i a r j b ss) (lines n (i + 1) (a + r) rs j b ss),
      order_line k n i a r j b ss,
      order_lines_past k n (i + 1) (a + r) rs j b ss (omega arith),
    )

order_lines : (d k n i a : ℕ) (rs : List ℕ) (j b : ℕ) (ss : List ℕ) → k ≡ i + d → d < length rs
    → of_order k (lines n i a rs j b ss) ≡ across n (a + shares_before rs d) (get_or rs d 0) b ss
order_lines d k n i a [] j b ss e h = absurd (omega arith)
order_lines zero k n i a (r ∷ rs) j b ss e h =
    let q : a + 0 ≡ a = omega arith in
    rw q (grind (
      arith,
      nat_tests,
      of_order_append k (line n i a r j b ss) (lines n (i + 1) (a + r) rs j b ss),
      order_line k n i a r j b ss,
      order_lines_past k n (i + 1) (a + r) rs j b ss (omega arith),
    ))
order_lines (suc d) k n i a (r ∷ rs) j b ss e h =
    let q : (a + r) + shares_before rs d ≡ a + shares_before (r ∷ rs) (suc d) = omega (arith, shares_before-cons r rs d) in
    let ih = rw q at (order_lines d k n (i + 1) (a + r) rs j b ss (omega arith) (omega arith)) in
    grind (arith, nat_tests, of_order_append k (line n i a r j b ss) (lines n (i + 1) (a + r) rs j b ss), order_line k n i a r j b ss, ih)

-- every tie is one of the orders'
pub put_all : (P : Tie → Type 0) (i j c : ℕ) (ts : List Tie) → ((s : ℕ) → P (record { order = i; quote = j; shares = s })) → AllByRecursion P ts → AllByRecursion P (put i j c ts)
put_all P i j zero ts h a = a
put_all P i j (suc c) ts h a = (h (suc c), a)

line_orders : (n i a r j b : ℕ) (ss : List ℕ) → AllByRecursion (λ t. t.order ≡ i) (line n i a r j b ss)
line_orders n i a r j b [] = tt
line_orders n i a r j b (s ∷ ss) =
    put_all (λ t. t.order ≡ i) i j (cell n a r b s) (line n i a r (j + 1) (b + s) ss) (λ _. refl) (line_orders n i a r (j + 1) (b + s) ss)

lines_orders : (n i a : ℕ) (rs : List ℕ) (j b : ℕ) (ss : List ℕ) → AllByRecursion (λ t. t.order < i + length rs) (lines n i a rs j b ss)
lines_orders n i a [] j b ss = tt
lines_orders n i a (r ∷ rs) j b ss =
    All-append (λ t. t.order < i + length (r ∷ rs)) (line n i a r j b ss) (lines n (i + 1) (a + r) rs j b ss)
    (All-weaker (λ t. t.order ≡ i) (λ t. t.order < i + length (r ∷ rs)) (λ t h. omega arith) (line n i a r j b ss) (line_orders n i a r j b ss))
    (All-weaker (λ t. t.order < (i + 1) + length rs) (λ t. t.order < i + length (r ∷ rs)) (λ t h. omega arith) (lines n (i + 1) (a + r) rs j b ss) (lines_orders n (i + 1) (a + r) rs j b ss))

pub ties_orders : (n : ℕ) (rs ss : List ℕ) → AllByRecursion (λ t. t.order < length rs) (ties n rs ss)
ties_orders n rs ss =
    All-weaker (λ t. t.order < 0 + length rs) (λ t. t.order < length rs) (λ t h. omega arith) (ties n rs ss) (lines_orders n 0 0 rs 0 0 ss)

line_quotes : (n i a r j b : ℕ) (ss : List ℕ) → AllByRecursion (λ t. t.quote < j + length ss) (line n i a r j b ss)
line_quotes n i a r j b [] = tt
line_quotes n i a r j b (s ∷ ss) =
    put_all (λ t. t.quote < j + length (s ∷ ss)) i j (cell n a r b s) (line n i a r (j + 1) (b + s) ss) (λ _. omega arith)
    (All-weaker (λ t. t.quote < (j + 1) + length ss) (λ t. t.quote < j + length (s ∷ ss)) (λ t h. omega arith) (line n i a r (j + 1) (b + s) ss) (line_quotes n i a r (j + 1) (b + s) ss))

lines_quotes : (n i a : ℕ) (rs : List ℕ) (j b : ℕ) (ss : List ℕ) → AllByRecursion (λ t. t.quote < j + length ss) (lines n i a rs j b ss)
lines_quotes n i a [] j b ss = tt
lines_quotes n i a (r ∷ rs) j b ss =
    All-append (λ t. t.quote < j + length ss) (line n i a r j b ss) (lines n (i + 1) (a + r) rs j b ss) (line_quotes n i a r j b ss) (lines_quotes n (i + 1) (a + r) rs j b ss)

-- and one of the quotes'
pub ties_quotes : (n : ℕ) (rs ss : List ℕ) → AllByRecursion (λ t. t.quote < length ss) (ties n rs ss)
ties_quotes n rs ss =
    All-weaker (λ t. t.quote < 0 + length ss) (λ t. t.quote < length ss) (λ t h. omega arith) (ties n rs ss) (lines_quotes n 0 0 rs 0 0 ss)

pub order_tied : OrderTied
order_tied n rs ss i h k =
    let e : 0 + shares_before rs i ≡ shares_before rs i = omega arith in
    omega (arith, rw e at (order_lines i i n 0 0 rs 0 0 ss (omega arith) h), across_is n (shares_before rs i) (get_or rs i 0) 0 ss)

quote_line_past : (k n i a r j b : ℕ) (ss : List ℕ) → k < j → of_quote k (line n i a r j b ss) ≡ 0
quote_line_past k n i a r j b [] h = refl
quote_line_past k n i a r j b (s ∷ ss) h =
    grind (arith, nat_tests, quote_put k i j (cell n a r b s) (line n i a r (j + 1) (b + s) ss), quote_line_past k n i a r (j + 1) (b + s) ss (omega arith))

quote_line : (d k n i a r j b : ℕ) (ss : List ℕ) → k ≡ j + d → d < length ss
    → of_quote k (line n i a r j b ss) ≡ cell n a r (b + shares_before ss d) (get_or ss d 0)
quote_line d k n i a r j b [] e h = absurd (omega arith)
quote_line zero k n i a r j b (s ∷ ss) e h =
    grind (arith, nat_tests, quote_put k i j (cell n a r b s) (line n i a r (j + 1) (b + s) ss), quote_line_past k n i a r (j + 1) (b + s) ss (omega arith))
quote_line (suc d) k n i a r j b (s ∷ ss) e h =
    let q : (b + s) + shares_before ss d ≡ b + shares_before (s ∷ ss) (suc d) = omega (arith, shares_before-cons s ss d) in
    let ih = rw q at (quote_line d k n i a r (j + 1) (b + s) ss (omega arith) (omega arith)) in
    grind (arith, nat_tests, quote_put k i j (cell n a r b s) (line n i a r (j + 1) (b + s) ss), ih)

quote_lines : (d k n i a : ℕ) (rs : List ℕ) (j b : ℕ) (ss : List ℕ) → k ≡ j + d → d < length ss
    → of_quote k (lines n i a rs j b ss) ≡ down n a rs (b + shares_before ss d) (get_or ss d 0)
quote_lines d k n i a [] j b ss e h = refl
quote_lines d k n i a (r ∷ rs) j b ss e h =
    let x = of_quote_append k (line n i a r j b ss) (lines n (i + 1) (a + r) rs j b ss) in
    let y = quote_line d k n i a r j b ss e h in
    let z = quote_lines d k n (i + 1) (a + r) rs j b ss e h in
    cc

pub quote_tied : QuoteTied
quote_tied n rs ss j h k =
    let e : 0 + shares_before ss j ≡ shares_before ss j = omega arith in
    let x = rw e at (quote_lines j j n 0 0 rs 0 0 ss (omega arith) h) in
    let y = down_is n 0 rs (shares_before ss j) (get_or ss j 0) in
    (omega arith, λ l. omega arith)

-- a quote's ties never come to more than it has
pub of_quote_most : (n : ℕ) (rs ss : List ℕ) (j : ℕ) → j < length ss → of_quote j (ties n rs ss) ≤ get_or ss j 0
of_quote_most n rs ss j h =
    let e : 0 + shares_before ss j ≡ shares_before ss j = omega arith in
    omega (arith, rw e at (quote_lines j j n 0 0 rs 0 0 ss (omega arith) h), down_is n 0 rs (shares_before ss j) (get_or ss j 0))
