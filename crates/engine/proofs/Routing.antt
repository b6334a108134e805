-- The side that owes is routed to the ranked quotes of the other.
use Rattle.std.proofs.Common.{◌≡◌, ℕ, ◌<◌, ◌≤◌, Bool, true, false, cond, ltb, List, length, take, drop, sym, ap, ◌∙◌, arith}
use Rattle.std.proofs.lemmas.List.{take_at}
use Rattle.std.proofs.lemmas.Bool.{lt-ltb, le-ltb}
use Rattle.ranking.specs.Ranked.{ranked}
use Rattle.ranking.proofs.Listed.{length_ranked}
use Rattle.market.specs.declared.side.Side.{Side}
use Rattle.market.specs.declared.side.Side.TheVariants.{Buy, Sell}
use Rattle.market.specs.Markets.{Market}
use Rattle.market.specs.Rankings.{higher, lower, quote_ahead}
use Rattle.routing.specs.Owed.{owed}
use Rattle.routing.specs.Tickets.{tickets}
use Rattle.engine.specs.declared.state.Engine.{Engine}
use Rattle.engine.specs.States.{TableRows, buys_in, sells_in}
use Rattle.routing.specs.declared.ticket.Ticket.{Ticket}
use Rattle.engine.specs.Effects.{ranked_bids, ranked_offers, book_in, with_quotes, written, with_tickets, drawn, shares_out, owed_out, tickets_at, with_routed}

front : {X : Type 0} (ahead : X → X → Bool) (xs rows : List X) → take (length xs) (written (ranked ahead xs) rows) ≡ ranked ahead xs
front ahead xs rows = take_at (ranked ahead xs) (drop (length (ranked ahead xs)) rows) (length xs) (length_ranked ahead xs)

-- the tickets of each side at a price
abbrev pub buy_tickets : Engine → Market → TableRows → ℕ → List Ticket
buy_tickets e m h price = tickets (owed Buy (book_in e m h) price) (buys_in e h) (ranked_offers m)

abbrev pub sell_tickets : Engine → Market → TableRows → ℕ → List Ticket
sell_tickets e m h price = tickets (owed Sell (book_in e m h) price) (sells_in e h) (ranked_bids m)

module _ (e : Engine) (m : Market) (h h1 : TableRows) (same : h1 ≡ with_quotes m h) (price k : ℕ) (h2 : TableRows) (n : ℕ) where
  abbrev after : TableRows
  after = with_quotes m h

  abbrev buys_owe : Bool
  buys_owe = ltb 0 (owed Buy (book_in e m h) price)

  owed_same : (side : Side) → owed side (book_in e m h1) price ≡ owed side (book_in e m h) price
  owed_same side = ap (λ x. owed side (book_in e m x) price) same

  -- what was drawn for a side, and what went out of it
  drawn_out : (side : Side) (quoted : ℕ) (ts : List Ticket) → h2 ≡ with_tickets (drawn side k quoted e.used h1) (shares_out side k h1)
      → drawn side k quoted e.used h1 ≡ ts → k ≡ owed side (book_in e m h) price
      → h2 ≡ with_tickets ts (shares_out side (owed side (book_in e m h) price) after)
  drawn_out side quoted ts rows drawn-is k-is =
      rows
      ∙ ap (λ us. with_tickets us (shares_out side k h1)) drawn-is
      ∙ ap (λ x. with_tickets ts (shares_out side k x)) same
      ∙ ap (λ j. with_tickets ts (shares_out side j after)) k-is

  pub buys_routed : k ≡ owed Buy (book_in e m h1) price → 0 < k
      → h2 ≡ with_tickets (drawn Buy k (length m.offers) e.used h1) (shares_out Buy k h1) → n ≡ length (drawn Buy k (length m.offers) e.used h1)
      → (h2 ≡ with_routed e m after price) × (n ≡ length (tickets_at e m h price))
  buys_routed is some rows count =
      let k-is : k ≡ owed Buy (book_in e m h) price = is ∙ owed_same Buy in
      let yes : buys_owe ≡ true = lt-ltb 0 (owed Buy (book_in e m h) price) (omega (arith, k-is)) in
      let ts : drawn Buy k (length m.offers) e.used h1 ≡ tickets_at e m h price =
      ap (drawn Buy k (length m.offers) e.used) same ∙ ap (λ j. drawn Buy j (length m.offers) e.used after) k-is
      ∙ ap (tickets (owed Buy (book_in e m h) price) (buys_in e h)) (front (quote_ahead lower) m.offers h.offers)
      ∙ sym (ap (λ t. cond t (buy_tickets e m h price) (sell_tickets e m h price)) yes) in (
        drawn_out Buy (length m.offers) (tickets_at e m h price) rows ts k-is
            ∙ sym (ap (λ t. with_tickets (tickets_at e m h price) (cond t (owed_out Buy e m after price) (owed_out Sell e m after price))) yes),
        count ∙ ap length ts,
      )

  pub sells_routed : owed Buy (book_in e m h1) price ≤ 0 → k ≡ owed Sell (book_in e m h1) price
      → h2 ≡ with_tickets (drawn Sell k (length m.bids) e.used h1) (shares_out Sell k h1) → n ≡ length (drawn Sell k (length m.bids) e.used h1)
      → (h2 ≡ with_routed e m after price) × (n ≡ length (tickets_at e m h price))
  sells_routed none is rows count =
      let k-is : k ≡ owed Sell (book_in e m h) price = is ∙ owed_same Sell in
      let no : buys_owe ≡ false = le-ltb 0 (owed Buy (book_in e m h) price) (omega (arith, owed_same Buy)) in
      let ts : drawn Sell k (length m.bids) e.used h1 ≡ tickets_at e m h price =
      ap (drawn Sell k (length m.bids) e.used) same ∙ ap (λ j. drawn Sell j (length m.bids) e.used after) k-is
      ∙ ap (tickets (owed Sell (book_in e m h) price) (sells_in e h)) (front (quote_ahead higher) m.bids h.bids)
      ∙ sym (ap (λ t. cond t (buy_tickets e m h price) (sell_tickets e m h price)) no) in (
        drawn_out Sell (length m.bids) (tickets_at e m h price) rows ts k-is
            ∙ sym (ap (λ t. with_tickets (tickets_at e m h price) (cond t (owed_out Buy e m after price) (owed_out Sell e m after price))) no),
        count ∙ ap length ts,
      )
