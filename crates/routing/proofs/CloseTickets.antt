-- The tickets of a close at which only one side owes: the other has none.
use Rattle.std.proofs.Common.{◌≡◌, ℕ, ◌+◌, ◌<◌, Bool, true, false, cond, ltb, List, [], ◌∷◌, ◌++◌, map, sym, refl, ap, ◌∙◌, append-nil, arith}
use Rattle.std.proofs.lemmas.Bool.{ltb-true, ltb-false}
use Rattle.market.specs.declared.quote.Quote.{Quote}
use Rattle.market.specs.declared.side.Side.TheVariants.{Buy, Sell}
use Rattle.pricing.specs.Books.{Book}
use Rattle.orders.specs.declared.row.OrderRow.{OrderRow}
use Rattle.routing.specs.Shares.{cell, line, lines}
use Rattle.routing.specs.Owed.{owed}
use Rattle.routing.specs.Tickets.{rests, sizes, ticket_of, tickets}
use Rattle.routing.specs.Closes.{close_tickets}
use Rattle.routing.specs.Laws.{CloseTicketed}
use Rattle.routing.proofs.Walk.{put_none}
use Rattle.routing.proofs.Owing.{one_side_owes}

-- nothing routed: no ties
none_line : (i a r j b : ℕ) (ss : List ℕ) → line 0 i a r j b ss ≡ []
none_line i a r j b [] = refl
none_line i a r j b (s ∷ ss) = put_none i j (cell 0 a r b s) (line 0 i a r (j + 1) (b + s) ss) (omega arith) ∙ none_line i a r (j + 1) (b + s) ss

none_lines : (i a : ℕ) (rs : List ℕ) (j b : ℕ) (ss : List ℕ) → lines 0 i a rs j b ss ≡ []
none_lines i a [] j b ss = refl
none_lines i a (r ∷ rs) j b ss = ap (λ ts. ts ++ lines 0 (i + 1) (a + r) rs j b ss) (none_line i a r j b ss) ∙ none_lines (i + 1) (a + r) rs j b ss

pub none_ticketed : (rows : List OrderRow) (quotes : List Quote) → tickets 0 rows quotes ≡ []
none_ticketed rows quotes = ap (map (ticket_of rows quotes)) (none_lines 0 0 (rests rows) 0 0 (sizes quotes))

-- of two lists of which one is empty, the other
either_list : {X : Type 0} (t : Bool) (xs ys : List X) → (t ≡ true → ys ≡ []) → (t ≡ false → xs ≡ []) → cond t xs ys ≡ xs ++ ys
either_list true xs ys f g = sym (ap (λ zs. xs ++ zs) (f refl) ∙ append-nil xs)
either_list false xs ys f g = sym (ap (λ zs. zs ++ ys) (g refl))

module _ (b : Book) (p : ℕ) (one : 0 < owed Buy b p → owed Sell b p ≡ 0) where
  pub sells_owe_none : ltb 0 (owed Buy b p) ≡ true → owed Sell b p ≡ 0
  sells_owe_none t = one (ltb-true 0 (owed Buy b p) t)

  pub buys_owe_none : ltb 0 (owed Buy b p) ≡ false → owed Buy b p ≡ 0
  buys_owe_none f = omega (arith, ltb-false 0 (owed Buy b p) f)

  pub close_both : (buys sells : List OrderRow) (bids offers : List Quote)
      → close_tickets b p buys sells bids offers ≡ tickets (owed Buy b p) buys offers ++ tickets (owed Sell b p) sells bids
  close_both buys sells bids offers = either_list (ltb 0 (owed Buy b p)) (tickets (owed Buy b p) buys offers) (tickets (owed Sell b p) sells bids)
      (λ t. ap (λ n. tickets n sells bids) (sells_owe_none t) ∙ none_ticketed sells bids)
      (λ f. ap (λ n. tickets n buys offers) (buys_owe_none f) ∙ none_ticketed buys offers)

pub close_ticketed : CloseTicketed
close_ticketed b p apart buys sells bids offers = close_both b p (one_side_owes b p apart) buys sells bids offers
