-- What each granted call leaves standing, with its laws. All calls are gone through here alone: one
-- that touches nothing but the clock takes a line, by "restaged" at the stage that was.
use Rattle.std.proofs.Common.{◌≡◌, ℕ, ◌+◌, ◌-◌, true, false, not, eqb, leb, length, get_or, is_ok, is_some, Some, None, Err, Option, sym, refl, ap, ◌∙◌, subst, arith}
use Rattle.std.specs.List.{AllByRecursion}
use Rattle.std.proofs.lemmas.Bool.{false≢true, and_parts, eq-eqb, ltb-true, leb-true, not-true, cond_both}
use Rattle.market.specs.declared.refusal.Refusal.{Refusal}
use Rattle.market.specs.declared.refusal.Refusal.TheVariants.{TableSizes, WrongStage, OrderForm, NumberTaken, SideFull, NoRest, UnknownTicket, TicketReported, TicketFills}
use Rattle.market.specs.Markets.{Market}
use Rattle.market.specs.Prices.{fits}
use Rattle.market.specs.Questions.{first_no}
use Rattle.market.proofs.Asked.{all_yes}
use Rattle.pricing.specs.declared.cause.Cause.TheVariants.{NothingToTrade}
use Rattle.pricing.specs.Outcomes.{Outcome}
use Rattle.orders.specs.declared.order.Order.{Order}
use Rattle.orders.specs.Orders.{side_numbered, well_formed}
use Rattle.orders.proofs.Ranks.{side_of}
use Rattle.routing.specs.Tickets.{empty_ticket}
use Rattle.engine.specs.declared.answer.Answer.TheVariants.{Executed}
use Rattle.engine.specs.Asked.{Asked, Begin, Enter, Cancel, Close, Report, Match, Finish, Abort}
use Rattle.engine.specs.declared.call.Facts.{Facts}
use Rattle.engine.specs.declared.stage.Stage.{Stage}
use Rattle.engine.specs.declared.stage.Stage.TheVariants.{Open, Acceptance, Satisfaction}
use Rattle.engine.specs.declared.state.Engine.{Engine}
use Rattle.engine.specs.Stages.{is_acceptance, is_satisfaction, price_of}
use Rattle.engine.specs.States.{TableRows, tickets_in}
use Rattle.engine.specs.Questions.{sizes_fit, stage_fits, on_book, has_room, rest_of, is_ticket, ticket_at, questions}
use Rattle.engine.specs.Effects.{Left, unless, ended, to_execute, all_rests, done}
use Rattle.engine.specs.Steps.{PricedBy, Called}
use Rattle.engine.proofs.Answered.{yes_to}
use Rattle.engine.proofs.Sizes.{sizes}
use Rattle.auction.specs.Tallies.{Tally, entered, new_cycle, matchable, executed, fed}
use Rattle.auction.specs.Laws.{OrdersOnly, Adds, Matches, MatchLaws, CallLaws}
use Rattle.auction.proofs.Good.{Running, Kept}
use Rattle.auction.proofs.Used.{tickets_in_use}
use Rattle.auction.proofs.Entering.{begin_good, enter_good}
use Rattle.auction.proofs.Changing.{cancel_good, report_good}
use Rattle.auction.proofs.Ending.{abort_good}
use Rattle.auction.proofs.Matching.{matches, match_good}
use Rattle.auction.proofs.Outs.{enter_out, cancel_out, abort_out, match_out, ReportGranted, report_out, report_settles}
use Rattle.auction.proofs.Leaving.{cancels, ends, all_rests_of}
use Rattle.auction.proofs.Tallied.{new_tallied, accepting_unnoted, entered_tallied, cancelled_tallied, ended_tallied, settled_tallied, executed_tallied}
use Rattle.auction.proofs.Going.{running_kept, running_by, restaged, entered_begun}
use Rattle.auction.proofs.Closing.{Granted, close_granted}

-- an order that is entered comes last on its side
module _ (order : Order) (y : Tally) where
  adds : well_formed order ≡ true → Adds order y (entered order y)
  adds formed = record {
    buy = λ e. let is = eq-eqb order.side 1 e in rw is (refl, refl);
    sell = λ e. let is : eqb order.side 1 ≡ false = ap (λ s. eqb s 1) e in rw is (refl, refl);
    sided =
        let fit = and_parts (not (eqb order.number 0)) _ formed in
        let sided = and_parts (fits order.price order.shares) _ fit.1 in
        side_of order.side (and_parts (is_some (side_numbered order.side)) _ sided.1).0;
  }

  only_orders : OrdersOnly y (entered order y)
  only_orders = cond_both (eqb order.side 1) _ _ (OrdersOnly y) (λ _. refl) (λ _. refl)

-- a match comes in satisfaction only
match_laws_at : (s : Stage) (shares : ℕ) (y y' : Tally) → is_satisfaction s ≡ true → Matches (price_of s) shares y y' → MatchLaws s (Executed shares) y y'
match_laws_at (Satisfaction price deadline) shares y y' is x = x
match_laws_at stage shares y y' is x = absurd (false≢true is)

module _ (e : Engine) (m : Market) (h : TableRows) (y : Tally) where
  abbrev Yes : Asked → Type 0
  Yes call = AllByRecursion (λ q. q.yes ≡ true) (questions e m h call)

  begin_granted : (time : ℕ) (order : Order) (facts : Facts) (x : Outcome) → Yes (Begin time order facts)
      → Granted y m (Begin time order facts) (done e m h (Begin time order facts) x)
  begin_granted time order facts x all =
      let stage : Stage = Acceptance (time + facts.acceptance) in
      let cycle : Tally = new_cycle stage in
      let fit : sizes_fit h ≡ true = yes_to TableSizes (questions e m h (Begin time order facts)) all in
      let formed : well_formed order ≡ true = yes_to OrderForm (questions e m h (Begin time order facts)) all in
      let alone = adds order cycle formed in
      let only = only_orders order cycle in
      record {
        running = record {
          begun = entered_begun order cycle;
          good = begin_good e h (sizes h fit) y m time order facts (Err NothingToTrade) formed;
          out = enter_out cycle (record { buys = tt; sells = tt }) order refl;
          tallied = entered_tallied cycle (new_tallied stage) order;
        };
        laws = (
          refl,
          record {
            stage = ap (λ z. z.stage) only;
            fixed = ap (λ z. z.fixed) only;
            alone = record { buy = alone.buy; sell = alone.sell; sided = alone.sided };
            unquoted = ap (λ z. z.quotes_noted) only;
            bought = ap (λ z. z.bought) only;
            sold = ap (λ z. z.sold) only;
          },
        );
      }

  -- the others find a cycle begun
  module _ (r : Running e h y) where
    enter_granted : (order : Order) (x : Outcome) → Yes (Enter order) → Granted y m (Enter order) (done e m h (Enter order) x)
    enter_granted order x all =
        let accepting : is_acceptance e.stage ≡ true = yes_to WrongStage (questions e m h (Enter order)) all in
        let formed : well_formed order ≡ true = yes_to OrderForm (questions e m h (Enter order)) all in
        let new : not (on_book e h order.number) ≡ true = yes_to NumberTaken (questions e m h (Enter order)) all in
        let room : has_room e order ≡ true = yes_to SideFull (questions e m h (Enter order)) all in
        let none = accepting_unnoted y r.tallied (subst (λ s. is_acceptance s ≡ true) r.good.stage_is accepting) in
        record {
          running = record {
            begun = entered_begun order y ∙ r.begun;
            good = enter_good e h y order r.good formed (not-true (on_book e h order.number) new) room;
            out = enter_out y r.out order none.tickets;
            tallied = entered_tallied y r.tallied order;
          };
          laws = (refl, record { adds = adds order y formed; only = only_orders order y });
        }

    cancel_granted : (number : ℕ) (x : Outcome) → Yes (Cancel number) → Granted y m (Cancel number) (done e m h (Cancel number) x)
    cancel_granted number x all =
        let some = ltb-true 0 (rest_of e h number) (yes_to NoRest (questions e m h (Cancel number)) all) in
        record {
          running = record {
            begun = r.begun;
            good = cancel_good e h y number r.good;
            out = cancel_out y r.out number;
            tallied = cancelled_tallied y r.tallied number;
          };
          laws = cancels number e h y r.good (omega (arith, some));
        }

    report_granted : (ticket filled : ℕ) (x : Outcome) → Yes (Report ticket filled)
        → Granted y m (Report ticket filled) (done e m h (Report ticket filled) x)
    report_granted ticket filled x all =
        let known : is_ticket e h ticket ≡ true = yes_to UnknownTicket (questions e m h (Report ticket filled)) all in
        let open' : not (ticket_at e h ticket).reported ≡ true = yes_to TicketReported (questions e m h (Report ticket filled)) all in
        let fills = leb-true filled (ticket_at e h ticket).shares (yes_to TicketFills (questions e m h (Report ticket filled)) all) in
        let both = and_parts (leb 1 ticket) (leb ticket (length (tickets_in e h))) known in
        let least = leb-true 1 ticket both.0 in
        let most = leb-true ticket (length (tickets_in e h)) both.1 in
        let are = tickets_in_use e h y r.good in
        let g : ReportGranted y ticket filled = record {
          within = omega (arith, least, most, ap length are);
          unreported = sym (ap (λ ts. (get_or ts (ticket - 1) empty_ticket).reported) are) ∙ not-true (ticket_at e h ticket).reported open';
          fills = omega (arith, fills, ap (λ ts. (get_or ts (ticket - 1) empty_ticket).shares) are);
        } in
        record {
          running = record {
            begun = r.begun;
            good = report_good e h y r.good ticket filled least most;
            out = report_out y r.out ticket filled g;
            tallied = settled_tallied y r.tallied ticket filled;
          };
          laws = (
            refl,
            record {
              least = least;
              most = omega (arith, most, ap length are);
              unreported = g.unreported;
              fills = g.fills;
              settled = report_settles y r.out ticket filled g;
              marked = refl;
              only = refl;
            },
          );
        }

    match_granted : (time : ℕ) (x : Outcome) → Yes (Match time) → Granted y m (Match time) (done e m h (Match time) x)
    match_granted time x all =
        let is : is_satisfaction e.stage ≡ true = yes_to WrongStage (questions e m h (Match time)) all in
        record {
          running = record {
            begun = r.begun;
            good = match_good e h y r.good time;
            out = match_out y r.out (matchable y);
            tallied = executed_tallied y r.tallied (matchable y);
          };
          laws = match_laws_at y.stage (to_execute h (price_of e.stage)) y (executed (matchable y) y)
              (subst (λ s. is_satisfaction s ≡ true) r.good.stage_is is) (matches e h y r.good);
        }

    finish_granted : (time : ℕ) (x : Outcome) → Granted y m (Finish time) (done e m h (Finish time) x)
    finish_granted time x = record {
      running = restaged r (ended time e) Open refl (λ k. absurd (false≢true k)) refl refl;
      laws = (refl, refl);
    }

    abort_granted : (time : ℕ) (x : Outcome) → Granted y m (Abort time) (done e m h (Abort time) x)
    abort_granted time x = record {
      running = record {
        begun = r.begun;
        good = abort_good e h y r.good time;
        out = abort_out y r.out;
        tallied = ended_tallied y r.tallied;
      };
      laws = ends (all_rests h) y (all_rests_of e h y r.good);
    }

  module _ (kept : Kept e h y) where
    -- the cycle that a call of another stage than open finds
    found : (call : Asked) → Yes call → stage_fits call Open ≡ false → Running e h y
    found call all none = running_by kept call (yes_to WrongStage (questions e m h call) all) none

    -- each call, with its questions all answered yes
    pub granted : (call : Asked) (x : Outcome) → Yes call → PricedBy None e m h call x → Granted y m call (done e m h call x)
    granted (Begin time order facts) x all pricing = begin_granted time order facts x all
    granted (Enter order) x all pricing = enter_granted (found (Enter order) all refl) order x all
    granted (Cancel number) x all pricing = cancel_granted (found (Cancel number) all refl) number x all
    granted (Close time last) x all pricing =
        close_granted e m h y (found (Close time last) all refl) time last x all pricing
    granted (Report ticket filled) x all pricing = report_granted (found (Report ticket filled) all refl) ticket filled x all
    granted (Match time) x all pricing = match_granted (found (Match time) all refl) time x all
    granted (Finish time) x all pricing = finish_granted (found (Finish time) all refl) time x
    granted (Abort time) x all pricing = abort_granted (found (Abort time) all refl) time x

-- what any call leaves, granted or refused
pub record After (y : Tally) (m : Market) (call : Asked) (left : Left) : Type 0 where
  pub kept : Kept left.engine left.held (fed y m call left.answer)
  pub laws : CallLaws y m call left.answer (fed y m call left.answer)
  pub begun : is_ok left.answer ≡ true → (fed y m call left.answer).begun ≡ true

module _ (e : Engine) (m : Market) (h : TableRows) (y : Tally) (kept : Kept e h y) where
  after_by : (call : Asked) (x : Outcome) (r : Option Refusal) → first_no (questions e m h call) ≡ r → PricedBy r e m h call x
      → After y m call (unless r e h (done e m h call x))
  after_by call x (Some refusal) is pricing = record { kept = kept; laws = refl; begun = λ ok. absurd (false≢true ok) }
  after_by call x None is pricing =
      let g = granted e m h y kept call x (all_yes (questions e m h call) is) pricing in
      record { kept = running_kept g.running; laws = g.laws; begun = λ ok. g.running.begun }

  pub after_call : (call : Asked) (left : Left) → Called e m h call left → After y m call left
  after_call call left c = subst (After y m call) (sym c.is) (after_by call c.outcome (first_no (questions e m h call)) refl c.pricing)
