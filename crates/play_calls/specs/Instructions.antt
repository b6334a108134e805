-- What a line does to a desk: an instruction that is played.
use Rattle.std.specs.Prelude.{◌≡◌, ℕ, true, false, Option, Result, Ok, Err, is_ok}
use Rattle.market.specs.declared.refusal.Refusal.{Refusal}
use Rattle.market.specs.Markets.{Market}
use Rattle.market.specs.Venues.{set_answer, clear_answer, after_set, after_clear}
use Rattle.engine.specs.declared.answer.Answer.{Answer}
use Rattle.engine.specs.declared.call.Call.{Call}
use Rattle.engine.specs.Asked.{asked}
use Rattle.engine.specs.States.{made}
use Rattle.engine.specs.Outstanding.{outstanding_of}
use Rattle.engine.specs.Steps as engine
use Rattle.auction.specs.Tallies.{Tally, first_tally, fed}
use Rattle.auction.specs.Posts.{Posts, no_posts, posted}
use Rattle.auction.specs.Histories.{History}
use Rattle.auction.specs.Laws.{OpenBy}
use Rattle.auction.specs.Runs.{NoneYet, OpenNow}
use Rattle.auction.specs.Played.{Promised}
use Rattle.desk.specs.declared.desk.Desk.{Desk}
use Rattle.desk.specs.Desks.{rows_of, desk_market, left_at}
use Rattle.play_calls.specs.declared.line.Instruction.{Instruction}
use Rattle.play_calls.specs.declared.line.Instruction.TheVariants as instruction
use Rattle.play_calls.specs.declared.reply.Reply.{Reply}
use Rattle.play_calls.specs.declared.reply.Reply.TheVariants as reply

-- an answer as a reply
abbrev pub replied : {A : Type 0} → (A → Reply) → Result A Refusal → Result Reply Refusal
replied reply (Ok a) = Ok (reply a)
replied reply (Err refusal) = Err refusal

-- the venues changed, and nothing else
pub record Quoted (d : Desk) (m : Market) (d' : Desk) : Type 0 where
  pub market : desk_market d' ≡ m
  pub engine : d'.engine ≡ d.engine
  pub rows : rows_of d' ≡ rows_of d

-- a call and its answer, with all that is promised of it in a run
pub record Called (d : Desk) (call : Call) (d' : Desk) (r : Result Reply Refusal) : Type 0 where
  pub answer : Result Answer Refusal
  pub called : engine.Called d.engine (desk_market d) (rows_of d) (asked call) (left_at d' answer)
  pub promised : (y : Tally) (p : Posts) → History d.engine (rows_of d) y p
      → Promised d.engine (rows_of d) y p (desk_market d) (asked call) (left_at d' answer)
  pub venues : d'.venues ≡ d.venues
  pub reply : r ≡ replied reply.Called answer

-- a ticket that is not yet reported, by the tally of a run
pub record TicketAsked (d d' : Desk) (r : Result Reply Refusal) : Type 0 where
  pub same : d' ≡ d
  pub reply : r ≡ replied reply.Outstanding (outstanding_of d.engine (rows_of d))
  pub run : (y : Tally) (p : Posts) → History d.engine (rows_of d) y p → (o : Option ℕ)
      → outstanding_of d.engine (rows_of d) ≡ Ok o → OpenBy y o
  pub begun : (y : Tally) (p : Posts) → History d.engine (rows_of d) y p → y.begun ≡ true
      → OpenNow y (outstanding_of d.engine (rows_of d))
  pub fresh : (y : Tally) (p : Posts) → History d.engine (rows_of d) y p → y.begun ≡ false
      → NoneYet d.engine (rows_of d) (outstanding_of d.engine (rows_of d))

-- what each instruction leaves and answers
abbrev pub InstructionPlayed : Desk → Instruction → Desk → Result Reply Refusal → Type 0
InstructionPlayed d (instruction.Quote venue side price shares) d' r =
    let answer = set_answer venue side price shares in
    Quoted d (after_set (is_ok answer) venue side price shares (desk_market d)) d' × (r ≡ replied (λ _. reply.Done) answer)
InstructionPlayed d (instruction.Clear venue side) d' r =
    let answer = clear_answer venue side in
    Quoted d (after_clear (is_ok answer) venue side (desk_market d)) d' × (r ≡ replied (λ _. reply.Done) answer)
InstructionPlayed d (instruction.Halted halted) d' r =
    Quoted d (record (desk_market d) { halted = halted }) d' × (r ≡ Ok reply.Done)
InstructionPlayed d (instruction.Made issue) d' r =
    (d'.engine ≡ made issue) × (d'.venues ≡ d.venues) × (rows_of d' ≡ rows_of d) × (r ≡ Ok reply.Done)
InstructionPlayed d (instruction.Call call) d' r = Called d call d' r
InstructionPlayed d instruction.Outstanding d' r = TicketAsked d d' r

-- the tally after a line: a made engine starts one, a call is fed to it, and all else leaves it
abbrev pub tally_after : Tally → Market → Instruction → Result Reply Refusal → Tally
tally_after y m (instruction.Made issue) r = first_tally
tally_after y m (instruction.Call call) (Ok (reply.Called answer)) = fed y m (asked call) (Ok answer)
tally_after y m (instruction.Call call) (Err refusal) = fed y m (asked call) (Err refusal)
tally_after y m line r = y

-- what is passed over beside the tally after a line, likewise
abbrev pub posts_after : Posts → Market → Instruction → Result Reply Refusal → Posts
posts_after p m (instruction.Made issue) r = no_posts
posts_after p m (instruction.Call call) (Ok (reply.Called answer)) = posted p m (asked call) (Ok answer)
posts_after p m (instruction.Call call) (Err refusal) = posted p m (asked call) (Err refusal)
posts_after p m line r = p

-- where the desk's run was a history, it is one after a line
abbrev pub GoesOn : Desk → Instruction → Desk → Result Reply Refusal → Type 0
GoesOn d line d' r =
    (y : Tally) (p : Posts) → History d.engine (rows_of d) y p
    → History d'.engine (rows_of d') (tally_after y (desk_market d) line r) (posts_after p (desk_market d) line r)
