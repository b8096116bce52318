-- A hall as its callers see it, and what stays of it from one state to a later one: the rule "What a hall shows" of docs/HALLS.md.
use Rattle.std.specs.Prelude.{◌≡◌, ◌≢◌, ℕ, ◌<◌, ◌≤◌, Bool, true, List, ◌++◌, Contains, Option, Some, None}
use Rattle.hp_base.specs.declared.limits.TheConstants.{MAX_HEAPS}
use Rattle.hp_log.specs.declared.log_record.LogRecord.{LogRecord}
use Rattle.hp_segs.specs.Standing.{Holding}
use Rattle.hp_segs.specs.declared.outcome.AskLog.{AskLog}
use Rattle.hp_segs.specs.declared.row_state.Segment.{Segment}
use Rattle.hp_hall.specs.declared.kept.Kept.{Kept}
use Rattle.hp_hall.specs.Giving.{Knows}
use Rattle.hp_hall.specs.Holding.{HeapPart}
use Rattle.hp_hall.specs.Mail.{MailStep}
use Rattle.hp_hall.specs.Named.{NamesGoOn, NamesSeen}
use Rattle.hp_hall.specs.Own.{Own, rows_known}
use Rattle.hp_hall.specs.Telling.{acked_since_take, emptied_since_take, has_names}

-- what a participant knows of another: its number, and how many of its lines are done
pub record Noted : Type 0 where
  pub number : ℕ
  pub lines : ℕ

-- a hall as its callers see it; slots go by their numbers
pub record HallState : Type 1 where
  -- how many participants there are
  pub count : ℕ
  -- whose calls the hall takes: a hall of plain values those of all, a seat at a board those of one
  pub serves : ℕ → Type 0
  -- the value that is out of a slot, as it was taken
  pub taken : ℕ → Option Kept
  -- a slot may be taken without a try: over plain values, where its value is there
  pub may_take : ℕ → Type 0
  -- a slot was found held, with that lock word; plain values are held by nobody else
  pub found : ℕ → ℕ → Type 0
  -- a participant's part in the heap of an index, beside which stands the ask with which it armed itself last
  pub part : ℕ → ℕ → HeapPart
  -- a participant is in the roster, by the segment value that it gave back last
  pub joined : ℕ → Bool
  -- a participant's own part: its number, and up to which record it has unmapped
  pub own : ℕ → Own
  -- how many of its lines a participant has told to be done
  pub lines : ℕ → ℕ
  -- all that a participant did; a seat knows that of its own participant
  pub done : ℕ → List MailStep
  -- what a participant has seen of the log, of the logged outcomes and of the names, or more, where the hall has seen it
  pub seen : ℕ → List LogRecord
  pub heard : ℕ → List AskLog
  pub named : ℕ → NamesSeen
  -- the greatest count of a pair that a participant has published or read of the heap of an index, or more, where the hall has
  pub shown : ℕ → ℕ → ℕ
  -- what a participant knows of another
  pub noted : ℕ → ℕ → Noted
  -- how often a mailbox was full
  pub full_mailboxes : ℕ
  -- one of those who serve in the hall has met a refusal of memory, as far as the hall has seen
  pub stopped : Bool
  -- the measure by which waits end, beside the deadlines that are pending
  pub measure : ℕ
  -- the clock of one thread; threads have none in common, and there it stands still
  pub clock : ℕ

-- where a participant is in the roster its own table has the pages of each heap that it holds
abbrev pub HasMapped : ℕ → HallState → Type 0
HasMapped me state = state.joined me ≡ true → (heap : ℕ) (holding : Holding) (segment : Segment) → (state.part me heap).holding ≡ Some holding
    → Contains holding.owned segment → Contains (rows_known (state.seen me) (state.own me)) segment.row

-- what is known of another later on: neither its number nor its lines fall
pub record IsNotedLater (old new : Noted) : Type 0 where
  pub number : old.number ≤ new.number
  pub lines : old.lines ≤ new.lines

-- a later state: the participants are the same, those of whom the hall takes calls stay so, what was seen, shown, noted, told and counted
-- grows, and where one had stopped, one has stopped
pub record IsLater (old new : HallState) : Type 0 where
  pub count : new.count ≡ old.count
  pub serves : (who : ℕ) → old.serves who → new.serves who
  pub seen : (who : ℕ) → (more : List LogRecord) × (new.seen who ≡ old.seen who ++ more)
  pub heard : (who : ℕ) → (more : List AskLog) × (new.heard who ≡ old.heard who ++ more)
  pub named : (who : ℕ) → NamesGoOn (old.named who) (new.named who)
  pub shown : (who heap : ℕ) → old.shown who heap ≤ new.shown who heap
  pub noted : (who other : ℕ) → IsNotedLater (old.noted who other) (new.noted who other)
  pub lines : (who : ℕ) → old.lines who ≤ new.lines who
  pub full_mailboxes : old.full_mailboxes ≤ new.full_mailboxes
  pub stopped : old.stopped ≡ true → new.stopped ≡ true

-- what is out of the slots stays, and what may be taken may be still
pub record SlotsStay (old new : HallState) : Type 0 where
  pub taken : (number : ℕ) → new.taken number ≡ old.taken number
  pub home : (number : ℕ) → old.may_take number → new.may_take number

-- what is out of all slots but one stays, and what may be taken from these may be still
pub record SlotsStayBut (slot : ℕ) (old new : HallState) : Type 0 where
  pub taken : (number : ℕ) → number ≢ slot → new.taken number ≡ old.taken number
  pub home : (number : ℕ) → number ≢ slot → old.may_take number → new.may_take number

-- a participant's parts in the heaps stay, whether it is in the roster, and how many of its lines it has told to be done
pub record PartsStay (me : ℕ) (old new : HallState) : Type 0 where
  pub part : (heap : ℕ) → new.part me heap ≡ old.part me heap
  pub joined : new.joined me ≡ old.joined me
  pub lines : new.lines me ≡ old.lines me

-- all that and its own part stay
pub record MineStay (me : ℕ) (old new : HallState) : Type 0 where
  pub parts : PartsStay me old new
  pub own : new.own me ≡ old.own me

-- nobody but a participant did anything, the clock stands, and the rest is later on
pub record OthersStay (me : ℕ) (old new : HallState) : Type 0 where
  pub part : (who heap : ℕ) → who ≢ me → new.part who heap ≡ old.part who heap
  pub joined : (who : ℕ) → who ≢ me → new.joined who ≡ old.joined who
  pub own : (who : ℕ) → who ≢ me → new.own who ≡ old.own who
  pub lines : (who : ℕ) → who ≢ me → new.lines who ≡ old.lines who
  pub done : (who : ℕ) → who ≢ me → new.done who ≡ old.done who
  pub clock : new.clock ≡ old.clock
  pub later : IsLater old new

-- a participant made these steps
pub record Did (me : ℕ) (steps : List MailStep) (old new : HallState) : Type 0 where
  pub made : new.done me ≡ old.done me ++ steps

-- a participant did something that leaves slots and parts
pub record Stays (me : ℕ) (old new : HallState) : Type 0 where
  pub slots : SlotsStay old new
  pub mine : MineStay me old new
  pub others : OthersStay me old new

-- it waited, while others did what they do: slots and its parts in heaps stay, and the rest is later on
pub record Waits (me : ℕ) (old new : HallState) : Type 0 where
  pub slots : SlotsStay old new
  pub parts : PartsStay me old new
  pub later : IsLater old new

-- a participant may serve: the hall takes its calls, and the segment value may be taken
pub record MayServe (me : ℕ) (state : HallState) : Type 0 where
  pub serves : state.serves me
  pub declared : me < state.count
  pub free : state.taken MAX_HEAPS ≡ None
  pub home : state.may_take MAX_HEAPS

-- some slot was found held
abbrev pub IsBusy : HallState → Type 0
IsBusy state = (slot word : ℕ) × state.found slot word

-- what a participant knows
abbrev pub known_to : ℕ → HallState → Knows
known_to me state = record {
  who = me;
  taken = state.taken;
  part = state.part me;
  number = (state.own me).number;
  acked = acked_since_take (state.done me);
  emptied = emptied_since_take (state.done me);
  naming = has_names (state.done me);
  noted = λ other. (state.noted me other).number;
  seen = state.seen me;
  heard = state.heard me;
}
