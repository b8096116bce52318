-- What a participant does while others do their part, in the steps between which others may act. The rule "Together" of
-- docs/RUNS.md.
use Rattle.std.specs.Prelude.{◌≡◌, ◌≢◌, ℕ, ◌+◌, ◌*◌, ◌≤◌, ⊤, Bool, true, false, List, [], ◌∷◌, ◌++◌, length, map, Contains, Option, Some, None, Result, Ok}
use Rattle.hp_base.specs.declared.caught.Caught.{Caught}
use Rattle.hp_base.specs.declared.chunk.Chunk.{Chunk}
use Rattle.hp_base.specs.declared.plan.Action.{Action}
use Rattle.hp_base.specs.declared.row.Run.{Run}
use Rattle.hp_base.specs.Telling.{Listener}
use Rattle.hp_core.specs.Core.{Core}
use Rattle.hp_core.specs.Following.{after_catching}
use Rattle.hp_core.specs.declared.event.CoreEvent.{CoreEvent}
use Rattle.hp_core.specs.declared.event.CoreEvent.TheVariants.{Poll, SelfMapped}
use Rattle.hp_frame.specs.declared.frame.Frame.{Frame}
use Rattle.hp_frame.specs.declared.message.Body.{Body}
use Rattle.hp_frame.specs.declared.message.Body.TheVariants.{Alloc, Answer, Free, Sync}
use Rattle.hp_hall.specs.Mail.{Fetches, Gives, MailStep, Notes, Posts, Takes}
use Rattle.hp_hall.specs.declared.kept.Kept.TheVariants.{Heap, Names}
use Rattle.hp_hall.specs.declared.note.Note.{Note}
use Rattle.hp_mail.specs.declared.posted.Posted.{Posted}
use Rattle.hp_heap.specs.declared.entry.Entry.{Entry}
use Rattle.hp_heap.specs.declared.entry.HeapAnswer.{HeapAnswer}
use Rattle.hp_heap.specs.declared.entry.HeapAnswer.TheVariants as gives
use Rattle.hp_heap.specs.declared.entry.HeapCall.{HeapCall}
use Rattle.hp_heap.specs.declared.entry.HeapCall.TheVariants as call
use Rattle.hp_maps.specs.MapsView.{MapsView, chunk_rows}
use Rattle.hp_maps.specs.Events.{IsToldByAddress}
use Rattle.hp_segs.specs.LaterSteps.{after_arm, after_leave, after_withdraw}
use Rattle.hp_segs.specs.Ranges.{after_claim_range, after_release_range, range_plan}
use Rattle.hp_segs.specs.SegsView.{SegsView, is_member}
use Rattle.hp_segs.specs.Steps.{after_claim, after_retire}
use Rattle.hp_segs.specs.declared.ask.Ask.{Ask}
use Rattle.hp_segs.specs.declared.external_range.ExternalRange.{ExternalRange}
use Rattle.hp_segs.specs.declared.fault.RangeFault.{RangeFault}
use Rattle.hp_serve.specs.Asking.{alloc_body, free_body, next_number}
use Rattle.hp_serve.specs.Attaching.{Attaches, after_attaching, after_detaching}
use Rattle.hp_proc.specs.Courses.{Standing, numbered_in, standing_tried}
use Rattle.hp_serve.specs.Coordinating.{IsAskIn, MayDeny, stepping, with_core}
use Rattle.hp_proc.specs.Denying.{denials_of}
use Rattle.hp_proc.specs.ParticipantView.{watched_after}
use Rattle.hp_proc.specs.Registering.{validators_after, watchers_after}
use Rattle.hp_proc.specs.MappedChunks.{LeavesChunk, MapsChunk}
use Rattle.hp_proc.specs.SharedNames.{NamesChange, SharedNames}
use Rattle.hp_script.specs.declared.line.Act.{Act}
use Rattle.hp_script.specs.declared.answer.Answer.{Answer as LineAnswer}
use Rattle.hp_proc.specs.Doing.{Counted, Done}
use Rattle.hp_proc.specs.Doing.Done.{Asked, Called, CaughtUp, ChunkMapped, GaveUp, HeapSeen, Looked, NamesChanged, NamesRead, RangePlanned, StatsRead}
use Rattle.hp_serve.specs.Frames.{Says}
use Rattle.hp_heap.specs.HistoryLaws.{run_cut}
use Rattle.hp_serve.specs.Asking.{ask_of}
use Rattle.hp_serve.specs.Party.{Party, with_maps}
use Rattle.hp_serve.specs.Serving.{CatchesUp, after_catching_up, gives_segments, takes_segments}
use Rattle.hp_proc.specs.declared.own_chunk.OwnChunk.{OwnChunk}
use Rattle.hp_proc.specs.declared.own_element.OwnElement.{OwnElement}
use Rattle.hp_serve.specs.declared.pages_asked.PagesAsked.{PagesAsked}
use Rattle.hp_serve.specs.declared.sent.Sent.{Sent}

-- a line that has ended: what it was, and its answer; how many records its participant had taken in by then when it attached last; and how
-- many numbers that one's asks and notices had taken
pub record EndedLine : Type 0 where
  pub deed : Act
  pub given : LineAnswer
  pub records : ℕ
  pub numbered : ℕ

-- a participant in the course of a run: itself, what its lines left, its lines that have ended, what was done for its lines so far, the frames
-- that it has fetched, and the ask with which it armed itself last
pub record Seat : Type 0 where
  pub party : Party
  pub standing : Standing
  pub lines : List EndedLine
  pub trace : List Done
  pub fetched : List Frame
  pub asking : Option Ask

-- the participant has come to this
abbrev pub seated : Party → Seat → Seat
seated party seat = record seat { party = party }

-- its lines left this
abbrev pub leaving : Standing → Seat → Seat
leaving standing seat = record seat { standing = standing }

-- this was done for its line, besides what was done before
abbrev pub having_done : Party → List Done → Seat → Seat
having_done party more seat = record seat { party = party; trace = seat.trace ++ more }

-- its last ask, or notice, has that number, and is not answered
abbrev pub numbered_on : ℕ → Party → Party
numbered_on number party = record party { asked = number; answered = false }

-- it is armed with an ask of its next number
abbrev pub armed_with : ℕ → PagesAsked → Option Run → ℕ → Seat → Seat
armed_with who asked run number seat = record seat {
  party = numbered_on number seat.party;
  trace = seat.trace ++ Asked asked run ∷ [];
  asking = Some (ask_of who number asked);
}

-- a line ends, with its answer, in that seat
abbrev pub line_ended : Act → LineAnswer → Seat → EndedLine
line_ended deed given seat =
    record { deed = deed; given = given; records = seat.standing.records; numbered = length (numbered_in seat.trace) }

-- once it has ended the watchers and the validators are those that it leaves
abbrev pub ending_line : Act → LineAnswer → Seat → Seat
ending_line deed given seat = record seat {
  party = watched_after deed given seat.party;
  standing = record seat.standing {
    watchers = watchers_after deed given seat.standing.watchers;
    validators = validators_after deed given seat.standing.validators;
  };
  lines = seat.lines ++ line_ended deed given seat ∷ [];
}

-- what it does by itself: nobody sees it in a slot or a mailbox
pub data Quietly : Seat → Seat → Type 0 where
  -- it heard its answer, or not
  hears : (seat : Seat) (answered : Bool) → Quietly seat (seated (record seat.party { answered = answered }) seat)
  -- it counted what it sent
  counts : (seat : Seat) (sent : Sent) → Quietly seat (seated (record seat.party { sent = sent }) seat)
  -- it made a call of the heap in its hand, which cut no run from it
  calls : (seat : Seat) (heap : ℕ) (call : HeapCall) (answer : HeapAnswer) → run_cut answer ≡ []
      → Quietly seat (having_done seat.party (Called heap call answer ∷ []) seat)
  -- it noted where the elements of its lines lie, and which chunks it has attached
  notes : (seat : Seat) (elements : List OwnElement) (chunks : List OwnChunk)
      → Quietly seat (leaving (record seat.standing { elements = elements; chunks = chunks }) seat)
  -- it changed the names, or was handed the state of an external heap
  changes_names : (seat : Seat) (change : NamesChange) → Quietly seat (having_done seat.party (NamesChanged change ∷ []) seat)
  sees_heap : (seat : Seat) (heap : ℕ) (history : List Entry) → Quietly seat (having_done seat.party (HeapSeen heap history ∷ []) seat)
  -- it was handed the plan that the segment value has for memory
  plans_range : (seat : Seat) (addr len page : ℕ) (plan : Result ℕ RangeFault)
      → Quietly seat (having_done seat.party (RangePlanned addr len page plan ∷ []) seat)
  -- it mapped the pages of a chunk, or failed to; or its table lost the rows of one
  maps_chunk : (seat : Seat) (chunk : Chunk) (maps : MapsView) (ended : Caught) → MapsChunk chunk seat.party.maps maps ended
      → Quietly seat (having_done (with_maps maps seat.party) (ChunkMapped chunk ended ∷ []) seat)
  leaves_chunk : (seat : Seat) (chunk : Chunk) (maps : MapsView) → LeavesChunk chunk seat.party.maps maps
      → Quietly seat (seated (with_maps maps seat.party) seat)
  -- it read the names, or the newest statistics of a heap, which are noted as handed to its line
  reads_names : (seat : Seat) (names : SharedNames) → Quietly seat (having_done seat.party (NamesRead names ∷ []) seat)
  reads_stats : (seat : Seat) (heap : ℕ) (counted : Counted) → Quietly seat (having_done seat.party (StatsRead heap counted ∷ []) seat)
  -- its line ended, and was answered so, which may register a watcher or a validator or take one back
  ends_line : (seat : Seat) (deed : Act) (given : LineAnswer) → Quietly seat (ending_line deed given seat)

-- a message asks for nothing: it is no ask and no notice
abbrev pub AsksNothing : Body → Type 0
AsksNothing (Alloc from number heap socket page size align bound flags) = ⊥
AsksNothing (Free from number heap address len) = ⊥
AsksNothing (Sync generation round) = ⊤
AsksNothing (Answer from number what code) = ⊤

-- what it does with mailboxes, and what else it notes
pub data Mails (who : ℕ) : Seat → Seat → MailStep → Type 0 where
  notes : (seat : Seat) (note : Note) → Mails who seat seat (Notes note)
  finds_nothing : (seat : Seat) → Mails who seat seat (Fetches None)
  fetches : (seat : Seat) (frame : Frame)
      → Mails who seat (record seat { fetched = seat.fetched ++ frame ∷ [] }) (Fetches (Some frame))
  -- the ask with which it is armed goes to participant 0
  asks : (seat : Seat) (ask : Ask) (frame : Frame) (action : Action) (posted : Posted) → seat.asking ≡ Some ask
      → Says frame (alloc_body ask)
      → Mails who seat seat (Posts 0 frame action posted)
  -- the notice of a run that it gave up goes to participant 0, under its next number
  tells : (seat : Seat) (heap : ℕ) (run : Run) (frame : Frame) (action : Action) (posted : Posted)
      → Says frame (free_body who (seat.party.asked + 1) heap run)
      → Mails who seat (having_done (numbered_on (seat.party.asked + 1) seat.party) (GaveUp heap run ∷ []) seat)
      (Posts 0 frame action posted)
  -- any message that asks for nothing goes to anybody
  speaks : (seat : Seat) (to : ℕ) (frame : Frame) (body : Body) (action : Action) (posted : Posted) → AsksNothing body → Says frame body
      → Mails who seat seat (Posts to frame action posted)

-- what participant 0 hands its coordinator: a poll, or an ask of a declared participant out of a frame that it has fetched
pub data Knows (count : ℕ) (seat : Seat) : CoreEvent → Type 0 where
  polls : (now : ℕ) (acks : List ℕ) → Knows count seat (Poll now acks)
  takes : (frame : Frame) (body : Body) (event : CoreEvent) → Contains seat.fetched frame → Says frame body → IsAskIn count body event
      → Knows count seat event

-- external memory came, under the list that the segment value has for it, or went, and gave its list back
pub data MovesRanges (segs : SegsView) : List ExternalRange → Type 0 where
  comes : (list addr len page socket : ℕ) → range_plan addr len page segs ≡ Ok list
      → MovesRanges segs (after_claim_range list addr len page socket segs).ranges
  goes : (list : ℕ) → MovesRanges segs (after_release_range list segs).ranges

-- the segment value has that external memory
abbrev pub with_ranges : List ExternalRange → SegsView → SegsView
with_ranges ranges segs = record segs { ranges = ranges }

-- what it makes of the segment value, which it holds meanwhile
pub data Handles (count who : ℕ) : Seat → Seat → SegsView → SegsView → Type 0 where
  -- it looks
  looks : (seat : Seat) (segs : SegsView) → Handles count who seat seat segs segs
  -- its coordinator makes a step, with an answer of the judge that what its lines left may give
  steps : (seat : Seat) (segs : SegsView) (event : CoreEvent) (core : Core) → who ≡ 0 → seat.party.core ≡ Some core → Knows count seat event
      → (denied : Option (List ℕ × ℕ)) → MayDeny (denials_of seat.standing) event core segs denied
      → Handles count who seat (seated (with_core (stepping denied event core segs).core seat.party) seat) segs
      (stepping denied event core segs).segs
  -- it catches up for its coordinator, which makes the step for that and asks no judge
  maps : (seat : Seat) (segs : SegsView) (caught : Caught) (table : MapsView) (now : ℕ) (core : Core) → who ≡ 0
      → seat.party.core ≡ Some core
      → CatchesUp segs.log seat.party.maps table caught
      → Handles count who seat
      (seated (with_core (stepping None (SelfMapped caught now) core segs).core (after_catching_up segs.log caught table seat.party)) seat) segs
      (stepping None (SelfMapped caught now) core segs).segs
  -- it catches up as a SYNC demands, and notes a mapping that failed
  follows : (seat : Seat) (segs : SegsView) (caught : Caught) (table : MapsView) → is_member segs.roster who ≡ true
      → CatchesUp segs.log seat.party.maps table caught
      → Handles count who seat (seated (after_catching_up segs.log caught table seat.party) seat) segs (after_catching who caught segs)
  -- it arms itself with an ask for pages, by its next number
  arms : (seat : Seat) (segs : SegsView) (asked : PagesAsked) (run : Option Run) (number : ℕ)
      → number ≡ next_number seat.party.asked segs.asks who
      → Handles count who seat (armed_with who asked run number seat) segs (after_arm (ask_of who number asked) segs)
  -- it claims what was granted for its last ask
  claims : (seat : Seat) (segs : SegsView) → Handles count who seat seat segs (after_claim who seat.party.asked segs)
  -- three deadlines after its last ask was sent it takes that back where neither a grant nor a refusal stands, and claims what was granted
  settles : (seat : Seat) (segs : SegsView) (since now : ℕ) → since + 3 * seat.party.deadline ≤ now
      → Handles count who seat seat segs (after_claim who seat.party.asked (after_withdraw who seat.party.asked since now segs))
  -- it cuts a run from the heap in its hand, and gives it up
  cuts : (seat : Seat) (segs : SegsView) (heap addr : ℕ) (run : Run)
      → Handles count who seat (having_done seat.party (Called heap (call.Cut addr) (gives.Pages run) ∷ []) seat) segs
      (after_retire heap run segs)
  -- external memory of the heap in its hand comes or goes
  moves_ranges : (seat : Seat) (segs : SegsView) (ranges : List ExternalRange) → MovesRanges segs ranges
      → Handles count who seat seat segs (with_ranges ranges segs)
  -- it attaches, or tries to, and detaches; and notes that
  attaches : (seat : Seat) (segs : SegsView) (caught : Caught) (after : Party) → Attaches seat.party after segs.log caught
      → Handles count who seat
      (leaving (standing_tried (length segs.log) caught seat.standing)
      (having_done after (Looked (length segs.log) ∷ CaughtUp (length segs.log) caught ∷ []) seat)) segs (after_attaching who caught segs)
  detaches : (seat : Seat) (segs : SegsView) (told : List Listener) → who ≢ 0 → chunk_rows seat.party.maps.rows ≡ []
      → IsToldByAddress seat.party.maps.rows seat.party.listeners told
      → Handles count who seat
      (leaving (record seat.standing { attached = false }) (seated (after_detaching told seat.party) seat)) segs (after_leave who segs)

-- a heap, or the names, are taken or given back
abbrev pub IsOfHeapOrNames : MailStep → Type 0
IsOfHeapOrNames (Takes number (Heap heap pen)) = ⊤
IsOfHeapOrNames (Gives number (Heap heap pen)) = ⊤
IsOfHeapOrNames (Takes number (Names names)) = ⊤
IsOfHeapOrNames (Gives number (Names names)) = ⊤
IsOfHeapOrNames _ = ⊥

-- one thing after another, with the steps in the hall; while it holds the segment value it makes notes alone
pub data SeatTrace (count who : ℕ) : Seat → Seat → List MailStep → Type 0 where
  ends : (seat : Seat) → SeatTrace count who seat seat []
  quietly : (old mid new : Seat) (steps : List MailStep) → Quietly old mid → SeatTrace count who mid new steps → SeatTrace count who old new steps
  holds : (old new : Seat) (step : MailStep) (steps : List MailStep) → IsOfHeapOrNames step → SeatTrace count who old new steps
      → SeatTrace count who old new (step ∷ steps)
  mails : (old mid new : Seat) (step : MailStep) (steps : List MailStep) → Mails who old mid step → SeatTrace count who mid new steps
      → SeatTrace count who old new (step ∷ steps)
  handles : (old mid new : Seat) (taken given : SegsView) (held : List Note) (steps : List MailStep) → Handles count who old mid taken given
      → SeatTrace count who mid new steps → SeatTrace count who old new (takes_segments taken ∷ (map Notes held ++ (gives_segments given ∷ steps)))
