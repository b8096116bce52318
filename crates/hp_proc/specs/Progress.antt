-- How a participant goes on with its line: the rule "Lines" of docs/PARTICIPANTS.md.
use Rattle.std.specs.Prelude.{◌≡◌, ◌≢◌, ℕ, ◌+◌, ◌<◌, ◌≤◌, ◌==◌, List, [], ◌++◌, Contains, count_by, length, Option, Some, None, slice_get, ⊤, if◌then◌else◌}
use Rattle.hp_base.specs.Requests.{refusal_of}
use Rattle.hp_base.specs.declared.chunk.Chunk.{Chunk}
use Rattle.hp_base.specs.declared.request.Request.{Request}
use Rattle.hp_base.specs.declared.tag.Caller.{Caller}
use Rattle.hp_base.specs.declared.limits.TheConstants.{MAX_HEAPS}
use Rattle.hp_hall.specs.Giving.{IsNumbered, entries_made}
use Rattle.hp_hall.specs.HeapPairs.{ArePairsOf}
use Rattle.hp_hall.specs.Holding.{HeapPart, IsHeldWith}
use Rattle.hp_hall.specs.Mail.{MailStep}
use Rattle.hp_hall.specs.AgreedNames.{chunk_memory}
use Rattle.hp_hall.specs.Naming.{MarksStayBut, naming_of}
use Rattle.hp_hall.specs.declared.kept.Kept.{Kept}
use Rattle.hp_hall.specs.declared.kept.Kept.TheVariants.{Heap}
use Rattle.hp_hall.specs.declared.slot.TheConstants.{NAMES_SLOT}
use Rattle.hp_heap.specs.History as heaps
use Rattle.hp_heap.specs.History.{HeapView, entries_of}
use Rattle.hp_heap.specs.declared.entry.Entry.{Entry}
use Rattle.hp_log.specs.declared.log_record.LogRecord.{LogRecord}
use Rattle.hp_script.specs.declared.answer.Answer.{Answer}
use Rattle.hp_script.specs.declared.answer.Answer.TheVariants as gives
use Rattle.hp_script.specs.declared.line.Act.{Act}
use Rattle.hp_script.specs.declared.line.Act.TheVariants as act
use Rattle.hp_script.specs.declared.line.Line.{Line}
use Rattle.hp_script.specs.declared.options.Options.{Options}
use Rattle.hp_script.specs.Part.{Part}
use Rattle.hp_segs.specs.declared.external_range.ExternalRange.{ExternalRange}
use Rattle.hp_segs.specs.declared.outcome.AskLog.{AskLog}
use Rattle.hp_proc.specs.Acting.{Acts, AreAsked}
use Rattle.hp_proc.specs.Allocating.{unless_answered}
use Rattle.hp_proc.specs.Awaiting.{HasAwaited}
use Rattle.hp_serve.specs.Asking.{HasSettledAsks}
use Rattle.hp_proc.specs.Contexts.{AreFactsOf, Context, after_calls}
use Rattle.hp_proc.specs.Courses.{IsRequestFor, after_line, calls_in, last_heap}
use Rattle.hp_proc.specs.Doing.{Doing, Done, Leads}
use Rattle.hp_proc.specs.Heaps.{sockets_of}
use Rattle.hp_proc.specs.LineTrees.{doing_of}
use Rattle.hp_proc.specs.Lines.{Facts}
use Rattle.hp_proc.specs.LockOrder.{GivesNamesFirst, HoldsNamesAsMay, IsInLockOrder, TellsEmptyHanded}
use Rattle.hp_proc.specs.NamesOfLines.{NamesOfLine}
use Rattle.hp_proc.specs.Histories.{entries_for}
use Rattle.hp_serve.specs.Party.{IsSameParty, Party}
use Rattle.hp_stats.specs.StatViews.{PenView}
use Rattle.hp_proc.specs.ParticipantView.{ParticipantView, knowing, watched_after}
use Rattle.hp_proc.specs.Registering.{validators_after, watchers_after}

-- a participant at a moment of its line: itself, what it knows of its lines, the heap in its hand, where it has one, its parts in the
-- heaps, and what it has seen of the log and of the outcomes
pub record Moment : Type 0 where
  pub party : Party
  pub context : Context
  pub hand : Option ℕ
  pub parts : ℕ → HeapPart
  pub log : List LogRecord
  pub asks : List AskLog

abbrev pub moment_of : ParticipantView → (ℕ → HeapPart) → List LogRecord → List AskLog → Moment
moment_of doer parts log asks =
    record { party = doer.party; context = doer.context; hand = None; parts = parts; log = log; asks = asks }

-- the participant at a moment
abbrev pub doer_at : Moment → ParticipantView
doer_at moment = record { party = moment.party; context = moment.context }

-- parts with what a heap in hand has of its holder's entries already
abbrev pub with_hand : ℕ → HeapView → (ℕ → HeapPart) → ℕ → HeapPart
with_hand who heap parts index =
    if index == heap.plain.index then record (parts index) { entries = entries_of who heap.history } else parts index

-- a moment at which it has a heap in hand
abbrev pub in_hand : HeapView → Moment → Moment
in_hand heap moment = record moment { hand = Some heap.plain.index; parts = with_hand moment.party.me heap moment.parts }

-- no heap is named twice
abbrev pub AreOnce : List ℕ → Type 0
AreOnce heaps = (heap : ℕ) → count_by (λ other. other == heap) heaps ≤ 1

-- what it did of a line, from one moment to a later one, on which it took these heaps into its hand: its trace leads from what was left to
-- do to what is left now; each heap has its calls, numbered on over all heaps; and each of its asks has its answer
pub record Does (held : List ℕ) (count : ℕ) (did : List MailStep → Type 0) (doing rest : Doing) (old new : Moment) : Type 0 where
  pub trace : List Done
  pub steps : List MailStep
  pub leads : Leads doing trace rest
  pub made : did steps
  pub acts : Acts count old.hand new.hand held (doer_at old) (doer_at new) trace steps
  pub entries : (heap : ℕ) → (new.parts heap).entries
      ≡ (old.parts heap).entries ++ entries_for old.party.me heap (old.context.calls + 1) (calls_in trace)
  pub serves : (heap : ℕ) → (new.parts heap).serves ≡ (old.parts heap).serves
  pub counted : new.context
      ≡ record (after_calls (length (calls_in trace)) old.context) { standing = new.context.standing }
  pub same : IsSameParty old.party new.party
  pub asked : AreAsked new.log new.asks old.party.me old.party.asked new.party.asked trace
  pub more : List LogRecord
  pub log : new.log ≡ old.log ++ more
  pub outcomes : List AskLog
  pub asks : new.asks ≡ old.asks ++ outcomes

-- what it did of a line, from one moment to a later one, where its last call was one of that heap
pub record DoesIn (heap count : ℕ) (did : List MailStep → Type 0) (doing rest : Doing) (old new : Moment) : Type 0 where
  pub does : Does [] count did doing rest old new
  pub last : last_heap (calls_in does.trace) ≡ Some heap

-- it tried that heap, which answered its line or was passed, while it held these heaps, one after another; where the answer is an address,
-- its last call was one of that heap
pub record Tries (heap : ℕ) (held : List ℕ) (count : ℕ) (did : List MailStep → Type 0) (doing otherwise : Doing) (given : Option Answer)
    (old new : Moment) : Type 0 where
  pub does : Does held count did doing (unless_answered otherwise given) old new
  pub last : (address : ℕ) → given ≡ Some (gives.Address address) → last_heap (calls_in does.trace) ≡ Some heap

-- what it did of a line, from one moment to a later one, in which it held no heap twice
pub record DoesOnce (count : ℕ) (did : List MailStep → Type 0) (doing rest : Doing) (old new : Moment) : Type 0 where
  pub held : List ℕ
  pub once : AreOnce held
  pub does : Does held count did doing rest old new

-- and it read the names once at most, and had nothing else in hand meanwhile
pub record DoesApart (count : ℕ) (did : List MailStep → Type 0) (doing rest : Doing) (old new : Moment) : Type 0 where
  pub does : DoesOnce count did doing rest old new
  pub names : NamesOfLine does.does.trace does.does.steps
  pub apart : GivesNamesFirst does.does.steps

-- what it did of a line came to that answer, and it held no heap twice; where the answer is an address, its last call was one of that heap
pub record Brings (heap count : ℕ) (did : List MailStep → Type 0) (doing : Doing) (answer : Answer) (old new : Moment) : Type 0 where
  pub held : List ℕ
  pub once : AreOnce held
  pub does : Does held count did doing (Doing.Ended answer) old new
  pub last : (address : ℕ) → answer ≡ gives.Address address → last_heap (calls_in does.trace) ≡ Some heap

-- a moment at which a line ends, with its answer: from then on its participant has the watchers and the validators that this leaves
abbrev pub registered_at : Act → Answer → Moment → Moment
registered_at deed given moment = record moment {
  party = watched_after deed given moment.party;
  context = knowing (watchers_after deed given moment.context.standing.watchers)
      (validators_after deed given moment.context.standing.validators) moment.context;
}

-- a line that reads statistics holds no heap
abbrev pub HoldsNone : Act → List ℕ → Type 0
HoldsNone (act.Stats heap) held = held ≡ []
HoldsNone _ held = ⊤

-- a line was done, by what is known when it began, and was answered so; it held no heap twice, and none for statistics; it took the names once
-- at most, and gave them back as its changes leave them; it took slots in the lock order, and had the names in hand beside a heap only where its
-- act says so; it told of a run that it gave up with nothing in hand; where it awaited others, it found their lines done last; when it ended, and
-- not before, its watchers and its validators became those that the answer leaves; what it left is noted
pub record DoesLine (count : ℕ) (did : List MailStep → Type 0) (line : Line) (answer : Answer) (old new : Moment) : Type 0 where
  pub facts : Facts
  pub known : AreFactsOf old.party.socket old.context line facts
  pub held : List ℕ
  pub once : AreOnce held
  pub none : HoldsNone line.act held
  pub mid : Moment
  pub does : Does held count did (doing_of line line.act facts) (Doing.Ended answer) old mid
  pub names : NamesOfLine does.trace does.steps
  pub order : IsInLockOrder does.steps
  pub hands : HoldsNamesAsMay line.act does.steps
  pub tells : TellsEmptyHanded does.steps
  pub awaited : HasAwaited line.act does.steps
  pub ended : new ≡ registered_at line.act answer mid
  pub left : new.context.standing ≡ after_line line answer does.trace old.context.standing

-- the line is an allocation with these options, whose size and options are not refused, and this is its request
pub record IsAllocation (line : Line) (options : Options) (request : Request) : Type 0 where
  pub label : Part
  pub size : ℕ
  pub its_act : line.act ≡ act.Alloc label size options
  pub accepted : refusal_of size options.align options.bound ≡ None
  pub is : IsRequestFor size options request

-- participant 0 neither attaches nor detaches
abbrev pub MayComeAndGo : ℕ → Act → Type 0
MayComeAndGo who act.Attach = 0 < who
MayComeAndGo who act.Detach = 0 < who
MayComeAndGo who _ = ⊤

-- a line is answered otherwise where its participant is out: it neither attaches it nor detaches it, and awaits nobody
abbrev pub IsInside : Act → Type 0
IsInside act.Attach = ⊥
IsInside act.Detach = ⊥
IsInside (act.Await other lines) = ⊥
IsInside _ = ⊤

-- each heap takes the pages of its socket
abbrev pub AreOfSockets : Moment → Type 0
AreOfSockets moment = (heap : ℕ) → (moment.parts heap).serves ≡ slice_get (sockets_of moment.context.pools) heap

-- the participant may do its line: it holds no heap, its asks are settled, and its calls are those that the heaps keep
pub record MayDo (moment : Moment) : Type 0 where
  pub sockets : AreOfSockets moment
  pub unheld : (heap : ℕ) → (moment.parts heap).holding ≡ None
  pub settled : HasSettledAsks moment.parts moment.asks
  pub counted : moment.context.calls ≡ entries_made moment.parts

-- the heap of that index was taken with this pen
pub record IsTakenWith (taken : ℕ → Option Kept) (index : ℕ) (pen : PenView) : Type 0 where
  pub heap : HeapView
  pub out : taken index ≡ Some (Heap heap pen)

-- it has a heap in hand, which it has taken with its pen, and of which it has published nothing since: the heap's history is that one's and entries of its own, numbered on over all heaps, and it
-- has what its holding names: its pages are those of its own segments, and its growths and cuts those of the runs that it has claimed and
-- given up; all pairs that its pen had published are of it; all that the names speak of is as it was taken, but where these are in hand too;
-- so are the marks of others; the memory of each of its chunks is claimed, as far as is known; the participant holds no other
pub record IsInHand (taken : ℕ → Option Kept) (moment : Moment) (heap : HeapView) : Type 0 where
  pub was : HeapView
  pub pen : PenView
  pub taken_is : taken heap.plain.index ≡ Some (Heap was pen)
  pub pairs : ArePairsOf was pen
  pub untold : (moment.parts heap.plain.index).told ≡ None
  pub few : heap.plain.index < MAX_HEAPS
  pub index : heap.plain.index ≡ was.plain.index
  pub serves : heap.plain.serves ≡ was.plain.serves
  pub own : List Entry
  pub history : heap.history ≡ was.history ++ own
  pub numbered : IsNumbered moment.party.me (entries_made moment.parts) own
  pub earlier : entries_of moment.party.me was.history ≡ (moment.parts heap.plain.index).entries
  pub held : IsHeldWith heap (moment.parts heap.plain.index).holding
  pub sound : heaps.IsSound heap
  pub named : taken NAMES_SLOT ≡ None → naming_of heap.plain ≡ naming_of was.plain
  pub marks : MarksStayBut moment.party.me was.plain heap.plain
  pub claimed : (claims : List ExternalRange) (chunk : Chunk) → (moment.parts heap.plain.index).claims ≡ Some claims
      → Contains heap.plain.chunks chunk → Contains claims (chunk_memory chunk)
  pub its_socket : heap.plain.serves ≡ (moment.parts heap.plain.index).serves
  pub sockets : AreOfSockets moment
  pub others : (other : ℕ) → other ≢ heap.plain.index → (moment.parts other).holding ≡ None
  pub counted : moment.context.calls ≡ entries_made moment.parts + length own

-- the caller of a participant's next call
abbrev pub caller_of : ParticipantView → Caller
caller_of doer = record { participant = doer.party.me; number = doer.context.calls + 1 }

-- the asks of a participant at a moment are settled
abbrev pub AreSettled : Moment → Type 0
AreSettled moment = HasSettledAsks moment.parts moment.asks
