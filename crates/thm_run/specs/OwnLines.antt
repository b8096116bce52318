-- What a participant's lines, with its steps, give for what its own holds say (OwnHolds): in which holds it did what its lines say, that its
-- calls of a heap came in one hold, and that its asks have their outcomes. The rule "Together" of docs/RUNS.md.
use Rattle.std.specs.Prelude.{◌≡◌, ◌⊎◌, ℕ, ◌+◌, ◌<◌, ◌≤◌, ◌==◌, ⊤, Bool, true, List, [], ◌∷◌, ◌++◌, drop, flat_map, length, Option, Some, None, IfSome, if◌then◌else◌}
use Rattle.std.specs.List.{All, AllByRecursion}
use Rattle.hp_base.specs.declared.limits.TheConstants.{MAX_DEADLINE, MAX_PARTICIPANTS}
use Rattle.hp_hall.specs.Mail.{Gives, MailStep, Takes}
use Rattle.hp_hall.specs.declared.kept.Kept.TheVariants.{Heap, Segments}
use Rattle.hp_heap.specs.History as heaps
use Rattle.hp_heap.specs.History.{HeapView}
use Rattle.hp_heap.specs.declared.entry.Entry.{Entry}
use Rattle.hp_segs.specs.GrowthLaws.{HasArmedGrowth}
use Rattle.hp_segs.specs.LaterSteps.{armed_ask}
use Rattle.hp_segs.specs.SegsView.{SegsView}
use Rattle.hp_segs.specs.SettledAsks.{IsSettled}
use Rattle.hp_segs.specs.Sound as segments
use Rattle.hp_segs.specs.declared.ask.Ask.{Ask}
use Rattle.hp_proc.specs.Acting.{Acts, AreAsked}
use Rattle.hp_proc.specs.Awaiting.{HasAwaited}
use Rattle.hp_proc.specs.Courses.{after_line, calls_in, numbered_in}
use Rattle.hp_proc.specs.Denying.{denials_of}
use Rattle.hp_proc.specs.Histories.{entries_for}
use Rattle.hp_proc.specs.LinesDone.{Course, trace_of}
use Rattle.hp_proc.specs.NamesOfLines.{NamesOfLine}
use Rattle.hp_proc.specs.Outcomes.{AreAnsweredSo}
use Rattle.hp_proc.specs.ParticipantView.{ParticipantView, after_registering}
use Rattle.hp_proc.specs.Progress.{AreOnce}
use Rattle.hp_serve.specs.Party.{Party}
use Rattle.hp_solo.specs.Served.{ServesOn}
use Rattle.hp_weave.specs.Holds.{Chain, Hold, holds_of}
use Rattle.thm_run.specs.Apart.{holds_from}
use Rattle.thm_run.specs.OwnHolds.{AreInHolds, DoesInHolds, GoesOn}
use Rattle.thm_run.specs.Seats.{IsOfHeapOrNames, SeatTrace, Seat}
use Rattle.thm_run.specs.Told.{FreedAreTold, IsCounted}

-- A WAY BY LINES

-- a participant did a line from one seat to another, by these steps: with no heap in its hand before and after it, and none twice in between;
-- and then the line ended, and left what lines leave
pub record IsLineOf (count who : ℕ) (old new : Seat) (course : Course) (steps : List MailStep) : Type 0 where
  pub doer : ParticipantView
  pub mid : ParticipantView
  pub begins : old.party ≡ doer.party
  pub ends : new.party ≡ (after_registering course.line.act course.answer mid).party
  pub me : doer.party.me ≡ who
  pub deadline : doer.party.deadline ≤ MAX_DEADLINE
  pub held : List ℕ
  pub once : AreOnce held
  pub acts : Acts count None None held doer mid course.trace steps
  pub names : NamesOfLine course.trace steps
  pub awaited : HasAwaited course.line.act steps
  pub path : SeatTrace count who old new steps
  pub trace : new.trace ≡ old.trace ++ course.trace
  pub lines : new.lines
      ≡ old.lines ++ record {
        deed = course.line.act;
        given = course.answer;
        records = new.standing.records;
        numbered = length (numbered_in new.trace);
      } ∷ []
  pub left : new.standing ≡ after_line course.line course.answer course.trace old.standing

-- none of these steps takes a heap or the names, or gives them back
abbrev pub AreOfNoHeap : List MailStep → Type 0
AreOfNoHeap steps = AllByRecursion (λ step. IsOfHeapOrNames step → ⊥) steps

-- beside its lines nothing ends, and what they left stays
pub record StaysBeside (old new : Seat) : Type 0 where
  pub lines : new.lines ≡ old.lines
  pub standing : new.standing ≡ old.standing

-- a participant's way from one seat to another, by these lines and by all of these steps: a line, or what it did beside its lines with no heap
-- and without the names, one after another
pub data WentByLines (count who : ℕ) : Seat → Seat → List Course → List MailStep → Type 0 where
  begins : (seat : Seat) → WentByLines count who seat seat [] []
  beside : (first old new : Seat) (courses : List Course) (before steps : List MailStep) → WentByLines count who first old courses before
      → SeatTrace count who old new steps → new.trace ≡ old.trace → StaysBeside old new → AreOfNoHeap steps
      → WentByLines count who first new courses (before ++ steps)
  does_line : (first old new : Seat) (courses : List Course) (course : Course) (before steps : List MailStep)
      → WentByLines count who first old courses before → IsLineOf count who old new course steps
      → WentByLines count who first new (courses ++ course ∷ []) (before ++ steps)

-- wherever a participant that sits in a seat does a line, with no heap in its hand before and after it and none twice in between, and knows
-- then what lines leave, as `DoesLine` of hp_proc says, that is a line of it, and it sits there with what that left
abbrev pub LineInSeat : Type 0
LineInSeat = (count : ℕ) (held : List ℕ) (doer mid : ParticipantView) (course : Course) (steps : List MailStep) (seat : Seat)
    → Acts count None None held doer mid course.trace steps → AreOnce held → NamesOfLine course.trace steps
    → HasAwaited course.line.act steps → doer.party.deadline ≤ MAX_DEADLINE → seat.party ≡ doer.party → seat.standing ≡ doer.context.standing
    → (after_registering course.line.act course.answer mid).context.standing
    ≡ after_line course.line course.answer course.trace doer.context.standing
    → (next : Seat) × (next.party ≡ (after_registering course.line.act course.answer mid).party)
    × (next.standing ≡ (after_registering course.line.act course.answer mid).context.standing)
    × IsLineOf count doer.party.me seat next course steps

-- and wherever it serves on, it does so beside its lines
abbrev pub ServesInSeat : Type 0
ServesInSeat = (count : ℕ) (party after : Party) (steps : List MailStep) (seat : Seat)
    → ServesOn (denials_of seat.standing) count party after steps → seat.party ≡ party
    → (next : Seat) × (next.party ≡ after) × (next.standing ≡ seat.standing) × (next.trace ≡ seat.trace) × (next.lines ≡ seat.lines)
    × SeatTrace count party.me seat next steps × AreOfNoHeap steps

-- a way by lines is a path, and the trace is that of the lines
abbrev pub WayByLines : Type 0
WayByLines = (count who : ℕ) (first last : Seat) (courses : List Course) (steps : List MailStep)
    → WentByLines count who first last courses steps
    → SeatTrace count who first last steps × (last.trace ≡ first.trace ++ trace_of courses)

-- IN WHICH HOLDS

-- no growth is open for the heap but for an ask of that participant
abbrev pub NoneElseGrows : ℕ → ℕ → SegsView → Type 0
NoneElseGrows who heap segs = IfSome segs.growth (λ growth. growth.ask.heap ≡ heap → growth.ask.from ≡ who)

abbrev pub NoneElseGrowsFor : ℕ → Option ℕ → SegsView → Type 0
NoneElseGrowsFor who None segs = ⊤
NoneElseGrowsFor who (Some heap) segs = NoneElseGrows who heap segs

-- by its steps a participant has a heap in hand, or none: in each segment value that it takes or gives meanwhile no growth is open for that
-- heap but for an ask of its own
abbrev pub NoneElseGrowsAlong : ℕ → Option ℕ → List MailStep → Type 0
NoneElseGrowsAlong who hand [] = ⊤
NoneElseGrowsAlong who hand (Takes slot (Heap heap pen) ∷ steps) = NoneElseGrowsAlong who (Some heap.plain.index) steps
NoneElseGrowsAlong who hand (Gives slot (Heap heap pen) ∷ steps) = NoneElseGrowsAlong who None steps
NoneElseGrowsAlong who hand (Takes slot (Segments segs) ∷ steps) = NoneElseGrowsFor who hand segs × NoneElseGrowsAlong who hand steps
NoneElseGrowsAlong who hand (Gives slot (Segments segs) ∷ steps) = NoneElseGrowsFor who hand segs × NoneElseGrowsAlong who hand steps
NoneElseGrowsAlong who hand (step ∷ steps) = NoneElseGrowsAlong who hand steps

-- for a heap in hand no growth is open but for an ask of who has it: each ask with which somebody is armed is settled, or its participant
-- has its heap in hand, and no two have one heap
abbrev pub NoneElseGrowsForHeld : Type 0
NoneElseGrowsForHeld = (segs : SegsView) (holds : ℕ → ℕ → Bool) (who heap : ℕ) → HasArmedGrowth segs
    → ((other : ℕ) (ask : Ask) → armed_ask segs other ≡ Some ask → IsSettled ask.from ask.number segs ⊎ (holds other ask.heap ≡ true))
    → ((one other heap : ℕ) → holds one heap ≡ true → holds other heap ≡ true → one ≡ other) → holds who heap ≡ true
    → NoneElseGrows who heap segs

-- a hold takes a sound value and gives one back, each with its growth, if one is open, of an armed ask
pub record IsOfGood (hold : Hold SegsView) : Type 0 where
  pub sound : segments.IsSound hold.taken
  pub taken : HasArmedGrowth hold.taken
  pub given : HasArmedGrowth hold.given

-- the holds of all make a chain, from a value in which a participant is not armed; those of that participant are the ones among its steps,
-- each of good values; and while it has a heap in hand nobody else's growth is open for that
pub record HasItsHolds (who : ℕ) (first last : SegsView) (holds : List (Hold SegsView)) (steps : List MailStep) : Type 0 where
  pub few : who < MAX_PARTICIPANTS
  pub unarmed : armed_ask first who ≡ None
  pub chain : Chain first holds last
  pub each : All GoesOn holds
  pub own : holds_of who holds ≡ holds_from who None steps
  pub good : All IsOfGood (holds_from who None steps)
  pub alone : NoneElseGrowsAlong who None steps

-- wherever a participant went so by its lines from its first step, where each of its asks and notices took the next number, and each ask has
-- its outcome at last, it did what its lines say in its own holds
abbrev pub HoldsByLines : Type 0
HoldsByLines = (count who : ℕ) (first last : Seat) (courses : List Course) (steps : List MailStep) (start end : SegsView)
    (holds : List (Hold SegsView)) → WentByLines count who first last courses steps → first.party.asked ≡ 0 → first.trace ≡ []
    → IsCounted last → AreAnsweredSo end.log end.asks who (trace_of courses) → HasItsHolds who start end holds steps
    → DoesInHolds who 1 (trace_of courses) (holds_of who holds)

-- WHAT CAME TO A HEAP

-- the hold of a heap that ends when this is given back, where a value of it was taken before
abbrev pub hold_ended : ℕ → Option HeapView → HeapView → List (Hold HeapView)
hold_ended who None given = []
hold_ended who (Some taken) given = record { who = who; taken = taken; given = given } ∷ []

-- the holds of the heap of that index among a participant's steps, before which it had taken the heap and not given it back, or not
abbrev pub heap_holds_from : ℕ → ℕ → Option HeapView → List MailStep → List (Hold HeapView)
heap_holds_from who index taken [] = []
heap_holds_from who index taken (Takes slot (Heap heap pen) ∷ steps) =
    if heap.plain.index == index then heap_holds_from who index (Some heap) steps else heap_holds_from who index taken steps
heap_holds_from who index taken (Gives slot (Heap heap pen) ∷ steps) =
    if heap.plain.index == index then hold_ended who taken heap ++ heap_holds_from who index None steps
    else heap_holds_from who index taken steps
heap_holds_from who index taken (step ∷ steps) = heap_holds_from who index taken steps

-- what came to a heap in a hold of it
abbrev pub added_in : Hold HeapView → List Entry
added_in hold = drop (length hold.taken.history) hold.given.history

-- a hold of a heap gives it back sound, and its history goes on
pub record AddsToHeap (hold : Hold HeapView) : Type 0 where
  pub sound : heaps.IsSound hold.given
  pub more : List Entry
  pub history : hold.given.history ≡ hold.taken.history ++ more

-- these entries are what came to the heap in the holds among a participant's steps
pub record AreAddedIn (who heap : ℕ) (steps : List MailStep) (entries : List Entry) : Type 0 where
  pub each : All AddsToHeap (heap_holds_from who heap None steps)
  pub are : flat_map added_in (heap_holds_from who heap None steps) ≡ entries

-- of each line of a way its calls of a heap are the entries that came to that heap by its steps
abbrev pub AddsByLines : {count who : ℕ} {first last : Seat} {courses : List Course} {steps : List MailStep}
    → WentByLines count who first last courses steps → Type 0
AddsByLines (WentByLines.begins seat) = ⊤
AddsByLines (WentByLines.beside first old new courses before steps went path same stays none) = AddsByLines went
AddsByLines {count} {who} (WentByLines.does_line first old new courses course before steps went is) =
    AddsByLines went
    × ((heap : ℕ) → AreAddedIn who heap steps (entries_for who heap (1 + length (calls_in (trace_of courses))) (calls_in course.trace)))

-- wherever a participant went so, each of its lines made its calls of a heap in one hold
abbrev pub CallsByLines : Type 0
CallsByLines = (count who : ℕ) (first last : Seat) (courses : List Course) (steps : List MailStep)
    → (went : WentByLines count who first last courses steps) → AddsByLines went → AreInHolds who 1 courses

-- THAT ASKS HAVE THEIR OUTCOMES

-- wherever a participant went its way from its first step, each of its asks and notices took the next number, its asks were answered as it
-- heard, and each outcome of a notice was told by the participant that it names, each ask has its outcome
abbrev pub AnswersByTold : Type 0
AnswersByTold = (count who : ℕ) (first last : Seat) (steps : ℕ → List MailStep) (segs : SegsView) → SeatTrace count who first last (steps who)
    → first.party.asked ≡ 0 → first.trace ≡ [] → IsCounted last
    → AreAsked segs.log segs.asks who 0 last.party.asked last.trace → FreedAreTold steps segs
    → AreAnsweredSo segs.log segs.asks who last.trace
