-- What is true of every run of a workload in one thread: how it opens, goes on from line to line, and ends. The rule "Together" of
-- docs/RUNS.md.
use Rattle.std.specs.Prelude.{◌≡◌, ◌+◌, ◌<◌, ◌≤◌, ℕ, List, [], ◌∷◌, ◌++◌, length, map, true, false, Option, Some, slice_get, slice_index, ⊤}
use Rattle.std.specs.Int.{bit_at}
use Rattle.std.specs.List.{Contains}
use Rattle.hp_base.specs.Mapping.{FailingCall, FailsSo, may_fail_at}
use Rattle.hp_base.specs.declared.map_answer.MapAnswer.{MapAnswer}
use Rattle.hp_base.specs.PoolLines.{ArePoolLines}
use Rattle.hp_base.specs.declared.limits.TheConstants.{MAX_DEADLINE, MAX_HEAPS, MAX_PARTICIPANTS, MAX_SEGMENTS}
use Rattle.hp_base.specs.declared.plan_entry.PlanEntry.{PlanEntry}
use Rattle.hp_base.specs.declared.row.Row.{Row}
use Rattle.hp_heap.specs.History.{HeapView}
use Rattle.hp_plain.specs.Course.{IsCourse}
use Rattle.hp_plain.specs.Opening.{AreHome, HandsOut, heaps_in}
use Rattle.hp_hall.specs.Mail.{MailStep, Notes}
use Rattle.hp_hall.specs.Views.{HeldHeap}
use Rattle.hp_hall.specs.declared.note.Note.TheVariants.{LoadedDone, Stored}
use Rattle.hp_plain.specs.HallView.{HallView, HasDone, IsHall, heard_in, lines_at, own_at, part_in, seen_in, segs_in, slot_at}
use Rattle.hp_maps.specs.MapsView.{MapsView}
use Rattle.hp_maps.specs.declared.table.Table.{Table}
use Rattle.hp_script.specs.Facts.{AwaitEarlier}
use Rattle.hp_script.specs.declared.answer.Answer.{Answer}
use Rattle.hp_script.specs.declared.answer.Answer.TheVariants as answer
use Rattle.hp_script.specs.declared.line.Act.{Act}
use Rattle.hp_script.specs.declared.line.Act.TheVariants as act
use Rattle.hp_script.specs.declared.line.Line.{Line}
use Rattle.hp_script.specs.declared.workload.Workload.{Workload}
use Rattle.hp_segs.specs.Opening.{is_present}
use Rattle.hp_segs.specs.SegsView.{SegsView}
use Rattle.hp_segs.specs.declared.ask.Ask.{Ask}
use Rattle.hp_segs.specs.declared.outcome.AskLog.{AskLog}
use Rattle.hp_segs.specs.declared.outcome.Cause.TheVariants.{MapFailed}
use Rattle.hp_segs.specs.declared.outcome.Outcome.TheVariants.{Refused}
use Rattle.hp_proc.specs.Contexts.{Said}
use Rattle.hp_serve.specs.Ending.{LeavesTable}
use Rattle.hp_proc.specs.Courses.{Standing}
use Rattle.hp_proc.specs.Denying.{denials_of}
use Rattle.hp_proc.specs.Ends.{IsSoloEnd}
use Rattle.hp_proc.specs.LinesDone.{Course}
use Rattle.hp_serve.specs.Party.{IsSameParty, Party, opening_party}
use Rattle.hp_proc.specs.OwnChunks.{AreMarkedAs}
use Rattle.hp_proc.specs.ParticipantView.{ParticipantView}
use Rattle.hp_proc.specs.Progress.{DoesLine, MayComeAndGo, MayDo, moment_of}
use Rattle.hp_serve.specs.Tied.{IsTied}
use Rattle.hp_solo.specs.Served.{HasServed}
use Rattle.hp_zone.specs.declared.names.Names.{Names as NamesView}
use Rattle.thm_run.specs.SoFar.{AreFirstHeaps, AreSoundNames, SoFar, context_of, first_hall, first_names, standing_of}

-- the pools and the lines of a workload
abbrev pub said_in : Workload → Said
said_in workload = record { pools = workload.pools.items; lines = workload.lines.items }

-- a participant before its first line, with this table and plan
abbrev pub first_party : Workload → ℕ → MapsView → List PlanEntry → Party
first_party workload who maps plan =
    opening_party who (slice_index workload.sockets who) (is_present workload.participants workload.absent who) maps plan workload.deadline

-- it has a table that has taken in nothing and has room for all slots
pub record IsFirstParty (workload : Workload) (who : ℕ) (party : Party) : Type 0 where
  pub maps : MapsView
  pub plan : List PlanEntry
  pub is : party ≡ first_party workload who maps plan
  pub rows : maps.rows ≡ []
  pub number : maps.number ≡ 0
  pub answers : maps.answers ≡ []
  pub room : MAX_SEGMENTS ≤ maps.capacity

-- what the lines of a workload say of its participants and its pools; and who awaits lines stands after them
pub record IsGiven (workload : Workload) : Type 0 where
  pub few : workload.participants ≤ MAX_PARTICIPANTS
  pub primary : 0 < workload.participants
  pub present : bit_at workload.absent 0 ≡ 0
  pub pools : ArePoolLines workload.pools.items
  pub deadline : workload.deadline ≤ MAX_DEADLINE
  pub awaits : AwaitEarlier workload.participants workload.lines.items

-- they have done no line yet
abbrev pub OpensSoFar : Type 0
OpensSoFar = (workload : Workload) (held : List HeldHeap) (parties : List Party) → IsGiven workload
    → AreFirstHeaps workload (heaps_in held) → AreSoundNames (first_names workload) → length parties ≡ workload.participants
    → ((who : ℕ) (party : Party) → slice_get parties who ≡ Some party → IsFirstParty workload who party)
    → SoFar workload [] parties (first_hall workload held)

-- a participant served while another one did its line, or after the last line, by a judge that denies by what its lines left
pub record ServesBeside (count who : ℕ) (standing : Standing) (old new : HallView) (party after : Party) : Type 0 where
  pub served : HasServed (denials_of standing) count who old new party after
  pub same : IsSameParty party after
  pub tied : IsTied (seen_in new) (own_at new who) (λ heap. (part_in new who heap).marked) after.joined after.maps
  pub left : after.joined ≡ false → (heap : ℕ) → (part_in new who heap).marked ≡ []

-- all but those that are apart served, and did nothing else; that is left by their lines
abbrev pub OthersServe : (ℕ → Type 0) → ℕ → (ℕ → Standing) → HallView → HallView → List Party → List Party → Type 0
OthersServe apart count left old new parties later = (who : ℕ) (party after : Party) → (apart who → ⊥) → slice_get parties who ≡ Some party
    → slice_get later who ≡ Some after → ServesBeside count who (left who) old new party after

-- the steps by which a participant that had told of so many lines tells of one more
abbrev pub tells_one_more : ℕ → ℕ → List MailStep
tells_one_more who lines = Notes (LoadedDone who lines) ∷ (Notes (Stored (lines + 1)) ∷ [])

-- a participant does its line, and tells that one of its lines more is done then; its marks are on the chunks that it has noted,
-- and on none while it is out
pub record DoesItsLine (workload : Workload) (old new : HallView) (line : Line) (answer : Answer) (doer after : ParticipantView) : Type 0
  where
    pub does : DoesLine workload.participants
        (λ steps. HasDone old new line.participant (steps ++ tells_one_more line.participant (lines_at old line.participant))) line answer
        (moment_of doer (part_in old line.participant) (seen_in old) (heard_in old))
        (moment_of after (part_in new line.participant) (seen_in new) (heard_in new))
    pub ready : MayDo (moment_of after (part_in new line.participant) (seen_in new) (heard_in new))
    pub tied : IsTied (seen_in new) (own_at new line.participant) (λ heap. (part_in new line.participant heap).marked) after.party.joined
        after.party.maps
    pub left : after.party.joined ≡ false → (heap : ℕ) → (part_in new line.participant heap).marked ≡ []
    pub chunks : (heap : ℕ) → AreMarkedAs heap (part_in new line.participant heap).marked after.context.standing.chunks
    pub same : IsSameParty doer.party after.party
    pub told : lines_at new line.participant ≡ lines_at old line.participant + 1

-- one line of the workload more, of one of them, which knows what its lines so far left, while all others served
pub record GoesBy (workload : Workload) (courses : List Course) (line : Line) (answer : Answer) (parties later : List Party)
    (old new : HallView) : Type 0 where
  pub among : Contains workload.lines.items line
  pub declared : line.participant < workload.participants
  pub may : MayComeAndGo line.participant line.act
  pub count : length later ≡ length parties
  pub doer : ParticipantView
  pub after : ParticipantView
  pub before_is : slice_get parties line.participant ≡ Some doer.party
  pub behind_is : slice_get later line.participant ≡ Some after.party
  pub knew : doer.context ≡ context_of workload line.participant courses
  pub does : DoesItsLine workload old new line answer doer after
  pub others : OthersServe (λ who. who ≡ line.participant) workload.participants (λ who. standing_of workload who courses) old new parties
      later
  pub home : AreHome new
  pub course : IsCourse old new

-- each mapper may fail at the calls at which it might before
abbrev pub MayFailAsBefore : List Party → List Party → Type 0
MayFailAsBefore parties later = (who : ℕ) (party after : Party) → slice_get parties who ≡ Some party → slice_get later who ≡ Some after
    → after.maps.may_fail ≡ party.maps.may_fail

-- they have done one line more, and the one that did it knows what that left
abbrev pub GoesOnByLine : Type 0
GoesOnByLine = (workload : Workload) (courses : List Course) (parties later : List Party) (old new : HallView) (line : Line)
    (answer : Answer) → IsGiven workload → SoFar workload courses parties old → (goes : GoesBy workload courses line answer parties later old new)
    → SoFar workload (courses ++ record { line = line; answer = answer; trace = goes.does.does.does.trace } ∷ []) later new
    × MayFailAsBefore parties later × (goes.after.context ≡ context_of workload line.participant
    (courses ++ record { line = line; answer = answer; trace = goes.does.does.does.trace } ∷ []))

-- where all serve on, they have done the same lines
abbrev pub RestsSoFar : Type 0
RestsSoFar = (workload : Workload) (courses : List Course) (parties later : List Party) (old new : HallView) → IsGiven workload
    → SoFar workload courses parties old → length later ≡ length parties
    → OthersServe (λ who. ⊥) workload.participants (λ who. standing_of workload who courses) old new parties later
    → AreHome new → IsCourse old new → SoFar workload courses later new × MayFailAsBefore parties later

-- these are the lines of a workload with their answers, and what the hall and the participants leave
pub record IsAtEnd (workload : Workload) (courses : List Course) (answers : List Answer) (parties : List Party) (hall : HallView)
    (heaps : List HeapView) (segs : SegsView) (tables : List Table) : Type 0 where
  pub lines : map (λ course. course.line) courses ≡ workload.lines.items
  pub answered : map (λ course. course.answer) courses ≡ answers
  pub hall_is : IsHall hall
  pub names : NamesView
  pub values : HandsOut hall.slots heaps segs names
  pub count : length tables ≡ length parties
  pub tables_are : (who : ℕ) (party : Party) (table : Table) → slice_get parties who ≡ Some party → slice_get tables who ≡ Some table
      → LeavesTable party table

-- after the last line what the run has come to is an end of the workload, of these lines as they were done
abbrev pub EndsSo : Type 0
EndsSo = (workload : Workload) (courses : List Course) (answers : List Answer) (parties : List Party) (hall : HallView)
    (heaps : List HeapView) (segs : SegsView) (tables : List Table) → IsGiven workload → SoFar workload courses parties hall
    → IsAtEnd workload courses answers parties hall heaps segs tables
    → (end : IsSoloEnd workload answers heaps segs tables) × (end.end.courses ≡ courses)

-- an outcome says that a mapping of that participant failed, at that call of its mapper
pub record IsFailedMapping (participant call : ℕ) (entry : AskLog) : Type 0 where
  pub addr : ℕ
  pub got : MapAnswer
  pub its : entry.outcome ≡ Refused (MapFailed participant call addr got)

-- a call at which the mapper of one of these participants may fail
pub record MayHaveFailed (parties : List Party) (participant call : ℕ) : Type 0 where
  pub party : Party
  pub its : slice_get parties participant ≡ Some party
  pub may : may_fail_at party.maps.may_fail call ≡ true

-- an ask is kept, and at that call a mapper may answer so a row of that address, which has the page size and the socket that were asked for
pub record FailsFor (may_fail : Option (List FailingCall)) (call addr : ℕ) (got : MapAnswer) (kept : Option Ask) : Type 0 where
  pub ask : Ask
  pub kept_is : kept ≡ Some ask
  pub row : Row
  pub its_addr : row.addr ≡ addr
  pub page : row.page ≡ ask.page
  pub socket : row.socket ≡ ask.socket
  pub so : FailsSo may_fail call row got

-- the mapper of one of these participants may have failed so
pub record MayHaveFailedSo (parties : List Party) (participant call addr : ℕ) (got : MapAnswer) (kept : Option Ask) : Type 0 where
  pub party : Party
  pub its : slice_get parties participant ≡ Some party
  pub fails : FailsFor party.maps.may_fail call addr got kept

-- wherever it was run to, a mapping that failed was a declared participant's, of a page that was asked for, at a call at which its mapper
-- may answer so
abbrev pub FailsByReason : Type 0
FailsByReason = (workload : Workload) (courses : List Course) (parties : List Party) (hall : HallView) (segs : SegsView) (entry : AskLog)
    (participant call : ℕ) → IsGiven workload → SoFar workload courses parties hall → segs_in (slot_at hall MAX_HEAPS) ≡ Some segs
    → Contains segs.asks entry → (failed : IsFailedMapping participant call entry)
    → MayHaveFailedSo parties participant call failed.addr failed.got entry.ask

-- failed mappings that share participant and call stand at one place of the outcomes
abbrev pub FailsOnce : Type 0
FailsOnce = (workload : Workload) (courses : List Course) (parties : List Party) (hall : HallView) (segs : SegsView) (place other : ℕ)
    (entry second : AskLog) (participant call : ℕ) → IsGiven workload → SoFar workload courses parties hall
    → segs_in (slot_at hall MAX_HEAPS) ≡ Some segs → slice_get segs.asks place ≡ Some entry → slice_get segs.asks other ≡ Some second
    → IsFailedMapping participant call entry → IsFailedMapping participant call second → place ≡ other

-- an act maps pages, of the log or of a chunk
abbrev pub MapsPages : Act → Type 0
MapsPages act.Attach = ⊤
MapsPages (act.Map heap addr len) = ⊤
MapsPages _ = ⊥

-- a line that attaches its participant, or a chunk, was refused at that call of its participant's mapper
pub record IsRefusedMapping (participant call : ℕ) (course : Course) : Type 0 where
  pub who : course.line.participant ≡ participant
  pub maps : MapsPages course.line.act
  pub answer : course.answer ≡ answer.Refused call

-- such a line was refused at a call at which its participant's mapper may fail, and two of one call are one line
abbrev pub RefusesByReason : Type 0
RefusesByReason = (workload : Workload) (courses : List Course) (parties : List Party) (hall : HallView) (course : Course)
    (participant call : ℕ) → IsGiven workload → SoFar workload courses parties hall → Contains courses course
    → IsRefusedMapping participant call course → MayHaveFailed parties participant call

abbrev pub RefusesOnce : Type 0
RefusesOnce = (workload : Workload) (courses : List Course) (parties : List Party) (hall : HallView) (place other : ℕ)
    (course second : Course) (participant call : ℕ) → IsGiven workload → SoFar workload courses parties hall
    → slice_get courses place ≡ Some course → slice_get courses other ≡ Some second → IsRefusedMapping participant call course
    → IsRefusedMapping participant call second → place ≡ other
