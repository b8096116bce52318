-- How far a workload was run, by all its participants in one thread: what holds between two of its lines. The rule "Together" of
-- docs/RUNS.md.
use Rattle.std.specs.Prelude.{◌≡◌, ℕ, ◌+◌, ◌<◌, ◌≤◌, true, false, List, [], ◌∷◌, length, Some, slice_get, slice_index, Contains}
use Rattle.std.specs.List.{All}
use Rattle.hp_base.specs.declared.limits.TheConstants.{MAX_HEAPS}
use Rattle.hp_plain.specs.Course.{IsCourse}
use Rattle.hp_plain.specs.HallSteps.{opening_hall}
use Rattle.hp_plain.specs.HallView.{HallView, heard_in, history_in, lines_at, own_at, part_in, seen_in, segs_in, slot_at}
use Rattle.hp_plain.specs.Keeping.{values_in}
use Rattle.hp_plain.specs.Opening.{AreHome, AreInOrder, AreUnused, heaps_in}
use Rattle.hp_hall.specs.Holding.{HeapPart}
use Rattle.hp_hall.specs.Own.{Own}
use Rattle.hp_hall.specs.Views.{HeldHeap}
use Rattle.hp_hall.specs.declared.kept.Kept.TheVariants.{Names}
use Rattle.hp_hall.specs.declared.slot.TheConstants.{NAMES_SLOT}
use Rattle.hp_heap.specs.History.{HeapView, IsSound}
use Rattle.hp_log.specs.declared.log_record.LogRecord.{LogRecord}
use Rattle.hp_script.specs.declared.workload.Workload.{Workload}
use Rattle.hp_segs.specs.Opening.{opening}
use Rattle.hp_segs.specs.SegsView.{SegsView, is_member}
use Rattle.hp_segs.specs.declared.outcome.AskLog.{AskLog}
use Rattle.hp_proc.specs.OneThread.{names_by}
use Rattle.hp_proc.specs.Handing.{shared_of}
use Rattle.hp_proc.specs.Acting.{AreAsked}
use Rattle.hp_proc.specs.Contexts.{Context}
use Rattle.hp_proc.specs.Courses.{Standing, after_line, calls_in, numbered_in}
use Rattle.hp_proc.specs.Doing.{Done}
use Rattle.hp_proc.specs.Ends.{IsHeapAt, history_by, none_made}
use Rattle.hp_heap.specs.HistoryLaws.{runs_grown}
use Rattle.hp_segs.specs.GrantedRuns.{granted_runs}
use Rattle.hp_proc.specs.Histories.{entries_for}
use Rattle.hp_proc.specs.LinesDone.{AreDone, Course, courses_of, opening_standing, standing_after, trace_of}
use Rattle.hp_proc.specs.OwnChunks.{AreMarkedAs}
use Rattle.hp_proc.specs.ParticipantView.{ParticipantView}
use Rattle.hp_serve.specs.Party.{Party}
use Rattle.hp_proc.specs.Progress.{MayComeAndGo, MayDo, moment_of}
use Rattle.hp_proc.specs.Seen.{AreSeen, seen_by_lines}
use Rattle.hp_proc.specs.Heaps.{sockets_of}
use Rattle.hp_serve.specs.Tied.{IsTied}
use Rattle.hp_zone.specs.Directory.{IsDirectory, opened}
use Rattle.hp_zone.specs.Zones.{IsZones, no_zones}
use Rattle.hp_zone.specs.declared.names.Names.{Names as NamesView}
use Rattle.thm_run.specs.Registered.{IsRegisteredBy}
use Rattle.thm_run.specs.Seats.{EndedLine, Seat}
use Rattle.thm_run.specs.Together.{IsFirst, GlobalState, RunsByMail}

-- the heaps of a workload before its first line: each at its index, of its socket or vacant, and without a call
pub record AreFirstHeaps (workload : Workload) (heaps : List HeapView) : Type 0 where
  pub in_order : AreInOrder heaps
  pub unused : AreUnused heaps
  pub each : (place : ℕ) (heap : HeapView) → slice_get heaps place ≡ Some heap → IsHeapAt workload place heap.plain
  pub sound : All IsSound heaps

-- the segment value of a workload before its first line
abbrev pub first_segs : Workload → SegsView
first_segs workload = opening workload.pools.items workload.participants workload.absent

-- the names of a workload before its first line: no memzone, and the heaps of its sockets
abbrev pub first_names : Workload → NamesView
first_names workload = record { zones = no_zones; heaps = opened (sockets_of workload.pools.items) }

-- the logs of names leave zones and directory
abbrev pub AreSoundNames : NamesView → Type 0
AreSoundNames names = IsZones names.zones × IsDirectory names.heaps

-- the hall of a workload before its first line, with these heaps, each with its pen
abbrev pub first_hall : Workload → List HeldHeap → HallView
first_hall workload held = opening_hall workload.participants held (first_segs workload) (first_names workload)

-- what was done for a participant's lines
abbrev pub trace_for : ℕ → List Course → List Done
trace_for who courses = trace_of (courses_of who courses)

-- what they left
abbrev pub standing_of : Workload → ℕ → List Course → Standing
standing_of workload who courses = standing_after (opening_standing workload who) (courses_of who courses)

-- what a participant knows of a workload once these lines were done
abbrev pub context_of : Workload → ℕ → List Course → Context
context_of workload who courses = record {
  pools = workload.pools.items;
  lines = workload.lines.items;
  standing = standing_of workload who courses;
  calls = length (calls_in (trace_for who courses));
}

-- a participant at that moment, with what it knows
abbrev pub doer_of : Workload → ℕ → List Course → Party → ParticipantView
doer_of workload who courses party = record { party = party; context = context_of workload who courses }

-- a line of a declared participant that may do it
pub record IsOfDeclared (count : ℕ) (course : Course) : Type 0 where
  pub declared : course.line.participant < count
  pub act : MayComeAndGo course.line.participant course.line.act

-- a participant between two lines, by the parts of the heaps that it sees, what it acknowledged, and the log and the outcomes that it has
-- seen: it is attached where its lines leave it so, made their calls and asks, and has taken in what was there when it attached; by what it
-- knows of them it may do its next line
pub record IsSoFarBy (workload : Workload) (courses : List Course) (parts : ℕ → HeapPart) (own : Own) (log : List LogRecord)
    (asks : List AskLog) (who : ℕ) (party : Party) : Type 0 where
  pub me : party.me ≡ who
  pub socket : party.socket ≡ slice_index workload.sockets who
  pub deadline : party.deadline ≡ workload.deadline
  pub joined : party.joined ≡ (standing_of workload who courses).attached
  pub since : party.joined ≡ true → (standing_of workload who courses).records ≤ party.maps.number
  pub entries : (heap : ℕ) → (parts heap).entries ≡ entries_for who heap 1 (calls_in (trace_for who courses))
  pub asked : AreAsked log asks who 0 party.asked (trace_for who courses)
  pub ready : MayDo (moment_of (doer_of workload who courses party) parts log asks)
  pub tied : IsTied log own (λ heap. (parts heap).marked) party.joined party.maps
  pub left : party.joined ≡ false → (heap : ℕ) → (parts heap).marked ≡ []
  pub chunks : (heap : ℕ) → AreMarkedAs heap (parts heap).marked (standing_of workload who courses).chunks

-- how far a participant has come (`IsSoFarBy`), by what a hall of plain values shows of it
abbrev pub IsSoFarFor : Workload → List Course → HallView → ℕ → Party → Type 0
IsSoFarFor workload courses hall who party =
    IsSoFarBy workload courses (part_in hall who) (own_at hall who) (seen_in hall) (heard_in hall) who party

-- the lines of courses, one after another, as they ended: by what was left before them, and after so many numbers
abbrev pub ended_by : Standing → ℕ → List Course → List EndedLine
ended_by standing numbered [] = []
ended_by standing numbered (course ∷ courses) =
    let left : Standing = after_line course.line course.answer course.trace standing in
    let all : ℕ = numbered + length (numbered_in course.trace) in
    record { deed = course.line.act; given = course.answer; records = left.records; numbered = all } ∷ ended_by left all courses

-- a participant's lines as they ended
abbrev pub ended_for : Workload → ℕ → List Course → List EndedLine
ended_for workload who courses = ended_by (opening_standing workload who) 0 (courses_of who courses)

-- a seat is that of a participant, with what its lines left, the lines as they ended, and what was done for them
pub record IsSeatOf (workload : Workload) (parties : List Party) (courses : List Course) (who : ℕ) (seat : Seat) : Type 0 where
  pub party : slice_get parties who ≡ Some seat.party
  pub standing : seat.standing ≡ standing_of workload who courses
  pub lines : seat.lines ≡ ended_for workload who courses
  pub trace : seat.trace ≡ trace_for who courses

-- each watcher of a participant was registered by one of its lines, where so many records are the most that its table has taken in by now
abbrev pub AreRegistered : Workload → List Course → ℕ → List LogRecord → List AskLog → ℕ → Party → Type 0
AreRegistered workload courses reached log asks who party = All (λ listener.
    IsRegisteredBy who reached (opening_standing workload who) log asks (courses_of who courses) listener.name listener.since) party.listeners

-- the participants of a workload have done these lines in a hall of one thread, and have told so; they hold no slot; the names are those that
-- the lines leave
pub record SoFar (workload : Workload) (courses : List Course) (parties : List Party) (hall : HallView) : Type 0 where
  -- the hall as it opened, and how it went on
  pub held : List HeldHeap
  pub first_heaps : AreFirstHeaps workload (heaps_in held)
  pub names_sound : AreSoundNames (first_names workload)
  pub course : IsCourse (first_hall workload held) hall
  pub home : AreHome hall
  pub names : NamesView
  pub named : slice_get (values_in hall) NAMES_SLOT ≡ Some (Names names)
  pub opened : names.heaps.sockets ≡ sockets_of workload.pools.items
  pub leave : shared_of names ≡ names_by courses
  -- all participants, step by step
  pub first : GlobalState
  pub now : GlobalState
  pub is_first : IsFirst workload.participants workload.absent workload.pools.items first
  pub runs : RunsByMail workload.participants first now
  pub its_segs : segs_in (slot_at hall MAX_HEAPS) ≡ Some now.segs
  pub its_boxes : now.boxes ≡ hall.boxes
  pub count : length parties ≡ workload.participants
  pub seats : (who : ℕ) (seat : Seat) → slice_get now.seats who ≡ Some seat → IsSeatOf workload parties courses who seat
  pub roster : (who : ℕ) (seat : Seat) → slice_get now.seats who ≡ Some seat → is_member now.segs.roster who ≡ seat.party.joined
  -- each participant, and its lines, which are lines of the workload
  pub each : (who : ℕ) (party : Party) → slice_get parties who ≡ Some party → IsSoFarFor workload courses hall who party
  pub registered : (who : ℕ) (party : Party) → slice_get parties who ≡ Some party
      → AreRegistered workload courses (own_at hall who).number now.segs.log now.segs.asks who party
  pub told : (who : ℕ) → who < workload.participants → lines_at hall who ≡ length (courses_of who courses)
  pub among : All (λ course. Contains workload.lines.items course.line) courses
  pub built : All (IsOfDeclared workload.participants) courses
  pub done : (who : ℕ) → who < workload.participants → AreDone workload (opening_standing workload who) (courses_of who courses)
  -- the lines one after another: each history has the entries of earlier lines first, what lines show of the log never falls, and each heap
  -- grew by the runs that were granted for it
  pub in_order : (index : ℕ) → history_in (slot_at hall index) ≡ history_by index none_made courses
  pub seen : AreSeen (length now.segs.log) (seen_by_lines now.segs.log now.segs.asks none_made courses)
  pub grown : (index : ℕ) → index < MAX_HEAPS
      → runs_grown (history_by index none_made courses) ≡ granted_runs index now.segs.asks 1 now.segs.log
