-- What threads leave: each participant came to its seat at the board.
use Rattle.std.proofs.Common.{◌≡◌, ◌∙◌, ℕ, ◌<◌, ◌≤◌, eqb, eq-eqb, List, [], ◌∷◌, ◌++◌, refl, ap, sym, subst, arith}
use Rattle.std.specs.List.{All}
use Rattle.std.specs.Prelude.{Some, slice_get}
use Rattle.std.proofs.lemmas.Bool.{cond-true}
use Rattle.std.proofs.lemmas.List.{append-nil}
use Rattle.std.proofs.lemmas.List.Elements.{All-head, All-tail}
use Rattle.hp_base.specs.declared.limits.TheConstants.{MAX_DEADLINE}
use Rattle.hp_board.specs.MovesKept.{all_free}
use Rattle.hp_board.specs.SeatView.{SeatView}
use Rattle.hp_board.specs.Views.{marked_in, own_of, values_of}
use Rattle.hp_chair.specs.Steps.{moves_in}
use Rattle.hp_events.specs.Watchers.{WatchersView}
use Rattle.hp_hall.specs.Mail.{MailStep, Notes}
use Rattle.hp_hall.specs.declared.note.Note.TheVariants.{Stored}
use Rattle.hp_heap.specs.History.{HeapView}
use Rattle.hp_mail.specs.PassView.{PassView}
use Rattle.hp_maps.specs.MapsView.{MapsView}
use Rattle.hp_maps.specs.declared.table.Table.{Table}
use Rattle.hp_script.specs.declared.answer.Answer.{Answer}
use Rattle.hp_script.specs.declared.line.Act.TheVariants as act
use Rattle.hp_script.specs.declared.workload.Workload.{Workload}
use Rattle.hp_segs.specs.SegsView.{SegsView}
use Rattle.hp_serve.specs.Ending.{LeavesTable}
use Rattle.hp_serve.specs.Party.{Party, first_core}
use Rattle.hp_serve.specs.Tied.{IsTiedAs}
use Rattle.hp_zone.specs.declared.names.Names.{Names as NamesView}
use Rattle.hp_proc.specs.Acting.{AreAsked}
use Rattle.hp_proc.specs.Contexts.{Context}
use Rattle.hp_proc.specs.Courses.{calls_in}
use Rattle.hp_proc.specs.Histories.{entries_for}
use Rattle.hp_proc.specs.LinesDone.{AreDone, Course, courses_of, opening_standing, standing_after, trace_of}
use Rattle.hp_proc.specs.ParticipantView.{ParticipantView}
use Rattle.hp_proc.specs.SharedNames.{no_changes}
use Rattle.thm_run.proofs.SeatFacts.FirstSegs.{member_first}
use Rattle.thm_run.proofs.InTurnByHolds.LinesInHolds.{way_by_lines}
use Rattle.thm_run.specs.EndLaws.{IsGiven}
use Rattle.thm_run.specs.OwnLines.{AddsByLines, WentByLines}
use Rattle.thm_run.specs.Seats.{SeatTrace}
use Rattle.thm_run.specs.SoFar.{first_segs}
use Rattle.thm_run.specs.Together.{IsFirstSeat}
use Rattle.hp_threads.specs.Running.{HasPromised, ThreadsLeave}
use Rattle.hp_threads.specs.Workers.{IsNewcomer}
use Rattle.thm_together.specs.CameHome.{WentItsWay, lines_for}
use Rattle.thm_together.specs.OnItsWay.{IsOnItsWay}
use Rattle.thm_moved.proofs.ClosedHeaps.{at_a_place}
use Rattle.thm_moved.proofs.HeapsAdded.{adds_by_moves}
use Rattle.thm_moved.specs.AtBoard.{CameToItsSeat, HasLooked}
use Rattle.thm_home.proofs.FirstLines.{AwaitsAlone, HasDoneFirst, HasLookedAt, awaits_alone, told_made, works_looked}
use Rattle.thm_home.proofs.NamesSeen.{HasSeen, way_names}
use Rattle.thm_home.proofs.SeatsTold.{looked_so, marked_so}
use Rattle.thm_home.proofs.WaysOfWorks.{AddsAmong, IsCounting, first_seat, works_way}

-- where all courses are of one participant, they are its own
all_own : (who : ℕ) (courses : List Course) → All (λ course. course.line.participant ≡ who) courses → courses_of who courses ≡ courses
all_own who [] own = refl
all_own who (course ∷ courses) own =
    cond-true (eqb course.line.participant who) (course ∷ courses_of who courses) (courses_of who courses)
    (eq-eqb course.line.participant who (All-head (λ (course : Course). course.line.participant ≡ who) course courses own))
    ∙ ap (λ rest. course ∷ rest)
    (all_own who courses (All-tail (λ (course : Course). course.line.participant ≡ who) course courses own))

module _ (workload : Workload) (given : IsGiven workload) (who : ℕ) (below : who < workload.participants) (first : ParticipantView)
    (newcomer : IsNewcomer workload who first) where
  -- a newcomer sits in its first seat
  begins : IsFirstSeat who (first_segs workload) (first_seat first)
  begins =
      let is = newcomer.party.is in
      let maps : first.party.maps ≡ newcomer.party.maps = ap (λ (party : Party). party.maps) is in
      record {
        me = ap (λ (party : Party). party.me) is;
        joined = ap (λ (party : Party). party.joined) is
            ∙ sym (member_first workload.participants workload.absent who (omega (arith, below, given.few)));
        core = ap (λ (party : Party). party.core) is
            ∙ ap (first_core who) (sym (ap (λ (party : Party). party.deadline) is));
        asked = ap (λ (party : Party). party.asked) is;
        answers = ap (λ (maps : MapsView). maps.answers) maps ∙ newcomer.party.answers;
        rows = ap (λ (maps : MapsView). maps.rows) maps ∙ newcomer.party.rows;
        number = ap (λ (maps : MapsView). maps.number) maps ∙ newcomer.party.number;
        lines = refl;
        trace = refl;
        fetched = refl;
        asking = refl;
        listeners = ap (λ (party : Party). party.listeners) is;
        watchers = ap (λ (context : Context). context.standing.watchers) newcomer.context;
        validators = ap (λ (context : Context). context.standing.validators) newcomer.context;
      }

  waits : first.party.deadline ≡ workload.deadline
  waits = ap (λ (party : Party). party.deadline) newcomer.party.is

  few : first.party.deadline ≤ MAX_DEADLINE
  few = omega (arith, waits, given.deadline)

  -- it has made no call
  no_calls : first.context.calls ≡ 0
  no_calls = ap (λ (context : Context). context.calls) newcomer.context

module _ (workload : Workload) (firsts : List ParticipantView) (answers : List Answer) (heaps : List HeapView) (segs : SegsView)
    (names : NamesView) (tables : List Table) (watchers : List WatchersView) (given : IsGiven workload)
    (leave : ThreadsLeave workload firsts answers heaps segs names tables watchers) (who : ℕ) (below : who < workload.participants)
    (first : ParticipantView) (seat : SeatView) (passes : List PassView) (steps : List MailStep) (its : List Answer)
    (table : Table) (heard : WatchersView) (sat : slice_get leave.seats who ≡ Some seat)
    (promised : HasPromised workload leave.board who first seat passes steps its table heard) where
  abbrev pub its_courses : List Course
  its_courses = promised.has.courses

  -- its seat is its own, and what it took and gave there is among the moves of all
  whose : seat.mine.who ≡ who
  whose = promised.home.who

  moves : seat.mine.moves ≡ moves_in steps
  moves = promised.home.done.moves

  own_moves : values_of who leave.moved.moves ≡ moves_in steps
  own_moves =
      ap (λ (other : ℕ). values_of other leave.moved.moves) (sym whose)
      ∙ (leave.moved.own seat (at_a_place leave.seats who seat sat) ∙ moves)

  adds : AddsAmong first.party.me steps
  adds before steps more is heap =
      adds_by_moves leave.moved.moves (all_free leave.moved.first) (all_free leave.moved.last) who first.party.me before steps more
      leave.moved.replay (own_moves ∙ ap moves_in is) heap

  counting : IsCounting workload.participants first promised.has.last its_courses steps
  counting =
      works_way promised.has.works (few workload given who below first promised.newcomer)
      (no_calls workload given who below first promised.newcomer) steps [] (sym (append-nil steps)) adds

  pub on : IsOnItsWay workload.participants (first_seat first) promised.has.last its_courses steps
  on = counting.on

  own_is : courses_of who its_courses ≡ its_courses
  own_is = all_own who its_courses (subst (λ who. All (λ course. course.line.participant ≡ who) its_courses) whose promised.has.done.own)

  its_way : (way : WentByLines workload.participants who (first_seat first) on.seat its_courses steps) × AddsByLines way
  its_way =
      subst (λ who. (way : WentByLines workload.participants who (first_seat first) on.seat its_courses steps) × AddsByLines way)
      (begins workload given who below first promised.newcomer).me (on.way, on.adds)

  pub its_path : SeatTrace workload.participants who (first_seat first) on.seat steps
  its_path = (way_by_lines workload.participants who (first_seat first) on.seat its_courses steps its_way.0).0

  its_trace : on.seat.trace ≡ trace_of its_courses
  its_trace = (way_by_lines workload.participants who (first_seat first) on.seat its_courses steps its_way.0).1

  knows : promised.has.last.context.standing ≡ standing_after (opening_standing workload who) its_courses
  knows =
      ap (λ (context : Context). context.standing) promised.has.done.knows
      ∙ (ap (λ who. standing_after (opening_standing workload who) (courses_of who its_courses)) whose
      ∙ ap (standing_after (opening_standing workload who)) own_is)

  its_asked : AreAsked seat.mine.log seat.mine.heard who 0 on.seat.party.asked on.seat.trace
  its_asked =
      subst (λ trace. AreAsked seat.mine.log seat.mine.heard who 0 on.seat.party.asked trace)
      (ap trace_of own_is ∙ sym its_trace)
      (subst (λ (party : Party). AreAsked seat.mine.log seat.mine.heard who 0 party.asked (trace_of (courses_of who its_courses)))
      (sym on.party)
      (subst
      (λ who. AreAsked seat.mine.log seat.mine.heard who 0 promised.has.last.party.asked (trace_of (courses_of who its_courses))) whose
      promised.has.done.asked))

  went : WentItsWay workload who seat.mine.log seat.mine.heard (first_seat first) on.seat its_courses steps
  went = record {
    begins = begins workload given who below first promised.newcomer;
    opens = ap (λ (context : Context). context.standing) promised.newcomer.context;
    waits = waits workload given who below first promised.newcomer;
    way = its_way.0;
    adds = its_way.1;
    lines = promised.has.lines_are ∙ ap (λ who. lines_for who workload.lines.items) whose;
    done =
        subst (AreDone workload (opening_standing workload who)) own_is
        (subst (λ who. AreDone workload (opening_standing workload who) (courses_of who its_courses)) whose promised.has.done.done);
    left = on.standing ∙ knows;
    asked = its_asked;
  }

  its_me : first.party.me ≡ who
  its_me = (begins workload given who below first promised.newcomer).me

  its_adds : AddsAmong who steps
  its_adds = subst (λ (me : ℕ). AddsAmong me steps) its_me adds

  its_deadline : first.party.deadline ≤ MAX_DEADLINE
  its_deadline = few workload given who below first promised.newcomer

  -- what it told of its lines, it had done by then
  told_so : (before after : List MailStep) (lines : ℕ) → steps ≡ before ++ Notes (Stored lines) ∷ after → HasDoneFirst who its_courses lines before
  told_so =
      subst (λ (me : ℕ). (before after : List MailStep) (lines : ℕ) → steps ≡ before ++ Notes (Stored lines) ∷ after
      → HasDoneFirst me its_courses lines before) its_me
      (told_made promised.has.works its_deadline (no_calls workload given who below first promised.newcomer) adds)

  -- what it has seen of the names is what its lines gave back last
  seen : HasSeen no_changes its_courses steps
  seen = way_names its_way.0 no_changes

  -- and where it awaited others, it looked them up
  alone : AwaitsAlone its_courses
  alone = awaits_alone workload (opening_standing workload who) its_courses went.done

  looked_so_far : (place other lines : ℕ) (course : Course) → slice_get its_courses place ≡ Some course
      → course.line.act ≡ act.Await other lines → HasLooked who place other lines its_courses seat.mine
  looked_so_far place other lines course there awaits =
      let at : HasLookedAt who other lines place its_courses steps =
      subst (λ (me : ℕ). HasLookedAt me other lines place its_courses steps) its_me
      (works_looked promised.has.works its_deadline (no_calls workload given who below first promised.newcomer) steps [] (sym (append-nil steps))
      adds alone place other lines course there awaits) in
      looked_so leave.board.opening who seat.mine steps promised.home.done its_adds place other lines at.found its_courses at.before at.after
      at.enough at.is at.made at.taken

  pub came_to_it : CameToItsSeat workload who (first_seat first) on.seat its_courses steps seat table
  came_to_it = record {
    whose = whose;
    went = went;
    moves = moves;
    made = λ heap.
        promised.has.done.entries heap
        ∙ (ap (λ who. entries_for who heap 1 (calls_in (trace_of (courses_of who its_courses)))) whose
        ∙ ap (λ courses. entries_for who heap 1 (calls_in (trace_of courses))) own_is);
    told = marked_so leave.board.opening who seat.mine steps promised.home.done its_adds its_courses told_so;
    zones = promised.home.done.zones ∙ seen.zones;
    names = promised.home.done.changes ∙ seen.names;
    looked = looked_so_far;
    ends = record {
      tied = subst
          (λ (party : Party). IsTiedAs seat.mine.log (own_of seat.mine) (λ heap. marked_in heap seat.mine) seat.mine.joined party.joined party.maps) (sym on.party)
          promised.has.tied;
      leaves = subst (λ (party : Party). LeavesTable party table) (sym on.party) promised.has.leaves;
      attached = promised.has.attached ∙ ap (λ standing. standing.attached) knows;
    };
  }
