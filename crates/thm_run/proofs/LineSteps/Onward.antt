-- How far a workload was run stands after its next line.
use Rattle.std.proofs.Common.{◌≡◌, ◌≢◌, ◌∙◌, ℕ, ◌+◌, ◌<◌, false, List, [], ◌∷◌, length, length-append, Some, refl, ap, sym, subst, arith, ⊎_elim}
use Rattle.std.specs.Prelude.{Contains, slice_get}
use Rattle.std.specs.List.Sorted.{IsPermutation}
use Rattle.std.proofs.lemmas.List.Elements.{All-push}
use Rattle.std.proofs.lemmas.Bool.{cases_eq}
use Rattle.std.proofs.lemmas.Option.{same_Some}
use Rattle.hp_base.specs.declared.limits.TheConstants.{MAX_HEAPS}
use Rattle.hp_plain.specs.HallView.{HallView, lines_at, segs_in, slot_at}
use Rattle.hp_plain.specs.Keeping.{values_in}
use Rattle.hp_hall.specs.declared.kept.Kept.{Kept}
use Rattle.hp_hall.specs.declared.slot.TheConstants.{NAMES_SLOT}
use Rattle.hp_script.specs.declared.answer.Answer.{Answer}
use Rattle.hp_script.specs.declared.line.Line.{Line}
use Rattle.hp_script.specs.declared.workload.Workload.{Workload}
use Rattle.hp_segs.specs.Returned.{returned_runs}
use Rattle.hp_segs.specs.SegsView.{SegsView}
use Rattle.hp_proc.specs.Courses.{Standing}
use Rattle.hp_proc.specs.Doing.{Done}
use Rattle.hp_proc.specs.Ends.{history_by, none_made}
use Rattle.hp_heap.specs.HistoryLaws.{runs_grown}
use Rattle.hp_segs.specs.GrantedRuns.{granted_runs}
use Rattle.hp_proc.specs.LinesDone.{Course, courses_of, opening_standing, standing_after}
use Rattle.hp_proc.specs.NamesOfLines.{names_after}
use Rattle.hp_proc.specs.SharedNames.{SharedNames}
use Rattle.hp_serve.specs.Party.{Party}
use Rattle.hp_proc.specs.Seen.{AreSeen, seen_by_lines}
use Rattle.thm_run.specs.Drops.{DropsComeFirst, DropsGoOnByLine, cut_by_lines}
use Rattle.thm_run.specs.EndLaws.{GoesBy, GoesOnByLine, IsGiven, MayFailAsBefore}
use Rattle.thm_run.specs.Freed.{AreShown, NoneComesLate, ShownGoOnByLine}
use Rattle.thm_run.specs.Seats.{EndedLine, Seat}
use Rattle.thm_run.specs.SoFar.{SoFar}
use Rattle.thm_run.specs.Together.{GlobalState, RunsByMail}
use Rattle.thm_run.proofs.LineSteps.Arriving.{enrolled_there, last_of, left_there, may_fail_before, runs_all}
use Rattle.thm_run.proofs.WhatWentBack.GoneSoFar.{all_back}
use Rattle.thm_run.proofs.SeatFacts.LastSeats.{CameTo}
use Rattle.thm_run.proofs.LineSteps.LineBehind.{all_came, line_built, line_done, line_in_order, line_is_done, line_known, there}
use Rattle.thm_run.proofs.LineSteps.LineClauses.{asks_of_each}
use Rattle.thm_run.proofs.LineSteps.LineMore.{other_courses, own_courses}
use Rattle.thm_run.proofs.LinesTold.{lines_still}
use Rattle.thm_run.proofs.NamesAlong.{LeavesNames, names_more}
use Rattle.thm_run.proofs.Registrations.LinesRegistered.{line_its_run, line_registered}
use Rattle.thm_run.proofs.LineSteps.LineComes.{course_of, ended, knows, later, left, line_comes, line_endings, line_traces, names_left, others_give, line_tries_so, more, own_more, trace, who}
use Rattle.thm_run.proofs.LineSteps.LineSettled.{IsLineRun}
use Rattle.thm_run.proofs.LineSteps.LineTries.{TriesAtMostOnce}
use Rattle.thm_run.proofs.SeenAndShown.SeenAndGrown as shown
use Rattle.thm_run.proofs.SeenAndShown.ShownOn.{shown_on}
use Rattle.thm_run.proofs.RunFacts.SoFarFacts.{IsAt, owns_many, seat_of}
use Rattle.thm_run.proofs.RunFacts.SoFarOn.{AreLinesThere, so_far_on}
use Rattle.thm_run.proofs.PathSteps.WaysOn.{IsLast}

module _ (workload : Workload) (courses : List Course) (parties behind : List Party) (old new : HallView) (line : Line) (answer : Answer)
    (given : IsGiven workload) (so : SoFar workload courses parties old) (goes : GoesBy workload courses line answer parties behind old new) where
  abbrev by : ℕ
  by = who workload courses parties behind old new line answer given so goes

  abbrev did : List Done
  did = trace workload courses parties behind old new line answer given so goes

  abbrev one : Course
  one = course_of workload courses parties behind old new line answer given so goes

  abbrev lines : List Course
  lines = later workload courses parties behind old new line answer given so goes

  abbrev adds : ℕ → List Done
  adds = more workload courses parties behind old new line answer given so goes

  abbrev leaves : ℕ → Standing
  leaves = left workload courses parties behind old new line answer given so goes

  abbrev ends : ℕ → List EndedLine
  ends = ended workload courses parties behind old new line answer given so goes

  abbrev now : GlobalState
  now = there workload courses parties behind old new line answer given so goes

  abbrev comes : (other : ℕ) (seat : Seat) → slice_get so.now.seats other ≡ Some seat
      → CameTo (IsLast workload.participants behind adds leaves ends goes.course.steps) other seat
  comes = line_comes workload courses parties behind old new line answer given so goes

  abbrev tries : (other : ℕ) (seat : Seat) → slice_get so.now.seats other ≡ Some seat → TriesAtMostOnce seat.party.joined (adds other)
  tries = line_tries_so workload courses parties behind old new line answer given so goes

  to_there : RunsByMail workload.participants so.first now
  to_there = runs_all workload courses parties behind old new so given.few goes.course adds leaves ends comes tries

  -- the doer's seat before and after
  abbrev before : IsAt so.now.seats by
  before = seat_of workload courses parties old so by goes.declared

  abbrev last : IsAt now.seats by
  last = last_of workload courses parties behind old new so given.few goes.course adds leaves ends comes tries by goes.declared

  -- the run of the line
  its_run : IsLineRun workload.participants by so.now now before.it last.it did
  its_run =
      subst (λ (trace : List Done). IsLineRun workload.participants by so.now now before.it last.it trace)
      (own_more workload courses parties behind old new line answer given so goes)
      (line_its_run workload courses parties behind old new line answer given so goes)

  seen : AreSeen (length now.segs.log) (seen_by_lines now.segs.log now.segs.asks none_made lines)
  seen =
      shown.seen_goes_on workload.participants workload.absent workload.pools.items so.first so.now now so.is_first so.runs by before.it
      last.it did its_run courses (asks_of_each workload courses parties old so) so.seen workload
      (standing_after (opening_standing workload by) (courses_of by courses)) one refl refl (so.seats by before.it before.there).trace
      goes.may (line_is_done workload courses parties behind old new line answer given so goes)

  grown : (index : ℕ) → index < MAX_HEAPS
      → runs_grown (history_by index none_made lines) ≡ granted_runs index now.segs.asks 1 now.segs.log
  grown index below =
      shown.grown_goes_on workload.participants workload.absent workload.pools.items so.first so.now now so.is_first so.runs by before.it
      last.it did its_run courses index (so.grown index below) workload
      (standing_after (opening_standing workload by) (courses_of by courses)) one refl
      (line_is_done workload courses parties behind old new line answer given so goes)

  -- the names that it leaves
  found : (last : Kept) × LeavesNames so.names did last × (slice_get (values_in new) NAMES_SLOT ≡ Some last)
  found = names_left workload courses parties behind old new line answer given so goes

  left_names : LeavesNames so.names did found.0
  left_names = found.1

  -- each has told of its lines
  told : (other : ℕ) → other < workload.participants → lines_at new other ≡ length (courses_of other lines)
  told other below =
      ⊎_elim
      (λ (same : other ≡ by).
      let own : length (courses_of by lines) ≡ length (courses_of by courses) + 1 =
      ap (λ (own : List Course). length own) (own_courses by courses one refl) ∙ length-append (courses_of by courses) (one ∷ []) in
      subst (λ (other : ℕ). lines_at new other ≡ length (courses_of other lines)) (sym same)
      (goes.does.told ∙ ap (λ (n : ℕ). n + 1) (so.told by goes.declared) ∙ sym own))
      (λ (beside : other ≢ by).
      lines_still other old new goes.course
      (others_give workload courses parties behind old new line answer given so goes other
      (omega (arith, below, owns_many workload courses parties old so)) beside)
      ∙ so.told other below
      ∙ sym (ap (λ (own : List Course). length own) (other_courses other courses one beside)))
      (cases_eq other by)

  lines_there : AreLinesThere workload lines new now
  lines_there = record {
    among = All-push (λ (course : Course). Contains workload.lines.items course.line) courses one so.among goes.among;
    built = line_built workload courses parties behind old new line answer given so goes;
    done = line_done workload courses parties behind old new line answer given so goes;
    in_order = line_in_order workload courses parties behind old new line answer given so goes;
    seen = seen;
    grown = grown;
    names = left_names.given;
    named = found.2 ∙ ap (λ (kept : Kept). Some kept) left_names.last_is;
    opened = left_names.sockets ∙ so.opened;
    leave = left_names.leaves ∙ ap (λ (names : SharedNames). names_after names did) so.leave ∙ sym (names_more courses one);
    told = told;
  }

  pub on_by_line : SoFar workload lines behind new
  on_by_line =
      so_far_on workload courses lines parties behind old new so goes.course goes.home goes.count adds ends
      (all_came workload courses parties behind old new line answer given so goes) to_there
      (enrolled_there workload courses parties behind old new so given.few goes.course adds leaves ends comes tries)
      (left_there workload courses parties behind old new so given.few goes.course adds leaves ends comes tries)
      (λ other seat at. line_traces workload courses parties behind old new line answer given so goes other)
      (λ other seat at. line_endings workload courses parties behind old new line answer given so goes other)
      (line_known workload courses parties behind old new line answer given so goes) lines_there
      (line_registered workload courses parties behind old new line answer given so goes)

  pub may_fail_still : MayFailAsBefore parties behind
  may_fail_still = may_fail_before workload courses parties behind old new so given.few goes.course adds leaves ends comes tries so.count

  -- what the hall shows of the segment value is what the run has come to
  shown_there : (segs : SegsView) → segs_in (slot_at new MAX_HEAPS) ≡ Some segs → now.segs ≡ segs
  shown_there segs at =
      same_Some now.segs segs
      (sym (all_came workload courses parties behind old new line answer given so goes).gone.its ∙ at)

  pub drops_by_line : (was segs : SegsView) → segs_in (slot_at old MAX_HEAPS) ≡ Some was → segs_in (slot_at new MAX_HEAPS) ≡ Some segs
      → segs.retiring ≡ [] → DropsComeFirst workload.participants was.log was.asks courses
      → DropsComeFirst workload.participants segs.log segs.asks lines
  drops_by_line was segs was_at at none drops =
      let last_segs : on_by_line.now.segs ≡ segs = same_Some on_by_line.now.segs segs (sym on_by_line.its_segs ∙ at) in
      let first_segs : so.now.segs ≡ was = same_Some so.now.segs was (sym so.its_segs ∙ was_at) in
      let gone : IsPermutation (cut_by_lines workload.participants lines) (returned_runs now.segs.asks false 1 now.segs.log) =
      subst (λ (segs : SegsView). IsPermutation (cut_by_lines workload.participants lines) (returned_runs segs.asks false 1 segs.log))
      (last_segs ∙ sym (shown_there segs at))
      (all_back workload lines behind new on_by_line (ap (λ (segs : SegsView). segs.retiring) last_segs ∙ none)) in
      subst (λ (segs : SegsView). DropsComeFirst workload.participants segs.log segs.asks lines) (shown_there segs at)
      (shown.drops_go_on workload.participants workload.absent workload.pools.items so.first so.now now so.is_first so.runs by before.it
      last.it did its_run courses (asks_of_each workload courses parties old so) so.seen
      (subst (λ (segs : SegsView). DropsComeFirst workload.participants segs.log segs.asks courses) (sym first_segs) drops) workload
      (standing_after (opening_standing workload by) (courses_of by courses)) one refl refl (so.seats by before.it before.there).trace
      goes.may (line_is_done workload courses parties behind old new line answer given so goes) gone)

  pub shown_by_line : (was segs : SegsView) → segs_in (slot_at old MAX_HEAPS) ≡ Some was → segs_in (slot_at new MAX_HEAPS) ≡ Some segs
      → NoneComesLate courses was.asks segs.asks → AreShown was.log was.asks courses → AreShown segs.log segs.asks lines
  shown_by_line was segs was_at at late shown =
      let first_segs : so.now.segs ≡ was = same_Some so.now.segs was (sym so.its_segs ∙ was_at) in
      subst (λ (segs : SegsView). AreShown segs.log segs.asks lines) (shown_there segs at)
      (shown_on workload.participants workload.absent workload.pools.items so.first so.now now so.is_first so.runs by before.it last.it did
      its_run courses (asks_of_each workload courses parties old so) so.seen
      (subst (λ (was : SegsView). NoneComesLate courses was.asks now.segs.asks) (sym first_segs)
      (subst (λ (segs : SegsView). NoneComesLate courses was.asks segs.asks) (sym (shown_there segs at)) late))
      (subst (λ (segs : SegsView). AreShown segs.log segs.asks courses) (sym first_segs) shown) workload
      (standing_after (opening_standing workload by) (courses_of by courses)) one refl refl (so.seats by before.it before.there).trace
      goes.may (line_is_done workload courses parties behind old new line answer given so goes))

-- after a line all stands as before it
pub so_far_line : GoesOnByLine
so_far_line workload courses parties behind old new line answer given so goes = (
  on_by_line workload courses parties behind old new line answer given so goes,
  may_fail_still workload courses parties behind old new line answer given so goes,
  knows workload courses parties behind old new line answer given so goes,
)

-- and what was given up has gone before later lines see the log
pub drops_line : DropsGoOnByLine
drops_line workload courses parties behind old new line answer was now given so goes was_at at none drops =
    drops_by_line workload courses parties behind old new line answer given so goes was now was_at at none drops

-- and what the lines show of the log with their notices never falls, where no outcome comes late
pub shown_line : ShownGoOnByLine
shown_line workload courses parties behind old new line answer was now given so goes was_at at late shown =
    shown_by_line workload courses parties behind old new line answer given so goes was now was_at at late shown
