-- Of all who came home: what is known by the run of all; and their lines in the order of the workload.
use Rattle.std.proofs.Common.{◌≡◌, ◌∙◌, ◌==◌, ℕ, ◌<◌, ◌≤◌, List, [], ◌∷◌, map, replicate, Some, slice_get, ⊎_elim, eqb, ne_eqb, refl, ap, sym, subst, arith}
use Rattle.std.specs.List.{All}
use Rattle.std.specs.Prelude.{Contains}
use Rattle.std.proofs.lemmas.Bool.{cases_lt, cond-false}
use Rattle.std.proofs.lemmas.List.{get_or-map, length-map}
use Rattle.std.proofs.lemmas.List.Elements.{All-contains, All-contains_itself, All-filter, All-from_recursion}
use Rattle.std.proofs.lemmas.Option.{slice_get_within}
use Rattle.hp_frame.specs.declared.frame.Frame.{Frame}
use Rattle.hp_heap.specs.History.{HeapView}
use Rattle.hp_maps.specs.declared.table.Table.{Table}
use Rattle.hp_script.specs.Limits.{AreDeclared}
use Rattle.hp_script.specs.declared.answer.Answer.{Answer}
use Rattle.hp_script.specs.declared.line.Line.{Line}
use Rattle.hp_script.specs.declared.workload.Workload.{Workload}
use Rattle.hp_segs.specs.SegsView.{SegsView}
use Rattle.hp_proc.specs.LinesDone.{Course, trace_of}
use Rattle.hp_weave.proofs.Woven.{weaves, woven_told}
use Rattle.hp_weave.specs.Laws.{IsWoven}
use Rattle.thm_run.proofs.RunFacts.EndsByRun.{ends_by_run}
use Rattle.thm_run.proofs.InTurnByHolds.LinesInHolds.{way_ended}
use Rattle.thm_run.proofs.PathSteps.RunsTogether.{run_together}
use Rattle.thm_run.proofs.Settings.{deadline_stays, seat_at}
use Rattle.thm_run.specs.ByRuns.{CameFromFirst, HasByRun, with_boxes}
use Rattle.thm_run.specs.Seats.{Seat}
use Rattle.thm_run.specs.Together.{IsFirst, GlobalState, Runs}
use Rattle.thm_together.specs.CameHome.{AllCameHome, courses_in_order, lines_for}
use Rattle.thm_together.proofs.AllHome.{came, first_all, first_good, last_all}
use Rattle.thm_together.proofs.HomeAsks.{trace_is}
use Rattle.thm_together.proofs.HomeHolds.{did}

-- who is not declared has no line
pub no_lines_for : (count who : ℕ) (lines : List Line) → AreDeclared count lines → count ≤ who → lines_for who lines ≡ []
no_lines_for count who [] declared beyond = refl
no_lines_for count who (line ∷ lines) declared beyond =
    cond-false (eqb line.participant who) (line ∷ lines_for who lines) (lines_for who lines)
    (ne_eqb line.participant who (λ same. omega (arith, same, declared.0, beyond)))
    ∙ no_lines_for count who lines declared.1 beyond

-- each course of all is one of a line of all
pub at_line : (P : Line → Type 0) (lines : List Line) (courses : List Course) → map (λ (course : Course). course.line) courses ≡ lines
    → All P lines → All (λ course. P course.line) courses
at_line P lines courses are all k d within =
    let every : All P (map (λ (course : Course). course.line) courses) = subst (All P) (sym are) all in
    subst P (get_or-map (λ (course : Course). course.line) courses k d d.line within)
    (every k d.line (omega (arith, within, length-map courses (λ (course : Course). course.line))))

module _ (workload : Workload) (answers : List Answer) (heaps : List HeapView) (segs : SegsView) (tables : List Table)
    (home : AllCameHome workload answers heaps segs tables) where
  -- the lines of all with what was done for them, in the order of the workload
  abbrev pub all_courses : List Course
  all_courses = courses_in_order workload home.courses

  lines_of_each : (who : ℕ) → map (λ course. course.line) (home.courses who) ≡ lines_for who workload.lines.items
  lines_of_each who =
      ⊎_elim
      (λ (below : who < workload.participants).
      let early = seat_at home.first who (omega (arith, below, home.begun)) in
      let late = seat_at home.last who (omega (arith, below, home.begun, home.count)) in
      (home.went who early.seat late.seat early.there late.there).lines)
      (λ (beyond : workload.participants ≤ who).
      ap (map (λ course. course.line)) (home.no_lines who beyond)
      ∙ sym (no_lines_for workload.participants who workload.lines.items home.declared beyond))
      (cases_lt who workload.participants)

  pub are_woven : IsWoven (λ (course : Course). course.line) (λ (line : Line). line.participant) workload.lines.items home.courses all_courses
  are_woven = weaves (λ (course : Course). course.line) (λ (line : Line). line.participant) workload.lines.items home.courses lines_of_each

  pub answers_are : map (λ course. course.answer) all_courses ≡ answers
  answers_are =
      woven_told (λ (course : Course). course.answer) (map (λ line. line.participant) workload.lines.items) home.courses ∙ sym home.answered

  pub lines_declared : All (λ (course : Course). course.line.participant < workload.participants) all_courses
  lines_declared =
      at_line (λ (line : Line). line.participant < workload.participants) workload.lines.items all_courses are_woven.in_order
      (All-from_recursion (λ (line : Line). line.participant < workload.participants) workload.lines.items home.declared)

  -- the run of all, from before their first steps
  abbrev pub empty : List (List Frame)
  empty = replicate workload.participants []

  pub opens : IsFirst workload.participants workload.absent workload.pools.items
      (with_boxes empty (first_all workload answers heaps segs tables home))
  opens = record {
    seats = home.begun;
    each = λ who seat there.
        let late = seat_at home.last who (omega (arith, home.count, slice_get_within home.first who seat there)) in
        (home.went who seat late.seat there late.there).begins;
    segs = refl;
    sound = (first_good workload home.given).sound;
    armed = (first_good workload home.given).armed;
    boxes = refl;
  }

  pub run : (left : List (List Frame)) × Runs workload.participants (with_boxes empty (first_all workload answers heaps segs tables home))
      (with_boxes left (last_all workload answers heaps segs tables home))
  run =
      run_together workload.participants (first_all workload answers heaps segs tables home)
      (last_all workload answers heaps segs tables home) home.steps home.holds (came workload answers heaps segs tables home) home.held.good
      empty

  abbrev pub start : GlobalState
  start = with_boxes empty (first_all workload answers heaps segs tables home)

  abbrev pub then : GlobalState
  then = with_boxes run.0 (last_all workload answers heaps segs tables home)

  -- each waits as long as the workload says
  pub waits : (who : ℕ) (seat : Seat) → slice_get home.last who ≡ Some seat → seat.party.deadline ≡ workload.deadline
  waits who seat there =
      let early = seat_at home.first who (omega (arith, home.count, slice_get_within home.last who seat there)) in
      deadline_stays run.1 who early.seat seat early.there there ∙ (home.went who early.seat seat early.there there).waits

  from_first : CameFromFirst workload (did workload answers heaps segs tables home) (first_all workload answers heaps segs tables home)
      (last_all workload answers heaps segs tables home) home.steps home.holds
  from_first = record {
    is_first = opens;
    came = came workload answers heaps segs tables home;
    good = home.held.good;
    waits = waits;
    ended = λ who seat there.
        let early = seat_at home.first who (omega (arith, home.count, slice_get_within home.last who seat there)) in
        let went = home.went who early.seat seat early.there there in
        way_ended workload went.way went.begins.lines
        (λ course among. All-contains (λ (course : Course). Contains workload.lines.items course.line) (home.courses who) course
        (at_line (Contains workload.lines.items) (lines_for who workload.lines.items) (home.courses who) went.lines
        (All-filter (λ (line : Line). line.participant == who) (Contains workload.lines.items) workload.lines.items
        (All-contains_itself workload.lines.items))) among);
    did_so = λ who seat there.
        let early = seat_at home.first who (omega (arith, home.count, slice_get_within home.last who seat there)) in
        sym (trace_is workload answers heaps segs tables home who early.seat seat early.there there);
    nobody_else = λ who beyond. ap trace_of (home.no_lines who beyond);
  }

  pub by_run : HasByRun workload (did workload answers heaps segs tables home) segs
  by_run =
      ends_by_run workload (did workload answers heaps segs tables home) (first_all workload answers heaps segs tables home)
      (last_all workload answers heaps segs tables home) home.steps home.holds from_first
