-- Why mappings failed of who came home: by the run of all, and by each one's own calls.
use Rattle.std.proofs.Common.{◌≡◌, ◌∙◌, ℕ, ◌<◌, true, List, Option, Some, slice_get, ap, sym, subst, arith}
use Rattle.std.specs.Prelude.{Contains}
use Rattle.std.specs.List.Sorted.{IsStrictlyIncreasing}
use Rattle.std.proofs.lemmas.Option.{slice_get_within}
use Rattle.hp_base.specs.Mapping.{FailingCall, may_fail_at}
use Rattle.hp_heap.specs.History.{HeapView}
use Rattle.hp_maps.specs.declared.table.Table.{Table}
use Rattle.hp_script.specs.declared.answer.Answer.{Answer}
use Rattle.hp_script.specs.declared.workload.Workload.{Workload}
use Rattle.hp_segs.specs.SegsView.{SegsView}
use Rattle.hp_segs.proofs.RowTables.TableUse.{at_place}
use Rattle.hp_proc.specs.Handed.{calls_failed}
use Rattle.hp_proc.specs.LinesDone.{AreDone, Course, courses_of, opening_standing, trace_of}
use Rattle.thm_run.proofs.FailuresNamed.Failures.{fails_once}
use Rattle.thm_run.proofs.FailuresNamed.Refusals.{attached_so, refused_by_reason}
use Rattle.thm_run.proofs.FailuresNamed.RefusedLines.{places_same, shows_in}
use Rattle.thm_run.proofs.RunFacts.RunCauses as causes
use Rattle.thm_run.proofs.Settings.{IsSeatAt, may_fail_stays, seat_at}
use Rattle.thm_run.specs.EndLaws.{FailsFor, IsRefusedMapping}
use Rattle.thm_together.specs.CameHome.{AllCameHome}
use Rattle.thm_together.specs.Failing.{FailsOnceWhereHome, FailsWhereHome, RefusesOnceWhereHome, RefusesWhereHome}
use Rattle.thm_together.proofs.HomeAsks.{trace_is}
use Rattle.thm_together.proofs.HomeWays.{all_courses, are_woven, lines_declared, opens, run, start, then, waits}

pub fails_where_home : FailsWhereHome
fails_where_home workload answers heaps segs tables home entry participant call logged failed =
    let found =
    causes.fails_by_reason workload.participants workload.absent workload.pools.items (start workload answers heaps segs tables home)
    (then workload answers heaps segs tables home) (opens workload answers heaps segs tables home)
    (run workload answers heaps segs tables home).1 workload.deadline (waits workload answers heaps segs tables home) entry logged participant
    call failed.addr failed.got failed.its in
    let early =
    seat_at home.first participant (omega (arith, home.count, slice_get_within home.last participant found.seat found.there)) in
    record {
      seat = early.seat;
      there = early.there;
      fails = subst (λ (may_fail : Option (List FailingCall)). FailsFor may_fail call failed.addr failed.got entry.ask)
          (may_fail_stays (run workload answers heaps segs tables home).1 participant early.seat found.seat early.there found.there)
          found.fails;
    }

pub fails_once_where_home : FailsOnceWhereHome
fails_once_where_home workload answers heaps segs tables home place other entry second participant call here there failed too =
    fails_once workload.participants workload.absent workload.pools.items (start workload answers heaps segs tables home)
    (then workload answers heaps segs tables home) (opens workload answers heaps segs tables home)
    (run workload answers heaps segs tables home).1 place other entry second participant call here there failed too

module _ (workload : Workload) (answers : List Answer) (heaps : List HeapView) (segs : SegsView) (tables : List Table)
    (home : AllCameHome workload answers heaps segs tables) (participant call : ℕ) where
  abbrev courses : List Course
  courses = all_courses workload answers heaps segs tables home

  own_is : courses_of participant courses ≡ home.courses participant
  own_is = (are_woven workload answers heaps segs tables home).own participant

  -- who was refused a mapping in a line is declared
  declared : (place : ℕ) (course : Course) → slice_get courses place ≡ Some course → IsRefusedMapping participant call course
      → participant < workload.participants
  declared place course there refused =
      subst (λ who. who < workload.participants) refused.who
      (at_place (λ (course : Course). course.line.participant < workload.participants) courses place course
      (lines_declared workload answers heaps segs tables home) there)

  module _ (below : participant < workload.participants) where
    its_first : IsSeatAt home.first participant
    its_first = seat_at home.first participant (omega (arith, below, home.begun))

    its_last : IsSeatAt home.last participant
    its_last = seat_at home.last participant (omega (arith, below, home.begun, home.count))

    done : AreDone workload (opening_standing workload participant) (courses_of participant courses)
    done =
        subst (AreDone workload (opening_standing workload participant)) (sym own_is)
        (home.went participant its_first.seat its_last.seat its_first.there its_last.there).done

    its_trace : its_last.seat.trace ≡ trace_of (courses_of participant courses)
    its_trace =
        trace_is workload answers heaps segs tables home participant its_first.seat its_last.seat its_first.there its_last.there ∙ ap trace_of (sym own_is)

pub refuses_where_home : RefusesWhereHome
refuses_where_home workload answers heaps segs tables home place course participant call there refused =
    let below = declared workload answers heaps segs tables home participant call place course there refused in
    let early = its_first workload answers heaps segs tables home participant call below in
    let late = its_last workload answers heaps segs tables home participant call below in
    let courses : List Course = all_courses workload answers heaps segs tables home in
    let shown : Contains (calls_failed (trace_of (courses_of participant courses))) call =
    shows_in workload participant call (opening_standing workload participant) courses
    (done workload answers heaps segs tables home participant call below) place course there refused in
    let may =
    refused_by_reason workload.participants workload.absent workload.pools.items (start workload answers heaps segs tables home)
    (then workload answers heaps segs tables home) (opens workload answers heaps segs tables home)
    (run workload answers heaps segs tables home).1 participant late.seat late.there call
    (subst (λ trace. Contains (calls_failed trace) call)
    (sym (its_trace workload answers heaps segs tables home participant call below)) shown) in
    record {
      seat = early.seat;
      there = early.there;
      may = subst (λ (may_fail : Option (List FailingCall)). may_fail_at may_fail call ≡ true)
          (may_fail_stays (run workload answers heaps segs tables home).1 participant early.seat late.seat early.there late.there) may;
    }

pub refuses_once_where_home : RefusesOnceWhereHome
refuses_once_where_home workload answers heaps segs tables home place other course second participant call here there refused too =
    let below = declared workload answers heaps segs tables home participant call place course here refused in
    let late = its_last workload answers heaps segs tables home participant call below in
    let rising =
    (attached_so workload.participants workload.absent workload.pools.items (start workload answers heaps segs tables home)
    (then workload answers heaps segs tables home) (opens workload answers heaps segs tables home)
    (run workload answers heaps segs tables home).1 participant late.seat late.there).rising in
    places_same workload participant call (opening_standing workload participant) (all_courses workload answers heaps segs tables home)
    (done workload answers heaps segs tables home participant call below)
    (subst (λ trace. IsStrictlyIncreasing (calls_failed trace)) (its_trace workload answers heaps segs tables home participant call below) rising)
    place other course second here there refused too
