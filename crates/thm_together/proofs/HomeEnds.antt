-- What all left who came home is an end of their workload.
use Rattle.std.proofs.Common.{◌≡◌, ◌∙◌, ℕ, ◌<◌, ◌≤◌, true, List, length, map, Some, slice_get, refl, ap, sym, subst, arith}
use Rattle.std.specs.List.{All}
use Rattle.std.proofs.lemmas.Option.{slice_get_within}
use Rattle.hp_heap.specs.History.{HeapView}
use Rattle.hp_maps.specs.declared.table.Table.{Table}
use Rattle.hp_script.specs.declared.answer.Answer.{Answer}
use Rattle.hp_script.specs.declared.workload.Workload.{Workload}
use Rattle.hp_segs.specs.SegsView.{SegsView, is_member}
use Rattle.hp_proc.specs.Awaits.{AreAwaited}
use Rattle.hp_proc.specs.Courses.{Standing}
use Rattle.hp_proc.specs.Doing.{Done}
use Rattle.hp_proc.specs.Ends.{IsEnd, IsTableOf, KeepsCalls}
use Rattle.hp_proc.specs.LinesDone.{AreDone, Course, IsNoneUngranted, courses_of, opening_standing, standing_after, trace_of}
use Rattle.hp_proc.specs.Outcomes.{AreAnsweredSo, IsOfAnAskOfATrace}
use Rattle.hp_proc.specs.Handed.{AreOwnFailures}
use Rattle.hp_proc.specs.Seen.{AreSeen, seen_in}
use Rattle.thm_run.proofs.InTurnByHolds.CallsInHolds.{calls_by_lines}
use Rattle.thm_run.proofs.InTurnByHolds.NoneByHolds.{none_by_holds}
use Rattle.thm_run.proofs.Settings.{seat_at}
use Rattle.thm_run.proofs.PathSteps.Walked.{get_there}
use Rattle.thm_run.specs.OwnHolds.{AreDoneInHolds}
use Rattle.thm_run.specs.Seats.{Seat}
use Rattle.thm_run.specs.SoFar.{first_segs}
use Rattle.thm_together.specs.CameHome.{AllCameHome, EndWhereHome, HaveAwaited}
use Rattle.thm_together.proofs.AllHome.{path_of}
use Rattle.thm_together.proofs.HomeHolds.{asks_answered, asks_in_turn, each_on, outcomes_are, seen_by_each}
use Rattle.thm_together.proofs.HomeSince.{attached_since}
use Rattle.thm_together.proofs.HomeTables.{its_table}
use Rattle.thm_together.proofs.HomeWays.{all_courses, answers_are, are_woven, by_run, lines_declared}

module _ (workload : Workload) (answers : List Answer) (heaps : List HeapView) (segs : SegsView) (tables : List Table)
    (home : AllCameHome workload answers heaps segs tables) where
  abbrev courses : List Course
  courses = all_courses workload answers heaps segs tables home

  -- of all lines those of one participant are its own
  own_is : (who : ℕ) → courses_of who courses ≡ home.courses who
  own_is = (are_woven workload answers heaps segs tables home).own

  lines_are : map (λ course. course.line) courses ≡ workload.lines.items
  lines_are = (are_woven workload answers heaps segs tables home).in_order

  did_is : ◌≡◌ {A = ℕ → List Done} (λ who. trace_of (home.courses who)) (λ who. trace_of (courses_of who courses))
  did_is i who = trace_of (sym (own_is who) i)

  each_is : ◌≡◌ {A = ℕ → List Course} home.courses (λ who. courses_of who courses)
  each_is i who = sym (own_is who) i

  -- what was awaited stands first, in the order of the workload too
  awaited_are : AreAwaited courses heaps
  awaited_are = subst (λ (own : ℕ → List Course). HaveAwaited own heaps) each_is home.awaited

  done_by : (who : ℕ) → who < workload.participants → AreDone workload (opening_standing workload who) (home.courses who)
  done_by who below =
      let early = seat_at home.first who (omega (arith, below, home.begun)) in
      let late = seat_at home.last who (omega (arith, below, home.begun, home.count)) in
      (home.went who early.seat late.seat early.there late.there).done

  done_in_holds : (who : ℕ) → who < workload.participants → AreDoneInHolds workload segs who (home.courses who)
  done_in_holds who below =
      let early = seat_at home.first who (omega (arith, below, home.begun)) in
      let late = seat_at home.last who (omega (arith, below, home.begun, home.count)) in
      let went = home.went who early.seat late.seat early.there late.there in
      record {
        done = went.done;
        answered = asks_answered workload answers heaps segs tables home who;
        held = calls_by_lines workload.participants who early.seat late.seat (home.courses who) (home.steps who) went.way went.adds;
      }

  none_are : All IsNoneUngranted courses
  none_are =
      none_by_holds workload segs workload.participants courses (by_run workload answers heaps segs tables home).segs_sound
      (lines_declared workload answers heaps segs tables home)
      (λ who below. subst (AreDoneInHolds workload segs who) (sym (own_is who)) (done_in_holds who below))

  -- who is attached has taken in what was there when it attached
  since_by : (who : ℕ) (old new : Seat) → slice_get home.first who ≡ Some old → slice_get home.last who ≡ Some new
      → new.party.joined ≡ true → (standing_after (opening_standing workload who) (home.courses who)).records ≤ new.party.maps.number
  since_by who old new early late joined =
      let went = home.went who old new early late in
      let is =
      attached_since workload.participants who old new (home.steps who) (first_segs workload) segs home.holds
      (path_of workload answers heaps segs tables home who old new early late) (ap (λ (standing : Standing). standing.records) went.opens)
      home.held.chain (each_on workload answers heaps segs tables home) (home.held.own who) joined in
      let left = ap (λ (standing : Standing). standing.records) went.left in
      omega (arith, is, left)

  mapped_are : (who : ℕ) (table : Table) → slice_get tables who ≡ Some table
      → (table.joined ≡ is_member segs.roster who)
      × IsTableOf segs who (standing_after (opening_standing workload who) (courses_of who courses)).records table.joined table
  mapped_are who table at =
      let below = slice_get_within tables who table at in
      let early = seat_at home.first who (omega (arith, home.begun, home.tables_are, below)) in
      let late = seat_at home.last who (omega (arith, home.begun, home.count, home.tables_are, below)) in
      subst (λ own. (table.joined ≡ is_member segs.roster who)
      × IsTableOf segs who (standing_after (opening_standing workload who) own).records table.joined table) (sym (own_is who))
      (its_table workload who segs (by_run workload answers heaps segs tables home).segs_sound late.seat (home.courses who) table
      (home.leaves who late.seat table late.there at) (since_by who early.seat late.seat early.there late.there))

  roster_is : (who : ℕ) → who < workload.participants
      → is_member segs.roster who ≡ (standing_after (opening_standing workload who) (courses_of who courses)).attached
  roster_is who below =
      let late = seat_at home.last who (omega (arith, below, home.begun, home.count)) in
      let table = get_there tables who (omega (arith, below, home.tables_are)) in
      let its = home.leaves who late.seat table.0 late.there table.1 in
      its.member ∙ its.attached ∙ ap (λ own. (standing_after (opening_standing workload who) own).attached) (sym (own_is who))

  ends : IsEnd workload answers heaps segs tables
  ends =
      let ran = by_run workload answers heaps segs tables home in
      record {
        courses = courses;
        lines = lines_are;
        answered = answers_are workload answers heaps segs tables home;
        done = λ who below. subst (AreDone workload (opening_standing workload who)) (sym (own_is who)) (done_by who below);
        none = none_are;
        heaps_are = home.kept.are;
        heaps_sound = home.kept.sound;
        calls = subst (λ did. KeepsCalls did heaps) did_is home.kept.calls;
        segs_sound = ran.segs_sound;
        pools = ran.pools;
        asks = λ who.
            subst (λ own. AreAnsweredSo segs.log segs.asks who (trace_of own)) (sym (own_is who))
            (asks_answered workload answers heaps segs tables home who);
        outcomes = subst (λ did. All (IsOfAnAskOfATrace segs.log did) segs.asks) did_is
            (outcomes_are workload answers heaps segs tables home);
        in_turn = asks_in_turn workload answers heaps segs tables home;
        asked_for = ran.asked_for home.kept.growth;
        causes = ran.causes;
        settled = home.kept.growth;
        seen = λ who.
            subst (λ own. AreSeen (length segs.log) (seen_in segs.log segs.asks who 1 (trace_of own))) (sym (own_is who))
            (seen_by_each workload answers heaps segs tables home who);
        failed = λ who. subst (λ own. AreOwnFailures segs.log (trace_of own)) (sym (own_is who)) (ran.failed who);
        awaited = awaited_are;
        grown = home.kept.grown;
        gone = ran.gone heaps home.kept.calls home.kept.within;
        owned = home.kept.owned;
        roster = roster_is;
        nobody_else = ran.nobody_else;
        count = home.tables_are;
        mapped = mapped_are;
      }

pub end_where_home : EndWhereHome
unfolding ends
end_where_home workload answers heaps segs tables home = (ends workload answers heaps segs tables home, refl)
