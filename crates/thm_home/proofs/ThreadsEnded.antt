-- What threads leave is all that a run by them has come to.
use Rattle.std.proofs.Common.{◌≡◌, ◌∙◌, ℕ, ◌<◌, List, length, Option, Some, slice_get, true, ap, sym, subst, arith}
use Rattle.std.specs.List.Sorted.{IsPermutation}
use Rattle.std.proofs.lemmas.Option.{slice_get_within}
use Rattle.hp_base.specs.Mapping.{may_fail_at}
use Rattle.hp_base.specs.declared.map_answer.MapAnswer.{MapAnswer}
use Rattle.hp_events.specs.Watchers.{WatchersView}
use Rattle.hp_board.specs.Closing.{left_naming}
use Rattle.hp_hall.specs.AgreedNames.{AreAgreedNames}
use Rattle.hp_heap.specs.History.{HeapView}
use Rattle.hp_maps.specs.declared.table.Table.{Table}
use Rattle.hp_script.specs.Limits.{AreDeclared}
use Rattle.hp_script.specs.declared.answer.Answer.{Answer}
use Rattle.hp_script.specs.declared.workload.Workload.{Workload}
use Rattle.hp_segs.specs.SegsView.{SegsView}
use Rattle.hp_segs.specs.declared.ask.Ask.{Ask}
use Rattle.hp_zone.specs.declared.names.Names.{Names as NamesView}
use Rattle.hp_serve.specs.Party.{Party}
use Rattle.hp_proc.specs.AwaitedNames.{AreAwaitedFor}
use Rattle.hp_proc.specs.Handed.{AreHanded}
use Rattle.hp_proc.specs.Handing.{shared_of}
use Rattle.hp_proc.specs.Heaps.{sockets_of}
use Rattle.hp_proc.specs.LinesDone.{Course, courses_of, trace_of}
use Rattle.hp_proc.specs.NamesLog.{changes_in, changes_made}
use Rattle.hp_proc.specs.ParticipantView.{ParticipantView}
use Rattle.hp_proc.specs.RunEnds.{EndsWithNames}
use Rattle.thm_run.proofs.PathSteps.Walked.{get_there}
use Rattle.thm_run.specs.EndLaws.{FailsFor, IsGiven}
use Rattle.thm_run.specs.SoFar.{AreSoundNames, first_segs}
use Rattle.thm_alike.proofs.EndAlike.{ends_alike}
use Rattle.thm_alike.proofs.EndRestored.{courses_restore, end_tables_restore}
use Rattle.thm_alike.proofs.FailedTables.{sound_logs_restore}
use Rattle.thm_alike.proofs.PagesMapped.{end_pages_alike}
use Rattle.thm_causes.proofs.Owing.NonesInVain.{nones_are_in_vain}
use Rattle.thm_together.proofs.AllHome.{first_good}
use Rattle.thm_together.proofs.HomeEnds.{end_where_home}
use Rattle.thm_together.proofs.HomeFails.{fails_once_where_home, fails_where_home, refuses_once_where_home, refuses_where_home}
use Rattle.thm_together.proofs.HomeLed.{led_where_home}
use Rattle.thm_together.proofs.HomeWays.{are_woven}
use Rattle.thm_together.specs.CameHome.{courses_in_order}
use Rattle.thm_together.specs.Failing as home
use Rattle.hp_threads.specs.Running.{ThreadsLeave}
use Rattle.thm_moved.specs.NamesLeft.{AreLeftSo}
use Rattle.thm_home.proofs.AllAtBoard.{awaited_of_threads, home_of_threads, names_changed_of_threads, names_handed_of_threads, names_left_of_threads, states_of_threads}
use Rattle.thm_home.proofs.AwaitedForAtBoard.{HaveAwaitedFor}
use Rattle.thm_home.specs.EndOfThreads.{CameHomeFrom, EndOfThreads, FailAsBrought, MayFailAt, MayFailSo, ThreadsEnd}

module _ (workload : Workload) (firsts : List ParticipantView) (answers : List Answer) (heaps : List HeapView) (segs : SegsView)
    (tables : List Table) (came : CameHomeFrom workload firsts answers heaps segs tables) (begun : length firsts ≡ workload.participants) where
  -- the view that a participant brought has the mapper of the seat in which it began
  brought : (participant : ℕ) → participant < length came.home.first → (first : ParticipantView) × (slice_get firsts participant ≡ Some first)
  brought participant within = get_there firsts participant (omega (arith, within, begun, came.home.begun))

  may_so : (participant call addr : ℕ) (got : MapAnswer) (kept : Option Ask) → home.MayFailSo came.home.first participant call addr got kept
      → MayFailSo firsts participant call addr got kept
  may_so participant call addr got kept may =
      let first = brought participant (slice_get_within came.home.first participant may.seat may.there) in
      record {
        first = first.0;
        there = first.1;
        fails = subst (λ (party : Party). FailsFor party.maps.may_fail call addr got kept)
            (came.began participant first.0 may.seat first.1 may.there) may.fails;
      }

  may_at : (participant call : ℕ) → home.MayFailAt came.home.first participant call → MayFailAt firsts participant call
  may_at participant call may =
      let first = brought participant (slice_get_within came.home.first participant may.seat may.there) in
      record {
        first = first.0;
        there = first.1;
        may = subst (λ (party : Party). may_fail_at party.maps.may_fail call ≡ true)
            (came.began participant first.0 may.seat first.1 may.there) may.may;
      }

  failed : FailAsBrought firsts (courses_in_order workload came.home.courses) segs.asks
  failed = record {
    failures = λ entry participant call among its.
        may_so participant call its.addr its.got entry.ask
        (fails_where_home workload answers heaps segs tables came.home entry participant call among its);
    once = λ place other entry second participant call there too is also.
        fails_once_where_home workload answers heaps segs tables came.home place other entry second participant call there too is also;
    refusals = λ place course participant call there is.
        may_at participant call
        (refuses_where_home workload answers heaps segs tables came.home place course participant call there is);
    refused_once = λ place other course second participant call there too is also.
        refuses_once_where_home workload answers heaps segs tables came.home place other course second participant call there too is also;
  }

  -- of all lines those of one participant are its own
  own_is : (who : ℕ) → courses_of who (courses_in_order workload came.home.courses) ≡ came.home.courses who
  own_is = (are_woven workload answers heaps segs tables came.home).own

  each_is : ◌≡◌ {A = ℕ → List Course} came.home.courses (λ who. courses_of who (courses_in_order workload came.home.courses))
  each_is i who = sym (own_is who) i

  -- what is said of the names by each participant's lines
  record HasNames (names : NamesView) : Type 0 where
    sockets : names.heaps.sockets ≡ sockets_of workload.pools.items
    sound : AreSoundNames names
    agree : AreAgreedNames names (left_naming heaps) segs.ranges
    left : AreLeftSo workload (shared_of names) heaps segs tables
    changed : IsPermutation (changes_made workload.participants (λ who. trace_of (came.home.courses who))) (changes_in (shared_of names))
    handed : (who : ℕ) → AreHanded (shared_of names) heaps who (trace_of (came.home.courses who))
    awaited_for : HaveAwaitedFor came.home.courses heaps

  awaited_in_order : HaveAwaitedFor came.home.courses heaps → AreAwaitedFor (courses_in_order workload came.home.courses) heaps
  awaited_in_order awaited who place other lines course there awaits =
      let is = subst (λ (own : ℕ → List Course). HaveAwaitedFor own heaps) each_is awaited who place other lines course there awaits in
      record { names = is.names; states = is.states }

  names_end : (names : NamesView) → HasNames names
      → EndsWithNames workload (courses_in_order workload came.home.courses) (shared_of names) heaps segs tables
  names_end names has =
      record {
        changes = record {
          made = subst (λ (own : ℕ → List Course). IsPermutation (changes_made workload.participants (λ who. trace_of (own who)))
              (changes_in (shared_of names))) each_is has.changed;
          sockets = has.left.sockets;
        };
        count = has.left.count;
        directory = has.left.directory;
        zones = has.left.zones;
        claimed = has.left.claimed;
        handed = λ who.
            subst (λ (own : List Course). AreHanded (shared_of names) heaps who (trace_of own)) (sym (own_is who)) (has.handed who);
        awaited_for = awaited_in_order has.awaited_for;
        attached = has.left.attached;
      }

  all : (names : NamesView) → HasNames names → ThreadsEnd workload firsts answers heaps segs names tables
  all names has =
      let ended = end_where_home workload answers heaps segs tables came.home in
      let led = led_where_home workload answers heaps segs tables came.home in
      record {
        sockets = has.sockets;
        names_sound = has.sound;
        names_agree = has.agree;
        end = ended.0;
        names_end =
            subst (λ (courses : List Course). EndsWithNames workload courses (shared_of names) heaps segs tables) (sym ended.1)
            (names_end names has);
        failed = subst (λ (courses : List Course). FailAsBrought firsts courses segs.asks) (sym ended.1) failed;
        alike = ends_alike workload answers heaps segs tables ended.0;
        pages = end_pages_alike workload answers heaps segs tables ended.0;
        no_row = sound_logs_restore segs ended.0.segs_sound;
        nothing_found = λ who below. nones_are_in_vain workload answers heaps segs tables ended.0 who below;
        calls = led.0;
        leads = led.1;
        growths = courses_restore led.0 (first_segs workload) (first_good workload came.home.given).sound;
        answering = end_tables_restore workload answers heaps segs tables ended.0;
      }

pub end_of_threads : EndOfThreads
end_of_threads workload firsts answers heaps segs names tables watchers given declared leave =
    all workload firsts answers heaps segs tables
    (home_of_threads workload firsts answers heaps segs names tables watchers given declared leave) leave.promised.begun names (record {
      sockets = leave.names_are.sockets ∙ ap (λ (names : NamesView). names.heaps.sockets) leave.opens.names;
      sound = (leave.names_are.zones, leave.names_are.directory);
      agree = leave.names_are.agreed;
      left = names_left_of_threads workload firsts answers heaps segs names tables watchers given declared leave;
      changed = names_changed_of_threads workload firsts answers heaps segs names tables watchers given declared leave;
      handed = λ who. record {
        shown = names_handed_of_threads workload firsts answers heaps segs names tables watchers given declared leave who;
        states = states_of_threads workload firsts answers heaps segs names tables watchers given declared leave who;
      };
      awaited_for = awaited_of_threads workload firsts answers heaps segs names tables watchers given declared leave;
    })

-- its lines are those with which all came home
pub courses_at_end : (workload : Workload) (firsts : List ParticipantView) (answers : List Answer) (heaps : List HeapView) (segs : SegsView)
    (names : NamesView) (tables : List Table) (watchers : List WatchersView) (given : IsGiven workload)
    (declared : AreDeclared workload.participants workload.lines.items)
    (leave : ThreadsLeave workload firsts answers heaps segs names tables watchers)
    → (end_of_threads workload firsts answers heaps segs names tables watchers given declared leave).end.courses
    ≡ courses_in_order workload
    (home_of_threads workload firsts answers heaps segs names tables watchers given declared leave).home.courses
unfolding end_of_threads all
courses_at_end workload firsts answers heaps segs names tables watchers given declared leave =
    (end_where_home workload answers heaps segs tables
    (home_of_threads workload firsts answers heaps segs names tables watchers given declared leave).home).1
