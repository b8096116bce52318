-- The end, from what the lines and the servings after them leave.
use Rattle.std.proofs.Common.{List, [], sym, subst}
use Rattle.hp_plain.specs.HallView.{HallView, IsHall}
use Rattle.hp_plain.specs.Opening.{AreHome, HandsOut}
use Rattle.hp_proc.specs.Handing.{shared_of}
use Rattle.hp_proc.specs.LinesDone.{Course}
use Rattle.hp_proc.specs.OneThread.{AreHandedInOrder}
use Rattle.hp_proc.specs.RunEnds.{EndsWithNames}
use Rattle.thm_run.specs.Drops.{DropsComeFirst}
use Rattle.thm_run.specs.Freed.{AreShown}
use Rattle.thm_run.specs.Handing.{AreJudged, AreOfLinesBefore, HaveStatistics, HaveWatchers, WatchersHaveGrants, listeners_in}
use Rattle.thm_causes.specs.Notices.{NoticesAreHeard}
use Rattle.hp_run.specs.Running.{HaveDoneLines}
use Rattle.hp_zone.specs.declared.names.Names.{Names as NamesView}
use Rattle.hp_run.proofs.Coming.{given_by}
use Rattle.hp_run.proofs.Ending.{all_in, at_end, at_end_names, came_by, ends_so, first_sound, leave_listeners, names_agree, names_opened, names_sound, segs_there}
use Rattle.hp_run.proofs.FailureLemmas.{fail_so}
use Rattle.hp_run.proofs.LevelLemmas.{level_so}
use Rattle.hp_run.proofs.ReasonLemmas.{may_run, notices_so, reasons_so}
use Rattle.hp_run.proofs.Resting.{fail_then}
use Rattle.hp_run.proofs.running.run_in.Goals as goal

pub end-requires : goal.end-requires
end-requires g c =
    let workload = c.args.workload.now in
    let answers = c.in_ok-answers.answers.items in
    record {
      drained = c.in_ok-do_rest.ensures.drained;
      there = all_in workload answers c.do_rest.new.hall
          (c.in_ok-do_rest.ensures.done workload workload.lines.items answers c.requires.runnable c.in_ok-answers.ensures.done);
    }

pub into_parts-heaps-requires : goal.into_parts-heaps-requires
into_parts-heaps-requires g c =
    let workload = c.args.workload.now in
    let done =
    c.in_ok-do_rest.ensures.done workload workload.lines.items c.in_ok-answers.answers.items c.requires.runnable
    c.in_ok-answers.ensures.done in
    record { home = subst AreHome (sym c.in_ok-tables.ensures.plain) done.so_far.home }

pub returns : goal.returns
returns g c =
    let workload = c.args.workload.now in
    let lines = workload.lines.items in
    let answers = c.in_ok-answers.answers.items in
    let first = c.args.hall in
    let mid = c.do_lines.new.hall in
    let last = c.do_rest.new.hall in
    let left = c.into_parts-heaps.result in
    let heaps = left.heaps.items in
    let tables = c.in_ok-tables.field-0.tables.items in
    let watchers = c.in_ok-tables.field-0.watchers.items in
    let plain = c.in_ok-tables.ensures.plain in
    let given = given_by workload c.requires.runnable in
    let done : HaveDoneLines workload lines answers last =
    c.in_ok-do_rest.ensures.done workload lines answers c.requires.runnable c.in_ok-answers.ensures.done in
    let out : HandsOut last.plain.slots heaps left.segs left.names =
    subst (λ (hall : HallView). HandsOut hall.slots heaps left.segs left.names) plain c.into_parts-heaps.ensures in
    let sound : IsHall last.plain = subst IsHall plain c.sound.ensures in
    let alike =
    fail_then workload [] lines [] answers first mid last c.requires.first.done c.in_ok-answers.ensures.done c.in_ok-answers.ensures.may_fail
    c.in_ok-do_rest.ensures.may_fail in
    let shown = segs_there workload answers last done heaps left.segs left.names out in
    let came = came_by workload answers last done heaps left.segs left.names out in
    let ended =
    ends_so workload answers last done heaps left.segs left.names out tables c.end_law.ensures given sound c.in_ok-tables.ensures.tables in
    let at_the_end = at_end workload answers last done heaps left.segs left.names out tables sound c.in_ok-tables.ensures.tables in
    let names =
    c.names_end_law.ensures workload done.courses answers done.parties last.plain heaps left.segs tables given done.so_far at_the_end
    done.counted in
    let same = at_end_names workload answers last done heaps left.segs left.names out tables sound c.in_ok-tables.ensures.tables in
    let leave = leave_listeners workload answers last done heaps left.segs left.names out watchers c.in_ok-tables.ensures.watchers in
    record {
      end = record {
        end = ended.0;
        names_end = subst (λ (courses : List Course). EndsWithNames workload courses (shared_of left.names) heaps left.segs tables) (sym ended.1)
            (subst (λ (handed : NamesView). EndsWithNames workload done.courses (shared_of handed) heaps left.segs tables) same names.0);
        in_order = subst (λ (courses : List Course). AreHandedInOrder workload courses (shared_of left.names) heaps) (sym ended.1)
            (subst (λ (handed : NamesView). AreHandedInOrder workload done.courses (shared_of handed) heaps) same names.1);
        notices = subst (λ (courses : List Course). NoticesAreHeard workload.plan.items courses left.segs.asks) (sym ended.1)
            (notices_so workload answers last left.segs c.requires.runnable c.notices_law.ensures done shown);
        drops = λ nothing.
            subst (λ (courses : List Course). DropsComeFirst workload.participants left.segs.log left.segs.asks courses) (sym ended.1)
            (done.drops left.segs shown nothing);
        shown = subst (λ (courses : List Course). AreShown left.segs.log left.segs.asks courses) (sym ended.1)
            (done.shown left.segs shown (may_run workload done.courses c.requires.runnable done.lines_are));
        watched = subst (λ (courses : List Course). HaveWatchers workload courses left.segs tables (listeners_in watchers)) (sym ended.1)
            (c.handed_law.ensures.watched workload done.courses answers done.parties last.plain heaps left.segs tables (listeners_in watchers)
            given done.so_far at_the_end leave);
        granted = subst (λ (courses : List Course). WatchersHaveGrants workload courses left.segs tables (listeners_in watchers)) (sym ended.1)
            (c.handed_law.ensures.granted workload done.courses answers done.parties last.plain heaps left.segs tables (listeners_in watchers)
            given done.so_far at_the_end leave);
        statistics = subst (λ (courses : List Course). HaveStatistics courses heaps) (sym ended.1)
            (c.handed_law.ensures.statistics workload done.courses answers done.parties last.plain heaps left.segs tables given done.so_far
            at_the_end done.counted);
        judged = subst (λ (courses : List Course). AreJudged workload courses left.segs) (sym ended.1) (done.judged left.segs shown);
        counted = subst (λ (courses : List Course). AreOfLinesBefore workload courses) (sym ended.1) done.counted;
        calls = came.calls;
        leads = came.leads;
        opens = first_sound workload answers last done;
      };
      names = record {
        sockets = names_opened workload answers last done heaps left.segs left.names out;
        sound = names_sound workload answers last done heaps left.segs left.names out;
        agreed = names_agree workload answers last done heaps left.segs left.names out sound;
      };
      counts = c.in_ok-answers.ensures.counts;
      named = fail_so workload answers first last left.segs given c.requires.first.done done alike c.failure_law.ensures.fails
          c.failure_law.ensures.once c.refusal_law.ensures.fails c.refusal_law.ensures.once shown;
      timeouts = reasons_so workload answers last left.segs c.requires.runnable c.timeouts_law.ensures done shown;
      all_caught_up = level_so workload answers last left.segs c.requires.runnable c.catch_up_law.ensures done shown ended.0.end.segs_sound tables
          c.in_ok-tables.ensures.tables;
    }
