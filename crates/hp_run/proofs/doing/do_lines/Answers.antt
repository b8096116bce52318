-- One line more.
use Rattle.std.proofs.Common.{[], List, ap, ◌∙◌, arith, subst, take}
use Rattle.std.proofs.lemmas.List.{take_all}
use Rattle.hp_script.specs.declared.line.Line.{Line}
use Rattle.hp_run.specs.AnswersKept.{counts_so_far}
use Rattle.hp_run.specs.Running.{HaveDoneLines}
use Rattle.hp_run.proofs.Resting.{fail_then}
use Rattle.hp_run.proofs.doing.do_lines.Goals as goal

pub loop-place-preserved : goal.loop-place-preserved
loop-place-preserved g c =
    let workload = c.args.workload.now in
    let was = c.loop-place.invariant in
    let next = c.in_ok-do_next.ensures in
    record {
      done = next.done;
      counts = next.counts c.args.counting was.counts;
      may_fail = fail_then workload [] (take c.loop-place.place workload.lines.items) [] c.loop-place.answers.items c.args.hall.now
          c.loop-place.hall c.do_next.new.hall c.requires.first.done was.done.done was.may_fail next.may_fail;
    }

pub returns-clause-counts : goal.returns-clause-counts
returns-clause-counts g c =
    let lines = c.args.workload.now.lines.items in
    c.loop-place.invariant.counts
    ∙ ap (λ (front : List Line). counts_so_far c.args.counting front c.loop-place.answers.items)
    (take_all c.loop-place.place lines (omega (arith, c.loop-place-test.false, c.loop-place.auto.place-end)))

pub returns-clause-done : goal.returns-clause-done
returns-clause-done g c =
    let workload = c.args.workload.now in
    subst (λ (lines : List Line). HaveDoneLines workload lines c.loop-place.answers.items c.loop-place.hall)
    (take_all c.loop-place.place workload.lines.items (omega (arith, c.loop-place-test.false, c.loop-place.auto.place-end)))
    c.loop-place.invariant.done.done
