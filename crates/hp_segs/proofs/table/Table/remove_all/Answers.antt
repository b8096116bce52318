-- The next run is held, and what is left stays held when it goes.
use Rattle.std.proofs.Common.{◌∙◌, false, sym, subst, arith, drop, get_or, ◌+◌}
use Rattle.hp_segs.specs.Lists.{lists_of}
use Rattle.hp_segs.specs.SoundRows.{AreHeld}
use Rattle.hp_segs.specs.TableCalls.{AllCount}
use Rattle.hp_segs.proofs.RowTables.KeptTable.{all_from, uncounted_without}
use Rattle.hp_segs.proofs.RetiredRuns.DropLemmas.{held_first, held_without}
use Rattle.hp_segs.proofs.RetiredRuns.RemoveAllLemmas.{held_from, removed_from, length_from}
use Rattle.hp_segs.proofs.RowTables.StateLemmas.{removed_rows}
use Rattle.hp_base.specs.declared.row.Run.{Run}
use Rattle.hp_segs.proofs.table.Table.remove_all.Goals as goal

abbrev none : Run
none = record { list = 0; first = 0; count = 0; addr = 0; page = 0; socket = 0 }

pub remove-requires-clause-listed : goal.remove-requires-clause-listed
remove-requires-clause-listed c =
    (held_first (get_or c.args.runs.now c.loop-run.run-index none) (drop (c.loop-run.run-index + 1) c.args.runs.now)
    (held_from c.args.runs.now c.loop-run.run-index none c.loop-run-test.true c.loop-run.invariant.held)).0

pub remove-requires-clause-used : goal.remove-requires-clause-used
remove-requires-clause-used c =
    (held_first (get_or c.args.runs.now c.loop-run.run-index none) (drop (c.loop-run.run-index + 1) c.args.runs.now)
    (held_from c.args.runs.now c.loop-run.run-index none c.loop-run-test.true c.loop-run.invariant.held)).1

pub remove-requires-clause-uncounted : goal.remove-requires-clause-uncounted
remove-requires-clause-uncounted c =
    (all_from (λ run. AllCount false run c.loop-run.self.segments) c.args.runs.now c.loop-run.run-index none c.loop-run-test.true
    c.loop-run.invariant.uncounted).0

pub loop-run-preserved : goal.loop-run-preserved
loop-run-preserved c =
    let i = c.loop-run.run-index in
    let runs = c.args.runs.now in
    let within = c.loop-run-test.true in
    let held = held_from runs i none within c.loop-run.invariant.held in
    let long = length_from runs i none within in
    rw c.remove.ensures
    (record {
      rest = c.loop-run.invariant.rest ∙ removed_from runs i none c.loop-run.self within;
      uncounted =
          uncounted_without (get_or runs i none) (drop (i + 1) runs) c.loop-run.self.segments
          (all_from (λ run. AllCount false run c.loop-run.self.segments) runs i none within c.loop-run.invariant.uncounted).1;
      held = subst (λ rows. AreHeld (lists_of c.loop-run.self.pools) rows (drop (i + 1) runs)) (sym (removed_rows (get_or runs i none) c.loop-run.self.segments))
          (held_without (get_or runs i none) (drop (i + 1) runs) held);
      room = omega (arith, long, c.loop-run.invariant.room);
    })
