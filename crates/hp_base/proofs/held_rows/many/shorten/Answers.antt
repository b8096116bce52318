-- The next row is the first of the run, which goes on without it.
use Rattle.std.proofs.Common.{refl}
use Rattle.hp_base.proofs.HeldRunLemmas.{back_run}
use Rattle.hp_base.proofs.HeldRunWrites.{shrunk_more}
use Rattle.hp_base.proofs.held_rows.many.shorten.Goals as goal

pub loop-at-preserved : goal.loop-at-preserved
loop-at-preserved c =
    let keeps = c.loop-at.invariant in
    let run = c.loop-at.run in
    let some = c.if-not-begins_with.ensures.some refl in
    record {
      rows = shrunk_more c.args.run.now run c.args.rows.now c.loop-at.at _ c.loop-at-test.true keeps.rows some (c.if-not-begins_with.ensures.first refl);
      run = back_run run run.from keeps.run some;
    }
