-- The next row goes on the run.
use Rattle.std.proofs.Common.{refl}
use Rattle.hp_base.proofs.HeldRunWrites.{grown_more, grown_run}
use Rattle.hp_base.proofs.held_rows.many.lengthen.Goals as goal

pub loop-at-preserved : goal.loop-at-preserved
loop-at-preserved c =
    let keeps = c.loop-at.invariant in
    let goes_on = c.if-not-goes_on.ensures.next refl in
    record {
      rows = grown_more c.args.run.now c.loop-at.run c.args.rows.now c.loop-at.at _ keeps.run c.loop-at-test.true keeps.rows goes_on;
      run = grown_run c.loop-at.run c.args.rows.now c.loop-at.at _ keeps.run c.requires.within c.loop-at-test.true goes_on (c.if-not-goes_on.ensures.slot refl);
    }
