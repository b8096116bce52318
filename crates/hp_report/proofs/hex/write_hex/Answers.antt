use Rattle.std.proofs.Common.{◌≡◌, ◌+◌, ◌-◌, ◌∙◌, arith, append_assoc}
use Rattle.hp_report.proofs.HexLemmas.{hex_pair, length_pair}
use Rattle.hp_report.proofs.TextLemmas.{take_less}
use Rattle.hp_report.proofs.hex.write_hex.Goals as goal

pub overflow_sub-at : goal.overflow_sub-at
overflow_sub-at c = omega (arith, c.loop-left.invariant.room, length_pair c.loop-left.left c.loop-left-test.true c.loop-left.auto.left-fits.fits)

pub write_pair-requires : goal.write_pair-requires
write_pair-requires c =
    omega (arith, c.loop-left.invariant.room, c.loop-left.invariant.within, length_pair c.loop-left.left c.loop-left-test.true c.loop-left.auto.left-fits.fits)

pub overflow_sub-at-in-loop-left : goal.overflow_sub-at-in-loop-left
overflow_sub-at-in-loop-left c = omega (arith, c.loop-left.invariant.room, length_pair c.loop-left.left c.loop-left-test.true c.loop-left.auto.left-fits.fits)

pub loop-left-preserved : goal.loop-left-preserved
loop-left-preserved c =
    let was = c.loop-left.invariant in
    let at = c.loop-left.at in
    let left = c.loop-left.left in
    let fits = c.loop-left.auto.left-fits.fits in
    let two = length_pair left c.loop-left-test.true fits in
    let next : at - 2 + 2 ≡ at = omega (arith, was.room, two) in
    record {
      room = omega (arith, was.room, two);
      within = omega (arith, was.within);
      count = omega (arith, was.room, was.count, two);
      written = rw (c.write_pair.ensures.written, next) (rw (hex_pair left c.loop-left-test.true fits, append_assoc) at was.written);
      before = c.write_pair.ensures.before ∙ take_less (at - 2) at _ _ (omega arith) was.before;
    }

pub returns-clause-before : goal.returns-clause-before
returns-clause-before c =
    c.write_first.ensures.before ∙ take_less c.write_first.result c.loop-left.at _ _ (omega (arith, c.write_first.ensures.start)) c.loop-left.invariant.before
