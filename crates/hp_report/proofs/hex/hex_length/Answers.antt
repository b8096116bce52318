use Rattle.std.proofs.Common.{◌≡◌, ◌+◌, ◌/◌, false, length, arith}
use Rattle.std.proofs.Math.Facts.{Fits-of_lt}
use Rattle.std.specs.Fmt.{digits}
use Rattle.hp_report.proofs.HexLemmas.{length_fits, length_one, length_pair, length_two}
use Rattle.hp_report.proofs.hex.hex_length.Goals as goal

pub overflow_add-len : goal.overflow_add-len
overflow_add-len c =
    let left = c.loop-left in
    Fits-of_lt (omega (arith, left.invariant, length_pair left.left c.loop-left-test.true left.auto.left-fits.fits, length_fits c.args.n c.ranges.n.fits))

pub loop-left-preserved : goal.loop-left-preserved
loop-left-preserved c =
    let left = c.loop-left in
    let is : left.len + 2 + length (digits 16 false (left.left / 256)) ≡ length (digits 16 false c.args.n) =
    omega (arith, left.invariant, length_pair left.left c.loop-left-test.true left.auto.left-fits.fits) in
    is

pub overflow_add-result : goal.overflow_add-result
overflow_add-result c =
    Fits-of_lt (omega (arith, c.loop-left.invariant, length_one c.loop-left.left c.if-left-lt16.true, length_fits c.args.n c.ranges.n.fits))

pub overflow_add-result-else-left-lt16 : goal.overflow_add-result-else-left-lt16
overflow_add-result-else-left-lt16 c =
    Fits-of_lt (omega (arith, c.loop-left.invariant, length_two c.loop-left.left c.if-left-lt16.false (omega arith), length_fits c.args.n c.ranges.n.fits))

pub returns-then-left-lt16 : goal.returns-then-left-lt16
returns-then-left-lt16 c = omega (arith, c.loop-left.invariant, length_one c.loop-left.left c.if-left-lt16.true)

pub returns-else-left-lt16 : goal.returns-else-left-lt16
returns-else-left-lt16 c = omega (arith, c.loop-left.invariant, length_two c.loop-left.left c.if-left-lt16.false (omega arith))
