use Rattle.std.proofs.Common.{◌≡◌, ◌+◌, ◌/◌, length, arith}
use Rattle.std.proofs.Math.Facts.{Fits-of_lt}
use Rattle.std.proofs.lemmas.Fmt.{length-decimal-le}
use Rattle.std.specs.Fmt.{decimal}
use Rattle.itoa.proofs.Decimal.{length_four}
use Rattle.hp_report.proofs.numbers.decimal_length.Goals as goal

pub overflow_add-len : goal.overflow_add-len
overflow_add-len c =
    let left = c.loop-left in
    Fits-of_lt (omega (
      arith,
      left.invariant,
      length_four left.left c.loop-left-test.true left.auto.left-fits.fits,
      length-decimal-le 20 c.args.n (omega arith) (omega (arith, c.ranges.n.fits)) c.ranges.n.fits,
    ))

pub loop-left-preserved : goal.loop-left-preserved
loop-left-preserved c =
    let left = c.loop-left in
    let is : left.len + 4 + length (decimal (left.left / 10000)) ≡ length (decimal c.args.n) =
    omega (arith, left.invariant, length_four left.left c.loop-left-test.true left.auto.left-fits.fits) in
    is

pub overflow_add-result : goal.overflow_add-result
overflow_add-result c =
    Fits-of_lt (omega (arith, c.loop-left.invariant, c.short_length.ensures, length-decimal-le 20 c.args.n (omega arith) (omega (arith, c.ranges.n.fits)) c.ranges.n.fits))
