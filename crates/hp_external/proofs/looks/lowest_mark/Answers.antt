use Rattle.std.proofs.Common.{◌<◌, arith, eqb, eq-eqb, ap, w16}
use Rattle.std.proofs.lemmas.Nat.Bits.{bit_at-trailing_zeros}
use Rattle.hp_external.proofs.looks.lowest_mark.Goals as goal

pub returns-clause-found : goal.returns-clause-found
returns-clause-found c =
    let some : 0 < c.args.marks = grind arith in
    let lowest = bit_at-trailing_zeros w16 c.args.marks some c.ranges.marks.fits in
    record { marked = eq-eqb _ 1 lowest.1; lowest = λ other below. ap (λ b. eqb b 1) (lowest.2 other below) }
