use Rattle.std.proofs.Common.{◌≡◌, ◌+◌, length}
use Rattle.std.specs.Fmt.{decimal}
use Rattle.hp_report.proofs.numbers.decimal_length.Given as goal

-- the digits that were counted and those of what is left are those of the number
abbrev pub invariant-loop-left : goal.invariant-loop-left
invariant-loop-left l = l.len + length (decimal l.left) ≡ length (decimal l.n)

abbrev pub decreases-loop-left : goal.decreases-loop-left
decreases-loop-left l = l.left
