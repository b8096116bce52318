use Rattle.std.proofs.Common.{◌≡◌, ◌+◌, false, length}
use Rattle.std.specs.Fmt.{digits}
use Rattle.hp_report.proofs.hex.hex_length.Given as goal

-- the digits that were counted and those of what is left are those of the number
abbrev pub invariant-loop-left : goal.invariant-loop-left
invariant-loop-left l = l.len + length (digits 16 false l.left) ≡ length (digits 16 false l.n)

abbrev pub decreases-loop-left : goal.decreases-loop-left
decreases-loop-left l = l.left
