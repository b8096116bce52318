use Rattle.std.proofs.Common.{◌≡◌, ◌+◌, ◌≤◌, ◌++◌, false, length, take, drop}
use Rattle.std.specs.Fmt.{digits}
use Rattle.hp_report.proofs.hex.write_hex.Given as goal

-- what is left is still to be written in front of the digits that stand there
abbrev pub invariant-loop-left : goal.invariant-loop-left
invariant-loop-left l = record {
  room : length (digits 16 false l.left) ≤ l.at;
  within : l.at ≤ l.end;
  count : l.at + length (digits 16 false l.n) ≡ l.end + length (digits 16 false l.left);
  written : digits 16 false l.left ++ drop l.at l.buf ≡ digits 16 false l.n ++ drop l.end l.fn.buf;
  before : take l.at l.buf ≡ take l.at l.fn.buf;
}

abbrev pub decreases-loop-left : goal.decreases-loop-left
decreases-loop-left l = l.left
