use Rattle.std.proofs.Common.{◌≡◌, ◌+◌, ◌≤◌, length}
use Rattle.hp_bytes.specs.Form.{parts_of, reading, reading_from}
use Rattle.hp_bytes.proofs.ReadingLemmas.{with_lines}
use Rattle.hp_bytes.proofs.reading.read_lines.Given as goal

-- the lines so far and those of the rest are those of the input
abbrev pub invariant-loop-rest : goal.invariant-loop-rest
invariant-loop-rest l = record {
  due : with_lines l.lines.items (reading_from l.number (parts_of l.rest)) ≡ reading l.input;
  few : l.number + length l.rest ≤ length l.input + 1;
}

abbrev pub decreases-loop-rest : goal.decreases-loop-rest
decreases-loop-rest l = length l.rest
