use Rattle.std.proofs.Common.{◌≡◌, ◌+◌, ◌≤◌, length}
use Rattle.hp_view.specs.Reading.{parts_of, reading_from}
use Rattle.hp_view.proofs.ReadingLemmas.{with_items}
use Rattle.hp_view.proofs.reading.read_lines.Given as goal

-- what was read so far and what is read of the rest is what is read of the input
abbrev pub invariant-loop-n : goal.invariant-loop-n
invariant-loop-n l = record {
  due : with_items l.lines.items (reading_from l.number (parts_of l.rest)) ≡ reading_from 2 (parts_of l.input);
  few : l.number + length l.rest ≤ length l.input + 2;
}

abbrev pub decreases-loop-n : goal.decreases-loop-n
decreases-loop-n l = length l.rest
