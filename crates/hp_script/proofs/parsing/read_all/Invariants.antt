use Rattle.std.proofs.Common.{◌≡◌, ◌+◌, ◌≤◌, length}
use Rattle.hp_script.specs.Known.{known}
use Rattle.hp_script.specs.Setups.{nothing}
use Rattle.hp_script.specs.Workloads.{read_from}
use Rattle.hp_script.proofs.parsing.read_all.Given as goal

-- the lines that are left are read from the state so far
abbrev pub invariant-loop-line : goal.invariant-loop-line
invariant-loop-line l = record {
  reads : read_from (known l.makers) l.reader l.number l.lines ≡ read_from (known l.makers) nothing 1 l.fn.lines;
  few : l.number + length l.lines ≤ length l.fn.lines + 1;
}

abbrev pub decreases-loop-line : goal.decreases-loop-line
decreases-loop-line l = length l.lines
