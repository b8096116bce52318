use Rattle.std.proofs.Common.{◌≤◌, drop, length}
use Rattle.hp_report.proofs.NameLemmas.{Keeps}
use Rattle.hp_report.proofs.names.Names.new.Given as goal

-- the names of the later lines are kept
abbrev pub invariant-loop-left : goal.invariant-loop-left
invariant-loop-left l = record {
  within : l.left ≤ length l.lines;
  keeps : Keeps l.names.items (drop l.left l.lines);
}

abbrev pub decreases-loop-left : goal.decreases-loop-left
decreases-loop-left l = l.left
