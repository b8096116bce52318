use Rattle.std.proofs.Common.{◌≡◌, ◌≤◌, take}
use Rattle.hp_view.specs.Counts.{count_of}
use Rattle.hp_view.proofs.counts.count_of.Given as goal

abbrev pub invariant-loop-line : goal.invariant-loop-line
invariant-loop-line l = record {
  count : l.count ≡ count_of l.kind (take l.line-index l.lines);
  few : l.count ≤ l.line-index;
}
