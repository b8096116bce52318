use Rattle.std.proofs.Common.{◌≡◌, ◌≤◌}
use Rattle.hp_stats.specs.StatViews.{IsPenOf, last_count}
use Rattle.test_shared.proofs.tests.stats.threads.publish_all.Given as goal

abbrev pub invariant-loop-entries : goal.invariant-loop-entries
invariant-loop-entries g l = record {
  pen : IsPenOf l.cells 1 l.pen;
  pass : l.pass.cells ≡ l.cells;
  count : last_count l.pen ≤ l.entries;
}
