use Rattle.std.proofs.Common.{◌≡◌, drop}
use Rattle.hp_view.specs.Logs.{peak}
use Rattle.hp_view.proofs.log.peak.Given as goal

-- the most of all records is the most of those that are left, or that of those before
abbrev pub invariant-loop-line : goal.invariant-loop-line
invariant-loop-line l = peak l.key l.lists l.total l.most (drop l.line-index l.lines) ≡ peak l.key l.lists 0 0 l.lines
