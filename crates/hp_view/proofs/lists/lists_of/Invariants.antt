use Rattle.std.proofs.Common.{◌≡◌, take}
use Rattle.hp_view.specs.Lists.{lists_of}
use Rattle.hp_view.proofs.lists.lists_of.Given as goal

abbrev pub invariant-loop-line : goal.invariant-loop-line
invariant-loop-line l = l.lists.items ≡ lists_of (take l.line-index l.lines)
