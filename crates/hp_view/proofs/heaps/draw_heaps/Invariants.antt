use Rattle.std.proofs.Common.{◌≡◌, ◌++◌, drop}
use Rattle.hp_view.specs.Heaps.{heaps}
use Rattle.hp_view.proofs.heaps.draw_heaps.Given as goal

-- what is drawn and what is left are together what is to be drawn
abbrev pub invariant-loop-at : goal.invariant-loop-at
invariant-loop-at l =
    l.page ++ heaps l.lines l.lists l.records l.y (drop l.at l.lines) ≡ l.fn.page ++ heaps l.lines l.lists l.records l.top l.lines
