use Rattle.std.proofs.Common.{◌≡◌, ◌++◌, drop}
use Rattle.hp_view.specs.Ticks.{ticks}
use Rattle.hp_view.proofs.pages.draw_ticks.Given as goal

-- what is drawn and what is left are together what is to be drawn
abbrev pub invariant-loop-line : goal.invariant-loop-line
invariant-loop-line l = l.page ++ ticks l.lists l.heap l.total l.y l.before (drop l.line-index l.lines) ≡ l.fn.page ++ ticks l.lists l.heap l.total l.y 0 l.lines
