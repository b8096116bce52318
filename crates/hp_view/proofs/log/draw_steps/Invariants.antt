use Rattle.std.proofs.Common.{◌≡◌, ◌++◌, drop}
use Rattle.hp_view.specs.Logs.{steps}
use Rattle.hp_view.proofs.log.draw_steps.Given as goal

-- what is drawn and what is left are together what is to be drawn
abbrev pub invariant-loop-line : goal.invariant-loop-line
invariant-loop-line l = l.page ++ steps l.lines l.lists l.chart l.at l.total (drop l.line-index l.lines) ≡ l.fn.page ++ steps l.lines l.lists l.chart 0 0 l.lines
