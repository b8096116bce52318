use Rattle.std.proofs.Common.{◌≡◌, ◌++◌, drop, None}
use Rattle.hp_view.specs.Asks.{refusals}
use Rattle.hp_view.proofs.asks.draw_refusals.Given as goal

-- what is drawn and what is left are together what is to be drawn
abbrev pub invariant-loop-at : goal.invariant-loop-at
invariant-loop-at l =
    l.page ++ refusals l.lines l.records l.y l.at l.after l.mark (drop l.at l.lines) ≡ l.fn.page ++ refusals l.lines l.records l.y 0 0 None l.lines
