use Rattle.std.proofs.Common.{◌≡◌, ◌++◌, drop}
use Rattle.hp_view.specs.Tables.{tables}
use Rattle.hp_view.proofs.tables.draw_rows.Given as goal

-- what is drawn and what is left are together what is to be drawn
abbrev pub invariant-loop-line : goal.invariant-loop-line
invariant-loop-line l = l.page ++ tables l.records l.y (drop l.line-index l.lines) ≡ l.fn.page ++ tables l.records l.top l.lines
