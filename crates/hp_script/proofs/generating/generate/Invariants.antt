use Rattle.std.proofs.Common.{◌≡◌, ◌+◌, ◌-◌, ◌++◌}
use Rattle.std.specs.List.{flat_map}
use Rattle.hp_script.specs.DrawnWords.Generator.{standing, drawn_lines}
use Rattle.hp_script.specs.DrawnWords.GeneratedText.{drawn_line_text, generated_text}
use Rattle.hp_script.proofs.generating.generate.Given as goal

-- the text so far, and the lines that are left to draw
abbrev pub invariant-loop-before : goal.invariant-loop-before
invariant-loop-before l =
    l.text.items ++ flat_map drawn_line_text (drawn_lines (standing l.generator.state l.generator.live.items) (l.before + 1) (l.lines - l.before)) ≡ generated_text l.start l.lines
