-- The text of the generator: a workload.
use Rattle.std.specs.Prelude.{ℕ, List, ◌++◌, codes}
use Rattle.std.specs.List.{flat_map}
use Rattle.std.specs.Fmt.{decimal}
use Rattle.hp_script.specs.DrawnWords.Generator.{generated_lines}
use Rattle.hp_script.specs.declared.drawn_line.DrawnAct.{DrawnAct}
use Rattle.hp_script.specs.declared.drawn_line.DrawnAct.TheVariants.{Alloc, Free, Resize}
use Rattle.hp_script.specs.declared.drawn_line.DrawnLine.{DrawnLine}

-- the lines that each text begins with
abbrev pub setup_text : List ℕ
setup_text = codes "participants 4\npool 0 2M 1024\npool 1 2M 1024\n"

-- the text of what a participant does: the label of line 7 is `l7`
abbrev pub drawn_act_text : DrawnAct → List ℕ
drawn_act_text (Alloc label size socket) = codes " alloc l" ++ decimal label ++ codes " " ++ decimal size ++ codes " socket=" ++ decimal socket
drawn_act_text (Free label) = codes " free l" ++ decimal label
drawn_act_text (Resize label size) = codes " resize l" ++ decimal label ++ codes " " ++ decimal size

-- the text of a line
abbrev pub drawn_line_text : DrawnLine → List ℕ
drawn_line_text line = decimal line.participant ++ drawn_act_text line.act ++ codes "\n"

-- the text of so many lines from a start
abbrev pub generated_text : ℕ → ℕ → List ℕ
generated_text start lines = setup_text ++ flat_map drawn_line_text (generated_lines start lines)
