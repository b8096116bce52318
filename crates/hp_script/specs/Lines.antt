-- What allocation lines name: their labels and their sizes.
use Rattle.std.specs.Prelude.{ℕ, List, []}
use Rattle.hp_script.specs.declared.line.Act.{Act}
use Rattle.hp_script.specs.declared.line.Act.TheVariants as act
use Rattle.hp_script.specs.declared.line.Line.{Line}

-- the label of an allocation, and nothing for another call
abbrev pub act_label : Act → List ℕ
act_label (act.Alloc label size options) = label.text
act_label _ = []

abbrev pub label_of : Line → List ℕ
label_of line = act_label line.act

-- the size of an allocation, and 0 for another call
abbrev pub act_size : Act → ℕ
act_size (act.Alloc label size options) = size
act_size _ = 0

abbrev pub size_of : Line → ℕ
size_of line = act_size line.act
