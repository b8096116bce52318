-- The names of a workload's allocations and memzones, by the number of their line.
use Rattle.std.specs.Prelude.{ℕ, Bool, List, [], ◌==◌}
use Rattle.std.specs.Option.{option_map_or}
use Rattle.std.specs.List.{find}
use Rattle.hp_script.specs.declared.line.Act.{Act}
use Rattle.hp_script.specs.declared.line.Act.TheVariants as act
use Rattle.hp_script.specs.declared.line.Line.{Line}

-- the name that a call gives: the label of an allocation, or the name of a memzone that it reserves
abbrev pub act_name : Act → List ℕ
act_name (act.Alloc label size options) = label.text
act_name (act.Zone name len options) = name.text
act_name _ = []

-- the line has that number
abbrev pub has_number : ℕ → Line → Bool
has_number number line = line.line == number

-- the name that the number of a tag stands for: the one that the line of that number gives, or nothing without such a line
abbrev pub name_at : List Line → ℕ → List ℕ
name_at lines number = option_map_or (λ line. act_name line.act) (find (has_number number) lines) []
