-- Which participant lines make labels and memzone names, over the lines of a workload.
use Rattle.std.specs.Prelude.{◌≡◌, ℕ, Bool, false, List, Option, Some, None, IsSome, All}
use Rattle.std.specs.List.{find}
use Rattle.std.specs.Option.{option_map_or}
use Rattle.std.specs.Str.{bytes_eq}
use Rattle.hp_script.specs.Part.{Part}
use Rattle.hp_script.specs.ShapeWords.Acts.{label_made, label_used}
use Rattle.hp_script.specs.declared.line.Act.{Act}
use Rattle.hp_script.specs.declared.line.Act.TheVariants as act
use Rattle.hp_script.specs.declared.line.Line.{Line}

-- what an act makes: the label of an allocation, or the name of a memzone
abbrev pub name_made : Act → Option Part
name_made (act.Alloc label size options) = Some label
name_made (act.Zone name len options) = Some name
name_made _ = None

-- a line makes the name
abbrev pub makes_name : List ℕ → Line → Bool
makes_name name line = option_map_or (λ made. bytes_eq made.text name) (name_made line.act) false

-- a line makes the label
abbrev pub has_label : List ℕ → Line → Bool
has_label name line = option_map_or (λ label. bytes_eq label.text name) (label_made line.act) false

-- the first line that makes a name: its participant's is the element, and its number is the element's
abbrev pub maker_of : List Line → List ℕ → Option Line
maker_of lines name = find (makes_name name) lines

-- what a line frees or resizes is made by one of the lines
abbrev pub IsMadeIn : List Line → Line → Type 0
IsMadeIn lines line = (label : Part) → label_used line.act ≡ Some label → IsSome (maker_of lines label.text)

-- what lines free or resize they make
abbrev pub AreMade : List Line → Type 0
AreMade lines = All (IsMadeIn lines) lines
