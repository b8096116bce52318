-- Which lines of a text make which labels and memzone names.
use Rattle.std.specs.Prelude.{ℕ, ◌+◌, Bool, false, ◌&&◌, ◌||◌, nat_lt, List, [], ◌∷◌, Option, Some, None, is_some, is_none, if◌then◌else◌, codes}
use Rattle.std.specs.Option.{option_map_or}
use Rattle.std.specs.Str.{bytes_eq}
use Rattle.hp_script.specs.Part.{Part, is_word}
use Rattle.hp_script.specs.Text.{fields_of}
use Rattle.hp_script.specs.ShapeWords.Shapes.{is_participant_line}

-- what a line makes with a verb, by its fields: those of a participant line with this verb and a third field
abbrev pub made_by : List ℕ → List Part → Option (List ℕ)
made_by verb (first ∷ word ∷ name ∷ others) = if is_participant_line first && is_word verb word then Some name.text else None
made_by verb _ = None

-- a line makes this name with a verb
abbrev pub is_maker : List ℕ → List ℕ → Part → Bool
is_maker verb name line = option_map_or (λ made. bytes_eq made name) (made_by verb (fields_of line)) false

-- the first line, numbered from a number on, that makes a name with a verb
abbrev pub first_maker : List ℕ → List Part → ℕ → List ℕ → Option ℕ
first_maker verb [] number name = None
first_maker verb (line ∷ others) number name =
    if is_maker verb name line then Some number else first_maker verb others (number + 1) name

-- the first line that makes each label, and the first that makes each memzone name
pub record Makers : Type 0 where
  pub alloc_line : List ℕ → Option ℕ
  pub zone_line : List ℕ → Option ℕ

-- the makers of a text with these lines
abbrev pub makers_of : List Part → Makers
makers_of lines = record { alloc_line = first_maker (codes "alloc") lines 1; zone_line = first_maker (codes "zone") lines 1 }

-- a line that may be none stands before the line of a number
abbrev pub is_earlier : Option ℕ → ℕ → Bool
is_earlier None number = false
is_earlier (Some first) number = nat_lt first number

-- a label on the `alloc` line of a number is taken by an earlier `alloc` line, or by any `zone` line
abbrev pub is_taken : Makers → ℕ → List ℕ → Bool
is_taken makers number label = is_some (makers.zone_line label) || is_earlier (makers.alloc_line label) number

-- no line makes the label or name
abbrev pub is_unmade : Makers → List ℕ → Bool
is_unmade makers label = is_none (makers.alloc_line label) && is_none (makers.zone_line label)
