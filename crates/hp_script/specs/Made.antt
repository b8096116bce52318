-- What a line was found to make.
use Rattle.std.specs.Prelude.{◌≡◌, ℕ, List, Option, Some, None, if◌then◌else◌}
use Rattle.std.specs.Option.{option_or}
use Rattle.hp_script.specs.Part.{Part}
use Rattle.hp_script.specs.Makers.{is_maker}
use Rattle.hp_script.specs.declared.made.Made.{Made}
use Rattle.hp_script.specs.declared.made.Made.TheVariants.{Label, Zone}

-- the label, if it is one
abbrev pub label_in : Option Made → Option (List ℕ)
label_in (Some (Label name)) = Some name.text
label_in _ = None

-- the name of a memzone, if it is one
abbrev pub zone_in : Option Made → Option (List ℕ)
zone_in (Some (Zone name)) = Some name.text
zone_in _ = None

-- a line of this number was noted by a verb: a name that had no line, and that it makes with the verb, has this number; all others
-- stay
abbrev pub Notes : List ℕ → Part → ℕ → (List ℕ → Option ℕ) → (List ℕ → Option ℕ) → Type 0
Notes verb line number old new =
    (name : List ℕ) → new name ≡ option_or (old name) (if is_maker verb name line then Some number else None)
