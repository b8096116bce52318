-- The fields of the lines that allocate, and their first refusal.
use Rattle.std.specs.Prelude.{nat_lt, List, [], ◌∷◌, Result, Ok, Err}
use Rattle.std.specs.Option.{ok_or}
use Rattle.hp_script.specs.Part.{Part}
use Rattle.hp_script.specs.Judge.{◌>>=◌, refuse, number_field, party_field}
use Rattle.hp_script.specs.ShapeWords.Options.{options_of}
use Rattle.hp_script.specs.declared.bad_kind.BadKind.{BadKind}
use Rattle.hp_script.specs.declared.bad_kind.BadKind.TheVariants as bad
use Rattle.hp_script.specs.declared.line.Act.TheVariants as act
use Rattle.hp_script.specs.declared.shape.Shape.{Shape}
use Rattle.hp_script.specs.declared.shape.Shape.TheVariants.{Does}

-- `<p> alloc <label> <size> [options]`
unfoldable pub alloc_line : Part → List Part → Result Shape BadKind
alloc_line p (label ∷ n ∷ words) = do
  party ← party_field p
  size ← number_field n
  options ← ok_or (options_of words) bad.Option
  Ok (Does party (act.Alloc label size options))
alloc_line p _ = Err bad.Fields

-- `<p> zone <name> <len> [options]`, of at least one byte
unfoldable pub zone_line : Part → List Part → Result Shape BadKind
zone_line p (name ∷ n ∷ words) = do
  party ← party_field p
  len ← number_field n
  some ← refuse (nat_lt len 1) bad.Range
  options ← ok_or (options_of words) bad.Option
  Ok (Does party (act.Zone name len options))
zone_line p _ = Err bad.Fields

-- `<p> resize <label> <size>`
unfoldable pub resize_line : Part → List Part → Result Shape BadKind
resize_line p (label ∷ n ∷ []) = do
  party ← party_field p
  size ← number_field n
  Ok (Does party (act.Resize label size))
resize_line p _ = Err bad.Fields
