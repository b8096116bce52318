-- What lines say by their fields, and which of them say what is said at most once.
use Rattle.std.specs.Prelude.{ℕ, Bool, false, ◌==◌, Option, Some, None, if◌then◌else◌}
use Rattle.std.specs.Result.{result_ok}
use Rattle.hp_script.specs.Part.{Part}
use Rattle.hp_script.specs.Text.{fields_of, is_skipped}
use Rattle.hp_script.specs.ShapeWords.Shapes.{shape_of}
use Rattle.hp_script.specs.declared.shape.Setup.{Setup as SetupLine}
use Rattle.hp_script.specs.declared.shape.Setup.TheVariants.{Absent, Socket}
use Rattle.hp_script.specs.declared.shape.Shape.{Shape}
use Rattle.hp_script.specs.declared.shape.Shape.TheVariants.{Setup}

-- what a line says, if it is not skipped and its fields say something
abbrev pub said_in : Part → Option Shape
said_in line = if is_skipped (fields_of line) then None else result_ok (shape_of (fields_of line))

-- a setup says that a participant is absent
abbrev pub is_absence : ℕ → SetupLine → Bool
is_absence party (Absent other) = other == party
is_absence party _ = false

-- a setup gives a participant its socket
abbrev pub is_placement : ℕ → SetupLine → Bool
is_placement party (Socket other socket) = other == party
is_placement party _ = false

-- what is said is such a setup
abbrev pub says : (SetupLine → Bool) → Option Shape → Bool
says test (Some (Setup setup)) = test setup
says test _ = false

-- a line says `absent` of a participant, or `socket`
abbrev pub says_absent : ℕ → Part → Bool
says_absent party line = says (is_absence party) (said_in line)

abbrev pub says_socket : ℕ → Part → Bool
says_socket party line = says (is_placement party) (said_in line)
