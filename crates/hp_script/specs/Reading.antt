-- One line of a text: what it adds to what was read, or its first refusal.
use Rattle.std.specs.Prelude.{◌≡◌, ℕ, Result, Ok, Err, if◌then◌else◌}
use Rattle.hp_script.specs.Part.{Part}
use Rattle.hp_script.specs.Text.{fields_of, is_skipped}
use Rattle.hp_script.specs.Words.{tokens_in}
use Rattle.hp_script.specs.Judge.{◌>>=◌}
use Rattle.hp_script.specs.ShapeWords.Shapes.{shape_of}
use Rattle.hp_script.specs.Makers.{Makers}
use Rattle.hp_script.specs.Setups.{set_up}
use Rattle.hp_script.specs.ShapeWords.Acts.{add_act, add_await}
use Rattle.hp_script.specs.declared.bad_kind.BadKind.{BadKind}
use Rattle.hp_script.specs.declared.line_fault.LineFault.{LineFault}
use Rattle.hp_script.specs.declared.line_fault.LineFault.TheVariants as line_fault
use Rattle.hp_script.specs.declared.shape.Shape.{Shape}
use Rattle.hp_script.specs.declared.shape.Shape.TheVariants.{Setup, Does, Awaits}
use Rattle.hp_script.specs.declared.reader.Reader.{Reader}

-- what a line says is taken in
unfoldable pub said_step : Makers → Reader → ℕ → Shape → Result Reader BadKind
said_step makers read number (Setup setup) = set_up read number setup
said_step makers read number (Does party deed) = add_act makers read number party deed
said_step makers read number (Awaits party other k) = add_await read number party other k

-- a line that is not skipped is judged by its bytes, by the length of its fields, by its fields, and along the text
unfoldable pub judged : Makers → Reader → ℕ → Part → Result Reader BadKind
judged makers read number line = do
  tokens ← tokens_in line
  said ← shape_of tokens
  said_step makers read number said

-- a line adds to what was read, or is refused
unfoldable pub read_line : Makers → Reader → ℕ → Part → Result Reader BadKind
read_line makers read number line =
    if is_skipped (fields_of line) then Ok read else judged makers read number line

-- a step is the definition's, unless memory runs out
abbrev pub Steps : {A : Type 0} → Result (Unit {0}) LineFault → A → Result A BadKind → Type 0
Steps (Ok done) new step = step ≡ Ok new
Steps (Err (line_fault.Bad kind)) new step = step ≡ Err kind
Steps (Err line_fault.OutOfMemory) new step = Unit {0}
