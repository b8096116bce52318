-- What a line says by its fields alone, or its first refusal by them.
use Rattle.std.specs.Prelude.{Bool, List, [], ◌∷◌, slice_index, Result, Ok, Err, if◌then◌else◌}
use Rattle.std.specs.Char.{is_ascii_digit}
use Rattle.std.specs.Option.{ok_or}
use Rattle.hp_script.specs.Part.{Part}
use Rattle.hp_script.specs.Judge.{◌>>=◌}
use Rattle.hp_script.specs.ShapeWords.Verbs.{verb_named, setup_named}
use Rattle.hp_script.specs.ShapeWords.ShapesMemory.{alloc_line, zone_line, resize_line}
use Rattle.hp_script.specs.ShapeWords.ShapesHeaps.{name_line, range_line, add_line}
use Rattle.hp_script.specs.ShapeWords.ShapesMembers.{member_line, limit_line, unlimit_line, await_line}
use Rattle.hp_script.specs.ShapeWords.ShapesSetup.{participants_line, absent_line, socket_line, deadline_line, pool_line, message_line, mapping_line}
use Rattle.hp_script.specs.declared.bad_kind.BadKind.{BadKind}
use Rattle.hp_script.specs.declared.bad_kind.BadKind.TheVariants as bad
use Rattle.hp_script.specs.declared.verb.Verb.{Verb}
use Rattle.hp_script.specs.declared.verb.Verb.TheVariants.{Alloc, Zone, Resize, Name, Member, Add, Range, Limit, Unlimit, Await}
use Rattle.hp_script.specs.declared.verb.SetupVerb.{SetupVerb}
use Rattle.hp_script.specs.declared.verb.SetupVerb.TheVariants as setup_verb
use Rattle.hp_script.specs.declared.shape.Setup.{Setup}
use Rattle.hp_script.specs.declared.shape.Shape.{Shape}
use Rattle.hp_script.specs.declared.shape.Shape.TheVariants as said

-- a line whose first field begins with a digit is a participant line
abbrev pub is_participant_line : Part → Bool
is_participant_line first = is_ascii_digit (slice_index first.text 0)

-- the fields after a verb
abbrev pub act_line : Verb → Part → List Part → Result Shape BadKind
act_line Alloc party arguments = alloc_line party arguments
act_line Zone party arguments = zone_line party arguments
act_line Resize party arguments = resize_line party arguments
act_line (Name call) party arguments = name_line call party arguments
act_line (Member call) party arguments = member_line call party arguments
act_line Add party arguments = add_line party arguments
act_line (Range call) party arguments = range_line call party arguments
act_line Limit party arguments = limit_line party arguments
act_line Unlimit party arguments = unlimit_line party arguments
act_line Await party arguments = await_line party arguments

-- a participant line: the participant, a verb, and its fields
unfoldable pub participant_line : Part → List Part → Result Shape BadKind
participant_line party [] = Err bad.Fields
participant_line party (word ∷ arguments) = do
  verb ← ok_or (verb_named word) bad.Verb
  act_line verb party arguments

-- the fields after the first field of a setup line
abbrev pub setup_act : SetupVerb → List Part → Result Setup BadKind
setup_act setup_verb.Participants arguments = participants_line arguments
setup_act setup_verb.Absent arguments = absent_line arguments
setup_act setup_verb.Socket arguments = socket_line arguments
setup_act setup_verb.Deadline arguments = deadline_line arguments
setup_act setup_verb.Pool arguments = pool_line arguments
setup_act (setup_verb.Message twice) arguments = message_line twice arguments
setup_act (setup_verb.Mapping elsewhere) arguments = mapping_line elsewhere arguments

-- a setup line: its word, and its fields
unfoldable pub setup_line : Part → List Part → Result Shape BadKind
setup_line word arguments = do
  verb ← ok_or (setup_named word) bad.Verb
  setup ← setup_act verb arguments
  Ok (said.Setup setup)

-- what a line with these fields says, or its first refusal by them
abbrev pub shape_of : List Part → Result Shape BadKind
shape_of [] = Err bad.Fields
shape_of (first ∷ others) = if is_participant_line first then participant_line first others else setup_line first others
