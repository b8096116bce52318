-- The fields of the lines that take one name, and of those of external heaps, and their first refusal.
use Rattle.std.specs.Prelude.{ℕ, List, [], ◌∷◌, Result, Ok, Err}
use Rattle.hp_script.specs.Part.{Part}
use Rattle.hp_script.specs.Judge.{◌>>=◌, number_field, party_field}
use Rattle.hp_script.specs.declared.bad_kind.BadKind.{BadKind}
use Rattle.hp_script.specs.declared.bad_kind.BadKind.TheVariants as bad
use Rattle.hp_script.specs.declared.line.Act.{Act}
use Rattle.hp_script.specs.declared.line.Act.TheVariants as act
use Rattle.hp_script.specs.declared.verb.NameCall.{NameCall}
use Rattle.hp_script.specs.declared.verb.NameCall.TheVariants as name_call
use Rattle.hp_script.specs.declared.verb.RangeCall.{RangeCall}
use Rattle.hp_script.specs.declared.verb.RangeCall.TheVariants as range_call
use Rattle.hp_script.specs.declared.shape.Shape.{Shape}
use Rattle.hp_script.specs.declared.shape.Shape.TheVariants.{Does}

-- what a call with one name asks for
abbrev pub name_act : NameCall → Part → Act
name_act name_call.Free name = act.Free name
name_act name_call.Lookup name = act.Lookup name
name_act name_call.Unzone name = act.Unzone name
name_act name_call.Heap name = act.Heap name
name_act name_call.Unheap name = act.Unheap name
name_act name_call.Watch name = act.Watch name
name_act name_call.Unwatch name = act.Unwatch name
name_act name_call.Dump name = act.Dump name
name_act name_call.Stats name = act.Stats name

-- `<p> free <label>`, and the other calls with one name
unfoldable pub name_line : NameCall → Part → List Part → Result Shape BadKind
name_line call p (name ∷ []) = do
  party ← party_field p
  Ok (Does party (name_act call name))
name_line call p _ = Err bad.Fields

-- what a call on a range of an external heap asks for
abbrev pub range_act : RangeCall → Part → ℕ → ℕ → Act
range_act range_call.Remove heap addr len = act.Remove heap addr len
range_act range_call.Map heap addr len = act.Map heap addr len
range_act range_call.Unmap heap addr len = act.Unmap heap addr len

-- `<p> remove <heap> <addr> <len>`, and so `map` and `unmap`
unfoldable pub range_line : RangeCall → Part → List Part → Result Shape BadKind
range_line call p (heap ∷ a ∷ n ∷ []) = do
  party ← party_field p
  addr ← number_field a
  len ← number_field n
  Ok (Does party (range_act call heap addr len))
range_line call p _ = Err bad.Fields

-- `<p> add <heap> <addr> <len> <page>`
unfoldable pub add_line : Part → List Part → Result Shape BadKind
add_line p (heap ∷ a ∷ n ∷ size ∷ []) = do
  party ← party_field p
  addr ← number_field a
  len ← number_field n
  page ← number_field size
  Ok (Does party (act.Add heap addr len page))
add_line p _ = Err bad.Fields
