use Rattle.std.proofs.Common.{◌≡◌, ◌++◌, length}
use Rattle.hp_view.specs.Form.{fields_of}
use Rattle.hp_view.proofs.form.read_fields.Given as goal

-- the fields so far and those of the rest are those of the line
abbrev pub invariant-loop-n : goal.invariant-loop-n
invariant-loop-n l = l.fields.items ++ fields_of l.rest ≡ fields_of l.text

abbrev pub decreases-loop-n : goal.decreases-loop-n
decreases-loop-n l = length l.rest
