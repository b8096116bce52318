use Rattle.std.proofs.Common.{◌≡◌, ◌+◌, length}
use Rattle.std.specs.Prelude.{filter}
use Rattle.std.specs.Option.{option_map_or}
use Rattle.hp_script.specs.Text.{parts_left, is_filled}
use Rattle.hp_script.specs.declared.text.Separator.TheVariants.{Blank}
use Rattle.hp_script.proofs.fields_left.FieldsLeft.take.Given as goal

-- empty parts may be gone
abbrev pub invariant-loop-text : goal.invariant-loop-text
invariant-loop-text l = filter is_filled (parts_left Blank l.self-inside.rest) ≡ l.fn.self

abbrev pub decreases-loop-text : goal.decreases-loop-text
decreases-loop-text l = option_map_or (λ rest. length rest.text + 1) l.self-inside.rest 0
