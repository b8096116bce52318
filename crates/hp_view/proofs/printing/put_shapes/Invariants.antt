use Rattle.std.proofs.Common.{◌≡◌, ◌++◌, take}
use Rattle.std.specs.Prelude.{string_bytes}
use Rattle.std.specs.List.{flat_map}
use Rattle.hp_view.specs.Printing.{shape_text}
use Rattle.hp_view.proofs.printing.put_shapes.Given as goal

abbrev pub invariant-loop-shape : goal.invariant-loop-shape
invariant-loop-shape l = string_bytes l.text ≡ string_bytes l.fn.text ++ flat_map shape_text (take l.shape-index l.shapes)
