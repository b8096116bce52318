-- What a line has done, by its act and its answer.
use Rattle.std.specs.Prelude.{Bool, true, false}
use Rattle.hp_script.specs.declared.answer.Answer.{Answer}
use Rattle.hp_script.specs.declared.answer.Answer.TheVariants as answer
use Rattle.hp_script.specs.declared.line.Act.{Act}
use Rattle.hp_script.specs.declared.line.Act.TheVariants as act
use Rattle.hp_run.specs.declared.deed.Deed.{Deed}
use Rattle.hp_run.specs.declared.deed.Deed.TheVariants.{Allocated, Freed, Resized}

-- an allocation with an address, a free that was done, and a resize that was
abbrev pub is_allocation : Act → Answer → Bool
is_allocation (act.Alloc label size options) (answer.Address addr) = true
is_allocation _ _ = false

abbrev pub is_free_done : Act → Answer → Bool
is_free_done (act.Free label) answer.Done = true
is_free_done _ _ = false

abbrev pub is_resize_done : Act → Answer → Bool
is_resize_done (act.Resize label size) answer.Yes = true
is_resize_done _ _ = false

abbrev pub is_done : Deed → Act → Answer → Bool
is_done Allocated = is_allocation
is_done Freed = is_free_done
is_done Resized = is_resize_done
