-- The runs that were given up, kept one after another. No public clause cites this module.
use Rattle.std.specs.Prelude.{ℕ, List, [], ◌∷◌, ◌++◌}
use Rattle.hp_base.specs.declared.row.Run.{Run}
use Rattle.hp_segs.specs.declared.retired_log.RetiredPast.{RetiredPast}
use Rattle.hp_segs.specs.declared.retired_log.RetiredPast.TheVariants.{Nothing, Retired}

-- all of them, in their order
abbrev pub retired_in : RetiredPast → List (ℕ × Run)
retired_in Nothing = []
retired_in (Retired before heap run) = before.value ++ (heap.value, run.value) ∷ []
