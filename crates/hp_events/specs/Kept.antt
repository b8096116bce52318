-- Rows that are kept one after another. No public clause cites this module.
use Rattle.std.specs.Prelude.{List, [], ◌∷◌, ◌++◌}
use Rattle.hp_base.specs.declared.row.Row.{Row}
use Rattle.hp_events.specs.declared.rows_then.Past.{Past}
use Rattle.hp_events.specs.declared.rows_then.Past.TheVariants.{Nothing, Behind}

-- all rows, in their order
abbrev pub rows_in : Past → List Row
rows_in Nothing = []
rows_in (Behind before row) = before.value ++ row ∷ []
