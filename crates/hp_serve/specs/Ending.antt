-- What a participant leaves at the end of a run: the rule "Ending" of docs/RUNS.md.
use Rattle.std.specs.Prelude.{◌≡◌}
use Rattle.hp_base.specs.Mapping.{owned}
use Rattle.hp_maps.specs.declared.table.Table.{Table}
use Rattle.hp_serve.specs.Party.{Party}

-- a participant leaves this table: it is attached or not, has taken in so many records, and has these rows, which are exactly those that
-- its mapper holds, each at its own place
pub record LeavesTable (party : Party) (table : Table) : Type 0 where
  pub joined : table.joined ≡ party.joined
  pub number : table.number ≡ party.maps.number
  pub rows : table.rows.items ≡ party.maps.rows
  pub mapped : party.maps.held ≡ owned table.rows.items
