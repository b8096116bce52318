-- How a participant's table is kept. No public clause cites this module.
use Rattle.std.specs.Prelude.{◌≡◌, ℕ, ◌≤◌, List, length}
use Rattle.std.specs.List.{All}
use Rattle.hp_base.specs.Mapping.{AreApart, Held, IsWithin, owned}
use Rattle.hp_base.specs.declared.map_answer.MapAnswer.{MapAnswer}
use Rattle.hp_base.specs.declared.row.Row.{Row}

-- the rows are those that are held, each with an address of its own, the calls are counted, and there is memory and room in the mapper
-- for as many rows as there may be
pub record IsKept (rows : List Row) (held : List Held) (capacity memory mapper_capacity calls : ℕ) (answers : List MapAnswer) : Type 0 where
  pub mapped : held ≡ owned rows
  pub counted : calls ≡ length answers
  pub fits : capacity ≤ memory
  pub room : capacity ≤ mapper_capacity
  pub holds : length rows ≤ capacity
  pub near : All IsWithin rows
  pub apart : AreApart rows
