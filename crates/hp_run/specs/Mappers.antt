-- The mappers that a run is handed: one for each participant that there can be.
use Rattle.std.specs.Prelude.{◌≡◌, ℕ, ◌≤◌, List, []}
use Rattle.hp_base.specs.Mapping.{Held}
use Rattle.hp_base.specs.declared.limits.TheConstants.{MAX_SEGMENTS}
use Rattle.hp_base.specs.declared.map_answer.MapAnswer.{MapAnswer}

-- a mapper that holds nothing, was asked nothing, and has room for a row of each segment
pub record IsUnused (held : List Held) (answers : List MapAnswer) (capacity : ℕ) : Type 0 where
  pub holds : held ≡ []
  pub calls : answers ≡ []
  pub room : MAX_SEGMENTS ≤ capacity
