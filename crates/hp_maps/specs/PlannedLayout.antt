-- How a mapper with a plan is kept. No public clause cites this module.
use Rattle.std.specs.Prelude.{◌≡◌, ℕ, ◌<◌, ◌≤◌, List, [], ◌∷◌, length, Option, Some, None, IfSome}
use Rattle.hp_base.specs.Mapping.{Held, next_place}
use Rattle.hp_base.specs.declared.map_answer.MapAnswer.{MapAnswer}
use Rattle.hp_base.specs.declared.row.Row.{Row}

-- a row that is misplaced is held one page further on
abbrev pub misplaced_held : Option Row → List Held
misplaced_held None = []
misplaced_held (Some row) = record { row = row; got = next_place row } ∷ []

-- the calls are counted, those of the other mapper are among them, and a misplaced row has bytes
pub record IsPlanned (misplaced : Option Row) (calls refused : ℕ) (answers asked : List MapAnswer) : Type 0 where
  pub counted : calls ≡ length answers
  pub fewer : length asked ≤ length answers
  pub own : refused ≤ length answers
  pub aside : IfSome misplaced (λ row. 0 < row.page)
