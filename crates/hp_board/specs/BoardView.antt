-- What contracts see of a board.
use Rattle.atomic_table.specs.Seated.{TableId}
use Rattle.hp_board.specs.declared.opening.Opening.{Opening}

-- which board it is, and what it opened with
pub record BoardView : Type 0 where
  pub id : TableId
  pub opening : Opening
