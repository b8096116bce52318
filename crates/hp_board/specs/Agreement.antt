-- The roster's part of "Agreement" of the rule in docs/BOARD.md, and what a give tells of rows that become agreed.
use Rattle.std.specs.Prelude.{◌≡◌, ◌⊎◌, ℕ, ◌<◌, ◌≤◌, true, false, Contains, IfSome, Option, Some, None, ⊤}
use Rattle.hp_base.specs.declared.row.Row.{Row}
use Rattle.hp_segs.specs.SegsView.{SegsView, is_member, is_opened}
use Rattle.hp_segs.specs.declared.row_state.Segment.{Segment}
use Rattle.hp_hall.specs.declared.kept.Kept.{Kept}
use Rattle.hp_hall.specs.declared.kept.Kept.TheVariants.{Heap, Names, Segments}
use Rattle.hp_hall.specs.Views.{segs_of}
use Rattle.hp_board.specs.Views.{noted_of}
use Rattle.hp_board.specs.declared.view.Mine.{Mine}

-- the roster names participants of the board alone
abbrev pub IsDeclaredRoster : ℕ → SegsView → Type 0
IsDeclaredRoster participants segs = (who : ℕ) → is_member segs.roster who ≡ true → who < participants

-- a segment value has the row, and not as an opened one: agreed, or owned by a heap, or given up
pub record HasInUse (segs : SegsView) (row : Row) : Type 0 where
  pub segment : Segment
  pub among : Contains segs.segments segment
  pub its_row : segment.row ≡ row
  pub used : is_opened segment.state ≡ false

-- each row that is agreed, owned or given up in a given value was that in the taken one, or each member of the roster has acknowledged its
-- record, by the numbers that the giver has loaded
abbrev pub AreAgreedBy : Mine → SegsView → SegsView → Type 0
AreAgreedBy mine taken given = (row : Row) (member : ℕ) → HasInUse given row → is_member given.roster member ≡ true
    → HasInUse taken row ⊎ (row.generation ≤ noted_of member mine)

-- rows become agreed only by numbers that the giver has loaded, in values that were taken and are given for a slot, where these are segment
-- values
abbrev pub AgreesFrom : Mine → Option Kept → Kept → Type 0
AgreesFrom mine (Some (Segments taken)) given = IfSome (segs_of given) (AreAgreedBy mine taken)
AgreesFrom mine (Some (Heap heap pen)) given = ⊤
AgreesFrom mine (Some (Names names)) given = ⊤
AgreesFrom mine None given = ⊤
