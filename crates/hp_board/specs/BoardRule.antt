-- The rule of the board, which holds between any two steps of any threads. Its parts know nothing of one another.
use Rattle.std.specs.Prelude.{◌≡◌, ℕ, ◌≤◌, Option, length}
use Rattle.hp_base.specs.declared.limits.TheConstants.{MAX_PARTICIPANTS}
use Rattle.atomic_table.specs.Table.{State}
use Rattle.hp_hall.specs.declared.kept.Kept.{Kept}
use Rattle.hp_board.specs.declared.opening.Opening.{Opening}
use Rattle.hp_board.specs.declared.words.TheConstants.{WORDS}
use Rattle.hp_board.specs.Marks.{AreMarks}
use Rattle.hp_board.specs.Agreed.{AreNamesAgreed}
use Rattle.hp_board.specs.Claimed.{AreChunksClaimed}
use Rattle.hp_board.specs.MovesKept.{AreMoved}
use Rattle.hp_board.specs.NamesKept.{AreNamed}
use Rattle.hp_board.specs.Lines.{AreLines}
use Rattle.hp_board.specs.Ownership.{AreOwned}
use Rattle.hp_board.specs.SegsKept.{AreSegs}
use Rattle.hp_board.specs.declared.view.Mine.{Mine}
use Rattle.hp_board.specs.declared.view.View.{View}
use Rattle.hp_board.specs.Locks.{AreLocked}
use Rattle.hp_board.specs.HeapsKept.{AreKept}
use Rattle.hp_board.specs.Prefixes.{AreSeen}
use Rattle.hp_board.specs.Seated.{AreSeated}

-- what a table has to be for a board
pub record IsBoard (opening : Opening) (table : State (Option Kept) View) : Type 0 where
  -- the value of each slot, at home or as its holder took it; what each participant knows; and the seat of its view
  pub kept : ℕ → Kept
  pub mine : ℕ → Mine
  pub seat_of : ℕ → ℕ
  pub words : length table.words ≡ WORDS
  pub few : opening.participants ≤ MAX_PARTICIPANTS
  pub seated : AreSeated opening.participants table.views seat_of mine
  pub locked : AreLocked opening.participants table.words table.homes kept mine
  -- the heaps
  pub heaps : AreKept opening kept mine
  -- what was seen of histories
  pub prefixes : AreSeen opening kept mine
  -- marks on the chunks of heaps
  pub marked : AreMarks opening kept mine
  -- the names, and what was seen of them
  pub named : AreNamed opening kept mine
  -- what the names say of heaps and of external memory
  pub agreed : AreNamesAgreed opening.participants table.words kept mine
  -- the claimed memory of chunks
  pub claimed : AreChunksClaimed table.words kept
  -- lines that are done
  pub lines : AreLines opening table.words kept mine
  -- words, lag and agreement
  pub segments : AreSegs opening.participants table.words kept mine
  -- which segments, runs and asks are whose
  pub owned : AreOwned opening.participants table.words kept mine
  -- all that was taken and given
  pub moved : AreMoved opening table.words kept mine
