-- What the moves of a board say of the segment value: who held it, one after another, and that each of them gave it back good; and that while one
-- has a heap in hand, no growth of others is open for that. The rules "Moves" of docs/BOARD.md and "Together" of docs/RUNS.md.
use Rattle.std.specs.Prelude.{◌≡◌, ℕ, List}
use Rattle.hp_base.specs.declared.limits.TheConstants.{MAX_HEAPS}
use Rattle.hp_board.specs.MovesKept.{Replays, all_free}
use Rattle.hp_board.specs.Views.{values_of}
use Rattle.hp_board.specs.declared.view.Move.{Move}
use Rattle.hp_chair.specs.Steps.{moves_in}
use Rattle.hp_hall.specs.Mail.{MailStep}
use Rattle.hp_hall.specs.declared.kept.Kept.{Kept}
use Rattle.hp_hall.specs.declared.kept.Kept.TheVariants.{Segments}
use Rattle.hp_script.specs.declared.workload.Workload.{Workload}
use Rattle.hp_segs.specs.SegsView.{SegsView}
use Rattle.hp_weave.specs.Holds.{Hold}
use Rattle.thm_run.specs.SoFar.{first_segs}
use Rattle.thm_together.specs.CameHome.{CameByHolds}

-- All slots, free, came by moves from the opening of a workload to free slots again, of which the last one has this segment value; and of each
-- participant these are the moves among its steps.
pub record CameByMoves (workload : Workload) (moves : List (ℕ × Move)) (steps : ℕ → List MailStep) (segs : SegsView) : Type 0 where
  pub first : ℕ → Kept
  pub last : ℕ → Kept
  pub opened : first MAX_HEAPS ≡ Segments (first_segs workload)
  pub left : last MAX_HEAPS ≡ Segments segs
  pub replay : Replays (all_free first) moves (all_free last)
  pub own : (who : ℕ) → values_of who moves ≡ moves_in (steps who)

-- wherever they came so, the segment value came by holds
abbrev pub HeldByMoves : Type 0
HeldByMoves = (workload : Workload) (moves : List (ℕ × Move)) (steps : ℕ → List MailStep) (segs : SegsView)
    → CameByMoves workload moves steps segs → (holds : List (Hold SegsView)) × CameByHolds workload steps holds segs
