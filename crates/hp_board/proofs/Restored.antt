-- A participant that acknowledges the Drop of a growth that failed has the table from before that.
use Rattle.std.proofs.Common.{◌≡◌, ℕ, refl, sym, subst, ◌∙◌}
use Rattle.hp_log.specs.Log.{IsWellFormed}
use Rattle.hp_board.specs.Restoring.{IsRestored}
use Rattle.hp_board.specs.Views.{after_acking}
use Rattle.hp_board.specs.declared.view.Mine.{Mine}
use Rattle.hp_board.proofs.OwnershipFacts.TablesKnown.{known_at, restored_at}
use Rattle.hp_board.proofs.OwnershipFacts.TablesLeft.{table_joining}

pub restores : (old : Mine) (number : ℕ) → IsWellFormed old.log → IsRestored (after_acking number old)
restores old number formed failed =
    table_joining (after_acking number old) old.joined refl refl
    ∙ known_at old.log number
    ∙ restored_at old.log number failed.heap failed.run formed failed.two failed.added failed.dropped

-- so has who acknowledges it
pub restored_by : (old new : Mine) (number : ℕ) → new ≡ after_acking number old → IsWellFormed old.log → IsRestored new
restored_by old new number is formed = subst IsRestored (sym is) (restores old number formed)
