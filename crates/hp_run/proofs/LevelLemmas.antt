-- Where the plan of a workload loses no message, nothing is left to do at the end of its run.
use Rattle.std.proofs.Common.{◌≡◌, ◌∙◌, ℕ, true, false, List, [], get_or, length, Option, Some, None, refl, sym, ap}
use Rattle.std.specs.List.{All, slice_get}
use Rattle.hp_base.specs.declared.limits.TheConstants.{MAX_HEAPS}
use Rattle.hp_base.specs.declared.row.Run.{Run}
use Rattle.hp_plain.specs.HallView.{segs_in, slot_at}
use Rattle.hp_maps.specs.declared.table.Table.{Table}
use Rattle.hp_script.specs.declared.answer.Answer.{Answer}
use Rattle.hp_script.specs.declared.workload.Workload.{Workload}
use Rattle.hp_segs.specs.SegsView.{SegsView, is_retiring}
use Rattle.hp_segs.specs.Sound.{IsSound}
use Rattle.hp_segs.specs.SoundRows.{in_runs}
use Rattle.hp_serve.specs.Ending.{LeavesTable}
use Rattle.hp_serve.specs.Party.{Party}
use Rattle.hp_solo.specs.Ending.{LeaveTables, LeavesThere}
use Rattle.hp_solo.specs.Solo.{AloneView, SoloView, party_at}
use Rattle.thm_run.proofs.HallFacts.HallHeaps.{all_from_places}
use Rattle.thm_causes.specs.Counting.{LosesNothing}
use Rattle.thm_causes.specs.Threads.{IsAllDone, ThreadsEndLevel}
use Rattle.hp_run.specs.Ending.{AllCaughtUp}
use Rattle.hp_run.specs.Running.{HaveDoneLines, IsRunnable}
use Rattle.hp_run.proofs.ReasonLemmas.{may_run}

-- nothing of what was given up is left, so no segment is Retiring
none_retires : (segs : SegsView) → IsSound segs → segs.retiring ≡ [] → All (λ segment. is_retiring segment.state ≡ false) segs.segments
none_retires segs sound gone = λ place segment within.
    sound.rows.retired place segment within ∙ ap (λ (runs : List Run). in_runs runs (get_or segs.segments place segment).row) gone

-- one that leaves a table is there
there_for : (place : Option Party) (table : Table) → LeavesThere place table
    → (party : Party) × (place ≡ Some party) × LeavesTable party table
there_for None table leaves = absurd leaves
there_for (Some party) table leaves = (party, refl, leaves)

module _ (servers : List AloneView) (segs : SegsView) (tables : List Table) (leave : LeaveTables servers tables)
    (done : IsAllDone segs servers) where
  -- the table of one that is attached has taken in all records
  has_taken_in : (who : ℕ) (table : Table) → slice_get tables who ≡ Some table → table.joined ≡ true → table.number ≡ length segs.log
  has_taken_in who table there joined =
      let its = there_for (party_at servers who) table (leave.each who table there) in
      its.2.number ∙ done.level who its.0 its.1 (sym its.2.joined ∙ joined)

  level_end : IsSound segs → AllCaughtUp segs tables
  level_end sound = record {
    gone = none_retires segs sound done.gone;
    taken_in = all_from_places (λ (table : Table). table.joined ≡ true → table.number ≡ length segs.log) tables has_taken_in;
  }

-- so it is after the last line
pub level_so : (workload : Workload) (answers : List Answer) (last : SoloView) (segs : SegsView) → IsRunnable workload → ThreadsEndLevel
    → HaveDoneLines workload workload.lines.items answers last → segs_in (slot_at last.plain MAX_HEAPS) ≡ Some segs → IsSound segs
    → (tables : List Table) → LeaveTables last.servers tables → LosesNothing workload.plan.items → AllCaughtUp segs tables
level_so workload answers last segs runnable law done shown sound tables leave nothing =
    level_end last.servers segs tables leave
    (law workload done.thread.first last done.courses done.parties segs (may_run workload done.courses runnable done.lines_are)
    done.thread.opens done.thread.thread done.so_far shown nothing) sound
