-- What a closed board hands out of the names, of external memory, and of who has attached it: the rules "Agreed names" of docs/BOARD.md and "Together"
-- of docs/RUNS.md.
use Rattle.std.specs.Prelude.{◌≡◌, ℕ, List, length, Some, slice_get}
use Rattle.std.specs.List.Sorted.{IsPermutation}
use Rattle.hp_base.specs.declared.limits.TheConstants.{MAX_HEAPS}
use Rattle.hp_heap.specs.History.{HeapView}
use Rattle.hp_maps.specs.declared.table.Table.{Table}
use Rattle.hp_script.specs.declared.answer.Answer.{Answer}
use Rattle.hp_script.specs.declared.workload.Workload.{Workload}
use Rattle.hp_segs.specs.SegsView.{SegsView}
use Rattle.hp_zone.specs.Directory.{HasSocketHeaps, directory_at}
use Rattle.hp_proc.specs.Handed.{AreNamesHanded, names_shown}
use Rattle.hp_proc.specs.Handing.{shared_of}
use Rattle.hp_proc.specs.LinesDone.{trace_of}
use Rattle.hp_proc.specs.Heaps.{sockets_of}
use Rattle.hp_proc.specs.NamesAtEnd.{AreClaimsOf, AreZonesOf, IsDirectoryOf}
use Rattle.hp_proc.specs.NamesLog.{changes_in, changes_made}
use Rattle.hp_proc.specs.RunEnds.{HasAttached}
use Rattle.hp_proc.specs.SharedNames.{SharedNames, no_changes}
use Rattle.thm_moved.specs.AtBoard.{AllCameToTheirSeats}

-- there are all heaps; the directory is that of their names and chunks, the memzones are those of their elements, and the external memory of their
-- chunks is what is claimed; each socket has its heap; and each participant has attached exactly what has its mark
pub record AreLeftSo (workload : Workload) (names : SharedNames) (heaps : List HeapView) (segs : SegsView) (tables : List Table) : Type 0 where
  pub count : length heaps ≡ MAX_HEAPS
  pub directory : IsDirectoryOf workload names segs.ranges heaps
  pub zones : AreZonesOf names heaps
  pub claimed : AreClaimsOf heaps segs.ranges
  pub sockets : (front : ℕ) → HasSocketHeaps (sockets_of workload.pools.items)
      (directory_at (sockets_of workload.pools.items) names.heaps front)
  pub attached : (who : ℕ) (table : Table) → slice_get tables who ≡ Some table → HasAttached heaps segs who table

-- the names that each participant is handed in its lines are fronts of those that the board hands out, and never grow shorter from line to line
abbrev pub NamesHandedAtBoard : Type 0
NamesHandedAtBoard = (workload : Workload) (answers : List Answer) (heaps : List HeapView) (segs : SegsView) (tables : List Table)
    (all : AllCameToTheirSeats workload answers heaps segs tables) (who : ℕ)
    → AreNamesHanded (shared_of all.names) (names_shown no_changes (trace_of (all.courses who)))

-- and these have the changes that the lines made and no others, each at the place in its log at which its line made it
abbrev pub NamesChangedAtBoard : Type 0
NamesChangedAtBoard = (workload : Workload) (answers : List Answer) (heaps : List HeapView) (segs : SegsView) (tables : List Table)
    (all : AllCameToTheirSeats workload answers heaps segs tables)
    → IsPermutation (changes_made workload.participants (λ who. trace_of (all.courses who))) (changes_in (shared_of all.names))

-- and so the names, the heaps, external memory and the tables are left
abbrev pub NamesLeftAtBoard : Type 0
NamesLeftAtBoard = (workload : Workload) (answers : List Answer) (heaps : List HeapView) (segs : SegsView) (tables : List Table)
    (all : AllCameToTheirSeats workload answers heaps segs tables) → AreLeftSo workload (shared_of all.names) heaps segs tables
