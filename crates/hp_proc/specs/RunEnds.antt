-- What a run leaves of the names, of external memory, and of who has attached it, beside what IsEnd says of heaps, segments and tables.
use Rattle.std.specs.Prelude.{◌≡◌, ℕ, ◌<◌, List, length, Some, slice_get}
use Rattle.std.specs.List.{All, AllByRecursion}
use Rattle.hp_base.specs.declared.limits.TheConstants.{MAX_HEAPS}
use Rattle.hp_external.specs.Tie.{AreMarked, IsOfClaim}
use Rattle.hp_heap.specs.History.{HeapView}
use Rattle.hp_maps.specs.declared.table.Table.{Table}
use Rattle.hp_script.specs.declared.workload.Workload.{Workload}
use Rattle.hp_segs.specs.SegsView.{SegsView}
use Rattle.hp_proc.specs.AwaitedNames.{AreAwaitedFor}
use Rattle.hp_proc.specs.Doing.{Done}
use Rattle.hp_proc.specs.Handed.{AreHanded}
use Rattle.hp_proc.specs.LinesDone.{Course, courses_of, trace_of}
use Rattle.hp_proc.specs.NamesAtEnd.{AreClaimsOf, AreZonesOf, IsDirectoryOf}
use Rattle.hp_proc.specs.NamesLog.{AreChangesOf}
use Rattle.hp_proc.specs.SharedNames.{SharedNames}

-- what was done for each participant's lines
abbrev pub did_of : List Course → ℕ → List Done
did_of courses who = trace_of (courses_of who courses)

-- a participant's table has the rows of exactly those chunks of each heap on which it has its mark, and no other rows of external memory, so that
-- with `IsDirectoryOf` each heap is tied to it (`IsTiedHeap` of hp_external); one that is out has no mark, since it has no row
pub record HasAttached (heaps : List HeapView) (segs : SegsView) (who : ℕ) (table : Table) : Type 0 where
  pub marked : All (λ heap. AreMarked who table.rows.items heap.plain.chunks) heaps
  pub known : AllByRecursion (IsOfClaim segs.ranges) table.rows.items

-- how a run ends with its names
pub record EndsWithNames (workload : Workload) (courses : List Course) (names : SharedNames) (heaps : List HeapView) (segs : SegsView)
    (tables : List Table) : Type 0 where
  -- the names' changes are those of the lines and no others; there are all heaps; the directory is that of their names and chunks, the memzones
  -- are those of their elements, and the segment value has exactly the external memory of their chunks
  pub changes : AreChangesOf workload (did_of courses) names
  pub count : length heaps ≡ MAX_HEAPS
  pub directory : IsDirectoryOf workload names segs.ranges heaps
  pub zones : AreZonesOf names heaps
  pub claimed : AreClaimsOf heaps segs.ranges
  -- what a participant is handed of the names and of the heaps never falls from line to line, and holds what it did before; and what was
  -- awaited stands first
  pub handed : (who : ℕ) → AreHanded names heaps who (did_of courses who)
  pub awaited_for : AreAwaitedFor courses heaps
  -- each participant has attached what has its mark
  pub attached : (who : ℕ) (table : Table) → slice_get tables who ≡ Some table → HasAttached heaps segs who table
