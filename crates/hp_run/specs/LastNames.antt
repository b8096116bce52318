-- What the names are at the end of a run, in one thread and on threads: the rule "Agreed names" of docs/PARTICIPANTS.md.
use Rattle.std.specs.Prelude.{◌≡◌, List}
use Rattle.hp_board.specs.Closing.{left_naming}
use Rattle.hp_hall.specs.AgreedNames.{AreAgreedNames}
use Rattle.hp_heap.specs.History.{HeapView}
use Rattle.hp_proc.specs.Heaps.{sockets_of}
use Rattle.hp_script.specs.declared.workload.Workload.{Workload}
use Rattle.hp_segs.specs.SegsView.{SegsView}
use Rattle.hp_zone.specs.declared.names.Names.{Names as NamesView}
use Rattle.thm_run.specs.SoFar.{AreSoundNames}

-- the names opened with the heaps of the pools' sockets, their logs leave them, and they agree with the heaps and with the external memory that
-- is claimed
pub record AreLastNames (workload : Workload) (heaps : List HeapView) (segs : SegsView) (names : NamesView) : Type 0 where
  pub sockets : names.heaps.sockets ≡ sockets_of workload.pools.items
  pub sound : AreSoundNames names
  pub agreed : AreAgreedNames names (left_naming heaps) segs.ranges
