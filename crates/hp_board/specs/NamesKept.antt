-- The names, and what was seen of them: the part "Names" of the rule in docs/BOARD.md.
use Rattle.std.specs.Prelude.{◌≡◌, ℕ, ◌<◌, Contains}
use Rattle.hp_base.specs.declared.limits.TheConstants.{MAX_HEAPS}
use Rattle.hp_hall.specs.Named.{IsAllocated}
use Rattle.hp_hall.specs.Values.{history_of}
use Rattle.hp_hall.specs.declared.kept.Kept.{Kept}
use Rattle.hp_hall.specs.declared.kept.Kept.TheVariants.{Names}
use Rattle.hp_hall.specs.declared.slot.TheConstants.{NAMES_SLOT}
use Rattle.hp_zone.specs.declared.names.Names.{Names as NamesView}
use Rattle.hp_zone.specs.declared.zone.Zone.{Zone}
use Rattle.hp_zone.specs.declared.zone.ZoneChange.TheVariants.{Put}
use Rattle.hp_board.specs.Views.{BeginsWith}
use Rattle.hp_board.specs.declared.opening.Opening.{Opening}
use Rattle.hp_board.specs.declared.view.Mine.{Mine}

-- a zone lies where an allocation was answered by the heap of its index
pub record IsReserved (kept : ℕ → Kept) (zone : Zone) : Type 0 where
  pub below : zone.heap < MAX_HEAPS
  pub allocated : IsAllocated zone.addr (history_of (kept zone.heap))

-- What each participant has seen of the changes of memzones and of the directory is a front of them; and each zone that was ever put lies
-- where an allocation was answered, by the history of its heap.
pub record AreNamed (opening : Opening) (kept : ℕ → Kept) (mine : ℕ → Mine) : Type 0 where
  -- the names, at home or as their holder took them
  pub names : NamesView
  pub there : kept NAMES_SLOT ≡ Names names
  pub zones : (who : ℕ) → who < opening.participants → BeginsWith names.zones.log (mine who).zones
  pub heaps : (who : ℕ) → who < opening.participants → BeginsWith names.heaps.log (mine who).names
  pub reserved : (zone : Zone) → Contains names.zones.log (Put zone) → IsReserved kept zone
