-- Names that agree with the heaps and with the claimed external memory: the part "Agreed names" of the rule in docs/BOARD.md.
use Rattle.std.specs.Prelude.{◌≡◌, ◌≢◌, ℕ, ◌+◌, ◌<◌, List, [], Some, None, slice_index}
use Rattle.hp_base.specs.declared.limits.TheConstants.{MAX_HEAPS}
use Rattle.hp_heap.specs.PlainHeap.{opening_heap}
use Rattle.hp_segs.specs.SegsView.{SegsView}
use Rattle.hp_hall.specs.AgreedNames.{AreAgreedNames}
use Rattle.hp_hall.specs.Naming.{Naming, naming_of}
use Rattle.hp_hall.specs.declared.kept.Kept.{Kept}
use Rattle.hp_hall.specs.declared.kept.Kept.TheVariants.{Heap, Names, Segments}
use Rattle.hp_hall.specs.declared.slot.TheConstants.{NAMES_SLOT}
use Rattle.hp_zone.specs.declared.names.Names.{Names as NamesView}
use Rattle.hp_board.specs.Views.{value_of}
use Rattle.hp_board.specs.declared.view.Mine.{Mine}

-- what the names speak of, of the heap in a slot, and of a heap without a name where the slot has none
abbrev pub naming_in : Kept → Naming
naming_in (Heap heap pen) = naming_of heap.plain
naming_in (Segments segs) = naming_of (opening_heap 0 None)
naming_in (Names names) = naming_of (opening_heap 0 None)

-- who does not hold the names knows nothing for them
pub record KnowsNoNaming (mine : Mine) : Type 0 where
  pub namings : mine.namings ≡ []
  pub claims : mine.claims ≡ None

-- who holds them knows what they speak of, as it stands in the slots, at home or as their holders took it
pub record KnowsNaming (kept : ℕ → Kept) (segs : SegsView) (mine : Mine) : Type 0 where
  pub namings : (slot : ℕ) → slot < MAX_HEAPS → value_of slot mine.namings ≡ Some (naming_in (kept slot))
  pub claims : mine.claims ≡ Some segs.ranges

-- With the names at home the zones are the heaps' elements of memzones, the directory is the heaps' names and chunks, and the claimed external
-- memory is these chunks. With the names out their holder knows what of this is so now, and so by what it differs from the names as they were
-- taken; nobody else can change it.
pub record AreNamesAgreed (participants : ℕ) (words : List ℕ) (kept : ℕ → Kept) (mine : ℕ → Mine) : Type 0 where
  -- the names and the segment value, at home or as their holders took them
  pub names : NamesView
  pub there : kept NAMES_SLOT ≡ Names names
  pub segs : SegsView
  pub segs_there : kept MAX_HEAPS ≡ Segments segs
  pub home : slice_index words NAMES_SLOT ≡ 0 → AreAgreedNames names (λ slot. naming_in (kept slot)) segs.ranges
  pub holder : (who : ℕ) → who < participants → slice_index words NAMES_SLOT ≡ who + 1 → KnowsNaming kept segs (mine who)
  pub others : (who : ℕ) → who < participants → slice_index words NAMES_SLOT ≢ who + 1 → KnowsNoNaming (mine who)
