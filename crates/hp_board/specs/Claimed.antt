-- The claimed memory of chunks: the part "Claimed chunks" of the rule in docs/BOARD.md.
use Rattle.std.specs.Prelude.{◌≡◌, ◌≢◌, ℕ, ◌<◌, List, slice_index}
use Rattle.hp_base.specs.declared.limits.TheConstants.{MAX_HEAPS}
use Rattle.hp_segs.specs.SegsView.{SegsView}
use Rattle.hp_hall.specs.AgreedNames.{AreClaimedOr}
use Rattle.hp_hall.specs.Values.{chunks_of}
use Rattle.hp_hall.specs.declared.kept.Kept.{Kept}
use Rattle.hp_hall.specs.declared.kept.Kept.TheVariants.{Segments}
use Rattle.hp_hall.specs.declared.slot.TheConstants.{NAMES_SLOT}

-- the heap of a slot is in the hand of who has the names
abbrev pub IsWithNames : List ℕ → ℕ → Type 0
IsWithNames words slot = (slice_index words slot ≢ 0) × (slice_index words slot ≡ slice_index words NAMES_SLOT)

-- The memory of the chunks of each heap is claimed, as the heap and the segment value are at home or as their holders took them. Who has the
-- names in hand with a heap may have released memory of this heap's chunks that nobody has attached.
pub record AreChunksClaimed (words : List ℕ) (kept : ℕ → Kept) : Type 0 where
  -- the segment value, at home or as its holder took it
  pub segs : SegsView
  pub there : kept MAX_HEAPS ≡ Segments segs
  pub chunks : (slot : ℕ) → slot < MAX_HEAPS → AreClaimedOr (IsWithNames words slot) segs.ranges (chunks_of (kept slot))
