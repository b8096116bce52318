-- How pairs of heaps are published in a hall of plain values: the rule "Statistics" of docs/HALLS.md.
use Rattle.std.specs.Prelude.{◌≡◌, ℕ, List, [], Option, Some, IsSome, IsSomeAnd, length, slice_get, slice_set}
use Rattle.hp_base.specs.declared.limits.TheConstants.{MAX_HEAPS}
use Rattle.hp_hall.specs.Values.{IsHeap}
use Rattle.hp_plain.specs.HallSteps.{after_publishing, telling_slot}
use Rattle.hp_plain.specs.HallView.{HallView, SlotView, slot_at}
use Rattle.hp_stats.specs.StatViews.{PenView}
use Rattle.hp_stats.specs.declared.stat_pair.StatPair.{StatPair}

-- there is a pen for each heap, and nothing was published by any
pub record AreFirstPens (pens : List PenView) : Type 0 where
  pub count : length pens ≡ MAX_HEAPS
  pub unpublished : (number : ℕ) (pen : PenView) → slice_get pens number ≡ Some pen → pen.published ≡ []

-- a slot's value is a heap that is out, so its holder may publish
abbrev pub MayTell : Option SlotView → Type 0
MayTell slot = IsSomeAnd slot (λ slot. IsHeap slot.kept × IsSome slot.holder)

-- the holder of the value of the slot with that number has published a pair
pub record TellsIn (number : ℕ) (pair : StatPair) (old new : List SlotView) : Type 0 where
  pub before : SlotView
  pub there : slice_get old number ≡ Some before
  pub slots : new ≡ slice_set old number (telling_slot pair before)

-- a participant has published a pair of the heap that it holds, and it was noted
pub record IsPublished (who number : ℕ) (pair : StatPair) (old new : HallView) : Type 0 where
  pub before : SlotView
  pub there : slot_at old number ≡ Some before
  pub hall : new ≡ after_publishing who number pair before old
