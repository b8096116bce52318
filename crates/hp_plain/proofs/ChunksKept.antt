-- The memory of the chunks of a hall's heaps is claimed, where a slot has changed.
use Rattle.std.proofs.Common.{◌≡◌, ◌≢◌, ℕ, ◌<◌, Bool, true, false, List, Option, Some, None, Contains, inl, refl, sym, ap, subst, ◌∙◌, ⊎_elim}
use Rattle.std.specs.Option.{IsSome, option_map}
use Rattle.std.proofs.lemmas.Bool.{cases_eq}
use Rattle.std.proofs.lemmas.Option.{none-some, same_Some}
use Rattle.hp_base.specs.declared.chunk.Chunk.{Chunk}
use Rattle.hp_base.specs.declared.limits.TheConstants.{MAX_HEAPS}
use Rattle.hp_heap.specs.History.{HeapView}
use Rattle.hp_heap.proofs.AllocFacts.ChoiceLaw.{Contains-none}
use Rattle.hp_segs.specs.SegsView.{SegsView}
use Rattle.hp_segs.specs.declared.external_range.ExternalRange.{ExternalRange}
use Rattle.hp_stats.specs.StatViews.{PenView}
use Rattle.hp_zone.specs.declared.names.Names.{Names as NamesView}
use Rattle.hp_hall.specs.AgreedNames.{AreAgreedNames, AreClaimedOr, chunk_memory}
use Rattle.hp_hall.specs.Giving.{GivesForm}
use Rattle.hp_hall.specs.Mail.{steps_of}
use Rattle.hp_hall.specs.Naming.{Naming, naming_of}
use Rattle.hp_hall.specs.Telling.{has_names}
use Rattle.hp_hall.specs.Values.{chunks_of, marks_of}
use Rattle.hp_hall.specs.Views.{HeldHeap, held_of}
use Rattle.hp_hall.specs.declared.kept.Kept.{Kept}
use Rattle.hp_hall.specs.declared.kept.Kept.TheVariants.{Heap, Names, Segments}
use Rattle.hp_hall.specs.declared.slot.TheConstants.{NAMES_SLOT}
use Rattle.hp_hall.proofs.ClaimedChunks.{all_claimed, claimed_given, claimed_still, marked_named, marks_claimed}
use Rattle.hp_plain.specs.HallView.{AreChunksClaimed, HallView, IsWithNames, SlotView, chunks_in, has_names_by, is_held_by, marks_in, naming_in, part_in, slot_at, taken_from}
use Rattle.hp_plain.proofs.Given.{known}
use Rattle.hp_plain.proofs.Held.{holding_held, naming_if}
use Rattle.hp_plain.proofs.Slotted.{read_alike}

-- the chunks of a slot's heap, by whether names of these claim their memory
abbrev pub AreClaimedIn : List ExternalRange → Option SlotView → Option SlotView → Type 0
AreClaimedIn claims names slot = AreClaimedOr (IsWithNames slot names) claims (chunks_in slot)

module _ (number : ℕ) (slot : SlotView) (old new : HallView) (segs : SegsView) (here : slot_at new number ≡ Some slot)
    (elsewhere : (other : ℕ) → other ≢ number → slot_at new other ≡ slot_at old other) where
  -- what was so of a slot is so where it is of the one that changed
  still_so : (read : Option SlotView → Bool) → (read (slot_at old number) ≡ true → read (Some slot) ≡ true) → (k : ℕ)
      → read (slot_at old k) ≡ true → read (slot_at new k) ≡ true
  still_so read keeps k was =
      ⊎_elim
      (λ (same : k ≡ number).
      ap (λ (n : ℕ). read (slot_at new n)) same ∙ ap read here ∙ keeps (ap (λ (n : ℕ). read (slot_at old n)) (sym same) ∙ was))
      (λ (apart : k ≢ number). ap read (elsewhere k apart) ∙ was)
      (cases_eq k number)

  -- the value of the slot that changed is the same, and who held it or had names there does still
  pub chunks_still : chunks_in (Some slot) ≡ chunks_in (slot_at old number)
      → ((who : ℕ) → is_held_by who (slot_at old number) ≡ true → is_held_by who (Some slot) ≡ true)
      → ((who : ℕ) → has_names_by who (slot_at old number) ≡ true → has_names_by who (Some slot) ≡ true)
      → AreChunksClaimed old segs → AreChunksClaimed new segs
  chunks_still alike held names all heap below =
      subst (AreClaimedOr (IsWithNames (slot_at new heap) (slot_at new NAMES_SLOT)) segs.ranges)
      (sym (read_alike chunks_in number slot old new here elsewhere alike heap))
      (claimed_still (IsWithNames (slot_at old heap) (slot_at old NAMES_SLOT)) (IsWithNames (slot_at new heap) (slot_at new NAMES_SLOT)) segs.ranges
      (chunks_in (slot_at old heap))
      (λ hand. (
        hand.0,
        still_so (is_held_by hand.0) (held hand.0) heap hand.1,
        still_so (has_names_by hand.0) (names hand.0) NAMES_SLOT hand.2,
      ))
      (all heap below))

  -- the heap of a slot changed, and its memory is claimed
  pub chunks_given : number ≢ NAMES_SLOT → AreClaimedIn segs.ranges (slot_at old NAMES_SLOT) (Some slot)
      → AreChunksClaimed old segs → AreChunksClaimed new segs
  chunks_given apart its all heap below =
      subst (λ (names : Option SlotView). AreClaimedIn segs.ranges names (slot_at new heap))
      (sym (elsewhere NAMES_SLOT (λ same. apart (sym same))))
      (⊎_elim
      (λ (same : heap ≡ number).
      subst (AreClaimedIn segs.ranges (slot_at old NAMES_SLOT)) (sym (ap (slot_at new) same ∙ here)) its)
      (λ (other : heap ≢ number). subst (AreClaimedIn segs.ranges (slot_at old NAMES_SLOT)) (sym (elsewhere heap other)) (all heap below))
      (cases_eq heap number))

-- no slot has changed
pub chunks_same : (old new : HallView) (segs : SegsView) → ((number : ℕ) → slot_at new number ≡ slot_at old number)
    → AreChunksClaimed old segs → AreChunksClaimed new segs
chunks_same old new segs at all heap below =
    subst (λ (names : Option SlotView). AreClaimedIn segs.ranges names (slot_at new heap)) (sym (at NAMES_SLOT))
    (subst (AreClaimedIn segs.ranges (slot_at old NAMES_SLOT)) (sym (at heap)) (all heap below))

-- names agree with all heaps
agreed_kept : (in_hand : Type 0) (names : NamesView) (namings : ℕ → Naming) (claims : List ExternalRange) → AreAgreedNames names namings claims
    → (index : ℕ) (kept : Kept) → index < MAX_HEAPS
    → option_map (λ (held : HeldHeap). naming_of held.heap.plain) (held_of kept) ≡ Some (namings index) → AreClaimedOr in_hand claims (chunks_of kept)
agreed_kept in_hand names namings claims agreed index (Heap heap pen) below is =
    let same : namings index ≡ naming_of heap.plain = cc in
    all_claimed in_hand names namings claims agreed index heap.plain below same
agreed_kept in_hand names namings claims agreed index (Segments segs) below is = λ chunk has. absurd (Contains-none chunk has)
agreed_kept in_hand names namings claims agreed index (Names others) below is = λ chunk has. absurd (Contains-none chunk has)

pub agreed_slot : (in_hand : Type 0) (names : NamesView) (namings : ℕ → Naming) (claims : List ExternalRange) → AreAgreedNames names namings claims
    → (index : ℕ) (slot : Option SlotView) → index < MAX_HEAPS → naming_in slot ≡ Some (namings index) → AreClaimedOr in_hand claims (chunks_in slot)
agreed_slot in_hand names namings claims agreed index None below is = λ chunk has. absurd (Contains-none chunk has)
agreed_slot in_hand names namings claims agreed index (Some slot) below is =
    agreed_kept in_hand names namings claims agreed index slot.kept below is

-- the memory of a chunk with a participant's mark is claimed
pub marks_in_claimed : (in_hand : Type 0) (claims : List ExternalRange) (who : ℕ) (slot : Option SlotView)
    → AreClaimedOr in_hand claims (chunks_in slot) → (chunk : Chunk) → Contains (marks_in who slot) chunk → Contains claims (chunk_memory chunk)
marks_in_claimed in_hand claims who None all chunk has = absurd (Contains-none chunk has)
marks_in_claimed in_hand claims who (Some slot) all chunk has = marks_claimed in_hand claims who slot.kept all chunk has

-- and it is one of which the names speak, as far as is known
pub marks_in_named : (who : ℕ) (b : Bool) (slot : Option SlotView) (naming : Naming) (chunk : Chunk) → naming_if b (naming_in slot) ≡ Some naming
    → Contains (marks_in who slot) chunk → Contains naming.chunks chunk
marks_in_named who b None naming chunk knows has = absurd (Contains-none chunk has)
marks_in_named who b (Some slot) naming chunk knows has = by slot.kept b knows has
  where
    by : (kept : Kept) (b : Bool) → naming_if b (option_map (λ held. naming_of held.heap.plain) (held_of kept)) ≡ Some naming
        → Contains (marks_of who kept) chunk → Contains naming.chunks chunk
    by (Heap heap pen) true knows has =
        let same : naming_of heap.plain ≡ naming = same_Some (naming_of heap.plain) naming knows in
        subst (λ (n : Naming). Contains n.chunks chunk) same (marked_named who heap.plain chunk has)
    by (Heap heap pen) false knows has = absurd (none-some naming knows)
    by (Segments segs) b knows has = absurd (Contains-none chunk has)
    by (Names names) b knows has = absurd (Contains-none chunk has)

-- a value that is out is the one that its slot has
taken_kept : (slot : SlotView) (kept : Kept) → taken_from (Some slot) ≡ Some kept → slot.kept ≡ kept
taken_kept slot kept out = by slot.holder out
  where
    by : (holder : Option ℕ) → option_map (λ (h : ℕ). slot.kept) holder ≡ Some kept → slot.kept ≡ kept
    by None out = cc
    by (Some holder) out = cc

-- a segment value is given: what was claimed is claimed, or who has the names in hand has released it as it may
module _ (me : ℕ) (old : HallView) (taken given : SegsView) (form : GivesForm (known old me) taken given)
    (hands : has_names (steps_of me old.mail) ≡ has_names_by me (slot_at old NAMES_SLOT)) (heap : ℕ) (below : heap < MAX_HEAPS) where
  by_kept : (slot : SlotView) (kept : Kept) → slot.kept ≡ kept → slot_at old heap ≡ Some slot
      → AreClaimedOr (IsWithNames (Some slot) (slot_at old NAMES_SLOT)) taken.ranges (chunks_of kept)
      → AreClaimedOr (IsWithNames (Some slot) (slot_at old NAMES_SLOT)) given.ranges (chunks_of kept)
  by_kept slot (Heap its pen) is at all =
      claimed_given (IsWithNames (Some slot) (slot_at old NAMES_SLOT)) (IsWithNames (Some slot) (slot_at old NAMES_SLOT)) (known old me) taken given
      heap its form below
      (λ naming.
      ap (λ (b : Bool). naming_if b (naming_in (slot_at old heap))) (sym hands ∙ naming) ∙ ap naming_in at
      ∙ ap (λ (k : Kept). option_map (λ (held : HeldHeap). naming_of held.heap.plain) (held_of k)) is)
      (λ naming was its_pen out held.
      (let same : Heap its pen ≡ Heap was its_pen = sym is ∙ taken_kept slot (Heap was its_pen) (sym (ap taken_from at) ∙ out) in
      let heap_is : was ≡ its = cc in (
        heap_is,
        (me, sym (ap (is_held_by me) at) ∙ holding_held old me heap held, sym hands ∙ naming),
      )))
      (λ hand. hand) all
  by_kept slot (Segments segs) is at all = λ chunk has. absurd (Contains-none chunk has)
  by_kept slot (Names names) is at all = λ chunk has. absurd (Contains-none chunk has)

  by_slot : (slot : Option SlotView) → slot_at old heap ≡ slot → AreClaimedIn taken.ranges (slot_at old NAMES_SLOT) slot
      → AreClaimedIn given.ranges (slot_at old NAMES_SLOT) slot
  by_slot None at all = λ chunk has. absurd (Contains-none chunk has)
  by_slot (Some slot) at all = by_kept slot slot.kept refl at all

  pub chunks_by_form : AreClaimedIn taken.ranges (slot_at old NAMES_SLOT) (slot_at old heap)
      → AreClaimedIn given.ranges (slot_at old NAMES_SLOT) (slot_at old heap)
  chunks_by_form all = by_slot (slot_at old heap) refl all
