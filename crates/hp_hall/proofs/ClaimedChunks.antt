-- The memory of the chunks of heaps is claimed: where names agree with all heaps, and from then on, but for heaps in the hand of who has the names.
use Rattle.std.proofs.Common.{◌≡◌, ◌⊎◌, ◌∙◌, ℕ, zero, suc, ◌+◌, ◌<◌, ◌≤◌, true, false, List, ◌++◌, Option, Some, Contains, flat_map, map, refl, sym, ap, subst, arith, inl, inr, ⊎_elim, eqb, true≢false}
use Rattle.std.specs.Int.{bit_at}
use Rattle.std.specs.List.{filter, range_with_len}
use Rattle.std.specs.Option.{IsSome}
use Rattle.std.proofs.lemmas.Bool.{cases_lt}
use Rattle.std.proofs.lemmas.List.Elements.{Contains-append_left, Contains-append_right}
use Rattle.std.proofs.lemmas.List.Sorted.{Contains-permutation}
use Rattle.std.proofs.lemmas.Nat.Bits.{bit_at-zero}
use Rattle.hp_base.specs.Flags.{has_bit}
use Rattle.hp_base.specs.declared.chunk.Chunk.{Chunk}
use Rattle.hp_base.specs.declared.limits.TheConstants.{MAX_HEAPS}
use Rattle.hp_heap.proofs.AllocFacts.ChoiceLaw.{Contains-filter, Contains-none}
use Rattle.hp_heap.proofs.Members.{Contains-image, Contains-imaged}
use Rattle.hp_heap.specs.History.{HeapView}
use Rattle.hp_heap.specs.PlainHeap.{PlainHeap}
use Rattle.hp_segs.specs.SegsView.{SegsView}
use Rattle.hp_segs.specs.declared.external_range.ExternalRange.{ExternalRange}
use Rattle.hp_zone.specs.declared.names.Names.{Names as NamesView}
use Rattle.hp_hall.specs.AgreedNames.{AreAgreedNames, AreClaimedOr, chunk_memory}
use Rattle.hp_hall.specs.Giving.{GivesForm, Knows}
use Rattle.hp_hall.specs.Naming.{Naming, marked_by, naming_of, unmarked}
use Rattle.hp_hall.specs.declared.kept.Kept.{Kept}
use Rattle.hp_hall.specs.declared.kept.Kept.TheVariants.{Heap, Names, Segments}
use Rattle.hp_hall.specs.Values.{chunks_of, marks_of}
use Rattle.hp_hall.proofs.Formed.{claimed_still_by}
use Rattle.hp_stats.specs.StatViews.{PenView}

-- what one of the lists has that stand one after another, they have together
one_of_pieces : {X : Type 0} (f : ℕ → List X) (from count index : ℕ) (x : X) → from ≤ index → index < from + count → Contains (f index) x
    → Contains (flat_map f (range_with_len from count)) x
one_of_pieces f from zero index x above below has = absurd (omega (arith, above, below))
one_of_pieces f from (suc count) index x above below has = elim (cases_lt from index) [
  | inl later ↦ Contains-append_right (f from) (flat_map f (range_with_len (from + 1) count)) x
      (one_of_pieces f (from + 1) count index x (omega (arith, later)) (omega (arith, below)) has)
  | inr level ↦ (let same : index ≡ from = omega (arith, above, level) in
      Contains-append_left (f from) (flat_map f (range_with_len (from + 1) count)) x (subst (λ (n : ℕ). Contains (f n) x) same has))
]

-- names agree with all heaps: the memory of each chunk of these is claimed
pub agreed_claimed : (names : NamesView) (namings : ℕ → Naming) (claims : List ExternalRange) → AreAgreedNames names namings claims
    → (index : ℕ) (chunk : Chunk) → index < MAX_HEAPS → Contains (namings index).chunks chunk → Contains claims (chunk_memory chunk)
agreed_claimed names namings claims agreed index chunk below has =
    Contains-permutation (flat_map (λ (index : ℕ). map chunk_memory (namings index).chunks) (range_with_len 0 MAX_HEAPS)) claims (chunk_memory chunk)
    agreed.claims
    (one_of_pieces (λ (index : ℕ). map chunk_memory (namings index).chunks) 0 MAX_HEAPS index (chunk_memory chunk) (omega arith) (omega (arith, below))
    (Contains-image chunk_memory (namings index).chunks chunk has))

-- a chunk of a heap is one of which names speak, and each of these is one of the heap's
pub chunk_named : (heap : PlainHeap) (chunk : Chunk) → Contains heap.chunks chunk → Contains (naming_of heap).chunks (unmarked chunk)
unfolding naming_of
chunk_named heap chunk has = Contains-image unmarked heap.chunks chunk has

pub named_chunk : (heap : PlainHeap) (chunk : Chunk) → Contains (naming_of heap).chunks chunk
    → (its : Chunk) × Contains heap.chunks its × (unmarked its ≡ chunk)
unfolding naming_of
named_chunk heap chunk has = Contains-imaged unmarked heap.chunks chunk has

-- so is one that has a participant's mark
pub marked_named : (who : ℕ) (heap : PlainHeap) (chunk : Chunk) → Contains (marked_by who heap) chunk → Contains (naming_of heap).chunks chunk
unfolding marked_by
marked_named who heap chunk has =
    let its = Contains-imaged unmarked (filter (λ (c : Chunk). has_bit c.attached who) heap.chunks) chunk has in
    let found = Contains-filter (λ (c : Chunk). has_bit c.attached who) heap.chunks its.0 its.1 in
    subst (Contains (naming_of heap).chunks) its.2 (chunk_named heap its.0 found.1)

-- names agree with all heaps, and this is one of them
pub all_claimed : (in_hand : Type 0) (names : NamesView) (namings : ℕ → Naming) (claims : List ExternalRange) → AreAgreedNames names namings claims
    → (index : ℕ) (heap : PlainHeap) → index < MAX_HEAPS → namings index ≡ naming_of heap → AreClaimedOr in_hand claims heap.chunks
all_claimed in_hand names namings claims agreed index heap below is chunk has =
    inl (agreed_claimed names namings claims agreed index (unmarked chunk) below
    (subst (λ (n : Naming). Contains n.chunks (unmarked chunk)) (sym is) (chunk_named heap chunk has)))

-- of a heap in another hand names say what they said
pub claimed_alike : (in_hand other : Type 0) (claims : List ExternalRange) (old new : PlainHeap) → (in_hand → ⊥) → naming_of new ≡ naming_of old
    → AreClaimedOr in_hand claims old.chunks → AreClaimedOr other claims new.chunks
claimed_alike in_hand other claims old new none same all chunk has =
    let its =
    named_chunk old (unmarked chunk) (subst (λ (n : Naming). Contains n.chunks (unmarked chunk)) same (chunk_named new chunk has)) in
    let is : chunk_memory its.0 ≡ chunk_memory chunk = ap chunk_memory its.2 in
    ⊎_elim (λ (claimed : Contains claims (chunk_memory its.0)). inl (subst (Contains claims) is claimed))
    (λ (free : (its.0.attached ≡ 0) × in_hand). absurd (none free.1)) (all its.0 its.1)

-- a heap goes into a hand, or stays in one
pub claimed_still : (in_hand other : Type 0) (claims : List ExternalRange) (chunks : List Chunk) → (in_hand → other)
    → AreClaimedOr in_hand claims chunks → AreClaimedOr other claims chunks
claimed_still in_hand other claims chunks keeps all chunk has =
    ⊎_elim (λ (claimed : Contains claims (chunk_memory chunk)). inl claimed)
    (λ (free : (chunk.attached ≡ 0) × in_hand). inr (free.0, keeps free.1)) (all chunk has)

-- all of it is, where the heap is in no such hand
pub claimed_all : (in_hand : Type 0) (claims : List ExternalRange) (chunks : List Chunk) → (in_hand → ⊥) → AreClaimedOr in_hand claims chunks
    → (chunk : Chunk) → Contains chunks chunk → Contains claims (chunk_memory chunk)
claimed_all in_hand claims chunks none all chunk has =
    ⊎_elim (λ (claimed : Contains claims (chunk_memory chunk)). claimed)
    (λ (free : (chunk.attached ≡ 0) × in_hand). absurd (none free.1)) (all chunk has)

no_mark : (who marks : ℕ) → marks ≡ 0 → has_bit marks who ≡ false
no_mark who marks none = ap (λ (m : ℕ). eqb (bit_at m who) 1) none ∙ ap (λ (b : ℕ). eqb b 1) (bit_at-zero who)

-- the memory of a chunk that has a mark is claimed, in whose hand its heap may be
pub marked_claimed : (in_hand : Type 0) (claims : List ExternalRange) (who : ℕ) (heap : PlainHeap) → AreClaimedOr in_hand claims heap.chunks
    → (chunk : Chunk) → Contains (marked_by who heap) chunk → Contains claims (chunk_memory chunk)
unfolding marked_by
marked_claimed in_hand claims who heap all chunk has =
    let its = Contains-imaged unmarked (filter (λ (c : Chunk). has_bit c.attached who) heap.chunks) chunk has in
    let found = Contains-filter (λ (c : Chunk). has_bit c.attached who) heap.chunks its.0 its.1 in
    ⊎_elim (λ (claimed : Contains claims (chunk_memory its.0)). subst (Contains claims) (ap chunk_memory its.2) claimed)
    (λ (free : (its.0.attached ≡ 0) × in_hand). absurd (true≢false (sym found.0 ∙ no_mark who its.0.attached free.0))) (all its.0 found.1)

-- a segment value is given: what its giver knows of a heap, where it has the names in hand, is what stands; and where it has the heap in hand,
-- that is the one that stands
pub claimed_given : (in_hand other : Type 0) (knows : Knows) (taken given : SegsView) (index : ℕ) (heap : HeapView) → GivesForm knows taken given
    → index < MAX_HEAPS → (knows.naming ≡ true → (knows.part index).naming ≡ Some (naming_of heap.plain))
    → (knows.naming ≡ true → (was : HeapView) (pen : PenView) → knows.taken index ≡ Some (Heap was pen) → IsSome (knows.part index).holding
    → (was ≡ heap) × other)
    → (in_hand → other) → AreClaimedOr in_hand taken.ranges heap.plain.chunks → AreClaimedOr other given.ranges heap.plain.chunks
claimed_given in_hand other knows taken given index heap form below known out keeps all chunk has =
    ⊎_elim (λ (claimed : Contains taken.ranges (chunk_memory chunk)).
    elim (claimed_still_by knows taken given form (chunk_memory chunk) claimed) [
      | inl still ↦ inl still
      | inr may ↦ (let free = may.1 index (naming_of heap.plain) (unmarked chunk) below (known may.0) (chunk_named heap.plain chunk has) refl in
          let stands = out may.0 free.heap free.pen free.out free.held in
          inr (free.free chunk (subst (λ (h : HeapView). Contains h.plain.chunks chunk) (sym stands.0) has) refl, stands.1))
    ])
    (λ (free : (chunk.attached ≡ 0) × in_hand). inr (free.0, keeps free.1)) (all chunk has)

-- the memory of a chunk of a value that has a participant's mark is claimed
pub marks_claimed : (in_hand : Type 0) (claims : List ExternalRange) (who : ℕ) (kept : Kept) → AreClaimedOr in_hand claims (chunks_of kept)
    → (chunk : Chunk) → Contains (marks_of who kept) chunk → Contains claims (chunk_memory chunk)
marks_claimed in_hand claims who (Heap heap pen) all chunk has = marked_claimed in_hand claims who heap.plain all chunk has
marks_claimed in_hand claims who (Segments segs) all chunk has = absurd (Contains-none chunk has)
marks_claimed in_hand claims who (Names names) all chunk has = absurd (Contains-none chunk has)
