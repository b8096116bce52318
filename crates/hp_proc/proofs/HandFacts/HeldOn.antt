-- A heap in hand that came to be another: it may be held on, as far as the names and the claimed memory go.
use Rattle.std.proofs.Common.{◌≡◌, ℕ, List, Contains, Option, None, Some, inl}
use Rattle.hp_base.specs.declared.chunk.Chunk.{Chunk}
use Rattle.hp_hall.proofs.ClaimedChunks.{claimed_alike, claimed_all}
use Rattle.hp_hall.specs.AgreedNames.{chunk_memory}
use Rattle.hp_hall.specs.Naming.{LeavesNames, MarksStayBut, naming_of}
use Rattle.hp_hall.specs.declared.kept.Kept.{Kept}
use Rattle.hp_hall.specs.declared.slot.TheConstants.{NAMES_SLOT}
use Rattle.hp_heap.specs.PlainHeap.{PlainHeap}
use Rattle.hp_segs.specs.declared.external_range.ExternalRange.{ExternalRange}

-- a heap that is held came to be another that may be held as well: where the names are in nobody's hand that its holder knows of, they say the
-- same of it; the marks of others are as they were; and the memory of its chunks is claimed, as far as its holder knows what is
pub record GoesOnHeld (taken : ℕ → Option Kept) (me : ℕ) (claims : Option (List ExternalRange)) (old new : PlainHeap) : Type 0 where
  pub named : taken NAMES_SLOT ≡ None → naming_of new ≡ naming_of old
  pub marks : MarksStayBut me old new
  pub claimed : (these : List ExternalRange) (chunk : Chunk) → claims ≡ Some these → Contains new.chunks chunk → Contains these (chunk_memory chunk)

-- so it is where all that the names speak of is as it was
pub leaves_held : (taken : ℕ → Option Kept) (me : ℕ) (claims : Option (List ExternalRange)) (old new : PlainHeap) → LeavesNames me old new
    → ((these : List ExternalRange) (chunk : Chunk) → claims ≡ Some these → Contains old.chunks chunk → Contains these (chunk_memory chunk))
    → GoesOnHeld taken me claims old new
leaves_held taken me claims old new leaves all = record {
  named = λ none. leaves.naming;
  marks = leaves.marks;
  claimed = λ these chunk knows among.
      claimed_all ⊥ these new.chunks (λ no. no)
      (claimed_alike ⊥ ⊥ these old new (λ no. no) leaves.naming (λ its has. inl (all these its knows has))) chunk among;
}
