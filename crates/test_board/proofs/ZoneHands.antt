-- What a participant has of heap 1 while it has that in hand: what is known of it, and that the memory of its chunks is claimed.
use Rattle.std.proofs.Common.{◌≡◌, ◌∙◌, ℕ, List, Option, Some, None, Contains, refl, sym, ap, subst}
use Rattle.std.specs.Option.{option_map}
use Rattle.hp_base.specs.declared.chunk.Chunk.{Chunk}
use Rattle.hp_heap.specs.History.{HeapView}
use Rattle.hp_heap.specs.PlainHeap.{PlainHeap}
use Rattle.hp_segs.specs.SegsView.{SegsView}
use Rattle.hp_segs.specs.Standing.{Holding, standing_of}
use Rattle.hp_segs.specs.declared.external_range.ExternalRange.{ExternalRange}
use Rattle.hp_stats.specs.StatViews.{PenView}
use Rattle.hp_hall.specs.AgreedNames.{chunk_memory}
use Rattle.hp_hall.specs.HeapPairs.{ArePairsOf}
use Rattle.hp_hall.specs.Holding.{AreStanding, HasHolding, IsAsPart, IsHeldWith, StandsFor}
use Rattle.hp_hall.specs.Naming.{naming_of, unmarked}
use Rattle.hp_hall.specs.Standings.{LeavesStanding}
use Rattle.hp_hall.specs.declared.kept.Kept.{Kept}
use Rattle.hp_hall.specs.declared.kept.Kept.TheVariants.{Heap, Segments}
use Rattle.hp_hall.proofs.ClaimedChunks.{chunk_named, named_chunk}
use Rattle.hp_board.specs.declared.view.Mine.{Mine}
use Rattle.hp_board.specs.Handed.{HasTakenLater, IsHanded}
use Rattle.hp_board.specs.KeptValues.{IsKeptAt}
use Rattle.hp_board.specs.Knowing.{heap_part}
use Rattle.hp_board.specs.Views.{after_give, holdings_taken, value_of}
use Rattle.hp_board.proofs.OwnershipFacts.Holders.{holdings_told}

-- what the taker of heap 1 knows of it
pub record IsInHand (heap : HeapView) (pen : PenView) (mine : Mine) : Type 0 where
  pub held : IsHeldWith heap (heap_part mine heap.plain.index).holding
  pub pairs : ArePairsOf heap pen
  pub index : heap.plain.index ≡ 1

pub in_hand : (old new : Mine) (kept : Kept) (heap : HeapView) (pen : PenView) → IsHanded old 1 kept new → kept ≡ Heap heap pen → IsInHand heap pen new
in_hand old new kept heap pen handed is =
    let at = subst (IsKeptAt old.opening 1) is handed.at in
    let stands : IsAsPart (heap_part new heap.plain.index) heap = subst (StandsFor old.who (heap_part new)) is handed.stands in
    record { held = stands.held; pairs = at.pen.pairs; index = at.heap.index }

-- the memory of chunks is claimed, as far as is known what is
abbrev pub AreKnownClaimed : Option (List ExternalRange) → List Chunk → Type 0
AreKnownClaimed known chunks = (claims : List ExternalRange) (chunk : Chunk) → known ≡ Some claims → Contains chunks chunk → Contains claims (chunk_memory chunk)

-- so it is with the chunks of the heap that was taken, and of one that has the same
pub hand_claimed : (old new : Mine) (kept : Kept) (heap : HeapView) (pen : PenView) → IsHanded old 1 kept new → kept ≡ Heap heap pen → (given : PlainHeap)
    → (naming_of given).chunks ≡ (naming_of heap.plain).chunks → AreKnownClaimed new.claims given.chunks
hand_claimed old new kept heap pen handed is given same claims chunk known has =
    let stands : IsAsPart (heap_part new heap.plain.index) heap = subst (StandsFor old.who (heap_part new)) is handed.stands in
    let its = named_chunk heap.plain (unmarked chunk) (subst (λ (l : List Chunk). Contains l (unmarked chunk)) same (chunk_named given chunk has)) in
    subst (Contains claims) (ap chunk_memory its.2) (stands.claimed claims its.0 known its.1)

-- what was known of a heap is known again where a segment value has the same for it
held_again : (index : ℕ) (heap : HeapView) (who : ℕ) (mine : Mine) (segs given : SegsView) (known : Option Holding) → value_of index mine.holdings ≡ known
    → AreStanding who (heap_part mine) segs → standing_of index given ≡ standing_of index segs → IsHeldWith heap known
    → IsHeldWith heap (option_map (λ (holding : Holding). standing_of index given) known)
held_again index heap who mine segs given None is stands same held = held
held_again index heap who mine segs given (Some holding) is stands same held = subst (HasHolding heap) (stands.held index holding is ∙ sym same) held

-- the segment value was taken and given while the heap was in hand
pub hand_still : (old mid new : Mine) (kept : Kept) (segs given : SegsView) (heap : HeapView) (pen : PenView) → IsInHand heap pen old → kept ≡ Segments segs
    → HasTakenLater 32 kept old mid → IsHanded old 32 kept mid → LeavesStanding segs given → new ≡ after_give 32 (Segments given) mid → IsInHand heap pen new
hand_still old mid new kept segs given heap pen hand is takes handed leaves gave =
    let index = heap.plain.index in
    let stands : AreStanding old.who (heap_part mid) segs = subst (StandsFor old.who (heap_part mid)) is handed.stands in
    let still : value_of index mid.holdings ≡ value_of index old.holdings =
    ap (λ (m : Mine). value_of index m.holdings) takes.view.1 ∙ ap (λ (k : Kept). value_of index (holdings_taken 32 k takes.learned.holding old.holdings)) is in
    let now : value_of index new.holdings ≡ option_map (λ (holding : Holding). standing_of index given) (value_of index mid.holdings) =
    ap (λ (m : Mine). value_of index m.holdings) gave ∙ holdings_told index given mid.holdings in
    record {
      held = subst (IsHeldWith heap) (sym now)
          (held_again index heap old.who mid segs given (value_of index mid.holdings) refl stands (leaves.standing index) (subst (IsHeldWith heap) (sym still) hand.held));
      pairs = hand.pairs;
      index = hand.index;
    }
