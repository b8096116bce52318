-- The memory of chunks stays claimed, through every kind of step.
use Rattle.std.proofs.Common.{◌≡◌, ◌≢◌, ◌∙◌, ℕ, ◌+◌, ◌<◌, true, List, length, get_or, set, Option, Some, inl, refl, sym, ap, subst, arith, get_or-set_other, get_or-set_same, true≢false}
use Rattle.std.specs.List.{Contains}
use Rattle.std.specs.Option.{IsSome, is_some}
use mathlib.Core.Logic.{dite}
use mathlib.Core.Option as maybe
use native.Mathlib.Decide.{ℕ_discrete}
use Rattle.hp_base.specs.declared.chunk.Chunk.{Chunk}
use Rattle.hp_base.specs.declared.limits.TheConstants.{MAX_HEAPS}
use Rattle.hp_heap.proofs.AllocFacts.ChoiceLaw.{Contains-none}
use Rattle.hp_heap.specs.History.{HeapView}
use Rattle.hp_segs.specs.SegsView.{SegsView}
use Rattle.hp_segs.specs.declared.external_range.ExternalRange.{ExternalRange}
use Rattle.hp_stats.specs.StatViews.{PenView}
use Rattle.hp_zone.specs.declared.names.Names.{Names as NamesView}
use Rattle.hp_hall.specs.AgreedNames.{AreClaimedOr, chunk_memory}
use Rattle.hp_hall.specs.Giving.{GivesSegments, GivesTheNames}
use Rattle.hp_hall.specs.Values.{chunks_of, marks_of}
use Rattle.hp_hall.specs.Views.{HeldHeap}
use Rattle.hp_hall.specs.declared.kept.Kept.{Kept}
use Rattle.hp_hall.specs.declared.kept.Kept.TheVariants.{Heap, Names, Segments}
use Rattle.hp_hall.specs.declared.slot.TheConstants.{NAMES_SLOT}
use Rattle.hp_hall.proofs.ClaimedChunks.{all_claimed, claimed_alike, claimed_given, claimed_still, marked_named, marks_claimed}
use Rattle.hp_board.specs.Agreed.{AreNamesAgreed, KnowsNaming, naming_in}
use Rattle.hp_board.specs.Claimed.{AreChunksClaimed, IsWithNames}
use Rattle.hp_board.specs.Giving.{GivesAt, GivesHeldAt}
use Rattle.hp_board.specs.KeptValues.{IsKeptAt}
use Rattle.hp_board.specs.Knowing.{heap_part, knows_of}
use Rattle.hp_board.specs.Locks.{AreLocked}
use Rattle.hp_board.specs.Views.{after_give, holds_names, value_of}
use Rattle.hp_board.specs.declared.opening.Opening.{Opening}
use Rattle.hp_board.specs.declared.view.Mine.{Mine}
use Rattle.hp_board.specs.declared.words.TheConstants.{SLOTS, WORDS}
use Rattle.hp_board.proofs.NamesFacts.NamingGives.{unnamed}
use Rattle.hp_board.proofs.OwnershipFacts.GivenTaken.{by_gives}
use Rattle.hp_board.proofs.StepsOfSeats.LockSteps.{held_yes, kept_taken, word_taken}
use Rattle.hp_board.proofs.Updates.{each, with_at, with_at-else, with_at-here}

-- words change beside the slots
pub claimed_same : (words words' : List ℕ) (kept : ℕ → Kept) → AreChunksClaimed words kept
    → ((k : ℕ) → k < SLOTS → get_or words' k 0 ≡ get_or words k 0) → AreChunksClaimed words' kept
claimed_same words words' kept claimed same = record {
  segs = claimed.segs;
  there = claimed.there;
  chunks = λ slot below.
      let at : get_or words' slot 0 ≡ get_or words slot 0 = same slot (omega (arith, below)) in
      let names : get_or words' NAMES_SLOT 0 ≡ get_or words NAMES_SLOT 0 = same NAMES_SLOT (omega arith) in
      claimed_still (IsWithNames words slot) (IsWithNames words' slot) claimed.segs.ranges (chunks_of (kept slot))
      (λ hand. ((λ none. hand.0 (sym at ∙ none)), at ∙ hand.1 ∙ sym names)) (claimed.chunks slot below);
}

-- a slot is taken that was at home
pub claimed_take : (words : List ℕ) (kept : ℕ → Kept) (slot word : ℕ) → get_or words slot 0 ≡ 0 → AreChunksClaimed words kept
    → AreChunksClaimed (set words slot word) kept
claimed_take words kept slot word free claimed = record {
  segs = claimed.segs;
  there = claimed.there;
  chunks = λ k below.
      claimed_still (IsWithNames words k) (IsWithNames (set words slot word) k) claimed.segs.ranges (chunks_of (kept k))
      (λ hand.
      (let at : get_or (set words slot word) k 0 ≡ get_or words k 0 =
      get_or-set_other words slot k word 0 (λ same. hand.0 (ap (λ (n : ℕ). get_or words n 0) same ∙ free)) in
      let names : get_or (set words slot word) NAMES_SLOT 0 ≡ get_or words NAMES_SLOT 0 =
      get_or-set_other words slot NAMES_SLOT word 0 (λ same. hand.0 (hand.1 ∙ ap (λ (n : ℕ). get_or words n 0) same ∙ free)) in
      ((λ none. hand.0 (sym at ∙ none)), at ∙ hand.1 ∙ sym names)))
      (claimed.chunks k below);
}

-- names at home agree with all heaps
pub claimed_at_home : (participants : ℕ) (words : List ℕ) (kept : ℕ → Kept) (mine : ℕ → Mine) → AreNamesAgreed participants words kept mine
    → get_or words NAMES_SLOT 0 ≡ 0 → AreChunksClaimed words kept
claimed_at_home participants words kept mine agreed free = record {
  segs = agreed.segs;
  there = agreed.segs_there;
  chunks = λ slot below. by slot below (kept slot) refl;
}
  where
    by : (slot : ℕ) → slot < MAX_HEAPS → (value : Kept) → kept slot ≡ value
        → AreClaimedOr (IsWithNames words slot) agreed.segs.ranges (chunks_of value)
    by slot below (Heap heap pen) is =
        all_claimed (IsWithNames words slot) agreed.names (λ s. naming_in (kept s)) agreed.segs.ranges (agreed.home free) slot heap.plain below
        (ap naming_in is)
    by slot below (Segments segs) is = λ chunk has. absurd (Contains-none chunk has)
    by slot below (Names names) is = λ chunk has. absurd (Contains-none chunk has)

-- the memory of a chunk that has a participant's mark is claimed
pub marks_are_claimed : (words : List ℕ) (kept : ℕ → Kept) (claimed : AreChunksClaimed words kept) (who slot : ℕ) → slot < MAX_HEAPS → (chunk : Chunk)
    → Contains (marks_of who (kept slot)) chunk → Contains claimed.segs.ranges (chunk_memory chunk)
marks_are_claimed words kept claimed who slot below =
    marks_claimed (IsWithNames words slot) claimed.segs.ranges who (kept slot) (claimed.chunks slot below)

-- and is one of which the names speak
pub marks_are_named : (who : ℕ) (value : Kept) (chunk : Chunk) → Contains (marks_of who value) chunk → Contains (naming_in value).chunks chunk
marks_are_named who (Heap heap pen) chunk has = marked_named who heap.plain chunk has
marks_are_named who (Segments segs) chunk has = absurd (Contains-none chunk has)
marks_are_named who (Names names) chunk has = absurd (Contains-none chunk has)

module _ (opening : Opening) (participants : ℕ) (words : List ℕ) (kept : ℕ → Kept) (mine : ℕ → Mine) (agreed : AreNamesAgreed participants words kept mine)
    (part : Mine) (known : part ≡ mine part.who) (declared : part.who < participants) (wide : length words ≡ WORDS) (slot : ℕ) (inside : slot < SLOTS)
    (homes : List (maybe.Option (Option Kept))) (locked : AreLocked participants words homes kept mine) (claimed : AreChunksClaimed words kept) where
  -- who has the names in hand has their word
  names_word : holds_names part ≡ true → get_or words NAMES_SLOT 0 ≡ part.who + 1
  names_word has =
      dite (ℕ_discrete (get_or words NAMES_SLOT 0) (part.who + 1)) (λ same. same)
      (λ apart. absurd (true≢false (sym has ∙ unnamed opening participants words kept mine agreed part known declared wide slot inside homes locked apart)))

  names_held : get_or words NAMES_SLOT 0 ≡ part.who + 1 → holds_names part ≡ true
  names_held has =
      ap is_some (ap (λ (m : Mine). value_of NAMES_SLOT m.held) known ∙ locked.held part.who NAMES_SLOT declared (omega arith)
      ∙ held_yes part.who (get_or words NAMES_SLOT 0) (kept NAMES_SLOT) has)

  -- and knows what stands
  naming_knows : get_or words NAMES_SLOT 0 ≡ part.who + 1 → KnowsNaming kept agreed.segs part
  naming_knows has = subst (KnowsNaming kept agreed.segs) (sym known) (agreed.holder part.who declared has)

  one_segs : agreed.segs ≡ claimed.segs
  one_segs =
      let both : Segments agreed.segs ≡ Segments claimed.segs = sym agreed.segs_there ∙ claimed.there in
      cc

  -- what another slot's heap is, in whose hand it may be
  hand_still : (j : ℕ) → j ≢ slot → NAMES_SLOT ≢ slot → IsWithNames words j → IsWithNames (set words slot 0) j
  hand_still j apart beside hand =
      let at : get_or (set words slot 0) j 0 ≡ get_or words j 0 = get_or-set_other words slot j 0 0 apart in
      let names : get_or (set words slot 0) NAMES_SLOT 0 ≡ get_or words NAMES_SLOT 0 = get_or-set_other words slot NAMES_SLOT 0 0 beside in
      ((λ none. hand.0 (sym at ∙ none)), at ∙ hand.1 ∙ sym names)

  module _ (taken given : HeldHeap) (gives : GivesHeldAt (knows_of part) taken given) (held : value_of slot part.held ≡ Some (Heap taken.heap taken.pen))
      (below : slot < MAX_HEAPS) where
    its_memory : AreClaimedOr (IsWithNames (set words slot 0) slot) claimed.segs.ranges given.heap.plain.chunks
    its_memory =
        dite (ℕ_discrete (get_or words NAMES_SLOT 0) (part.who + 1))
        (λ has. λ chunk its.
        inl (gives.heap.claimed (names_held has) claimed.segs.ranges chunk
        ((naming_knows has).claims ∙ ap (λ (s : SegsView). Some s.ranges) one_segs) its))
        (λ apart.
        claimed_alike (IsWithNames words slot) (IsWithNames (set words slot 0) slot) claimed.segs.ranges taken.heap.plain given.heap.plain
        (λ hand. apart (sym hand.1 ∙ word_taken participants words homes kept mine locked wide slot inside part known declared (Heap taken.heap taken.pen) held))
        (gives.heap.named (unnamed opening participants words kept mine agreed part known declared wide slot inside homes locked apart))
        (subst (λ (v : Kept). AreClaimedOr (IsWithNames words slot) claimed.segs.ranges (chunks_of v))
        (kept_taken participants words homes kept mine locked wide slot inside part known declared (Heap taken.heap taken.pen) held)
        (claimed.chunks slot below)))

    heap_claimed : AreChunksClaimed (set words slot 0) (with_at slot (Heap given.heap given.pen) kept)
    heap_claimed =
        let value : Kept = Heap given.heap given.pen in
        record {
          segs = claimed.segs;
          there = with_at-else slot value kept MAX_HEAPS (λ same. omega (arith, same, below)) ∙ claimed.there;
          chunks = each (λ j v. j < MAX_HEAPS → AreClaimedOr (IsWithNames (set words slot 0) j) claimed.segs.ranges (chunks_of v)) slot value kept
              (λ low. its_memory)
              (λ j apart low.
              claimed_still (IsWithNames words j) (IsWithNames (set words slot 0) j) claimed.segs.ranges (chunks_of (kept j))
              (hand_still j apart (λ same. omega (arith, same, below))) (claimed.chunks j low));
        }

  module _ (taken given : SegsView) (gives : GivesSegments (knows_of part) taken given) (held : value_of slot part.held ≡ Some (Segments taken))
      (last : slot ≡ MAX_HEAPS) where
    same_taken : claimed.segs ≡ taken
    same_taken =
        let was : kept slot ≡ Segments taken =
        kept_taken participants words homes kept mine locked wide slot inside part known declared (Segments taken) held in
        let both : Segments claimed.segs ≡ Segments taken = sym claimed.there ∙ (ap kept (sym last) ∙ was) in
        cc

    by_value : (j : ℕ) → j ≢ slot → j < MAX_HEAPS → (value : Kept) → kept j ≡ value
        → AreClaimedOr (IsWithNames words j) taken.ranges (chunks_of value)
        → AreClaimedOr (IsWithNames (set words slot 0) j) given.ranges (chunks_of value)
    by_value j apart low (Heap heap pen) is all =
        let keeps : IsWithNames words j → IsWithNames (set words slot 0) j = hand_still j apart (λ same. omega (arith, same, last)) in
        let within : j < SLOTS = omega (arith, low) in
        claimed_given (IsWithNames words j) (IsWithNames (set words slot 0) j) (knows_of part) taken given j heap gives.form low
        (λ has. (naming_knows (names_word has)).namings j low ∙ ap (λ (v : Kept). Some (naming_in v)) is)
        (λ has was its_pen out holds.
        (let both : Heap heap pen ≡ Heap was its_pen =
        sym is ∙ kept_taken participants words homes kept mine locked wide j within part known declared (Heap was its_pen) out in
        let one : was ≡ heap = cc in
        let word : get_or words j 0 ≡ part.who + 1 =
        word_taken participants words homes kept mine locked wide j within part known declared (Heap was its_pen) out in (
          one,
          keeps ((λ none. omega (arith, none, word)), word ∙ sym (names_word has)),
        )))
        keeps all
    by_value j apart low (Segments segs) is all = λ chunk has. absurd (Contains-none chunk has)
    by_value j apart low (Names names) is all = λ chunk has. absurd (Contains-none chunk has)

    segs_claimed : AreChunksClaimed (set words slot 0) (with_at slot (Segments given) kept)
    segs_claimed =
        let value : Kept = Segments given in
        record {
          segs = given;
          there = ap (with_at slot value kept) (sym last) ∙ with_at-here slot value kept;
          chunks = each (λ j v. j < MAX_HEAPS → AreClaimedOr (IsWithNames (set words slot 0) j) given.ranges (chunks_of v)) slot value kept
              (λ low. absurd (omega (arith, low, last)))
              (λ j apart low.
              by_value j apart low (kept j) refl
              (subst (λ (s : SegsView). AreClaimedOr (IsWithNames words j) s.ranges (chunks_of (kept j))) same_taken (claimed.chunks j low)));
        }

  -- a slot is given, and what the names say agrees as it did
  pub claimed_give : (taken given : Kept) → value_of slot part.held ≡ Some taken → IsKeptAt opening slot taken → GivesAt (knows_of part) taken given
      → AreNamesAgreed participants (set words slot 0) (with_at slot given kept) (with_at part.who (after_give slot given part) mine)
      → AreChunksClaimed (set words slot 0) (with_at slot given kept)
  claimed_give taken given held at gives later =
      by_gives (knows_of part)
      (λ taken given. value_of slot part.held ≡ Some taken → IsKeptAt opening slot taken
      → AreNamesAgreed participants (set words slot 0) (with_at slot given kept) (with_at part.who (after_give slot given part) mine)
      → AreChunksClaimed (set words slot 0) (with_at slot given kept))
      (λ taken given gives held at later. heap_claimed taken given gives held at.heap.below)
      (λ taken given gives held at later. segs_claimed taken given gives held at.last)
      (λ taken given gives held at later.
      claimed_at_home participants (set words slot 0) (with_at slot (Names given) kept) (with_at part.who (after_give slot (Names given) part) mine) later
      (ap (λ (k : ℕ). get_or (set words slot 0) k 0) (sym at.last) ∙ get_or-set_same words slot 0 0 (omega (arith, wide, inside))))
      taken given gives held at later
