-- A heap in hand beside the names while its holder took the segment value and gave it back with other external memory.
use Rattle.std.proofs.Common.{◌+◌, ◌∙◌, ◌∷◌, ◌≡◌, ◌≤◌, Contains, List, None, Option, Some, [], ap, cond, eqb, length, map, option_map, refl, subst, sym, ℕ}
use Rattle.std.specs.List.{range_with_len}
use Rattle.hp_base.specs.declared.chunk.Chunk.{Chunk}
use Rattle.hp_base.specs.declared.limits.TheConstants.{MAX_HEAPS}
use Rattle.hp_hall.proofs.HallStates.{did_then, may_still}
use Rattle.hp_hall.specs.AgreedNames.{chunk_memory}
use Rattle.hp_hall.specs.Giving.{IsNumbered, entries_made}
use Rattle.hp_hall.specs.HallCalls.{HasTaken}
use Rattle.hp_hall.specs.HallState.{Did, HallState, MayServe, OthersStay, SlotsStayBut}
use Rattle.hp_hall.specs.Holding.{AreStanding, HeapPart, IsHeldWith, part_after}
use Rattle.hp_hall.specs.Naming.{marked_by}
use Rattle.hp_hall.specs.declared.kept.Kept.TheVariants.{Segments}
use Rattle.hp_hall.specs.declared.slot.TheConstants.{NAMES_SLOT, SLOTS}
use Rattle.hp_heap.specs.History.{HeapView}
use Rattle.hp_heap.specs.declared.entry.Entry.{Entry}
use Rattle.hp_proc.proofs.HandFacts.HandGiven.{sums_same}
use Rattle.hp_proc.specs.HeldMarks.{HoldsMarked, marked_with}
use Rattle.hp_proc.specs.LineInHall.{moment}
use Rattle.hp_proc.specs.OwnChunks.{own_chunk}
use Rattle.hp_proc.specs.ParticipantView.{ParticipantView}
use Rattle.hp_proc.specs.Progress.{IsInHand}
use Rattle.hp_segs.specs.SegsView.{SegsView}
use Rattle.hp_segs.specs.declared.external_range.ExternalRange.{ExternalRange}
use Rattle.hp_serve.proofs.AskingFacts.AskKnown.{settled_more}
use Rattle.hp_serve.proofs.Handed.{tied_still}
use Rattle.hp_serve.proofs.SegmentSlots.{Took, gave_parts, may_hold}
use Rattle.hp_serve.proofs.Standing.{standing_same, standing_with}
use Rattle.hp_serve.specs.Asking.{HasSettledAsks}
use Rattle.hp_serve.specs.SegmentSlot.{GivesBack, StaysButParts}
use Rattle.hp_serve.specs.Serving.{gives_segments, takes_segments}

-- the segment value was taken by whoever has that number
pub took_by : {who me : ℕ} {segs : SegsView} {a b : HallState} → who ≡ me → MayServe me a → HasTaken who MAX_HEAPS (Segments segs) a b
    → SlotsStayBut MAX_HEAPS a b → OthersStay who a b → b.measure ≤ a.measure → Took me segs a b
took_by {who} {me} {segs} {a} {b} same may took slots others measure = record {
  may = may_hold may;
  took = subst (λ (w : ℕ). HasTaken w MAX_HEAPS (Segments segs) a b) same took;
  slots = slots;
  others = subst (λ (w : ℕ). OthersStay w a b) same others;
  measure = measure;
}

-- what it knows of a heap but for the memory that is claimed
pub record IsSameButClaims (old new : HeapPart) : Type 0 where
  pub entries : new.entries ≡ old.entries
  pub marked : new.marked ≡ old.marked
  pub serves : new.serves ≡ old.serves
  pub holding : new.holding ≡ old.holding
  pub told : new.told ≡ old.told
  pub naming : new.naming ≡ old.naming
  pub armed : new.armed ≡ old.armed

module _ (me : ℕ) (taken : SegsView) (ranges : List ExternalRange) {a b c : HallState} (took : Took me taken a b)
    (back : GivesBack me (record taken { ranges = ranges }) b c) where
  abbrev given : SegsView
  given = record taken { ranges = ranges }

  standing : AreStanding me (a.part me) taken
  standing = standing_with me (b.part me) (a.part me) taken (λ heap. sym (took.took.part heap)) took.took.stands

  part_is : (heap : ℕ) → c.part me heap
      ≡ record (a.part me heap) { claims = option_map (λ (known : List ExternalRange). ranges) (a.part me heap).claims }
  part_is heap =
      back.gave.part heap
      ∙ (ap (part_after me given heap) (took.took.part heap)
      ∙ ap (λ (p : HeapPart). record p { claims = option_map (λ (known : List ExternalRange). ranges) (a.part me heap).claims })
      (standing_same me (a.part me) taken standing heap))

  pub parts_alike : (heap : ℕ) → IsSameButClaims (a.part me heap) (c.part me heap)
  parts_alike heap = record {
    entries = ap (λ (p : HeapPart). p.entries) (part_is heap);
    marked = ap (λ (p : HeapPart). p.marked) (part_is heap);
    serves = ap (λ (p : HeapPart). p.serves) (part_is heap);
    holding = ap (λ (p : HeapPart). p.holding) (part_is heap);
    told = ap (λ (p : HeapPart). p.told) (part_is heap);
    naming = ap (λ (p : HeapPart). p.naming) (part_is heap);
    armed = ap (λ (p : HeapPart). p.armed) (part_is heap);
  }

  pub claims_then : (heap : ℕ) (known : List ExternalRange) → (a.part me heap).claims ≡ Some known → (c.part me heap).claims ≡ Some ranges
  claims_then heap known is =
      ap (λ (p : HeapPart). p.claims) (part_is heap) ∙ ap (option_map (λ (known : List ExternalRange). ranges)) is

  pub traded : StaysButParts me a c
  traded = gave_parts took refl back

  settled_then : HasSettledAsks (a.part me) (a.heard me) → HasSettledAsks (c.part me) (c.heard me)
  settled_then settled =
      let grown = took.others.later.heard me in
      let heard : taken.asks ≡ c.heard me = back.gave.asks in
      subst (HasSettledAsks (c.part me)) heard
      (settled_more taken (a.part me) (c.part me) (a.heard me) grown.0 took.took.sound (took.took.asks ∙ grown.1)
      (λ heap. (parts_alike heap).armed) (λ heap. (parts_alike heap).holding) settled)

  module _ (doer : ParticipantView) (heap : HeapView) (mine : me ≡ doer.party.me) (holds : HoldsMarked me doer heap a)
      (claimed : (chunk : Chunk) → Contains heap.plain.chunks chunk → Contains ranges (chunk_memory chunk)) where
    abbrev at : ℕ
    at = heap.plain.index

    made : entries_made (c.part me) ≡ entries_made (a.part me)
    made = sums_same (λ index. length (a.part me index).entries) (λ index. length (c.part me index).entries) (range_with_len 0 SLOTS)
        (λ index. ap (λ (entries : List Entry). length entries) (parts_alike index).entries)

    abbrev hand : IsInHand a.taken (moment me doer a) heap
    hand = holds.in_hand

    same_claims : (known : Option (List ExternalRange)) (these : List ExternalRange)
        → option_map (λ (k : List ExternalRange). ranges) known ≡ Some these → ranges ≡ these
    same_claims None these is = absurd (cc)
    same_claims (Some k) these is = cc

    hand_then : IsInHand c.taken (moment me doer c) heap
    hand_then = record {
      was = hand.was;
      pen = hand.pen;
      taken_is = traded.slots.taken at ∙ hand.taken_is;
      pairs = hand.pairs;
      untold = (parts_alike at).told ∙ hand.untold;
      few = hand.few;
      index = hand.index;
      serves = hand.serves;
      own = hand.own;
      history = hand.history;
      numbered = subst (λ (n : ℕ). IsNumbered doer.party.me n hand.own) (sym made) hand.numbered;
      earlier = hand.earlier ∙ sym (parts_alike at).entries;
      held = subst (IsHeldWith heap) (sym (parts_alike at).holding) hand.held;
      sound = hand.sound;
      named = λ none. hand.named (sym (traded.slots.taken NAMES_SLOT) ∙ none);
      marks = hand.marks;
      claimed = λ these chunk knows has.
          subst (λ (l : List ExternalRange). Contains l (chunk_memory chunk))
          (same_claims (a.part me at).claims these (sym (ap (λ (p : HeapPart). p.claims) (part_is at)) ∙ knows)) (claimed chunk has);
      its_socket = hand.its_socket ∙ sym (parts_alike at).serves;
      sockets = λ index. (parts_alike index).serves ∙ hand.sockets index;
      others = λ other away. (parts_alike other).holding ∙ hand.others other away;
      counted = hand.counted ∙ ap (λ (n : ℕ). n + length hand.own) (sym made);
    }

    marks_then : (index : ℕ) → marked_with me heap c index ≡ marked_with me heap a index
    marks_then index =
        ap (λ (l : List Chunk). cond (eqb index at) (marked_by me heap.plain) l) (parts_alike index).marked

    pub traded_holds : HoldsMarked me doer heap c
    traded_holds =
        let seen = traded.others.later.seen me in
        record {
          may = may_still traded.slots traded.others.later holds.may;
          tied = record {
            table = tied_still (a.seen me) (c.seen me) seen.0 (a.own me) (c.own me) (marked_with me heap a) (marked_with me heap c)
                doer.party.joined doer.party.maps seen.1 traded.own marks_then holds.tied.table;
            same = traded.joined ∙ holds.tied.same;
            left = λ out index. marks_then index ∙ holds.tied.left out index;
          };
          chunks = λ index. ap (map (own_chunk index)) (marks_then index) ∙ holds.chunks index;
          in_hand = hand_then;
          settled = settled_then holds.settled;
          attached = traded.joined ∙ holds.attached;
          named = (traded.others.later.named me).sockets ∙ holds.named;
          mapped = back.gave.mapped;
        }

  pub traded_did : Did me (takes_segments taken ∷ (gives_segments given ∷ [])) a c
  traded_did = did_then took.took.did back.gave.did
