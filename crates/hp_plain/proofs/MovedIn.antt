-- Heaps and pens that move into slots.
use Rattle.std.proofs.Common.{◌≡◌, List, [], ◌∷◌, ◌++◌, length, map, refl, sym, ap, ◌∙◌}
use Rattle.std.proofs.lemmas.List.{append_assoc, append-nil, map-append, nil_from_length}
use Rattle.hp_heap.specs.History.{HeapView}
use Rattle.hp_stats.specs.StatViews.{PenView}
use Rattle.hp_hall.specs.Views.{HeldHeap}
use Rattle.hp_hall.specs.declared.kept.Kept.TheVariants.{Names, Segments}
use Rattle.hp_segs.specs.SegsView.{SegsView}
use Rattle.hp_zone.specs.declared.names.Names.{Names as NamesView}
use Rattle.hp_plain.specs.HallSteps.{heap_slot, home_slot}
use Rattle.hp_plain.specs.Moved.{IsMovedIn}
use Rattle.hp_plain.specs.HallView.{SlotView}

-- of heaps and pens some have come into slots, each heap with its pen, and these are left
pub record HaveComeIn (slots : List SlotView) (heaps first : List HeapView) (pens all : List PenView) : Type 0 where
  pub held : List HeldHeap
  pub slots_are : slots ≡ map heap_slot held
  pub heaps_are : map (λ (one : HeldHeap). one.heap) held ++ heaps ≡ first
  pub pens_are : map (λ (one : HeldHeap). one.pen) held ++ pens ≡ all

pub none_in : (heaps : List HeapView) (pens : List PenView) → HaveComeIn [] heaps heaps pens pens
none_in heaps pens = record { held = []; slots_are = refl; heaps_are = refl; pens_are = refl }

-- of a list the part that moved goes on by its first element
moves_on : {X Y : Type 0} (f : X → Y) (held : List X) (one : X) (left rest all : List Y) → left ≡ f one ∷ rest → map f held ++ left ≡ all
    → map f (held ++ one ∷ []) ++ rest ≡ all
moves_on f held one left rest all first are =
    ap (λ l. l ++ rest) (map-append f held (one ∷ [])) ∙ append_assoc (map f held) (f one ∷ []) rest ∙ ap (λ l. map f held ++ l) (sym first) ∙ are

-- one heap more comes in
pub one_more_in : (slots now : List SlotView) (heaps later first : List HeapView) (pens after all : List PenView) (one : HeldHeap)
    → now ≡ slots ++ heap_slot one ∷ [] → heaps ≡ one.heap ∷ later → pens ≡ one.pen ∷ after → HaveComeIn slots heaps first pens all
    → HaveComeIn now later first after all
one_more_in slots now heaps later first pens after all one more heap pen are = record {
  held = are.held ++ one ∷ [];
  slots_are = more ∙ ap (λ (l : List SlotView). l ++ heap_slot one ∷ []) are.slots_are ∙ sym (map-append heap_slot are.held (one ∷ []));
  heaps_are = moves_on (λ (h : HeldHeap). h.heap) are.held one heaps later first heap are.heaps_are;
  pens_are = moves_on (λ (h : HeldHeap). h.pen) are.held one pens after all pen are.pens_are;
}

-- none of them is left, and the segment value and the names come in
pub all_in : (slots now : List SlotView) (heaps first : List HeapView) (pens all : List PenView) (segs : SegsView) (names : NamesView)
    → length heaps ≡ 0 → length pens ≡ 0 → {one other : SlotView} → now ≡ (slots ++ one ∷ []) ++ other ∷ [] → one ≡ home_slot (Segments segs)
    → other ≡ home_slot (Names names) → HaveComeIn slots heaps first pens all → IsMovedIn first all segs names now
all_in slots now heaps first pens all segs names no_heap no_pen {one} {other} are its their in_slots = record {
  held = in_slots.held;
  heaps_are = none_left in_slots.heaps_are (nil_from_length heaps no_heap);
  pens_are = none_left in_slots.pens_are (nil_from_length pens no_pen);
  slots_are = are ∙ append_assoc slots (one ∷ []) (other ∷ [])
      ∙ ap (λ (l : List SlotView). l ++ one ∷ other ∷ []) in_slots.slots_are
      ∙ ap (λ (s : SlotView). map heap_slot in_slots.held ++ s ∷ other ∷ []) its
      ∙ ap (λ (s : SlotView). map heap_slot in_slots.held ++ home_slot (Segments segs) ∷ s ∷ []) their;
}
  where
    none_left : {X : Type 0} {front left whole : List X} → front ++ left ≡ whole → left ≡ [] → front ≡ whole
    none_left {X} {front} {left} {whole} whole_is none =
        sym (append-nil front) ∙ ap (λ (l : List X). front ++ l) (sym none) ∙ whole_is
