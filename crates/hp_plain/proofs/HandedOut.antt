-- The slots of a hall in which every value is there, from which the values are handed out.
use Rattle.std.proofs.Common.{◌≡◌, ℕ, zero, suc, ◌+◌, ◌<◌, List, [], ◌∷◌, ◌++◌, length, get_or, take, drop, map, Option, Some, None, refl, sym, ap, subst, ◌∙◌, arith}
use Rattle.std.specs.List.{slice_get}
use Rattle.std.proofs.lemmas.List.{append_assoc, map-append, nil_from_length}
use Rattle.std.proofs.lemmas.Option.{slice_get_within}
use Rattle.hp_base.specs.declared.limits.TheConstants.{MAX_HEAPS}
use Rattle.hp_heap.specs.History.{HeapView}
use Rattle.hp_segs.specs.SegsView.{SegsView}
use Rattle.hp_hall.specs.declared.kept.Kept.{Kept}
use Rattle.hp_hall.specs.declared.kept.Kept.TheVariants.{Heap, Names, Segments}
use Rattle.hp_hall.specs.declared.slot.TheConstants.{NAMES_SLOT, SLOTS}
use Rattle.hp_hall.specs.Values.{Fits}
use Rattle.hp_hall.specs.Views.{HeldHeap}
use Rattle.hp_plain.specs.HallSteps.{heap_slot, home_slot, slots_of}
use Rattle.hp_plain.specs.HallView.{HallView, IsHall, IsHome, SlotView}
use Rattle.hp_plain.specs.Moved.{AreLast, AreSlotsOf, IsFirstHeap, IsHeapFirst}
use Rattle.hp_plain.specs.Opening.{AreHome, heaps_in}
use Rattle.hp_stats.specs.declared.stat_pair.StatPair.{StatPair}
use Rattle.hp_zone.specs.declared.names.Names.{Names as NamesView}

-- a slot at home
abbrev IsAtHome : SlotView → Type 0
IsAtHome slot = (slot.holder ≡ None) × (slot.told ≡ None)

home_is : (slot : SlotView) → IsAtHome slot → slot ≡ home_slot slot.kept
home_is slot home =
    ap (λ (holder : Option ℕ). record slot { holder = holder }) home.0
    ∙ ap (λ (told : Option StatPair). record (home_slot slot.kept) { told = told }) home.1

-- a slot at home of a number has a heap, the segment value or the names
heap_at : (number : ℕ) (kept : Kept) → number < MAX_HEAPS → Fits number kept → (heap : HeldHeap) × (kept ≡ Heap heap.heap heap.pen)
heap_at number (Heap heap pen) below fits = (record { heap = heap; pen = pen }, refl)
heap_at number (Segments segs) below fits = absurd (omega (arith, fits))
heap_at number (Names names) below fits = absurd (omega (arith, fits))

segs_at : (kept : Kept) → Fits MAX_HEAPS kept → (segs : SegsView) × (kept ≡ Segments segs)
segs_at (Heap heap pen) fits = absurd (omega (arith, fits.1))
segs_at (Segments segs) fits = (segs, refl)
segs_at (Names names) fits = absurd (omega (arith, fits))

names_at : (kept : Kept) → Fits NAMES_SLOT kept → (names : NamesView) × (kept ≡ Names names)
names_at (Heap heap pen) fits = absurd (omega (arith, fits.1))
names_at (Segments segs) fits = absurd (omega (arith, fits))
names_at (Names names) fits = (names, refl)

-- each of the slots, of which the first has this number, fits and is at home
abbrev AreFitting : ℕ → List SlotView → Type 0
AreFitting from slots = (k : ℕ) (slot : SlotView) → slice_get slots k ≡ Some slot → Fits (from + k) slot.kept × IsAtHome slot

-- those after the first
rest_fit : (from : ℕ) (slot : SlotView) (slots : List SlotView) → AreFitting from (slot ∷ slots) → AreFitting (from + 1) slots
rest_fit from slot slots fit k next there =
    let at : from + suc k ≡ from + 1 + k = omega arith in
    let both = fit (suc k) next there in
    (subst (λ (n : ℕ). Fits n next.kept) at both.0, both.1)

first_fits : (from : ℕ) (slot : SlotView) (slots : List SlotView) → AreFitting from (slot ∷ slots) → Fits from slot.kept × IsAtHome slot
first_fits from slot slots fit =
    let at : from + 0 ≡ from = omega arith in
    let both = fit 0 slot refl in
    (subst (λ (n : ℕ). Fits n slot.kept) at both.0, both.1)

-- of the last two slots
are_last : (slots : List SlotView) → length slots ≡ 2 → AreFitting MAX_HEAPS slots → AreLast slots
are_last [] many fit = absurd (omega arith)
are_last (slot ∷ []) many fit = absurd (omega arith)
are_last (slot ∷ last ∷ rest) many fit =
    let first = first_fits MAX_HEAPS slot (last ∷ rest) fit in
    let next = first_fits NAMES_SLOT last rest (rest_fit MAX_HEAPS slot (last ∷ rest) fit) in
    let segs = segs_at slot.kept first.0 in
    let names = names_at last.kept next.0 in
    let none : rest ≡ [] = nil_from_length rest (omega arith) in
    record {
      segs = segs.0;
      names = names.0;
      slots_are =
          ap (λ (l : List SlotView). slot ∷ last ∷ l) none
          ∙ ap (λ (s : SlotView). s ∷ last ∷ []) (home_is slot first.1 ∙ ap home_slot segs.1)
          ∙ ap (λ (s : SlotView). home_slot (Segments segs.0) ∷ s ∷ []) (home_is last next.1 ∙ ap home_slot names.1);
    }

are_slots : (slots : List SlotView) (from count : ℕ) → length slots ≡ count + 2 → from + count ≡ MAX_HEAPS → AreFitting from slots → AreSlotsOf count slots
are_slots slots from zero many sum fit =
    let at : from ≡ MAX_HEAPS = omega (arith, sum) in
    let last = are_last slots many (subst (λ (n : ℕ). AreFitting n slots) at fit) in
    record { heaps = []; segs = last.segs; names = last.names; count_is = refl; slots_are = last.slots_are }
are_slots [] from (suc count) many sum fit = absurd (omega arith)
are_slots (slot ∷ slots) from (suc count) many sum fit =
    let first = first_fits from slot slots fit in
    let below : from < MAX_HEAPS = omega (arith, sum) in
    let heap = heap_at from slot.kept below first.0 in
    let rest = are_slots slots (from + 1) count (omega arith) (omega (arith, sum)) (rest_fit from slot slots fit) in
    record {
      heaps = heap.0 ∷ rest.heaps;
      segs = rest.segs;
      names = rest.names;
      count_is = ap suc rest.count_is;
      slots_are = ap (λ (s : SlotView). s ∷ slots) (home_is slot first.1 ∙ ap home_slot heap.1)
          ∙ ap (λ (l : List SlotView). heap_slot heap.0 ∷ l) rest.slots_are;
    }

-- the slots of a hall in which every value is at home
pub all_home : (hall : HallView) → IsHall hall → AreHome hall → AreSlotsOf MAX_HEAPS hall.slots
all_home hall is home =
    are_slots hall.slots 0 MAX_HEAPS is.slots refl (λ k slot there.
    let at : 0 + k ≡ k = omega arith in
    let below : k < SLOTS = omega (arith, is.slots, slice_get_within hall.slots k slot there) in
    let here : slot.holder ≡ None = subst IsHome there (home k below) in
    (subst (λ (n : ℕ). Fits n slot.kept) (sym at) (is.fits k slot there), (here, is.untold k slot there here)))

first_of_slots : (heaps : List HeldHeap) (segs : SegsView) (names : NamesView) (slots : List SlotView) → 0 < length heaps
    → slots ≡ slots_of heaps segs names → IsFirstHeap slots
first_of_slots [] segs names slots some are = absurd (omega arith)
first_of_slots (heap ∷ heaps) segs names slots some are = record { heap = heap; rest = slots_of heaps segs names; slots_are = are }

pub first_heap : (count : ℕ) (slots : List SlotView) → 0 < count → AreSlotsOf count slots → IsFirstHeap slots
first_heap count slots some are = first_of_slots are.heaps are.segs are.names slots (omega (arith, are.count_is)) are.slots_are

-- what comes after the first of some slots
rest_same : (slots rest more : List SlotView) (one other : SlotView) → slots ≡ one ∷ more → slots ≡ other ∷ rest → rest ≡ more
rest_same slots rest more one other are first =
    let both : other ∷ rest ≡ one ∷ more = sym first ∙ are in
    ap (drop 1) both

rest_of_slots : (heaps : List HeldHeap) (segs : SegsView) (names : NamesView) (slots rest : List SlotView) (heap : HeapView) (count : ℕ)
    → length heaps ≡ count + 1 → slots ≡ slots_of heaps segs names → IsHeapFirst heap slots rest → AreSlotsOf count rest
rest_of_slots [] segs names slots rest heap count many are first = absurd (omega arith)
rest_of_slots (h ∷ heaps) segs names slots rest heap count many are first = record {
  heaps = heaps;
  segs = segs;
  names = names;
  count_is = omega arith;
  slots_are = rest_same slots rest (slots_of heaps segs names) (heap_slot h) (heap_slot (record { heap = heap; pen = first.pen })) are first.slots_are;
}

pub rest_heaps : (more count : ℕ) (slots rest : List SlotView) (heap : HeapView) → more ≡ count + 1 → AreSlotsOf more slots
    → IsHeapFirst heap slots rest → AreSlotsOf count rest
rest_heaps more count slots rest heap one are first =
    rest_of_slots are.heaps are.segs are.names slots rest heap count (are.count_is ∙ one) are.slots_are first

last_of_slots : (heaps : List HeldHeap) (segs : SegsView) (names : NamesView) (slots : List SlotView) → length heaps ≡ 0
    → slots ≡ slots_of heaps segs names → AreLast slots
last_of_slots [] segs names slots none are = record { segs = segs; names = names; slots_are = are }
last_of_slots (heap ∷ heaps) segs names slots none are = absurd (omega arith)

pub last_slots : (count : ℕ) (slots : List SlotView) → count ≡ 0 → AreSlotsOf count slots → AreLast slots
last_slots count slots none are = last_of_slots are.heaps are.segs are.names slots (are.count_is ∙ none) are.slots_are

-- what came out of the front stood there
pub taken_first : {X : Type 0} (xs now : List X) (x : X) → 0 < length xs → x ≡ get_or xs 0 x → now ≡ take 0 xs ++ drop 1 xs → xs ≡ x ∷ now
taken_first [] now x some first rest = absurd (omega arith)
taken_first (y ∷ ys) now x some first rest = cc

-- heaps have come out of slots into these, each of them with its pen
pub record HaveComeOut (heaps : List HeapView) (slots initial : List SlotView) : Type 0 where
  pub held : List HeldHeap
  pub heaps_are : heaps_in held ≡ heaps
  pub slots_are : map heap_slot held ++ slots ≡ initial

-- none at first
pub none_out : (slots : List SlotView) → HaveComeOut [] slots slots
none_out slots = record { held = []; heaps_are = refl; slots_are = refl }

-- one heap more has come out
pub one_more_out : (heaps now : List HeapView) (heap : HeapView) (slots rest initial : List SlotView) → now ≡ heaps ++ heap ∷ []
    → IsHeapFirst heap slots rest → HaveComeOut heaps slots initial → HaveComeOut now rest initial
one_more_out heaps now heap slots rest initial more first out =
    let one : HeldHeap = record { heap = heap; pen = first.pen } in
    record {
      held = out.held ++ one ∷ [];
      heaps_are = map-append (λ (h : HeldHeap). h.heap) out.held (one ∷ []) ∙ ap (λ (l : List HeapView). l ++ heap ∷ []) out.heaps_are ∙ sym more;
      slots_are = ap (λ (l : List SlotView). l ++ rest) (map-append heap_slot out.held (one ∷ []))
          ∙ append_assoc (map heap_slot out.held) (heap_slot one ∷ []) rest
          ∙ ap (λ (l : List SlotView). map heap_slot out.held ++ l) (sym first.slots_are) ∙ out.slots_are;
    }
