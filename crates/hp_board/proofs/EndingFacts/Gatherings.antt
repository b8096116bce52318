-- Seats are taken from the end of a vector, and values from the slots of a closed table, one by one.
use Rattle.std.proofs.Common.{◌≡◌, ℕ, ◌+◌, ◌<◌, ◌≤◌, Bool, false, List, [], ◌∷◌, ◌++◌, length, get_or, set, take, Option, Some, sym, ap, subst, ◌∙◌, arith}
use Rattle.std.specs.List.{Contains}
use Rattle.std.proofs.lemmas.List.{get_or-take, length-take, get_or_default, get_or_push, get_or_append_left, get_or-set_other, get_or-set_same}
use Rattle.std.proofs.lemmas.List.Elements.{Contains-append_left, Contains-append_right}
use Rattle.std.proofs.lemmas.Option.{get_or_from_slice_get, slice_get-get_or, slice_get_within}
use mathlib.Core.Logic.{dite}
use mathlib.Core.Option.{some}
use native.Mathlib.Decide.{ℕ_discrete}
use lib.ListN.{get_elem?}
use Rattle.hp_heap.specs.History.{HeapView}
use Rattle.hp_stats.specs.StatViews.{PenView}
use Rattle.hp_hall.specs.declared.kept.Kept.{Kept}
use Rattle.hp_hall.specs.declared.kept.Kept.TheVariants.{Heap}
use Rattle.hp_base.specs.declared.limits.TheConstants.{MAX_HEAPS}
use Rattle.hp_hall.specs.declared.kept.Kept.TheVariants.{Names, Segments}
use Rattle.hp_hall.specs.declared.slot.TheConstants.{NAMES_SLOT}
use Rattle.hp_zone.specs.declared.names.Names.{Names as NamesView}
use Rattle.hp_board.specs.Closing.{handed_out}
use Rattle.hp_segs.specs.SegsView.{SegsView}
use Rattle.hp_board.specs.declared.view.Mine.{Mine}
use Rattle.hp_board.specs.declared.view.View.{View}
use Rattle.hp_board.specs.Gathered.{AreFrom}
use Rattle.hp_board.specs.SeatView.{SeatView}
use Rattle.hp_board.specs.Parts.{one_part, both_parts}
use Rattle.hp_board.proofs.StepsOfSeats.SeatSteps.{Contains-head}

-- how many of the seats are left, and which one was taken
module _ (all now : List SeatView) (left : ℕ) (front : now ≡ take (left + 1) all) (count : length now ≡ left + 1) where
  pub within : left < length all
  within = omega (arith, ap length front, length-take (left + 1) all)

  pub popped_is : (seat : SeatView) → Some seat ≡ Some (get_or now left seat) → (d : SeatView) → get_or all left d ≡ seat
  popped_is seat is d =
      get_or_default all left d seat within ∙ sym (get_or-take (left + 1) all left seat (omega arith)) ∙ ap (λ (l : List SeatView). get_or l left seat) (sym front) ∙ sym (cc)

-- a view that takes in a seat has all parts that it had, and that of the seat
pub more_parts : (all : List SeatView) (view new : View) (left : ℕ) (seat : SeatView) → new ≡ both_parts view (one_part seat.mine) → ((d : SeatView) → get_or all left d ≡ seat)
    → ((k : ℕ) (d : SeatView) → left + 1 ≤ k → k < length all → Contains view.parts (get_or all k d).mine)
    → (k : ℕ) (d : SeatView) → left ≤ k → k < length all → Contains new.parts (get_or all k d).mine
more_parts all view new left seat is popped parts k d above inside =
    subst (λ (v : View). Contains v.parts (get_or all k d).mine) (sym is)
    (dite (ℕ_discrete k left)
    (λ same. subst (λ (m : Mine). Contains (view.parts ++ seat.mine ∷ []) m) (sym (ap (λ (j : ℕ). (get_or all j d).mine) same ∙ ap (λ (s : SeatView). s.mine) (popped d)))
    (Contains-append_right view.parts (seat.mine ∷ []) seat.mine (Contains-head seat.mine [])))
    (λ apart. Contains-append_left view.parts (seat.mine ∷ []) (get_or all k d).mine (parts k d (omega arith) inside)))

-- the slots up to a number have the heaps and the pens that were moved out of them
abbrev pub AreMovedOut : List (Option Kept) → List HeapView → List PenView → ℕ → Type 0
AreMovedOut items heaps pens number = (k : ℕ) (heap : HeapView) (pen : PenView) → k < number → get_elem? items k ≡ some (Some (Heap (get_or heaps k heap) (get_or pens k pen)))

-- one value more is moved out
pub moved_values : (items : List (Option Kept)) (heaps : List HeapView) (pens : List PenView) (number : ℕ) (heap : HeapView) (pen : PenView) → length heaps ≡ number
    → length pens ≡ number → get_elem? items number ≡ some (Some (Heap heap pen)) → AreMovedOut items heaps pens number → AreMovedOut items (heaps ++ heap ∷ []) (pens ++ pen ∷ []) (number + 1)
moved_values items heaps pens number heap pen count pen_count here before k d e below =
    dite (ℕ_discrete k number)
    (λ same.
    ap (get_elem? items) same ∙ here
    ∙ ap (λ (h : HeapView). some (Some (Heap h pen))) (sym (get_or_push heaps heap d k (omega arith)))
    ∙ ap (λ (p : PenView). some (Some (Heap (get_or (heaps ++ heap ∷ []) k d) p))) (sym (get_or_push pens pen e k (omega arith))))
    (λ apart.
    before k d e (omega arith)
    ∙ ap (λ (h : HeapView). some (Some (Heap h (get_or pens k e)))) (sym (get_or_append_left heaps (heap ∷ []) d k (omega arith)))
    ∙ ap (λ (p : PenView). some (Some (Heap (get_or (heaps ++ heap ∷ []) k d) p))) (sym (get_or_append_left pens (pen ∷ []) e k (omega arith))))

-- a place that was emptied, and the others
pub emptied_here : (filled : List Bool) (number : ℕ) → number < length filled → ((k : ℕ) → k < number → get_or filled k false ≡ false)
    → (k : ℕ) → k < number + 1 → get_or (set filled number false) k false ≡ false
emptied_here filled number inside before k below =
    dite (ℕ_discrete k number)
    (λ same. ap (λ (j : ℕ). get_or (set filled number false) j false) same ∙ get_or-set_same filled number false false inside)
    (λ apart. get_or-set_other filled number k false false apart ∙ before k (omega arith))

-- what stands for a pen past the last
abbrev no_pen : PenView
no_pen = record { cell = record { words = 0; slots = 0; slot_names = []; views_name = 0; atom = 0; block = 0; offset = 0 }; published = [] }

-- the heaps with their pens, the segment value and the names are the values of the slots
pub all_moved : (items : List (Option Kept)) (heaps : List HeapView) (pens : List PenView) (segs : SegsView) (names : NamesView) → length heaps ≡ MAX_HEAPS → length pens ≡ MAX_HEAPS
    → AreMovedOut items heaps pens MAX_HEAPS → get_elem? items MAX_HEAPS ≡ some (Some (Segments segs)) → get_elem? items NAMES_SLOT ≡ some (Some (Names names))
    → AreFrom items (handed_out heaps pens segs names)
all_moved items heaps pens segs names count pen_count values segs_is names_is = record {
  count = count;
  pen_count = pen_count;
  segs = segs_is;
  names = names_is;
  each = λ slot heap there.
      let inside : slot < MAX_HEAPS = omega (arith, slice_get_within heaps slot heap there, count) in
      record {
        pen = get_or pens slot no_pen;
        its = slice_get-get_or pens slot no_pen (omega (arith, inside, pen_count));
        there = values slot heap no_pen inside ∙ ap (λ (h : HeapView). some (Some (Heap h (get_or pens slot no_pen)))) (get_or_from_slice_get heaps slot heap heap there);
      };
}
