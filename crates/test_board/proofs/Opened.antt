-- The heaps that a board opens with, and the roster of its segment value.
use Rattle.std.proofs.Common.{◌≡◌, ◌∙◌, ◌⊎◌, inl, inr, ⊎_elim, ℕ, zero, suc, ◌+◌, false, Option, Some, None}
use Rattle.std.proofs.Common.{List, [], ◌∷◌, ◌++◌, length, get_or, replicate, refl, sym, ap, subst, arith}
use Rattle.std.specs.List.{slice_get}
use Rattle.std.proofs.lemmas.List.{length_push}
use Rattle.hp_heap.specs.History.{HeapView}
use Rattle.hp_segs.specs.declared.ask.Ask.{Ask}
use Rattle.hp_zone.specs.Directory as names
use Rattle.hp_board.specs.Served.{AreOpeningHeaps, HasNamesOf, IsNamedIn}

-- HEAPS

get_push : {A : Type 0} (xs : List A) (x y : A) (k : ℕ) → slice_get (xs ++ x ∷ []) k ≡ Some y
    → (slice_get xs k ≡ Some y) ⊎ ((k ≡ length xs) × (x ≡ y))
get_push [] x y zero is = inr (refl, cc)
get_push [] x y (suc k) is = absurd (cc)
get_push (z ∷ zs) x y zero is = inl is
get_push (z ∷ zs) x y (suc k) is = ⊎_elim (λ e. inl e) (λ e. inr (ap suc e.0, e.1)) (get_push zs x y k is)

-- the heaps of a board, as far as they have been made
pub record AreOpened (heaps : List HeapView) (count : ℕ) : Type 0 where
  pub long : length heaps ≡ count
  pub index : (slot : ℕ) (heap : HeapView) → slice_get heaps slot ≡ Some heap → heap.plain.index ≡ slot
  pub empty : (slot : ℕ) (heap : HeapView) → slice_get heaps slot ≡ Some heap → heap.history ≡ []
  pub named : HasNamesOf (names.opening (0 ∷ [])) heaps

pub opened_none : AreOpened [] 0
opened_none = record { long = refl; index = λ slot heap is. absurd (cc); empty = λ slot heap is. absurd (cc); named = λ slot heap is. absurd (cc) }

pub opened_push : (heaps : List HeapView) (count : ℕ) (heap : HeapView) → AreOpened heaps count → heap.plain.index ≡ count
    → heap.history ≡ [] → IsNamedIn (names.opening (0 ∷ [])) heap.plain.index heap → AreOpened (heaps ++ heap ∷ []) (count + 1)
opened_push heaps count heap before index empty named = record {
  long = omega (arith, length_push heaps heap, before.long);
  index = λ slot other is. elim (get_push heaps heap other slot is) [
    | inl old ↦ before.index slot other old
    | inr new ↦ ap (λ (h : HeapView). h.plain.index) (sym new.1) ∙ index ∙ sym before.long ∙ sym new.0
  ];
  empty = λ slot other is. elim (get_push heaps heap other slot is) [
    | inl old ↦ before.empty slot other old
    | inr new ↦ ap (λ (h : HeapView). h.history) (sym new.1) ∙ empty
  ];
  named = λ slot other is. elim (get_push heaps heap other slot is) [
    | inl old ↦ before.named slot other old
    | inr new ↦ subst (IsNamedIn (names.opening (0 ∷ [])) slot) new.1 (subst (λ (k : ℕ). IsNamedIn (names.opening (0 ∷ [])) k heap) (index ∙ sym before.long ∙ sym new.0) named)
  ];
}

pub opened_all : (heaps : List HeapView) → AreOpened heaps 32 → AreOpeningHeaps heaps
opened_all heaps are = record { count = are.long; index = are.index; empty = are.empty }

-- THE SEGMENT VALUE

pub nobody_armed : (count who : ℕ) → get_or (replicate {A = Option Ask} count None) who None ≡ None
nobody_armed zero who = refl
nobody_armed (suc count) zero = refl
nobody_armed (suc count) (suc who) = nobody_armed count who

pub all_out : (count who : ℕ) → get_or (replicate count false) who false ≡ false
all_out zero who = refl
all_out (suc count) zero = refl
all_out (suc count) (suc who) = all_out count who
