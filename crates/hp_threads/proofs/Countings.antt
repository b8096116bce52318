-- The pens of all heaps meet what one pass after another has read.
use Rattle.std.proofs.Common.{◌≡◌, ◌∙◌, ℕ, zero, suc, ◌+◌, ◌<◌, ◌≤◌, ⊎_elim, List, [], ◌∷◌, length, get_or, set, Some, refl, sym, ap, subst, arith}
use Rattle.std.specs.List.{slice_get}
use Rattle.std.proofs.lemmas.Bool.{cases_lt}
use Rattle.std.proofs.lemmas.Option.{same_Some, slice_get_within}
use Rattle.atomic_table.specs.Seated.{TableId}
use Rattle.hp_base.specs.declared.limits.TheConstants.{MAX_HEAPS}
use Rattle.hp_board.specs.Closing.{AreHeaps}
use Rattle.hp_board.specs.declared.opening.Opening.{Opening}
use Rattle.hp_heap.specs.History.{HeapView}
use Rattle.hp_stats.specs.Pairs.{AreAmong}
use Rattle.hp_stats.specs.StatViews as stats
use Rattle.hp_stats.specs.StatViews.{IsPenOf, PenView, seen_of}
use Rattle.thm_run.proofs.RunFacts.SoFarFacts.{at_place}
use Rattle.hp_threads.specs.Counting.{ArePensOf}

-- a list is as it was where what stands at a place is set to what stood there
pub same_set : {A : Type 0} (xs : List A) (place : ℕ) (x : A) → x ≡ get_or xs place x → set xs place x ≡ xs
same_set [] place x is = refl
same_set (y ∷ xs) zero x is = ap (λ (one : _). one ∷ xs) is
same_set (y ∷ xs) (suc place) x is = ap (λ (rest : List _). y ∷ rest) (same_set xs place x is)

-- one pen more
pub met_more : (pens : List PenView) (pass : stats.PassView) (heap : ℕ) (pen : PenView) → slice_get pens heap ≡ Some pen
    → AreAmong pen.published (seen_of heap pass)
    → ((one : ℕ) (its : PenView) → one < heap → slice_get pens one ≡ Some its → AreAmong its.published (seen_of one pass))
    → (one : ℕ) (its : PenView) → one < heap + 1 → slice_get pens one ≡ Some its → AreAmong its.published (seen_of one pass)
met_more pens pass heap pen there met before one its below at =
    ⊎_elim (λ (early : one < heap). before one its early at)
    (λ (late : heap ≤ one).
    let same : one ≡ heap = omega (arith, below, late) in
    let pen_is : pen ≡ its = same_Some pen its (sym there ∙ (ap (slice_get pens) (sym same) ∙ at)) in
    subst (λ (p : PenView). AreAmong p.published (seen_of one pass)) pen_is
    (subst (λ (n : ℕ). AreAmong pen.published (seen_of n pass)) (sym same) met))
    (cases_lt one heap)

-- nothing is left of a list without a length
pub none_left : {A : Type 0} (xs : List A) → length xs ≡ 0 → xs ≡ []
none_left [] none = refl
none_left (x ∷ xs) none = absurd (omega (arith, none))

-- the pens that a board hands out are those of its cells, each at its heap's index
pub pens_of : (opening : Opening) (cells : List TableId) (heaps : List HeapView) (pens : List PenView) → AreHeaps opening heaps pens
    → opening.cells.value ≡ cells → ArePensOf cells pens
pens_of opening cells heaps pens are same = record {
  few = omega (arith, are.pen_count);
  each = λ heap pen there.
      let one = at_place heaps heap (omega (arith, slice_get_within pens heap pen there, are.pen_count, are.count)) in
      subst (λ (all : List TableId). IsPenOf all heap pen) same (are.pen_at heap one.it pen one.there there).cell;
}
