use Rattle.std.proofs.Common.{◌≡◌, ℕ, zero, suc, List, [], ◌∷◌, ◌++◌, length, Some, None, ap, subst, ◌∙◌, arith}
use Rattle.std.specs.List.{slice_get}
use Rattle.std.proofs.lemmas.Option.{slice_get_within, same_Some}
use Rattle.hp_heap.specs.History.{HeapView}
use Rattle.hp_heap.specs.PlainHeap.{PlainHeap, opening_heap}
use Rattle.test_solo.proofs.plain.vacant_heaps.Goals as goal

none_in : (xs : List HeapView) (number : ℕ) (heap : HeapView) → xs ≡ [] → slice_get xs number ≡ Some heap → ⊥
none_in xs number heap none there = omega (arith, slice_get_within xs number heap there, ap length none)

-- what holds of each holds with one more after them
each_more : (P : ℕ → HeapView → Type 0) (xs : List HeapView) (x : HeapView) → ((k : ℕ) (y : HeapView) → slice_get xs k ≡ Some y → P k y)
    → P (length xs) x → (k : ℕ) (y : HeapView) → slice_get (xs ++ x ∷ []) k ≡ Some y → P k y
each_more P [] x each last zero y there = subst (P zero) (same_Some x y there) last
each_more P [] x each last (suc k) y there = cc
each_more P (z ∷ xs) x each last zero y there = each zero y there
each_more P (z ∷ xs) x each last (suc k) y there = each_more (λ n. P (suc n)) xs x (λ n w at. each (suc n) w at) last k y there

pub loop-index-init : goal.loop-index-init
loop-index-init c = record {
  count = c.in_ok-heaps.ensures.len;
  room = c.in_ok-heaps.ensures.capacity;
  each = λ number heap there. absurd (none_in _ number heap c.in_ok-heaps.ensures.items there);
}

pub loop-index-preserved : goal.loop-index-preserved
loop-index-preserved c =
    let is = c.loop-index.invariant in
    let heaps = c.loop-index.heaps in
    let index : c.loop-index.index ≡ length heaps.items = omega (arith, is.count, heaps.ok.0) in
    record {
      count = omega (arith, c.push_reserved.ensures.len, is.count);
      room = omega (arith, c.push_reserved.ensures.capacity, is.room);
      each = λ number heap there.
          each_more (λ k h. (h.plain ≡ opening_heap k None) × (h.history ≡ [])) heaps.items c.vacant.result is.each
          (c.vacant.ensures.plain ∙ ap (λ (n : ℕ). opening_heap n None) index, c.vacant.ensures.history) number heap
          (subst (λ (l : List HeapView). slice_get l number ≡ Some heap) c.push_reserved.ensures.items there);
    }

pub returns-clause-order : goal.returns-clause-order
returns-clause-order c =
    let is = c.loop-index.invariant in
    let heaps = c.loop-index.heaps in
    record {
      count = omega (arith, is.count, heaps.ok.0, c.loop-index-test.false, c.loop-index.auto.index-end);
      index = λ number heap there. ap (λ (p : PlainHeap). p.index) (is.each number heap there).0;
    }

pub returns-clause-unused : goal.returns-clause-unused
returns-clause-unused c = λ number heap there. (c.loop-index.invariant.each number heap there).1

pub returns-clause-opened : goal.returns-clause-opened
returns-clause-opened c = λ number heap there. (c.loop-index.invariant.each number heap there).0
