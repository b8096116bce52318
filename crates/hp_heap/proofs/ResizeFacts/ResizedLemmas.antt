-- What a resize makes of a tiled heap, at the element that it finds.
use Rattle.std.proofs.Common.{◌≡◌, ℕ, ◌+◌, ◌<◌, ◌≤◌, Bool, true, false, cond, List, [], ◌∷◌, ◌++◌, refl, sym, ap, subst, ◌∙◌, inl, inr, arith, Option, Some, None, Contains, leb}
use Rattle.std.proofs.lemmas.Bool.{cond-true, cond-false, cond_both, le-leb, lt-leb}
use Rattle.std.proofs.lemmas.List.Elements.{Contains-append_right}
use Rattle.std.specs.List.{AllByRecursion, find}
use Rattle.hp_base.specs.declared.span.Span.{Span}
use Rattle.hp_chain.specs.Chain.{Keyed, AreApart}
use Rattle.hp_elem.specs.Items.{Items}
use Rattle.hp_heap.specs.PlainHeap.{PlainHeap, is_free}
use Rattle.hp_heap.specs.Tiling.{IsTiled}
use Rattle.hp_heap.specs.Placing.{replaced, count_if}
use Rattle.hp_heap.specs.Joining.{has_data_at, busy_at}
use Rattle.hp_heap.specs.Resizing.{bytes_needed, bytes_together, is_next_free, next_free, resized, taken_over, with_new_size, after_resize, after_resize_of, can_resize, can_resize_of, CanAskSize}
use Rattle.hp_heap.specs.Headers.{HeadersView, spans_of}
use Rattle.hp_heap.specs.Finding.{HasDataAt}
use Rattle.hp_heap.specs.InPlace.{first_free, has_rest, with_rest_if, Resizes, ResizesData}
use Rattle.hp_heap.proofs.RangeLemmas.{AllByRecursion-back, replaced-at}
use Rattle.hp_heap.proofs.AllocFacts.ChoiceLaw.{Contains-here}
use Rattle.hp_heap.proofs.Members.{find_some, find_none}
use Rattle.hp_heap.proofs.FreeFacts.FreeTiling.{among_at}
use Rattle.hp_heap.proofs.AllocFacts.SplitLemmas.{same_split, spans-append}
use Rattle.hp_heap.proofs.ResizeFacts.ResizeTiling.{IsResizing, IsNextOf, next_of, ranges_left}
use Rattle.hp_heap.proofs.AllocFacts.AllocKept.{SameButElements}

-- the free element behind another is the first of those behind it
module _ (heap : PlainHeap) (r : Span) (size : ℕ) (xs ys : List Span) (tiled : IsTiled heap) (is : IsResizing heap r size xs ys) where
  none_first : (ws : List Span) → heap.ranges ≡ xs ++ (r ∷ ws) → next_free r heap ≡ None → None ≡ first_free r ws
  none_first [] at none = refl
  none_first (n ∷ ws) at none =
      let fails = AllByRecursion-back (λ q. is_next_free r q ≡ false) xs (r ∷ n ∷ ws) (subst (λ zs. AllByRecursion (λ q. is_next_free r q ≡ false) zs) at (find_none (is_next_free r) heap.ranges none)) in
      sym (cond-false (is_next_free r n) (Some n) None fails.1.0)

  by_next : (o : Option Span) → next_free r heap ≡ o → o ≡ first_free r ys
  by_next None none = none_first ys is.among.ranges none
  by_next (Some n) found =
      let (zs, parts, next) = next_of heap r size xs ys n tiled is found in
      sym (ap (λ ws. first_free r ws) parts ∙ cond-true (is_next_free r n) (Some n) None (find_some (is_next_free r) heap.ranges n found).0)

  pub next_is : next_free r heap ≡ first_free r ys
  next_is = by_next (next_free r heap) refl

-- the elements, the number of insertions and the answer are those of a resize
pub record IsResizeOf (address size : ℕ) (heap : PlainHeap) (ranges : List Span) (insertions : ℕ) (had : Bool) : Type 0 where
  pub ranges_are : ranges ≡ (after_resize address size heap).ranges
  pub insertions_are : insertions ≡ (after_resize address size heap).insertions
  pub had_is : had ≡ can_resize address size heap

-- an element is found by its data, among those on both sides of it
pub record IsSeen (address size : ℕ) (heap : PlainHeap) (r : Span) (xs ys : List Span) : Type 0 where
  pub found : find (has_data_at address) heap.ranges ≡ Some r
  pub resizing : IsResizing heap r size xs ys

-- bytes that an element has it has with others
own_together : (r : Span) (need : ℕ) (o : Option Span) → need ≤ r.whole → leb need (bytes_together r o) ≡ true
own_together r need None fits = le-leb need r.whole fits
own_together r need (Some n) fits = le-leb need (r.whole + n.whole) (omega (arith, fits))

lacks_own : (r : Span) (need : ℕ) (o : Option Span) → bytes_together r o < need → r.whole < need
lacks_own r need None lacks = lacks
lacks_own r need (Some n) lacks = omega (arith, lacks)

module _ (address size : ℕ) (heap : PlainHeap) (r : Span) (xs ys : List Span) (tiled : IsTiled heap) (seen : IsSeen address size heap r xs ys) where
  after_is : (next : PlainHeap) → after_resize_of (Some r) size heap ≡ next → after_resize address size heap ≡ next
  unfolding after_resize busy_at
  after_is next is = ap (λ o. after_resize_of o size heap) seen.found ∙ is

  can_is : (had : Bool) → leb (bytes_needed r size) (bytes_together r (next_free r heap)) ≡ had → had ≡ can_resize address size heap
  unfolding can_resize busy_at
  can_is had is = sym (ap (λ o. can_resize_of o size heap) seen.found ∙ is)

  -- in its own bytes
  pub resize_kept : bytes_needed r size ≤ r.whole → IsResizeOf address size heap (xs ++ (resized r r.whole size ∷ ys)) heap.insertions true
  resize_kept fits =
      let is : after_resize_of (Some r) size heap ≡ with_new_size r size heap = rw (le-leb (bytes_needed r size) r.whole fits) refl in
      let ranges : (with_new_size r size heap).ranges ≡ xs ++ (resized r r.whole size ∷ ys) =
      ap (λ zs. replaced r.addr (resized r r.whole size ∷ []) zs) seen.resizing.among.ranges ∙ replaced-at r.addr (resized r r.whole size ∷ []) xs r ys seen.resizing.among.under refl in
      record {
        ranges_are = sym (ap (λ h. h.ranges) (after_is (with_new_size r size heap) is) ∙ ranges);
        insertions_are = sym (ap (λ h. h.insertions) (after_is (with_new_size r size heap) is));
        had_is = can_is true (own_together r (bytes_needed r size) (next_free r heap) fits);
      }

  -- with those of the free element behind it
  pub resize_taken : (n : Span) (zs : List Span) → ys ≡ n ∷ zs → is_next_free r n ≡ true → r.whole < bytes_needed r size → bytes_needed r size ≤ r.whole + n.whole
      → IsResizeOf address size heap (xs ++ (with_rest_if (has_rest r n size) r n size (heap.insertions + 1) ++ zs)) (heap.insertions + count_if (has_rest r n size)) true
  resize_taken n zs parts beside more fits =
      let next : next_free r heap ≡ Some n = next_is heap r size xs ys tiled seen.resizing ∙ ap (λ ws. first_free r ws) parts ∙ cond-true (is_next_free r n) (Some n) None beside in
      let at : IsResizing heap r size xs (n ∷ zs) = subst (λ ws. IsResizing heap r size xs ws) parts seen.resizing in
      let (ws, same, known) = next_of heap r size xs (n ∷ zs) n tiled at next in
      let behind : IsNextOf heap r n zs = record { has = known.has; free = known.free; list = known.list; at = known.at; element = known.element } in
      let together : leb (bytes_needed r size) (bytes_together r (next_free r heap)) ≡ true =
      ap (λ o. leb (bytes_needed r size) (bytes_together r o)) next ∙ le-leb (bytes_needed r size) (r.whole + n.whole) fits in
      let is : after_resize_of (Some r) size heap ≡ taken_over r (Some n) size heap =
      (rw (lt-leb (bytes_needed r size) r.whole more, together) refl) ∙ ap (λ o. taken_over r o size heap) next in
      record {
        ranges_are = sym (ap (λ h. h.ranges) (after_is (taken_over r (Some n) size heap) is) ∙ ranges_left heap r size xs n zs tiled at behind fits);
        insertions_are = sym (ap (λ h. h.insertions) (after_is (taken_over r (Some n) size heap) is));
        had_is = can_is true together;
      }

  -- or it is not had
  pub resize_refused : bytes_together r (first_free r ys) < bytes_needed r size → IsResizeOf address size heap heap.ranges heap.insertions false
  resize_refused lacks =
      let few : bytes_together r (next_free r heap) < bytes_needed r size = subst (λ o. bytes_together r o < bytes_needed r size) (sym (next_is heap r size xs ys tiled seen.resizing)) lacks in
      let together : leb (bytes_needed r size) (bytes_together r (next_free r heap)) ≡ false = lt-leb (bytes_needed r size) (bytes_together r (next_free r heap)) few in
      let is : after_resize_of (Some r) size heap ≡ heap = rw (lt-leb (bytes_needed r size) r.whole (lacks_own r (bytes_needed r size) (next_free r heap) few), together) refl in
      record {
        ranges_are = sym (ap (λ h. h.ranges) (after_is heap is));
        insertions_are = sym (ap (λ h. h.insertions) (after_is heap is));
        had_is = can_is false together;
      }

-- what a resize leaves alone
resized_kept : (heap : PlainHeap) (size : ℕ) (o : Option Span) → SameButElements heap (after_resize_of o size heap)
resized_kept heap size None = record { serves = refl; name = refl; socket = refl; pages = refl; chunks = refl }
resized_kept heap size (Some r) =
    cond_both (leb (bytes_needed r size) r.whole) (with_new_size r size heap)
    (cond (leb (bytes_needed r size) (bytes_together r (next_free r heap))) (taken_over r (next_free r heap) size heap) heap) (SameButElements heap)
    (λ fits. record { serves = refl; name = refl; socket = refl; pages = refl; chunks = refl })
    (λ more. cond_both (leb (bytes_needed r size) (bytes_together r (next_free r heap))) (taken_over r (next_free r heap) size heap) heap (SameButElements heap)
    (λ fits. record { serves = refl; name = refl; socket = refl; pages = refl; chunks = refl })
    (λ refused. record { serves = refl; name = refl; socket = refl; pages = refl; chunks = refl }))

pub resize_same : (heap : PlainHeap) (address size : ℕ) → SameButElements heap (after_resize address size heap)
unfolding after_resize
resize_same heap address size = resized_kept heap size (busy_at address heap)

-- a resize of elements under keys is that of the heap that has them
module _ (address size : ℕ) (heap : PlainHeap) (tiled : IsTiled heap) (can : CanAskSize address size heap) (old new : HeadersView) (apart : AreApart old.items)
    (same : spans_of old.items ≡ heap.ranges) (count : old.insertions ≡ heap.insertions) (key : ℕ) (there : HasDataAt address old.items key) where
  seen_at : (front : Items) (e : Keyed Span) (back : Items) → old.items ≡ front ++ e ∷ back → e.key ≡ key → IsSeen address size heap e.value (spans_of front) (spans_of back)
  seen_at front e back is at =
      let one = same_split there.front there.found there.back front e back (subst AreApart there.is apart) (sym there.is ∙ is) (there.same ∙ sym at) in
      let ranges : heap.ranges ≡ spans_of front ++ (e.value ∷ spans_of back) = sym same ∙ ap spans_of is ∙ spans-append front (e ∷ back) in
      let has : Contains heap.ranges e.value = subst (λ zs. Contains zs e.value) (sym ranges) (Contains-append_right (spans_of front) (e.value ∷ spans_of back) e.value (Contains-here e.value (spans_of back))) in
      record {
        found = ap (λ zs. find (has_data_at address) zs) (sym same) ∙ there.found_is ∙ ap (λ (o : Keyed Span). Some o.value) one.found;
        resizing = record {
          has = has;
          busy = subst (λ (o : Keyed Span). is_free o.value ≡ false) one.found there.busy;
          some = can.some;
          lines = can.lines;
          among = among_at heap e.value (spans_of front) (spans_of back) tiled has ranges;
        };
      }

  -- with the number of insertions before
  counted : (ranges : List Span) (insertions : ℕ) (had : Bool) → spans_of new.items ≡ ranges → new.insertions ≡ insertions → IsResizeOf address size heap ranges insertions had
      → IsResizeOf address size heap (spans_of new.items) new.insertions had
  counted ranges insertions had is more done = record { ranges_are = is ∙ done.ranges_are; insertions_are = more ∙ done.insertions_are; had_is = done.had_is }

  by_outcome : (had : Bool) → Resizes key size old new had → IsResizeOf address size heap (spans_of new.items) new.insertions had
  by_outcome true (inl kept) = counted _ _ true kept.spans (kept.insertions ∙ count)
      (resize_kept address size heap kept.found.value (spans_of kept.front) (spans_of kept.back) tiled (seen_at kept.front kept.found kept.back kept.is kept.same) kept.fits)
  by_outcome true (inr taken) = counted _ _ true
      (taken.spans ∙ ap (λ (n : ℕ). spans_of taken.front ++ (with_rest_if (has_rest taken.found.value taken.next.value size) taken.found.value taken.next.value size (n + 1) ++ spans_of taken.back)) count)
      (taken.insertions ∙ ap (λ (n : ℕ). n + count_if (has_rest taken.found.value taken.next.value size)) count)
      (resize_taken address size heap taken.found.value (spans_of taken.front) (spans_of (taken.next ∷ taken.back)) tiled (seen_at taken.front taken.found (taken.next ∷ taken.back) taken.is taken.same)
      taken.next.value (spans_of taken.back) refl taken.beside taken.more taken.fits)
  by_outcome false lacks = counted _ _ false (ap spans_of lacks.items ∙ same) (lacks.insertions ∙ count)
      (resize_refused address size heap lacks.found.value (spans_of lacks.front) (spans_of lacks.back) tiled (seen_at lacks.front lacks.found lacks.back lacks.is lacks.same) lacks.lacks)

pub data_resized : (address size : ℕ) (heap : PlainHeap) → IsTiled heap → CanAskSize address size heap → (old new : HeadersView) → AreApart old.items → spans_of old.items ≡ heap.ranges
    → old.insertions ≡ heap.insertions → (had : Bool) → ResizesData address size old new had → IsResizeOf address size heap (spans_of new.items) new.insertions had
data_resized address size heap tiled can old new apart same count had done =
    by_outcome address size heap tiled can old new apart same count done.key done.there had done.resized
