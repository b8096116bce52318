use Rattle.std.proofs.Common.{◌≡◌, ℕ, ◌+◌, ◌<◌, List, [], ◌∷◌, ◌++◌, length, get_or, Bool, false, Option, Some, refl, sym, ap, subst, ◌∙◌, arith}
use Rattle.std.specs.Option.{IsSome}
use Rattle.std.specs.Slots.{slots_filled, slots_items, slots_counts}
use Rattle.std.proofs.lemmas.List.{get_or-set_other}
use mathlib.Core.Option.{some, some-injective}
use lib.ListN.{get_elem?}
use Rattle.hp_heap.specs.History.{HeapView}
use Rattle.hp_stats.specs.StatViews.{PenView}
use Rattle.hp_hall.specs.declared.kept.Kept.{Kept}
use Rattle.hp_hall.specs.Values.{IsHeap}
use Rattle.hp_hall.specs.declared.kept.Kept.TheVariants.{Heap}
use Rattle.hp_board.proofs.EndingFacts.Gatherings.{AreMovedOut, moved_values, emptied_here, all_moved}
use Rattle.hp_board.proofs.closing.fill.Goals as goal

pub unwrap-requires : goal.unwrap-requires
unwrap-requires c =
    let number : ℕ = c.loop-number.number in
    let value = c.requires.values.heap number c.loop-number-test.true in
    let same : c.take.result ≡ Some (Heap value.0.heap value.0.pen) = some-injective c.take.result (Some (Heap value.0.heap value.0.pen))
    (sym c.take.ensures.value ∙ ap (λ l. get_elem? l number) c.loop-number.invariant.items ∙ value.1) in
    subst IsSome (sym same) refl

pub loop-number-preserved : goal.loop-number-preserved
loop-number-preserved c =
    let is = c.loop-number.invariant in
    let number : ℕ = c.loop-number.number in
    let filled : List Bool = slots_filled c.loop-number.closed.slots in
    let inside : number < length filled = omega (arith, is.count, (slots_counts c.loop-number.closed.slots).1, c.loop-number-test.true) in
    let others = c.take.ensures.others in
    let heaps : List HeapView = c.loop-number.heaps.items in
    let pens : List PenView = c.loop-number.pens.items in
    let moved : AreMovedOut (slots_items c.loop-number.closed.slots) (heaps ++ c.into_heap-heap.result.0 ∷ []) (pens ++ c.into_heap-heap.result.1 ∷ []) (number + 1) =
    moved_values (slots_items c.loop-number.closed.slots) heaps pens number c.into_heap-heap.result.0 c.into_heap-heap.result.1
    (omega (arith, is.moved.0, c.loop-number.heaps.ok.0)) (omega (arith, is.moved.1, c.loop-number.pens.ok.0))
    (c.take.ensures.value ∙ ap (λ (o : Option Kept). some o) (c.unwrap.ensures ∙ ap (λ (k : Kept). Some k) c.into_heap-heap.ensures)) is.values in
    record {
      items = others.0 ∙ is.items;
      count = others.2 ∙ is.count;
      full = λ k above below. ap (λ (l : List Bool). get_or l k false) others.1 ∙ get_or-set_other filled number k false false (λ same. omega arith) ∙ is.full k (omega arith) below;
      taken = λ k below. ap (λ (l : List Bool). get_or l k false) others.1 ∙ emptied_here filled number inside is.taken k below;
      moved = (omega (arith, c.push_reserved.ensures.len, is.moved.0), omega (arith, c.push_reserved-in-loop-number.ensures.len, is.moved.1));
      room = (omega (arith, c.push_reserved.ensures.capacity, is.room.0), omega (arith, c.push_reserved-in-loop-number.ensures.capacity, is.room.1));
      values =
          subst (λ (l : List (Option Kept)). AreMovedOut l c.push_reserved.new.self.items c.push_reserved-in-loop-number.new.self.items (number + 1)) (sym others.0)
          (subst (λ (l : List HeapView). AreMovedOut (slots_items c.loop-number.closed.slots) l c.push_reserved-in-loop-number.new.self.items (number + 1)) (sym c.push_reserved.ensures.items)
          (subst (λ (l : List PenView). AreMovedOut (slots_items c.loop-number.closed.slots) (heaps ++ c.into_heap-heap.result.0 ∷ []) l (number + 1)) (sym c.push_reserved-in-loop-number.ensures.items)
          moved));
    }

pub into_heap-heap-requires : goal.into_heap-heap-requires
into_heap-heap-requires c =
    let number : ℕ = c.loop-number.number in
    let value = c.requires.values.heap number c.loop-number-test.true in
    let same : c.take.result ≡ Some (Heap value.0.heap value.0.pen) = some-injective c.take.result (Some (Heap value.0.heap value.0.pen))
    (sym c.take.ensures.value ∙ ap (λ l. get_elem? l number) c.loop-number.invariant.items ∙ value.1) in
    let both : Some c.unwrap.result ≡ Some (Heap value.0.heap value.0.pen) = sym c.unwrap.ensures ∙ same in
    let is : c.unwrap.result ≡ Heap value.0.heap value.0.pen = cc in
    record { heap = subst IsHeap (sym is) tt }

pub free-requires : goal.free-requires
free-requires c k below =
    let is = c.loop-number.invariant in
    let filled : List Bool = slots_filled c.loop-number.closed.slots in
    let next : List Bool = slots_filled c.take-2.new.self.slots in
    let others = c.take-2.ensures.others in
    let last = c.take-3.ensures.others in
    let done : c.loop-number.number ≡ 32 = omega (arith, c.loop-number.auto.number-end, c.loop-number-test.false) in
    let inside : 32 < length filled = omega (arith, is.count, (slots_counts c.loop-number.closed.slots).1) in
    let after : 33 < length next = omega (arith, is.count, others.2, (slots_counts c.take-2.new.self.slots).1) in
    let emptied : (j : ℕ) → j < 33 → get_or next j false ≡ false =
    λ j low. ap (λ (l : List Bool). get_or l j false) others.1 ∙ emptied_here filled 32 inside (λ i under. is.taken i (omega (arith, done, under))) j low in
    ap (λ (l : List Bool). get_or l k false) last.1
    ∙ emptied_here next 33 after emptied k (omega (arith, below, last.2, others.2, is.count))

pub returns : goal.returns
returns c =
    let is = c.loop-number.invariant in
    let others = c.take-2.ensures.others in
    let done : c.loop-number.number ≡ 32 = omega (arith, c.loop-number.auto.number-end, c.loop-number-test.false) in
    all_moved (slots_items c.args.closed.slots) c.loop-number.heaps.items c.loop-number.pens.items c.into_segments-segs.result c.into_names-names.result
    (omega (arith, is.moved.0, c.loop-number.heaps.ok.0, done)) (omega (arith, is.moved.1, c.loop-number.pens.ok.0, done))
    (subst (λ (l : List (Option Kept)). AreMovedOut l c.loop-number.heaps.items c.loop-number.pens.items 32) is.items
    (subst (AreMovedOut (slots_items c.loop-number.closed.slots) c.loop-number.heaps.items c.loop-number.pens.items) done is.values))
    (ap (λ l. get_elem? l 32) (sym is.items) ∙ c.take-2.ensures.value
    ∙ ap (λ (o : Option Kept). some o) (c.unwrap-2.ensures ∙ ap (λ (k : Kept). Some k) c.into_segments-segs.ensures))
    (ap (λ l. get_elem? l 33) (sym (others.0 ∙ is.items)) ∙ c.take-3.ensures.value
    ∙ ap (λ (o : Option Kept). some o) (c.unwrap-3.ensures ∙ ap (λ (k : Kept). Some k) c.into_names-names.ensures))
