use Rattle.std.proofs.Common.{◌-◌, List, ◌++◌, length, map, sym, ap, subst, ◌∙◌, arith}
use Rattle.hp_base.specs.declared.limits.TheConstants.{MAX_HEAPS}
use Rattle.hp_heap.specs.History.{HeapView}
use Rattle.hp_plain.specs.HallView.{SlotView}
use Rattle.hp_plain.specs.HallSteps.{heap_slot}
use Rattle.hp_plain.proofs.HandedOut.{HaveComeOut, first_heap, last_slots, none_out, one_more_out, rest_heaps}
use Rattle.hp_plain.proofs.plain_hall.moving.from_slots.Goals as goal

pub loop-heap-init : goal.loop-heap-init
loop-heap-init c = record {
  moved = subst (λ (l : List HeapView). HaveComeOut l c.args.slots.items c.args.slots.items) (sym c.requires.empty) (none_out c.args.slots.items);
  left = c.requires.slots;
  count = omega (arith, c.args.heaps.now.ok.0, ap length c.requires.empty);
  room = c.requires.room;
}

pub next_heap-requires : goal.next_heap-requires
next_heap-requires c =
    first_heap (MAX_HEAPS - c.loop-heap._heap) c.loop-heap.slots.items (omega (arith, c.loop-heap-test.true)) c.loop-heap.invariant.left

pub push_reserved-requires : goal.push_reserved-requires
push_reserved-requires c = omega (arith, c.loop-heap-test.true, c.loop-heap.invariant.count, c.loop-heap.invariant.room)

pub loop-heap-preserved : goal.loop-heap-preserved
loop-heap-preserved c =
    let is = c.loop-heap.invariant in
    record {
      moved = one_more_out c.loop-heap.heaps.items _ c.next_heap.result c.loop-heap.slots.items c.next_heap.new.slots.items _
          c.push_reserved.ensures.items c.next_heap.ensures is.moved;
      left = rest_heaps (MAX_HEAPS - c.loop-heap._heap) _ c.loop-heap.slots.items c.next_heap.new.slots.items c.next_heap.result
          (omega (arith, c.loop-heap-test.true)) is.left c.next_heap.ensures;
      count = omega (arith, c.push_reserved.ensures.len, is.count);
      room = omega (arith, c.push_reserved.ensures.capacity, is.room);
    }

pub last_values-requires : goal.last_values-requires
last_values-requires c =
    last_slots (MAX_HEAPS - c.loop-heap._heap) c.loop-heap.slots.items (omega (arith, c.loop-heap-test.false)) c.loop-heap.invariant.left

pub returns : goal.returns
returns c =
    let out = c.loop-heap.invariant.moved in
    record {
      held = out.held;
      heaps_are = out.heaps_are;
      slots_are = sym out.slots_are ∙ ap (λ (l : List SlotView). map heap_slot out.held ++ l) c.last_values.ensures;
    }
