use Rattle.std.proofs.Common.{false, List, inl, length, slice_get, sym, subst, ap, ◌∙◌, arith}
use Rattle.std.proofs.lemmas.List.{length-map, length-replicate}
use Rattle.hp_base.specs.declared.limits.TheConstants.{MAX_HEAPS}
use Rattle.hp_heap.specs.History.{HeapView, entries_of}
use Rattle.hp_plain.specs.HallView.{SlotView, history_in, part_of, segs_in}
use Rattle.hp_plain.specs.Opening.{AreInOrder, AreUnpublished, AreUnused, MayOpenWith, heaps_in}
use Rattle.hp_hall.specs.Own.{after_ack}
use Rattle.hp_hall.specs.Views.{HeldHeap}
use Rattle.hp_plain.proofs.Opened.{first_unpublished, none_granted, none_pending, opened_chunks, opened_fits, opened_holds, opened_length, opened_named, opened_own, opened_pairs, opened_segs, opened_unheld, opened_untold, opened_unused, opening_is}
use Rattle.hp_plain.proofs.plain_hall.PlainHall.new.Goals as goal

pub invariant_of-result : goal.invariant_of-result
invariant_of-result c =
    let segs = c.args.segs in
    let names = c.args.names in
    let heaps = c.args.heaps in
    let moved = c.in_ok-slots.ensures.slots in
    let held = moved.held in
    let order : AreInOrder (heaps_in held) = subst AreInOrder (sym moved.heaps_are) c.requires.heaps in
    let opens : MayOpenWith (heaps_in held) segs names = subst (λ (l : List HeapView). MayOpenWith l segs names) (sym moved.heaps_are) c.requires.opens in
    let unpublished : AreUnpublished held = first_unpublished held c.in_ok-pens.pens.items moved.pens_are c.in_ok-pens.ensures in
    let many = sym (length-map held (λ (one : HeldHeap). one.heap)) ∙ order.count in
    let owns = ap length c.in_ok-owns.ensures ∙ length-replicate c.args.participants (after_ack 0) in
    record {
      hall = record {
        slots = ap length moved.slots_are ∙ opened_length segs names held many;
        fits = λ number slot there.
            opened_fits segs names held order number slot (ap (λ (l : List SlotView). slice_get l number) (sym moved.slots_are) ∙ there);
        untold = λ number slot there.
            opened_untold segs names held number slot (ap (λ (l : List SlotView). slice_get l number) (sym moved.slots_are) ∙ there);
        pairs = λ number slot there.
            opened_pairs segs names held unpublished number slot (ap (λ (l : List SlotView). slice_get l number) (sym moved.slots_are) ∙ there);
        boxes = ap length c.in_ok-boxes.ensures ∙ length-replicate c.args.participants _ ∙ sym owns;
        lines = ap length c.in_ok-lines.ensures ∙ length-replicate c.args.participants _ ∙ sym owns;
        few = omega (arith, owns, c.requires.few);
        segs = segs;
        there = ap (λ (l : List SlotView). segs_in (slice_get l MAX_HEAPS)) moved.slots_are ∙ opened_segs segs names held MAX_HEAPS many;
        sound = c.records-records.ensures.sound;
        armed = c.requires.opens.armed;
        home = λ number heap there.
            opened_holds segs names held opens number heap (ap (λ (l : List SlotView). slice_get l number) (sym moved.slots_are) ∙ there);
        asking = λ who ask is. inl (c.requires.opens.settled who ask is);
        pending = none_pending heaps.items segs names c.requires.opens;
        named = opened_named segs names held many opens _ moved.slots_are c.new.ensures;
        chunks = opened_chunks segs names held many opens _ moved.slots_are;
        owned = λ who below. opened_own c.args.participants who (length segs.log) _ c.in_ok-owns.ensures below;
        agreed = λ entry generation member has granted. absurd (none_granted heaps.items segs names c.requires.opens entry generation has granted);
      };
      emptied = c.in_ok-slots.ensures.emptied;
      room = omega (arith, c.into_slots.ensures.room, c.requires.heaps.count, heaps.ok.0, heaps.ok.1);
    }

pub returns-clause-hall : goal.returns-clause-hall
returns-clause-hall c =
    let moved = c.in_ok-slots.ensures.slots in
    record {
      held = moved.held;
      heaps_are = moved.heaps_are;
      unpublished = first_unpublished moved.held c.in_ok-pens.pens.items moved.pens_are c.in_ok-pens.ensures;
      hall_is = opening_is c.args.participants moved.held c.args.segs c.args.names moved.slots_are c.in_ok-boxes.ensures c.in_ok-owns.ensures
          c.in_ok-lines.ensures c.new.ensures;
    }

pub returns-clause-unused : goal.returns-clause-unused
returns-clause-unused c =
    let moved = c.in_ok-slots.ensures.slots in
    λ unused who number.
    ap (λ (l : List SlotView). entries_of who (history_in (slice_get l number))) moved.slots_are
    ∙ opened_unused c.args.segs c.args.names moved.held c.args.participants (subst AreUnused (sym moved.heaps_are) unused) who number

pub returns-clause-unheld : goal.returns-clause-unheld
returns-clause-unheld c =
    let moved = c.in_ok-slots.ensures.slots in
    λ who number.
    ap (λ (l : List SlotView). (part_of who number false (slice_get l number) (segs_in (slice_get l MAX_HEAPS))).holding) moved.slots_are
    ∙ opened_unheld c.args.segs c.args.names moved.held c.args.participants who number
