use Rattle.std.proofs.Common.{◌≡◌, List, [], ◌∷◌, ◌++◌, vec_len, refl, sym, ap, subst, ◌∙◌, arith, rules}
use Rattle.hp_plain.specs.HallView.{SlotView}
use Rattle.hp_plain.proofs.HandedOut.{taken_first}
use Rattle.hp_plain.proofs.MovedIn.{HaveComeIn, all_in, none_in, one_more_in}
use Rattle.hp_plain.proofs.plain_hall.moving.into_slots.Goals as goal

pub loop-slots-init : goal.loop-slots-init
loop-slots-init c =
    let heaps = c.args.heaps.now in
    let pens = c.args.pens in
    let made = c.in_ok-slots.ensures in
    record {
      moved = subst (λ (l : List SlotView). HaveComeIn l heaps.items heaps.items pens.items pens.items) (sym made.items) (none_in heaps.items pens.items);
      many = omega (arith, c.requires.count, c.requires.pens.count, heaps.ok.0, pens.ok.0);
      room = omega (arith, c.requires.count, heaps.ok.0, made.len, made.capacity);
      kept = refl;
    }

pub loop-slots-preserved : goal.loop-slots-preserved
loop-slots-preserved c =
    let is = c.loop-slots.invariant in
    let heap = c.remove in
    let pen = c.remove-in-loop-slots in
    let heaps = c.loop-slots.heaps in
    let pens = c.loop-slots.pens in
    record {
      moved = one_more_in c.loop-slots.slots.items c.push_reserved.new.self.items heaps.items heap.new.self.items c.args.heaps.now.items
          pens.items pen.new.self.items c.args.pens.items (record { heap = heap.result; pen = pen.result })
          (c.push_reserved.ensures.items ∙ ap (λ (s : SlotView). c.loop-slots.slots.items ++ s ∷ []) c.new.ensures)
          (taken_first heaps.items heap.new.self.items heap.result (omega (arith, heap.ensures.len, heaps.ok.0)) heap.ensures.value heap.ensures.items)
          (taken_first pens.items pen.new.self.items pen.result (omega (arith, pen.ensures.len, pens.ok.0)) pen.ensures.value pen.ensures.items)
          is.moved;
      many = omega (arith, is.many, heap.ensures.len, pen.ensures.len);
      room = omega (arith, is.room, heap.ensures.len, c.push_reserved.ensures.len, c.push_reserved.ensures.capacity);
      kept = heap.ensures.capacity ∙ is.kept;
    }

pub returns-clause-slots : goal.returns-clause-slots
returns-clause-slots c =
    let is = c.loop-slots.invariant in
    let heaps = c.loop-slots.heaps in
    let pens = c.loop-slots.pens in
    let none : vec_len heaps ≡ 0 = search rules in
    all_in c.loop-slots.slots.items c.push_reserved-3.new.self.items heaps.items c.args.heaps.now.items pens.items c.args.pens.items c.args.segs
    c.args.names (omega (arith, heaps.ok.0, none)) (omega (arith, pens.ok.0, is.many, none))
    (c.push_reserved-3.ensures.items ∙ ap (λ (l : List SlotView). l ++ c.new-3.result ∷ []) c.push_reserved-2.ensures.items)
    c.new-2.ensures c.new-3.ensures is.moved
