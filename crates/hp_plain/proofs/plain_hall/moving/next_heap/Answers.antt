use Rattle.std.proofs.Common.{length, ap, ◌∙◌, ◌∷◌, arith}
use Rattle.hp_plain.specs.HallSteps.{home_slot}
use Rattle.hp_plain.specs.HallView.{SlotView}
use Rattle.hp_plain.proofs.HandedOut.{taken_first}
use Rattle.hp_plain.proofs.plain_hall.moving.next_heap.Goals as goal

pub returns : goal.returns
returns c =
    let slots = c.args.slots.now.items in
    let now = c.remove.new.self.items in
    record {
      pen = c.into_heap-heap.result.1;
      slots_are =
          taken_first slots now c.remove.result (omega (arith, ap length c.requires.slots_are)) c.remove.ensures.value c.remove.ensures.items
          ∙ ap (λ (s : SlotView). s ∷ now) (c.into_kept.ensures ∙ ap home_slot c.into_heap-heap.ensures);
    }
