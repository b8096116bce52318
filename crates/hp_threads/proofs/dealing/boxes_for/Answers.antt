-- One mailbox more, and the passes to it.
use Rattle.std.proofs.Common.{◌≡◌, ◌∙◌, length, sym, ap, arith}
use Rattle.hp_threads.specs.Dealing.{all_passes_for}
use Rattle.hp_threads.proofs.Dealt.{placed_by, all_passes_more, no_passes_yet}
use Rattle.hp_threads.proofs.dealing.boxes_for.Goals as goal

pub loop-owner-init : goal.loop-owner-init
loop-owner-init c = record {
  passes =
      c.in_ok-all_passes.ensures ∙ sym (no_passes_yet c.args.participants)
      ∙ ap (all_passes_for c.args.participants) (sym c.in_ok-boxes.ensures.items);
  count = omega (arith, c.in_ok-boxes.ensures.len);
  room = omega (arith, c.in_ok-boxes.ensures.capacity);
}

pub loop-owner-preserved : goal.loop-owner-preserved
loop-owner-preserved c =
    let was = c.loop-owner.invariant in
    let boxes = c.loop-owner.boxes.items in
    let long : length boxes ≡ c.loop-owner.owner = omega (arith, was.count, c.loop-owner.boxes.ok.0) in
    record {
      passes =
          all_passes_more c.args.participants c.loop-owner.owner boxes c.in_ok-mailbox.mailbox c.in_ok-mailbox.passes.items c.loop-owner.all_passes.items
          c.in_ok-all_passes-2.all_passes.items long was.passes c.in_ok-mailbox.ensures.passes c.in_ok-all_passes-2.ensures
          ∙ ap (all_passes_for c.args.participants) (sym c.push_reserved.ensures.items);
      count = omega (arith, c.push_reserved.ensures.len, was.count);
      room = omega (arith, c.push_reserved.ensures.capacity, was.room);
    }

pub returns-clause-placed : goal.returns-clause-placed
returns-clause-placed c =
    let long : length c.loop-owner.boxes.items ≡ c.args.participants =
    omega (arith, c.loop-owner.invariant.count, c.loop-owner.boxes.ok.0) in
    placed_by c.args.participants c.loop-owner.boxes.items c.loop-owner.all_passes.items c.loop-owner.invariant.passes long
