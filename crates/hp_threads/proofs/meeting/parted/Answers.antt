-- One participant's passes more are parted.
use Rattle.std.proofs.Common.{◌≡◌, ◌∙◌, ◌<◌, List, Some, drop, length, sym, subst, vec_len, arith}
use Rattle.std.specs.List.{All}
use Rattle.std.proofs.lemmas.List.Elements.{All-drop}
use Rattle.hp_mail.specs.PassView.{PassView}
use Rattle.hp_threads.proofs.Meetings.{firsts_more, rest_more}
use Rattle.hp_threads.proofs.meeting.parted.Goals as goal

pub loop-all_passes-preserved : goal.loop-all_passes-preserved
loop-all_passes-preserved c =
    let was = c.loop-all_passes.invariant in
    let left : List (List PassView) = c.loop-all_passes.all_passes.items in
    let left_some : 0 < vec_len c.loop-all_passes.all_passes = grind (arith, c.loop-all_passes-test.ensures) in
    let some : 0 < length left = omega (arith, left_some, c.loop-all_passes.all_passes.ok.0) in
    record {
      some = subst (All (λ (passes : List PassView). 0 < length passes)) (sym c.remove-passes.ensures.items)
          (All-drop (λ (passes : List PassView). 0 < length passes) 1 left was.some);
      firsts = firsts_more c.loop-all_passes.firsts.items _ left c.remove-passes.new.self.items c.remove-passes.result c.take_first.result _
          c.push_reserved.ensures.items some c.remove-passes.ensures.value c.remove-passes.ensures.items c.take_first.ensures.first was.firsts;
      rest = rest_more c.loop-all_passes.rest.items _ left c.remove-passes.new.self.items c.remove-passes.result c.take_first.new.self _
          c.push_reserved-in-loop-all_passes.ensures.items some c.remove-passes.ensures.value c.remove-passes.ensures.items
          c.take_first.ensures.rest was.rest;
      firsts_room = omega (arith, was.firsts_room, c.push_reserved.ensures.len, c.push_reserved.ensures.capacity, c.remove-passes.ensures.len);
      rest_room = omega (
        arith,
        was.rest_room,
        c.push_reserved-in-loop-all_passes.ensures.len,
        c.push_reserved-in-loop-all_passes.ensures.capacity,
        c.remove-passes.ensures.len,
      );
    }
