-- The rows go from its table, the call is counted, and it notes the chunk no longer.
use Rattle.std.proofs.Common.{ap, subst, sym}
use Rattle.hp_base.specs.declared.tag.Caller.{Caller}
use Rattle.hp_external.specs.Attaching.{Leaves}
use Rattle.hp_heap.specs.ChunkOrder.{AreInOrder}
use Rattle.hp_maps.specs.MapsView.{MapsView}
use Rattle.hp_proc.proofs.HandFacts.Boxed.{boxed_is}
use Rattle.hp_proc.proofs.HandFacts.Forgotten.{had_mark, is_left, maps_are, maps_were}
use Rattle.hp_proc.specs.Progress.{caller_of}
use Rattle.hp_proc.proofs.participant.Participant.leave_in.Goals as goal

pub returns : goal.returns
returns g c =
    let old = c.args.self.now in
    let chunk = c.args.chunk.now in
    let heap = c.args.heap.now in
    let next = c.leave_memory.new.heap in
    let context = c.self.inside.context in
    let boxed =
    boxed_is context (ap (λ judged. judged.server) c.as_mut-judged.ensures.value) (ap (λ judged. judged.limits) c.as_mut-judged.ensures.value)
    c.self.view_is in
    let only = c.leave_memory.ensures.only in
    let now = maps_are context boxed only c.count_call.ensures c.self-2.view_is chunk c.forget_chunk.ensures in
    let was = maps_were context boxed only c.count_call.ensures c.self-2.view_is chunk c.forget_chunk.ensures in
    let leaves =
    subst (λ (maps : MapsView). Leaves (caller_of old) chunk.addr chunk.len heap next old.party.maps maps) (sym now)
    (subst (λ (maps : MapsView). Leaves (caller_of old) chunk.addr chunk.len heap next maps c.leave_memory.new.self.maps) was
    (subst (λ (caller : Caller). Leaves caller chunk.addr chunk.len heap next c.as_mut-judged.result.now.server.maps c.leave_memory.new.self.maps)
    c.caller-caller.ensures.is c.leave_memory.ensures.left)) in
    record {
      left = record {
        its = c.requires.its;
        order = subst AreInOrder c.chunks.ensures.chunks c.chunks.ensures.order;
        leaves = leaves;
        mark = had_mark old.party.me c.requires.marked leaves;
        noted = is_left context boxed only c.count_call.ensures c.self-2.view_is chunk c.forget_chunk.ensures;
      };
    }
