use Rattle.std.proofs.Common.{◌≡◌, ℕ, Some, true, refl, rules}
use Rattle.hp_base.specs.Flags.{has_bit}
use Rattle.hp_heap.specs.Allowed.{IsAllowed}
use Rattle.hp_heap.specs.History.{IsCall}
use Rattle.hp_heap.specs.Step.{after}
use Rattle.hp_heap.specs.declared.entry.HeapCall.TheVariants as call
use Rattle.hp_heap.specs.declared.entry.HeapAnswer.TheVariants as answer
use Rattle.hp_external.specs.Elements.{NonePasses, is_busy_in}
use Rattle.hp_external.proofs.CallLemmas.{of_named, to_named}
use Rattle.hp_external.proofs.ChunkLemmas.{has_chunk}
use Rattle.hp_external.proofs.TieMarks.{tied_beside_left, tied_left}
use Rattle.hp_external.proofs.TieSteps.{tied_by}
use Rattle.hp_external.proofs.attaching.memory_detach.Goals as goal

pub unshare-requires-clause-allowed : goal.unshare-requires-clause-allowed
unshare-requires-clause-allowed g c =
    let found = c.in_ok-chunk.ensures.found in
    of_named c.args.heap.now.plain c.args.addr c.args.len c.in_ok-chunk.chunk found.there c.sound.ensures.tiled c.in_ok-chunk.ensures.order
    (λ a l. IsAllowed c.args.caller.participant (call.Unshare a l) c.args.heap.now.plain) (
      c.requires.caller.participant,
      has_chunk c.args.heap.now.plain c.args.addr c.args.len c.in_ok-chunk.chunk found.there
          (c.requires.named found.named.index found.named.socket found.named.named).external,
    )

pub returns-clause-detached : goal.returns-clause-detached
returns-clause-detached g c =
    let found = c.in_ok-chunk.ensures.found in
    let unused : NonePasses (is_busy_in (Some c.args.caller.participant) c.in_ok-chunk.chunk.list) c.args.heap.now.plain.ranges = search rules in
    record {
      chunk = c.in_ok-chunk.chunk;
      named = found;
      marked = search rules;
      unused = unused;
      rows = c.detach_chunk.ensures.rows;
      answers = c.detach_chunk.ensures.answers;
      faults = c.detach_chunk.ensures.faults;
      others = record {
        number = c.detach_chunk.ensures.number;
        capacity = c.detach_chunk.ensures.capacity;
        may_fail = c.detach_chunk.ensures.may_fail;
        mapped = c.detach_chunk.ensures.mapped;
      };
      unshared =
          to_named c.args.heap.now.plain c.args.addr c.args.len c.in_ok-chunk.chunk found.there c.sound.ensures.tiled c.in_ok-chunk.ensures.order
          (λ a l. IsCall c.args.caller (call.Unshare a l) answer.Done c.args.heap.now c.unshare.new.self) c.unshare.ensures;
    }

pub returns-clause-tied : goal.returns-clause-tied
unfolding after returns-clause-detached
returns-clause-tied g c claims tied =
    let all = returns-clause-detached g c in
    tied_by _ _ claims claims c.args.caller.participant _ _ _ _ refl refl all.rows all.unshared.heap
    (tied_left c.args.names.now.heaps.plain.ranges claims c.args.caller.participant c.args.maps.now.rows c.args.heap.now.plain c.args.addr c.args.len
    c.in_ok-chunk.chunk c.sound.ensures.tiled c.in_ok-chunk.ensures.order all.named.there tied)

pub returns-clause-others : goal.returns-clause-others
unfolding after
returns-clause-others g c claims participant rows differs tied =
    let all = returns-clause-detached g c in
    tied_by _ _ claims claims participant rows rows _ _ refl refl refl all.unshared.heap
    (tied_beside_left c.args.names.now.heaps.plain.ranges claims c.args.caller.participant participant rows c.args.heap.now.plain c.args.addr c.args.len
    differs tied)
