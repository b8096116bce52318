use Rattle.std.proofs.Common.{◌≡◌, ℕ, false, refl, sym, ap, rules}
use Rattle.hp_base.specs.Flags.{has_bit}
use Rattle.hp_heap.specs.Allowed.{IsAllowed}
use Rattle.hp_heap.specs.History.{IsCall}
use Rattle.hp_heap.specs.Step.{after}
use Rattle.hp_heap.specs.declared.entry.HeapCall.TheVariants as call
use Rattle.hp_heap.specs.declared.entry.HeapAnswer.TheVariants as answer
use Rattle.hp_external.proofs.CallLemmas.{can_attach, of_named, to_named}
use Rattle.hp_external.proofs.ChunkLemmas.{among_chunks, has_chunk, its_memory}
use Rattle.hp_external.proofs.TieMarks.{tied_attached, tied_beside_attach}
use Rattle.hp_external.proofs.TieSteps.{tied_by}
use Rattle.hp_external.proofs.attaching.memory_attach.Goals as goal

pub attach_chunk-requires : goal.attach_chunk-requires
attach_chunk-requires g c =
    let found = c.in_ok-chunk.ensures.found in
    let unmarked : has_bit c.in_ok-chunk.chunk.attached c.args.caller.participant ≡ false = search rules in
    can_attach c.args.maps.now c.in_ok-chunk.chunk
    (its_memory c.args.heap.now.plain c.sound.ensures.tiled c.in_ok-chunk.chunk
    (among_chunks c.args.heap.now.plain c.args.addr c.args.len c.in_ok-chunk.chunk found.there))
    (c.requires.table c.in_ok-chunk.chunk found.there unmarked)

pub share-requires-clause-allowed : goal.share-requires-clause-allowed
share-requires-clause-allowed g c =
    let found = c.in_ok-chunk.ensures.found in
    of_named c.args.heap.now.plain c.args.addr c.args.len c.in_ok-chunk.chunk found.there c.sound.ensures.tiled c.in_ok-chunk.ensures.order
    (λ a l. IsAllowed c.args.caller.participant (call.Share a l) c.args.heap.now.plain) (
      c.requires.caller.participant,
      has_chunk c.args.heap.now.plain c.args.addr c.args.len c.in_ok-chunk.chunk found.there
          (c.requires.named found.named.index found.named.socket found.named.named).external,
    )

pub returns-clause-attached : goal.returns-clause-attached
returns-clause-attached g c =
    let found = c.in_ok-chunk.ensures.found in
    record {
      chunk = c.in_ok-chunk.chunk;
      named = found;
      unmarked = search rules;
      rows = c.in-Done.ensures.rows;
      answered = c.in-Done.ensures.answered;
      faults = c.in-Done.ensures.cause;
      others = record {
        number = c.attach_chunk.ensures.number;
        capacity = c.attach_chunk.ensures.capacity;
        may_fail = c.attach_chunk.ensures.may_fail;
        mapped = c.attach_chunk.ensures.mapped;
      };
      shared =
          to_named c.args.heap.now.plain c.args.addr c.args.len c.in_ok-chunk.chunk found.there c.sound.ensures.tiled c.in_ok-chunk.ensures.order
          (λ a l. IsCall c.args.caller (call.Share a l) answer.Done c.args.heap.now c.share.new.self) c.share.ensures;
    }

pub returns-clause-tied : goal.returns-clause-tied
unfolding after returns-clause-attached
returns-clause-tied g c claims tied =
    let all = returns-clause-attached g c in
    tied_by _ _ claims claims c.args.caller.participant _ _ _ _ refl refl all.rows all.shared.heap
    (tied_attached c.args.names.now.heaps.plain.ranges claims c.args.caller.participant c.args.maps.now.rows c.args.heap.now.plain c.args.addr c.args.len
    c.in_ok-chunk.chunk c.sound.ensures.tiled c.in_ok-chunk.ensures.order all.named.there tied all.unmarked)

pub returns-clause-others : goal.returns-clause-others
unfolding after
returns-clause-others g c claims participant rows differs tied =
    let all = returns-clause-attached g c in
    tied_by _ _ claims claims participant rows rows _ _ refl refl refl all.shared.heap
    (tied_beside_attach c.args.names.now.heaps.plain.ranges claims c.args.caller.participant participant rows c.args.heap.now.plain c.args.addr c.args.len
    differs tied)
