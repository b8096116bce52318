use Rattle.std.proofs.Common.{◌≡◌, ℕ, Some, refl, sym, ◌∙◌}
use Rattle.hp_heap.specs.Allowed.{IsAllowed}
use Rattle.hp_heap.specs.Chunks.{chunk_at}
use Rattle.hp_heap.specs.History.{IsCall}
use Rattle.hp_heap.specs.Step.{after}
use Rattle.hp_heap.specs.declared.entry.HeapCall.TheVariants as call
use Rattle.hp_heap.specs.declared.entry.HeapAnswer.TheVariants as answer
use Rattle.hp_external.proofs.CallLemmas.{of_named, to_named}
use Rattle.hp_external.proofs.ChunkLemmas.{has_chunk}
use Rattle.hp_external.proofs.TieMarks.{tied_beside_left, tied_left}
use Rattle.hp_external.proofs.TieSteps.{tied_by}
use Rattle.hp_external.proofs.attaching.memory_leave.Goals as goal

pub unshare-requires-clause-allowed : goal.unshare-requires-clause-allowed
unshare-requires-clause-allowed g c =
    let there : chunk_at c.args.addr c.args.len c.args.heap.now.plain ≡ Some c.in-Some.chunk = sym c.chunk_at.ensures.chunk ∙ c.in-Some.is in
    of_named c.args.heap.now.plain c.args.addr c.args.len c.in-Some.chunk there c.sound.ensures.tiled c.chunk_at.ensures.order
    (λ a l. IsAllowed c.args.caller.participant (call.Unshare a l) c.args.heap.now.plain) (
      c.requires.caller.participant,
      has_chunk c.args.heap.now.plain c.args.addr c.args.len c.in-Some.chunk there c.requires.external,
    )

pub returns-clause-left : goal.returns-clause-left
returns-clause-left g c =
    let there : chunk_at c.args.addr c.args.len c.args.heap.now.plain ≡ Some c.in-Some.chunk = sym c.chunk_at.ensures.chunk ∙ c.in-Some.is in
    record {
      chunk = c.in-Some.chunk;
      there = there;
      rows = c.detach_chunk.ensures.rows;
      answers = c.detach_chunk.ensures.answers;
      faults = c.detach_chunk.ensures.faults;
      others = record {
        number = c.detach_chunk.ensures.number;
        capacity = c.detach_chunk.ensures.capacity;
        may_fail = c.detach_chunk.ensures.may_fail;
        mapped = c.detach_chunk.ensures.mapped;
      };
      unshared =
          to_named c.args.heap.now.plain c.args.addr c.args.len c.in-Some.chunk there c.sound.ensures.tiled c.chunk_at.ensures.order
          (λ a l. IsCall c.args.caller (call.Unshare a l) answer.Done c.args.heap.now c.unshare.new.self) c.unshare.ensures;
    }

pub returns-clause-tied : goal.returns-clause-tied
unfolding after returns-clause-left
returns-clause-tied g c directory claims tied =
    let all = returns-clause-left g c in
    tied_by directory directory claims claims c.args.caller.participant _ _ _ _ refl refl all.rows all.unshared.heap
    (tied_left directory claims c.args.caller.participant c.args.maps.now.rows c.args.heap.now.plain c.args.addr c.args.len
    c.in-Some.chunk c.sound.ensures.tiled c.chunk_at.ensures.order all.there tied)

pub returns-clause-others : goal.returns-clause-others
unfolding after
returns-clause-others g c directory claims participant rows differs tied =
    let all = returns-clause-left g c in
    tied_by directory directory claims claims participant rows rows _ _ refl refl refl all.unshared.heap
    (tied_beside_left directory claims c.args.caller.participant participant rows c.args.heap.now.plain c.args.addr c.args.len
    differs tied)
