use Rattle.std.proofs.Common.{◌≡◌, ℕ, None, Some, Contains, refl, sym, ap, subst, ◌∙◌, eqb, eq-eqb, rules}
use Rattle.hp_base.specs.declared.chunk.Chunk.{Chunk}
use Rattle.hp_heap.specs.Allowed.{IsAllowed}
use Rattle.hp_heap.specs.Chunks.{chunk_at}
use Rattle.hp_heap.specs.History.{IsCall}
use Rattle.hp_heap.specs.Step.{after}
use Rattle.hp_heap.specs.declared.entry.HeapCall.TheVariants as call
use Rattle.hp_heap.specs.declared.entry.HeapAnswer.TheVariants as answer
use Rattle.hp_heap.proofs.AllocFacts.ChoiceLaw.{AllByRecursion-contains}
use Rattle.hp_segs.specs.declared.external_range.ExternalRange.{ExternalRange}
use Rattle.hp_zone.specs.Directory.{HasRange, with_change}
use Rattle.hp_zone.specs.declared.name_change.NameChange.TheVariants.{RangeGone}
use Rattle.hp_external.specs.Elements.{NonePasses, is_busy_in}
use Rattle.hp_external.specs.Tie.{claim_of}
use Rattle.hp_external.proofs.CallLemmas.{can_remove, of_named, to_named}
use Rattle.hp_external.proofs.ChunkLemmas.{among_chunks}
use Rattle.hp_external.proofs.ListLemmas.{any_there}
use Rattle.hp_external.proofs.TieSteps.{its_range_there, tied_by, tied_gone}
use Rattle.hp_external.proofs.removing.memory_remove.Goals as goal

pub remove_range-requires : goal.remove_range-requires
remove_range-requires c =
    subst (λ i. HasRange c.args.names.now.heaps.plain i c.args.addr) (sym c.index.ensures)
    (its_range_there c.args.names.now.heaps.plain.ranges c.args.heap.now.plain c.args.addr c.args.len c.in-Some.chunk c.sound.ensures.tiled
    (sym c.in-Some.ensures.chunk) c.requires.listed c.args.names.now.heaps.plain refl)

pub remove_chunk-requires-clause-allowed : goal.remove_chunk-requires-clause-allowed
remove_chunk-requires-clause-allowed c =
    let there : chunk_at c.args.addr c.args.len c.args.heap.now.plain ≡ Some c.in-Some.chunk = sym c.in-Some.ensures.chunk in
    let free : NonePasses (is_busy_in None c.in-Some.chunk.list) c.args.heap.now.plain.ranges = search rules in
    let unmarked : c.in-Some.chunk.attached ≡ 0 = search rules in
    of_named c.args.heap.now.plain c.args.addr c.args.len c.in-Some.chunk there c.sound.ensures.tiled c.in-Some.ensures.order
    (λ a l. IsAllowed c.args.caller.participant (call.Unchunk a l) c.args.heap.now.plain) (
      c.requires.caller.participant,
      can_remove c.args.heap.now.plain c.args.addr c.args.len c.in-Some.chunk there
          (c.requires.named _ _ c.in_ok-external_heap.ensures.found).external unmarked free,
    )

pub release_range-requires : goal.release_range-requires
release_range-requires c = record {
  claimed =
      any_there (λ (claim : ExternalRange). eqb claim.list c.in-Some.chunk.list) c.args.segs.now.ranges (claim_of c.in-Some.chunk)
      (AllByRecursion-contains (λ (chunk : Chunk). Contains c.args.segs.now.ranges (claim_of chunk)) c.args.heap.now.plain.chunks c.in-Some.chunk
      c.requires.claimed
      (among_chunks c.args.heap.now.plain c.args.addr c.args.len c.in-Some.chunk (sym c.in-Some.ensures.chunk)))
      (eq-eqb c.in-Some.chunk.list c.in-Some.chunk.list refl);
}

pub returns-clause-removed : goal.returns-clause-removed
returns-clause-removed c =
    let there : chunk_at c.args.addr c.args.len c.args.heap.now.plain ≡ Some c.in-Some.chunk = sym c.in-Some.ensures.chunk in
    let free : NonePasses (is_busy_in None c.in-Some.chunk.list) c.args.heap.now.plain.ranges = search rules in
    let unmarked : c.in-Some.chunk.attached ≡ 0 = search rules in
    record {
      name = c.in_ok-external_heap.ensures.name;
      chunk = c.in-Some.chunk;
      named = record {
        named = record { index = c.in_ok-external_heap.field-0.0; socket = c.in_ok-external_heap.field-0.1; named = c.in_ok-external_heap.ensures.found };
        there = there;
      };
      free = free;
      unmarked = unmarked;
      directory = c.remove_range.ensures ∙ ap (λ i. with_change c.args.names.now.heaps (RangeGone i c.args.addr)) c.index.ensures;
      zones = refl;
      went =
          to_named c.args.heap.now.plain c.args.addr c.args.len c.in-Some.chunk there c.sound.ensures.tiled c.in-Some.ensures.order
          (λ a l. IsCall c.args.caller (call.Unchunk a l) answer.Done c.args.heap.now c.remove_chunk.new.self) c.remove_chunk.ensures;
      released = c.release_range.ensures.step;
    }

pub returns-clause-tied : goal.returns-clause-tied
unfolding after returns-clause-removed
returns-clause-tied c participant rows tied =
    let all = returns-clause-removed c in
    tied_by _ c.remove_range.new.self.plain.ranges _ c.release_range.new.self.ranges participant rows rows _ c.remove_chunk.new.self.plain
    (ap (λ d. d.plain.ranges) all.directory) (ap (λ s. s.ranges) all.released) refl all.went.heap
    (tied_gone c.args.names.now.heaps.plain.ranges c.args.heap.now.plain c.args.addr c.args.len c.in-Some.chunk c.sound.ensures.tiled
    (sym c.in-Some.ensures.chunk) c.requires.listed c.args.segs.now.ranges participant rows c.in-Some.ensures.order all.unmarked tied)
