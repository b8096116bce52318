use Rattle.std.proofs.Common.{◌≡◌, ◌∙◌, ◌==◌, true, List, length, sym, subst}
use Rattle.hp_base.specs.declared.chunk.Chunk.{Chunk}
use Rattle.test_board.proofs.ZoneHeaps.{add_agrees}
use Rattle.test_board.proofs.ZoneNames.{added_calls, added_claims, added_heaps, is_added, no_chunks, none_claimed}
use Rattle.test_board.proofs.tests.turn.brought.filled.Goals as goal

pub memory_add-added-requires-clause-named : goal.memory_add-added-requires-clause-named
memory_add-added-requires-clause-named c = c.is_that.ensures c.if-not-is_that.false

pub memory_add-added-requires-clause-claimed : goal.memory_add-added-requires-clause-claimed
memory_add-added-requires-clause-claimed c =
    none_claimed c.args.segs.now.ranges c.args.heap.now.plain.chunks
    (subst (λ (l : List Chunk). (length l == 0) ≡ true) c.chunks.ensures.chunks (sym c.is_empty.ensures ∙ c.if-not-is_empty.false))

pub returns-clause-names : goal.returns-clause-names
returns-clause-names c = λ yes.
    added_heaps c.call.result c.args.text.now _ _ _ c.args.names.now c.memory_add-added.new.names c.args.segs.now c.memory_add-added.new.segs c.args.heap.now c.memory_add-added.new.heap
    (is_added c.memory_add-added.result (sym c.is_ok.ensures.value ∙ yes) c.memory_add-added.ensures.added)

pub returns-clause-segs : goal.returns-clause-segs
returns-clause-segs c = λ yes.
    added_claims c.call.result c.args.text.now _ _ _ c.args.names.now c.memory_add-added.new.names c.args.segs.now c.memory_add-added.new.segs c.args.heap.now c.memory_add-added.new.heap
    (is_added c.memory_add-added.result (sym c.is_ok.ensures.value ∙ yes) c.memory_add-added.ensures.added)

pub returns-clause-heap : goal.returns-clause-heap
returns-clause-heap c = λ yes.
    added_calls c.call.result c.args.text.now _ _ _ c.args.names.now c.memory_add-added.new.names c.args.segs.now c.memory_add-added.new.segs c.args.heap.now c.memory_add-added.new.heap
    (is_added c.memory_add-added.result (sym c.is_ok.ensures.value ∙ yes) c.memory_add-added.ensures.added) c.call.ensures c.stands.ensures.tiled c.stands.ensures.order

pub returns-clause-agreed : goal.returns-clause-agreed
returns-clause-agreed c = λ yes.
    add_agrees c.call.result c.args.text.now _ _ _ c.args.names.now c.memory_add-added.new.names c.args.segs.now c.memory_add-added.new.segs c.args.heap.now c.memory_add-added.new.heap
    (is_added c.memory_add-added.result (sym c.is_ok.ensures.value ∙ yes) c.memory_add-added.ensures.added) c.stands.ensures.tiled c.requires.index
    (no_chunks c.args.heap.now.plain.chunks
    (subst (λ (l : List Chunk). (length l == 0) ≡ true) c.chunks.ensures.chunks (sym c.is_empty.ensures ∙ c.if-not-is_empty.false)))
