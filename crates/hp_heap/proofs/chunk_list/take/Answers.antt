use Rattle.std.proofs.Common.{ap, ◌∙◌, arith}
use Rattle.std.specs.List.{remove, position_or_len}
use Rattle.hp_heap.specs.ChunkKeeping.{is_of}
use Rattle.hp_heap.proofs.ChunkFacts.ChunkListLemmas.{place_some, remove_is}
use Rattle.hp_heap.proofs.chunk_list.take.Goals as goal

pub remove-requires : goal.remove-requires
remove-requires c =
    omega (
      arith,
      place_some (is_of c.args.list) c.args.chunks.now.items c.requires.there,
      c.place_of-place.ensures,
      ap (position_or_len (is_of c.args.list)) c.as_slice.ensures.value,
      c.args.chunks.now.ok.0,
    )

pub returns-clause-chunks : goal.returns-clause-chunks
returns-clause-chunks c =
    c.remove.ensures.items
    ∙ ap (remove c.args.chunks.now.items) (c.place_of-place.ensures ∙ ap (position_or_len (is_of c.args.list)) c.as_slice.ensures.value)
    ∙ remove_is (is_of c.args.list) c.args.chunks.now.items (c.requires.own c.args.list)
