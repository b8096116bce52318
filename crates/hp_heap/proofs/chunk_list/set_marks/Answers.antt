use Rattle.std.proofs.Common.{ℕ, ◌<◌, ap, ◌∙◌, arith, length, slice_set}
use Rattle.std.specs.List.{position_or_len}
use Rattle.hp_heap.specs.ChunkKeeping.{is_of, marked}
use Rattle.hp_heap.proofs.ChunkFacts.ChunkListLemmas.{place_some, read_is, set_is}
use Rattle.hp_heap.proofs.chunk_list.set_marks.Goals as goal

pub index_mut-requires : goal.index_mut-requires
index_mut-requires c =
    omega (
      arith,
      place_some (is_of c.args.list) c.args.chunks.now.items c.requires.there,
      c.place_of-place.ensures,
      ap (position_or_len (is_of c.args.list)) c.as_slice.ensures.value,
      c.args.chunks.now.ok.0,
    )

pub returns-clause-chunks : goal.returns-clause-chunks
returns-clause-chunks c =
    let items = c.args.chunks.now.items in
    let at = c.place_of-place.ensures ∙ ap (position_or_len (is_of c.args.list)) c.as_slice.ensures.value in
    let within : c.place_of-place.result < length items = omega (arith, place_some (is_of c.args.list) items c.requires.there, at) in
    ap (λ (i : ℕ). slice_set items i (marked c.args.attached c.index_mut.result.now)) at
    ∙ set_is (is_of c.args.list) (marked c.args.attached) c.index_mut.result.now items (c.requires.own c.args.list)
    (read_is (is_of c.args.list) items c.place_of-place.result c.index_mut.result.now at within c.index_mut.ensures.value)
