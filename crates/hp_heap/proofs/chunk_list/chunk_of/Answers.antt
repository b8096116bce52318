use Rattle.std.proofs.Common.{◌<◌, ap, ◌∙◌, arith, length}
use Rattle.std.specs.List.{position_or_len}
use Rattle.hp_heap.specs.ChunkKeeping.{is_of}
use Rattle.hp_heap.proofs.ChunkFacts.ChunkListLemmas.{place_some, read_is}
use Rattle.hp_heap.proofs.chunk_list.chunk_of.Goals as goal

pub index-requires : goal.index-requires
index-requires c =
    omega (
      arith,
      place_some (is_of c.args.list) c.args.chunks.now.items c.requires,
      c.place_of.ensures,
      ap (position_or_len (is_of c.args.list)) c.as_slice.ensures.value,
      c.args.chunks.now.ok.0,
    )

pub returns : goal.returns
returns c =
    let at = c.place_of.ensures ∙ ap (position_or_len (is_of c.args.list)) c.as_slice.ensures.value in
    let within : c.place_of.result < length c.args.chunks.now.items = omega (arith, place_some (is_of c.args.list) c.args.chunks.now.items c.requires, at) in
    read_is (is_of c.args.list) c.args.chunks.now.items c.place_of.result c.index.result.now at within c.index.ensures
