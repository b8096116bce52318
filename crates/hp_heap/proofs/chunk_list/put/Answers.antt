use Rattle.std.proofs.Common.{nat_lt, ap, arith, length}
use Rattle.std.specs.Result.{is_ok}
use Rattle.hp_base.specs.declared.chunk.Chunk.{Chunk}
use Rattle.hp_heap.proofs.ChunkFacts.ChunkListLemmas.{place_within, inserted, put_done}
use Rattle.hp_heap.proofs.chunk_list.put.Goals as goal

pub insert-requires : goal.insert-requires
insert-requires c =
    omega (
      arith,
      place_within (λ (o : Chunk). nat_lt c.args.chunk.addr o.addr) c.as_slice.result.now,
      c.place_above-place.ensures,
      ap length c.as_slice.ensures.value,
      c.args.chunks.now.ok.0,
    )

pub returns-clause-chunks : goal.returns-clause-chunks
returns-clause-chunks c =
    put_done c.args.chunk c.args.chunks.now.items c.insert.new.self.items c.as_slice.result.now c.place_above-place.result (is_ok c.insert.result) c.as_slice.ensures.value c.place_above-place.ensures
    (inserted _ c.insert.result c.insert.ensures.full (λ full. omega (arith, full, c.requires.room))) c.insert.ensures.items c.requires.rising c.requires.elsewhere
