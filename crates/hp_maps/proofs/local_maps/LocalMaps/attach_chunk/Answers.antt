-- The chunk's rows after those of others.
use Rattle.std.proofs.Common.{◌≡◌, ◌∙◌, List, [], ap, arith, length, length-append, subst, sym}
use Rattle.hp_base.specs.declared.row.Row.{Row}
use Rattle.hp_log.specs.Rows.{rows_of}
use Rattle.hp_maps.specs.Catching.{HasAnswered, rows_after, undropped}
use Rattle.hp_maps.specs.Chunks.{CanAttach, rows_of_chunk}
use Rattle.hp_maps.specs.MapsView.{MapsView}
use Rattle.hp_maps.proofs.ChunkLemmas.{chunk_apart_after, chunk_back, chunk_can_map, chunk_fresh, chunk_length, chunk_near_after, chunk_room_after, chunk_rows_after}
use Rattle.hp_maps.proofs.local_maps.LocalMaps.attach_chunk.Goals as goal

pub push_undropped-requires-clause-room : goal.push_undropped-requires-clause-room
push_undropped-requires-clause-room g c =
    let can = subst (λ (maps : MapsView). CanAttach maps c.args.chunk.now) (sym c.self.view_is) c.requires in
    omega (
      arith,
      can.room,
      ap length (chunk_fresh c.args.chunk.now c.run_of_chunk-run.result c.run_of_chunk-run.ensures),
      chunk_length c.args.chunk.now,
      c.self.invariant.fits,
    )

pub map_behind-requires-clause-can : goal.map_behind-requires-clause-can
map_behind-requires-clause-can g c =
    let can = subst (λ (maps : MapsView). CanAttach maps c.args.chunk.now) (sym c.self.view_is) c.requires in
    chunk_can_map _ c.args.chunk.now c.run_of_chunk-run.result c.push_undropped.new.rows.items c.len-start.result _ _ c.self.inside.calls can
    c.self.invariant.apart c.run_of_chunk-run.ensures c.push_undropped.ensures.items (c.len-start.ensures.len)
    c.self.invariant.mapped c.self.invariant.room c.self.invariant.counted
    (omega (
      arith,
      c.len-start.ensures.small,
      can.room,
      c.self.invariant.fits,
      chunk_length c.args.chunk.now,
      ap length (chunk_fresh c.args.chunk.now c.run_of_chunk-run.result c.run_of_chunk-run.ensures),
      ap length c.push_undropped.ensures.items,
      length-append c.self.inside.rows.items (undropped [] (rows_of c.run_of_chunk-run.result 0)),
    ))

pub invariant_of-self : goal.invariant_of-self
invariant_of-self g c =
    let can = subst (λ (maps : MapsView). CanAttach maps c.args.chunk.now) (sym c.self.view_is) c.requires in
    let start : c.len-start.result ≡ length c.self.inside.rows.items = c.len-start.ensures.len in
    let rows = chunk_rows_after _ c.args.chunk.now c.run_of_chunk-run.result c.push_undropped.new.rows.items _ c.len-start.result
    c.map_behind.result can c.run_of_chunk-run.ensures c.push_undropped.ensures.items start c.map_behind.ensures.rows in
    record {
      mapped = c.map_behind.ensures.holds;
      counted = c.map_behind.ensures.counted;
      fits = omega (arith, c.self.invariant.fits, c.push_undropped.ensures.capacity, c.map_behind.ensures.memory);
      room = omega (arith, c.self.invariant.room, c.map_behind.ensures.capacity);
      holds = chunk_room_after _ c.args.chunk.now _ c.map_behind.result can rows;
      near = chunk_near_after _ c.args.chunk.now _ c.map_behind.result can c.self.invariant.near rows;
      apart = chunk_apart_after _ c.args.chunk.now _ c.map_behind.result can c.self.invariant.apart rows;
    }

pub returns-clause-rows : goal.returns-clause-rows
returns-clause-rows g c =
    let can = subst (λ (maps : MapsView). CanAttach maps c.args.chunk.now) (sym c.self.view_is) c.requires in
    let start : c.len-start.result ≡ length c.self.inside.rows.items = c.len-start.ensures.len in
    chunk_rows_after _ c.args.chunk.now c.run_of_chunk-run.result c.push_undropped.new.rows.items _ c.len-start.result
    c.map_behind.result can c.run_of_chunk-run.ensures c.push_undropped.ensures.items start c.map_behind.ensures.rows
    ∙ ap (λ (maps : MapsView). rows_after maps.rows (rows_of_chunk c.args.chunk.now) c.map_behind.result) c.self.view_is

pub returns-clause-answered : goal.returns-clause-answered
returns-clause-answered g c =
    let can = subst (λ (maps : MapsView). CanAttach maps c.args.chunk.now) (sym c.self.view_is) c.requires in
    let start : c.len-start.result ≡ length c.self.inside.rows.items = c.len-start.ensures.len in
    let back = chunk_back _ c.args.chunk.now c.run_of_chunk-run.result c.push_undropped.new.rows.items c.len-start.result can
    c.run_of_chunk-run.ensures c.push_undropped.ensures.items start in
    subst (λ (maps : MapsView). HasAnswered (rows_of_chunk c.args.chunk.now) maps.answers (g.M.Mapper.answers c.map_behind.new.mapper)
    c.map_behind.result) c.self.view_is
    (subst (λ (fresh : List Row). HasAnswered fresh (g.M.Mapper.answers c.self.inside.mapper) (g.M.Mapper.answers c.map_behind.new.mapper)
    c.map_behind.result) back c.map_behind.ensures.answered)
