-- Those of the chunk are unmapped, and the others stay.
use Rattle.std.proofs.Common.{◌∙◌, ap, arith, filter}
use Rattle.hp_base.specs.Mapping.{without_rows}
use Rattle.hp_maps.specs.Chunks.{is_of_chunk}
use Rattle.hp_maps.proofs.HeldLemmas.{unmapped_passing, without_passing}
use Rattle.hp_maps.proofs.chunks.unmap_chunk.Goals as goal

pub returns-clause-held : goal.returns-clause-held
returns-clause-held g c =
    let goes = is_of_chunk c.args.chunk.now in
    let rows = c.args.rows.now in
    unmapped_passing goes rows c.loop-row.row-index _ _ (omega arith) (ap (without_rows (filter goes rows)) c.requires ∙ without_passing goes rows)
    c.loop-row.invariant.held
