-- The rows of others stay.
use Rattle.std.proofs.Common.{◌∙◌, ap, arith, length, not, subst, sym}
use Rattle.std.specs.List.{All}
use Rattle.std.proofs.lemmas.List.Elements.{All-filter}
use Rattle.std.proofs.lemmas.List.Sums.{length-filter, count_by-le-length}
use Rattle.hp_base.specs.declared.row.Row.{Row}
use Rattle.hp_maps.specs.Chunks.{is_of_chunk}
use Rattle.hp_base.specs.Mapping.{AreApart, IsWithin}
use Rattle.hp_maps.proofs.ApartLemmas.{apart_filter}
use Rattle.hp_maps.proofs.local_maps.LocalMaps.detach_chunk.Goals as goal

pub invariant_of-self : goal.invariant_of-self
invariant_of-self g c =
    let p = λ (row : Row). not (is_of_chunk c.args.chunk.now row) in
    let rows = c.self.inside.rows.items in
    record {
      mapped = c.drop_chunk.ensures.held;
      counted = c.self.invariant.counted ∙ ap length (sym c.drop_chunk.ensures.answers);
      fits = omega (arith, c.self.invariant.fits, c.drop_chunk.ensures.memory);
      room = omega (arith, c.self.invariant.room, c.drop_chunk.ensures.capacity);
      holds = omega (arith, c.self.invariant.holds, ap length c.drop_chunk.ensures.rows, length-filter p rows, count_by-le-length p rows);
      near = subst (All IsWithin) (sym c.drop_chunk.ensures.rows) (All-filter p IsWithin rows c.self.invariant.near);
      apart = subst AreApart (sym c.drop_chunk.ensures.rows) (apart_filter p rows c.self.invariant.apart);
    }
