-- What is held once rows are out.
use Rattle.std.proofs.Common.{◌≡◌, ◌∙◌, ap, arith, length, subst, sym, take}
use Rattle.hp_base.specs.HeldRows.{AreOnce, rows_in}
use Rattle.hp_base.specs.Mapping.{owned, without_rows}
use Rattle.hp_base.specs.MemMapping.{MapperState}
use Rattle.hp_base.proofs.HeldRowLemmas.{fewer_without, once_without_all}
use Rattle.hp_base.proofs.MappingLemmas.{owned_without_all}
use Rattle.hp_base.proofs.mapper.MemMapperMapper.unmap_first.Goals as goal

pub invariant_of-self : goal.invariant_of-self
invariant_of-self c =
    let rows = rows_in c.self.inside.runs.items in
    let gone = take c.take_first.result c.args.rows.now in
    let out = c.take_first.ensures.rows in
    record {
      counts = c.self.invariant.counts;
      once = subst AreOnce (sym out) (once_without_all gone rows c.self.invariant.once);
      holds = omega (arith, c.self.invariant.holds, ap length out, fewer_without gone rows);
      fits = omega (arith, c.self.invariant.fits, c.take_first.ensures.capacity);
      within = c.take_first.ensures.runs;
    }

pub returns-clause-held : goal.returns-clause-held
returns-clause-held c =
    let gone = take c.take_first.result c.args.rows.now in
    subst (λ (mapper : MapperState). owned (rows_in c.take_first.new.runs.items) ≡ without_rows gone (owned mapper.rows)) c.self.view_is
    (ap owned c.take_first.ensures.rows ∙ owned_without_all gone (rows_in c.self.inside.runs.items))
