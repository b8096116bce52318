-- What is held once a row is out.
use Rattle.std.proofs.Common.{◌≡◌, ap, arith, length, not, ◌∙◌, subst}
use Rattle.std.proofs.lemmas.List.Sums.{count_by-le-length, length-filter}
use Rattle.hp_base.specs.HeldRows.{rows_in}
use Rattle.hp_base.specs.Mapping.{is_row, owned, without_row}
use Rattle.hp_base.specs.MemMapping.{MapperState}
use Rattle.hp_base.specs.declared.row.Row.{Row}
use Rattle.hp_base.proofs.HeldRowLemmas.{once_without}
use Rattle.hp_base.proofs.MappingLemmas.{owned_without}
use Rattle.hp_base.proofs.mapper.MemMapperMapper.unmap.Goals as goal

pub invariant_of-self : goal.invariant_of-self
invariant_of-self c =
    let rows = rows_in c.self.inside.runs.items in
    let p = λ (other : Row). not (is_row c.args.row.now other) in
    let out = c.take_row-self-inside.ensures.rows in
    record {
      counts = c.self.invariant.counts;
      once = once_without c.args.row.now rows (rows_in c.take_row-self-inside.new.runs.items) c.self.invariant.once out;
      holds = omega (arith, c.self.invariant.holds, ap length out, length-filter p rows, count_by-le-length p rows);
      fits = omega (arith, c.self.invariant.fits, c.take_row-self-inside.ensures.capacity);
      within = c.take_row-self-inside.ensures.runs;
    }

pub returns-clause-held : goal.returns-clause-held
returns-clause-held c =
    subst (λ (mapper : MapperState). owned (rows_in c.take_row-self-inside.new.runs.items) ≡ without_row c.args.row.now (owned mapper.rows)) c.self.view_is
    (ap owned c.take_row-self-inside.ensures.rows ∙ owned_without c.args.row.now (rows_in c.self.inside.runs.items))
