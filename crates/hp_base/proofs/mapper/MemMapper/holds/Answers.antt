-- The row is among the rows.
use Rattle.std.proofs.Common.{◌≡◌, ◌∙◌, ap, subst}
use Rattle.std.specs.List.{list_any}
use Rattle.hp_base.specs.HeldRows.{rows_in}
use Rattle.hp_base.specs.Mapping.{is_row}
use Rattle.hp_base.specs.MemMapping.{MapperState}
use Rattle.hp_base.proofs.mapper.MemMapper.holds.Goals as goal

pub returns : goal.returns
returns c =
    subst (λ (mapper : MapperState). c.has_row.result ≡ list_any (is_row c.args.row.now) mapper.rows) c.self.view_is
    (c.has_row.ensures ∙ ap (λ runs. list_any (is_row c.args.row.now) (rows_in runs)) c.as_slice.ensures.value)
