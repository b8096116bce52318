use Rattle.std.proofs.Common.{refl}
use Rattle.hp_report.specs.Report.{first_line}
use Rattle.hp_report.proofs.AddingLemmas.{added_page, begins, ends_so, goes_on}
use Rattle.hp_report.proofs.rendering.write_answers.Goals as goal

pub returns : goal.returns
returns g c = ends_so _ c.write_lines.result (goes_on first_line _ (begins _ _) (added_page _ _ _ _ first_line c.in_ok-put.ensures) refl) c.write_lines.ensures
