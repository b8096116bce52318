use Rattle.std.proofs.Common.{◌++◌, refl}
use Rattle.hp_report.specs.EntryTexts.{histories_text}
use Rattle.hp_report.specs.HeapTexts.{heaps_text}
use Rattle.hp_report.specs.KnownNames.{known}
use Rattle.hp_report.specs.ZoneTexts.{zones_text}
use Rattle.hp_report.proofs.AddingLemmas.{begins, ends_so, exits, goes_on}
use Rattle.hp_report.proofs.rendering.write_memory.Goals as goal

pub returns-in_err-write_heaps : goal.returns-in_err-write_heaps
returns-in_err-write_heaps g c =
    let heaps = heaps_text (known c.args.names.now) c.args.heaps.now in
    let histories = histories_text (known c.args.names.now) c.args.heaps.now in
    exits heaps (histories ++ zones_text c.args.zones.now.zones) c.from_residual.result _ (begins _ _)
    c.in_err-write_heaps.ensures refl c.from_residual.ensures.1 (λ other same. same)

pub returns-in_err-write_heaps-2 : goal.returns-in_err-write_heaps-2
returns-in_err-write_heaps-2 g c =
    let heaps = heaps_text (known c.args.names.now) c.args.heaps.now in
    let histories = histories_text (known c.args.names.now) c.args.heaps.now in
    exits histories (zones_text c.args.zones.now.zones) c.from_residual-in_err-write_heaps-2.result _
    (goes_on heaps _ (begins _ _) c.in_ok-write_heaps.ensures refl) c.in_err-write_heaps-2.ensures refl
    c.from_residual-in_err-write_heaps-2.ensures.1 (λ other same. same)

pub returns : goal.returns
returns g c =
    let heaps = heaps_text (known c.args.names.now) c.args.heaps.now in
    let histories = histories_text (known c.args.names.now) c.args.heaps.now in
    ends_so _ c.write_lines.result
    (goes_on histories _ (goes_on heaps _ (begins _ _) c.in_ok-write_heaps.ensures refl) c.in_ok-write_heaps-2.ensures refl)
    c.write_lines.ensures
