use Rattle.std.proofs.Common.{◌≡◌, ◌<◌, length, arith}
use Rattle.std.proofs.lemmas.Option.{get_or_from_slice_get}
use Rattle.hp_report.specs.ZoneTexts.{zone_line}
use Rattle.hp_report.proofs.NumberedLemmas.{flat_map-here}
use Rattle.hp_report.proofs.zone_lines.ZoneLinesLines.next.Goals as goal

pub returns : goal.returns
returns c =
    let zones = c.args.self.now.zones.now.zones in
    let at = c.args.self.now.at in
    let zone = c.get.result.now in
    let within : at < length zones = omega (arith, c.if-self-len.false, c.len.ensures) in
    record {
      line = zone_line zone;
      made = c.in_ok-put_zone.ensures;
      was = flat_map-here zones at zone_line zone zone within (get_or_from_slice_get zones at zone zone c.get.ensures);
      fewer = omega (arith, within);
    }
