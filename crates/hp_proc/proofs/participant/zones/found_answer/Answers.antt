-- A memzone is found by its name.
use Rattle.std.proofs.Common.{ap, sym}
use Rattle.hp_proc.specs.ZoneLines.{found_zone}
use Rattle.hp_proc.proofs.FoundZones.{looking_agrees}
use Rattle.hp_proc.proofs.participant.zones.found_answer.Goals as goal

pub returns-in-Some : goal.returns-in-Some
returns-in-Some c =
    sym (ap found_zone ((looking_agrees c.args.names.now.zones.zones c.args.text.now).found c.in-Some.zone.now c.requires.sound.apart
    c.in-Some.ensures.found))

pub returns-in-None : goal.returns-in-None
returns-in-None c = sym (ap found_zone ((looking_agrees c.args.names.now.zones.zones c.args.text.now).none c.in-None.ensures.none))
