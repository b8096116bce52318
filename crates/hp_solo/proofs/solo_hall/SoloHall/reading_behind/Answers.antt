-- The deadline that is waited for is still to come.
use Rattle.std.proofs.Common.{ap, arith}
use Rattle.hp_solo.specs.Solo.{SoloView}
use Rattle.hp_solo.proofs.SoloTurns.{pause_later}
use Rattle.hp_solo.proofs.solo_hall.SoloHall.reading_behind.Goals as goal

pub next_due-requires : goal.next_due-requires
next_due-requires g c =
    let later = pause_later c.args.self.now.plain.clock c.args.moved c.args.until c.in-Some.until c.in-Some.is c.requires.before in
    omega (arith, later, c.clock.ensures, ap (λ (hall : SoloView). hall.plain.clock) c.self.view_is)
