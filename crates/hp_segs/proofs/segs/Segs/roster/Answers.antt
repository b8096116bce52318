-- Nothing is after the last place.
use Rattle.std.proofs.Common.{ap, sym, ◌≤◌, arith, length}
use Rattle.hp_segs.specs.SegsView.{roster_bits}
use Rattle.std.proofs.lemmas.List.{drop_all}
use Rattle.hp_segs.proofs.segs.Segs.roster.Goals as goal

pub loop-place-init : goal.loop-place-init
loop-place-init c =
    let past : length c.self.inside.parts.value.roster ≤ 16 = omega (arith, c.self.invariant.sound.places.roster_places) in
    record { bits = sym (ap roster_bits (drop_all 16 c.self.inside.parts.value.roster past)); small = omega arith }
