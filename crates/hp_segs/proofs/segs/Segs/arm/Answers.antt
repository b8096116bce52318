-- Beside spare there is room for two places of each participant, whatever they are armed with.
use Rattle.std.proofs.Common.{ap, arith}
use Rattle.hp_segs.specs.SegsLayout.{view_of}
use Rattle.hp_segs.proofs.RowTables.KeptSteps.{kept_rooms}
use Rattle.hp_segs.proofs.SoundSteps.{sound_armed}
use Rattle.hp_segs.proofs.segs.Segs.arm.Goals as goal

pub invariant_of-self-2 : goal.invariant_of-self-2
invariant_of-self-2 c =
    let s = c.self.inside.parts.value in
    let sound =
    sound_armed (view_of s.table s.asks s.retiring.items s.retired s.growth s.roster s.armed.value s.ranges.items s.spare) c.self.invariant.sound c.args.ask.now in
    let same = ap (λ parts. parts.spare) c.deref_mut-parts.ensures.value in
    rw (c.reserve.ensures.same, c.reserve-2.ensures.same, c.deref_mut.ensures.value, c.deref_mut-parts.ensures.value)
    (kept_rooms s.spare c.reserve.new.self.room c.reserve-2.new.self.room c.self.invariant
    (omega (arith, c.in_ok-reserve.ensures.room, same))
    (omega (arith, c.in_ok-reserve-2.ensures.room, same))
    _
    (record { rows = sound.rows; asks = sound.asks; places = sound.places; returned = sound.returned }))
