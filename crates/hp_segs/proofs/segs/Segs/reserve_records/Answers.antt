-- Beside spare there is room for two places of each participant.
use Rattle.std.proofs.Common.{arith}
use Rattle.hp_segs.proofs.RowTables.KeptSteps.{kept_rooms}
use Rattle.hp_segs.proofs.segs.Segs.reserve_records.Goals as goal

pub invariant_of-self-2 : goal.invariant_of-self-2
invariant_of-self-2 c =
    let s = c.self.inside.parts.value in
    let sound = c.self.invariant.sound in
    rw (c.reserve.ensures.same, c.reserve-2.ensures.same, c.deref_mut-parts.ensures.value)
    (kept_rooms c.max-parts.result c.reserve.new.self.room c.reserve-2.new.self.room c.self.invariant
    (omega (arith, c.in_ok-reserve.ensures.room))
    (omega (arith, c.in_ok-reserve-2.ensures.room))
    s.armed.value
    (record { rows = sound.rows; asks = sound.asks; places = sound.places; returned = sound.returned }))
