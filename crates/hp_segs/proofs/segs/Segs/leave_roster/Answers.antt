-- A secondary less keeps the value sound.
use Rattle.hp_segs.specs.SegsLayout.{view_of}
use Rattle.hp_segs.proofs.RowTables.KeptSteps.{kept_places}
use Rattle.hp_segs.proofs.SoundSteps.{sound_left}
use Rattle.hp_segs.proofs.segs.Segs.leave_roster.Goals as goal

pub invariant_of-self : goal.invariant_of-self
invariant_of-self c =
    let s = c.self.inside.parts.value in
    let may = rw (← c.self.view_is) at c.requires.may in
    rw c.deref_mut.ensures.value
    (kept_places _ s.ranges.items c.self.invariant
    (sound_left (view_of s.table s.asks s.retiring.items s.retired s.growth s.roster s.armed.value s.ranges.items s.spare) c.self.invariant.sound c.args.participant may))
