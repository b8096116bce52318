-- Fewer ranges keep the value sound.
use Rattle.hp_segs.specs.SegsLayout.{view_of}
use Rattle.hp_segs.proofs.RowTables.KeptSteps.{kept_places}
use Rattle.hp_segs.proofs.SoundSteps.{sound_released}
use Rattle.hp_segs.proofs.segs.Segs.release_range.Goals as goal

pub invariant_of-self : goal.invariant_of-self
invariant_of-self c =
    let s = c.self.inside.parts.value in
    rw (c.release.ensures, c.deref_mut.ensures.value)
    (kept_places s.roster _ c.self.invariant
    (sound_released (view_of s.table s.asks s.retiring.items s.retired s.growth s.roster s.armed.value s.ranges.items s.spare) c.self.invariant.sound c.args.list))
