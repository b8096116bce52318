-- An outcome more keeps the value sound.
use Rattle.hp_segs.specs.SegsLayout.{view_of}
use Rattle.hp_segs.proofs.RowTables.KeptSteps.{kept_logged}
use Rattle.hp_segs.proofs.SoundSteps.{sound_closed}
use Rattle.hp_segs.proofs.segs.Segs.close_ask.Goals as goal

pub invariant_of-self : goal.invariant_of-self
invariant_of-self c =
    let may = rw (← c.self.view_is) at c.requires.may in
    let s = c.self.inside.parts.value in
    rw (c.push.ensures, c.records.ensures.records, c.deref_mut-parts.ensures.value)
    (kept_logged _ c.self.invariant
    (sound_closed (view_of s.table s.asks s.retiring.items s.retired s.growth s.roster s.armed.value s.ranges.items s.spare) c.self.invariant.sound c.args.ask.now
    c.args.cause may)
    may.spare)
