-- The open growth is a participant's, and its grant keeps the value sound.
use Rattle.hp_segs.specs.SegsLayout.{view_of}
use Rattle.hp_segs.proofs.RowTables.KeptSteps.{kept_granted}
use Rattle.hp_segs.proofs.SoundSteps.{sound_granted}
use Rattle.hp_segs.proofs.RowTables.TableRuns.{open_run}
use Rattle.hp_segs.proofs.segs.Segs.agree.Goals as goal

pub agree-requires : goal.agree-requires
agree-requires c =
    let kept = rw (rw c.deref_mut-parts.ensures.value at c.in-Some.is) at c.self.invariant in
    record { growth = rw c.deref_mut-parts.ensures.value (open_run c.in-Some.growth kept.sound.rows) }

pub push-requires-clause-participant : goal.push-requires-clause-participant
push-requires-clause-participant c =
    let kept = rw (rw c.deref_mut-parts.ensures.value at c.in-Some.is) at c.self.invariant in
    kept.sound.rows.logged.participant

pub invariant_of-self-2 : goal.invariant_of-self-2
invariant_of-self-2 c =
    let may = rw (← c.self.view_is) at c.requires.may in
    let s = c.self.inside.parts.value in
    rw (c.push.ensures, c.records.ensures.records, c.agree.ensures, c.deref_mut-parts.ensures.value)
    (kept_granted c.in-Some.growth _ c.self.invariant
    (sound_granted (view_of s.table s.asks s.retiring.items s.retired s.growth s.roster s.armed.value s.ranges.items s.spare) c.self.invariant.sound c.in-Some.growth
    (rw c.deref_mut-parts.ensures.value at c.in-Some.is))
    may.spare)
