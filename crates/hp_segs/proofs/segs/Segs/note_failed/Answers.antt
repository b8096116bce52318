-- A failure that is noted keeps the value sound.
use Rattle.std.proofs.Common.{◌≡◌, ◌∙◌, true, sym, subst}
use Rattle.hp_segs.specs.LaterSteps.{is_noted}
use Rattle.hp_segs.specs.SegsLayout.{view_of}
use Rattle.hp_segs.proofs.RowTables.KeptSteps.{kept_growth}
use Rattle.hp_segs.proofs.SoundSteps.{sound_taken}
use Rattle.hp_segs.proofs.segs.Segs.note_failed.Goals as goal

pub invariant_of-self : goal.invariant_of-self
invariant_of-self c =
    let s = c.self.inside.parts.value in
    let may = rw (← c.self.view_is) at c.requires.may in
    let taken =
    subst (λ segs. is_noted segs c.args.participant c.args.call c.args.row.now segs.growth ≡ true) (sym c.self.view_is)
    (sym c.is_noted.ensures ∙ c.if-not-is_noted.false) in
    rw c.deref_mut.ensures.value
    (kept_growth _ c.self.invariant
    (sound_taken (view_of s.table s.asks s.retiring.items s.retired s.growth s.roster s.armed.value s.ranges.items s.spare) c.self.invariant.sound c.args.participant
    c.args.call c.args.row.now c.args.got may.failure c.in-Some.growth (rw c.deref_mut.ensures.value at c.in-Some.is) taken))
