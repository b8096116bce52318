-- A planned range keeps the value sound.
use Rattle.std.proofs.Common.{◌∙◌, sym}
use Rattle.hp_segs.specs.SegsLayout.{view_of}
use Rattle.hp_segs.proofs.RowTables.KeptSteps.{kept_places, kept_ranges_by}
use Rattle.hp_segs.proofs.SoundSteps.{sound_ranged}
use Rattle.hp_segs.proofs.segs.Segs.claim_range.Goals as goal

pub invariant_of-self : goal.invariant_of-self
invariant_of-self c =
    let s = c.self.inside.parts.value in
    let view = view_of s.table s.asks s.retiring.items s.retired s.growth s.roster s.armed.value s.ranges.items s.spare in
    let plan = rw (← c.self.view_is) at c.plan_range.ensures in
    rw (c.push.ensures.items, c.deref_mut.ensures.value)
    (kept_ranges_by _
    (kept_places s.roster _ c.self.invariant
    (sound_ranged view c.self.invariant.sound c.in_ok-list.list c.args.addr c.args.len c.args.page c.args.socket (sym plan ∙ c.in_ok-list.was)))
    c.self.invariant)
