-- The growth's run is used, and its failure keeps the value sound.
use Rattle.std.proofs.Common.{◌≡◌, ◌∙◌, ◌-◌, [], ◌∷◌, ap, arith, length, length-append}
use Rattle.hp_segs.specs.SegsLayout.{view_of}
use Rattle.hp_segs.specs.Steps.{cancelled_growth}
use Rattle.hp_segs.specs.Sound.{IsSound}
use Rattle.hp_log.specs.declared.log_record.LogRecord.TheVariants.{Drop}
use Rattle.hp_segs.proofs.RetiredRuns.DropLemmas.{held_first}
use Rattle.hp_segs.proofs.RowTables.KeptSteps.{kept_failed}
use Rattle.hp_segs.proofs.SoundSteps.{sound_cancelled}
use Rattle.hp_segs.proofs.RowTables.TableRuns.{open_run}
use Rattle.hp_segs.proofs.segs.Segs.cancel.Goals as goal

pub remove-requires : goal.remove-requires
remove-requires c =
    let may = rw (← c.self.view_is) at c.requires.may in
    let kept = rw (rw c.deref_mut-parts.ensures.value at c.in-Some.is) at c.self.invariant in
    let first = held_first c.in-Some.growth.run c.self.inside.parts.value.retiring.items kept.sound.rows.held in
    rw c.deref_mut-parts.ensures.value
    (record {
      listed = first.0;
      used = first.1;
      uncounted = (open_run c.in-Some.growth kept.sound.rows).uncounted;
      room = omega (arith, may.spare, kept.records);
    })

pub push-requires : goal.push-requires
push-requires c =
    let may = rw (← c.self.view_is) at c.requires.may in
    let kept = rw (rw c.deref_mut-parts.ensures.value at c.in-Some.is) at c.self.invariant in
    rw c.deref_mut-parts.ensures.value (record { participant = kept.sound.rows.logged.participant; room = omega (arith, may.spare, kept.outcomes) })

pub invariant_of-self : goal.invariant_of-self
invariant_of-self c =
    let may = rw (← c.self.view_is) at c.requires.may in
    let s = c.self.inside.parts.value in
    let segs = view_of s.table s.asks s.retiring.items s.retired s.growth s.roster s.armed.value s.ranges.items s.spare in
    let log = ap length (c.records.ensures.records ∙ ap (λ t. t.log) (rw c.deref_mut-parts.ensures.value at c.remove.ensures)) in
    let at : length c.records.result.now - 1 ≡ length s.table.log = omega (arith, log, length-append s.table.log (Drop c.in-Some.growth.run ∷ [])) in
    let sound : IsSound (cancelled_growth c.args.cause segs s.growth) = sound_cancelled segs c.self.invariant.sound c.args.cause may in
    rw (c.remove.ensures, c.push.ensures, c.deref_mut-parts.ensures.value, at)
    (kept_failed c.in-Some.growth.run _ c.self.invariant (rw (rw c.deref_mut-parts.ensures.value at c.in-Some.is) at sound) may.spare)
