-- The grant's record adds the run, and its claim keeps the value sound.
use Rattle.std.proofs.Common.{◌<◌, ◌-◌, ◌∙◌, ap, arith, sym, length}
use Rattle.std.specs.Option.{option_and_then}
use Rattle.hp_segs.specs.SegsView.{grant_of, granted_by, run_of}
use Rattle.hp_segs.specs.SegsLayout.{view_of}
use Rattle.hp_segs.specs.Sound.{IsSound}
use Rattle.hp_segs.specs.Steps.{claimed_grant}
use Rattle.hp_segs.proofs.GrowthSteps.ClaimLemmas.{grant_is, record_within, record_read}
use Rattle.hp_segs.proofs.RowTables.KeptSteps.{kept_claimed}
use Rattle.hp_segs.proofs.SoundSteps.{sound_claimed}
use Rattle.hp_segs.proofs.RowTables.TableRuns.{claim_run}
use Rattle.hp_segs.proofs.segs.Segs.claim.Goals as goal

pub overflow_sub-place : goal.overflow_sub-place
overflow_sub-place c =
    let s = c.self.inside.parts.value in
    let grant = ap (option_and_then granted_by) (sym (rw c.deref_mut-parts.ensures.value at c.grant_or_refusal.ensures)) ∙ (sym c.granted_by.ensures ∙ c.in-Some.is) in
    let granted = grant_is s.table.log s.asks.entries c.args.from c.args.number c.in-Some.generation c.self.invariant.sound.asks.granted grant in
    omega (arith, granted.0)

pub bounds-records-place : goal.bounds-records-place
bounds-records-place c =
    let s = c.self.inside.parts.value in
    let grant = ap (option_and_then granted_by) (sym (rw c.deref_mut-parts.ensures.value at c.grant_or_refusal.ensures)) ∙ (sym c.granted_by.ensures ∙ c.in-Some.is) in
    let granted = grant_is s.table.log s.asks.entries c.args.from c.args.number c.in-Some.generation c.self.invariant.sound.asks.granted grant in
    rw (rw c.deref_mut-parts.ensures.value at c.records.ensures.records) (record_within s.table.log c.in-Some.generation granted.1.0 granted.1.1)

pub offset_bounds-records-place : goal.offset_bounds-records-place
offset_bounds-records-place c =
    let s = c.self.inside.parts.value in
    let grant = ap (option_and_then granted_by) (sym (rw c.deref_mut-parts.ensures.value at c.grant_or_refusal.ensures)) ∙ (sym c.granted_by.ensures ∙ c.in-Some.is) in
    let granted = grant_is s.table.log s.asks.entries c.args.from c.args.number c.in-Some.generation c.self.invariant.sound.asks.granted grant in
    let within : c.in-Some.generation - 1 < length c.records.result.now =
    rw (rw c.deref_mut-parts.ensures.value at c.records.ensures.records) (record_within s.table.log c.in-Some.generation granted.1.0 granted.1.1) in
    omega (arith, within, c.records.type_inv.1)

pub unreachable-requires-in_default-added_run : goal.unreachable-requires-in_default-added_run
unreachable-requires-in_default-added_run c =
    let s = c.self.inside.parts.value in
    let grant = ap (option_and_then granted_by) (sym (rw c.deref_mut-parts.ensures.value at c.grant_or_refusal.ensures)) ∙ (sym c.granted_by.ensures ∙ c.in-Some.is) in
    let granted = grant_is s.table.log s.asks.entries c.args.from c.args.number c.in-Some.generation c.self.invariant.sound.asks.granted grant in
    let within = record_within s.table.log c.in-Some.generation granted.1.0 granted.1.1 in
    let read =
    record_read s.table.log c.records.result.now c.in-Some.generation _ c.added_run.result c.added_run.ensures (rw c.deref_mut-parts.ensures.value at c.records.ensures.records) within in
    c.in_default-added_run.not-Some granted.1.0 (read ∙ granted.1.1)

pub claim-requires : goal.claim-requires
claim-requires c =
    let s = c.self.inside.parts.value in
    let segs = view_of s.table s.asks s.retiring.items s.retired s.growth s.roster s.armed.value s.ranges.items s.spare in
    let grant = ap (option_and_then granted_by) (sym (rw c.deref_mut-parts.ensures.value at c.grant_or_refusal.ensures)) ∙ (sym c.granted_by.ensures ∙ c.in-Some.is) in
    let granted = grant_is s.table.log s.asks.entries c.args.from c.args.number c.in-Some.generation c.self.invariant.sound.asks.granted grant in
    let within = record_within s.table.log c.in-Some.generation granted.1.0 granted.1.1 in
    let read =
    record_read s.table.log c.records.result.now c.in-Some.generation _ c.added_run.result c.added_run.ensures (rw c.deref_mut-parts.ensures.value at c.records.ensures.records) within in
    rw c.deref_mut-parts.ensures.value
    (record {
      granted = claim_run segs c.self.invariant.sound c.args.from c.args.number c.in-Some.generation c.records.result.now _ c.in-Some-added_run.run'
          c.added_heap.result (rw (← c.self.view_is) at c.requires.granted) grant (sym read ∙ c.in-Some-added_run.is) c.added_heap.ensures
          (rw c.deref_mut-parts.ensures.value at c.records.ensures.records);
    })

pub returns-clause-run : goal.returns-clause-run
returns-clause-run c =
    let s = c.self.inside.parts.value in
    let grant = ap (option_and_then granted_by) (sym (rw c.deref_mut-parts.ensures.value at c.grant_or_refusal.ensures)) ∙ (sym c.granted_by.ensures ∙ c.in-Some.is) in
    let granted = grant_is s.table.log s.asks.entries c.args.from c.args.number c.in-Some.generation c.self.invariant.sound.asks.granted grant in
    let within = record_within s.table.log c.in-Some.generation granted.1.0 granted.1.1 in
    let read =
    record_read s.table.log c.records.result.now c.in-Some.generation _ c.added_run.result c.added_run.ensures (rw c.deref_mut-parts.ensures.value at c.records.ensures.records) within in
    rw (← c.self.view_is)
    (sym c.in-Some-added_run.is ∙ (read ∙ sym (ap (option_and_then (run_of s.table.log)) grant)))

pub invariant_of-self : goal.invariant_of-self
invariant_of-self c =
    let s = c.self.inside.parts.value in
    let segs = view_of s.table s.asks s.retiring.items s.retired s.growth s.roster s.armed.value s.ranges.items s.spare in
    let grant = ap (option_and_then granted_by) (sym (rw c.deref_mut-parts.ensures.value at c.grant_or_refusal.ensures)) ∙ (sym c.granted_by.ensures ∙ c.in-Some.is) in
    let sound : IsSound (claimed_grant segs (grant_of s.asks.entries c.args.from c.args.number)) =
    sound_claimed segs c.self.invariant.sound c.args.from c.args.number in
    rw (c.claim.ensures, c.deref_mut-parts.ensures.value) (kept_claimed c.in-Some.generation c.self.invariant (rw grant at sound))
