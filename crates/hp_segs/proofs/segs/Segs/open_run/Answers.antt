-- The planned run is unused and has its pages, and its growth keeps the value sound.
use Rattle.std.proofs.Common.{◌≡◌, ◌+◌, ◌∙◌, ap, arith, length, length-append}
use Rattle.hp_segs.specs.SegsLayout.{view_of}
use Rattle.hp_segs.proofs.RowTables.KeptSteps.{kept_opened}
use Rattle.hp_segs.proofs.SlotFacts.PlannedLemmas.{open_plan}
use Rattle.hp_segs.proofs.segs.Segs.open_run.Goals as goal

pub add-requires : goal.add-requires
add-requires c =
    let s = c.self.inside.parts.value in
    let may = rw (← c.self.view_is) at c.requires.may in
    let plan =
    open_plan
    (view_of s.table s.asks s.retiring.items s.retired s.growth s.roster s.armed.value s.ranges.items s.spare)
    c.args.ask.now
    c.args.run.now
    c.self.invariant.sound.rows.table.limits
    may.planned in
    rw c.deref_mut-parts.ensures.value
    (record {
      listed = plan.planned.listed;
      unused = plan.planned.unused;
      pages = plan.planned.pages;
      room = omega (arith, may.spare, c.self.invariant.records);
    })

pub invariant_of-self : goal.invariant_of-self
invariant_of-self c =
    let kept = rw (← c.deref_mut-parts.ensures.value) at c.self.invariant in
    let may = rw (← c.deref_mut-parts.ensures.value) at (rw (← c.self.view_is) at c.requires.may) in
    let log = c.records.ensures.records ∙ ap (λ t. t.log) c.add.ensures in
    let stamp : length c.records.result.now ≡ length c.deref_mut-parts.result.now.table.log + 1 =
    ap length log ∙ length-append c.deref_mut-parts.result.now.table.log _ in
    rw (c.add.ensures, stamp) (kept_opened c.args.ask.now c.args.run.now kept may)
