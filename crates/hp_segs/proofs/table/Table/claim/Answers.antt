-- The run's slots are Owned, and its bytes count as before.
use Rattle.std.proofs.Common.{refl}
use Rattle.hp_segs.proofs.RowTables.KeptTable.{kept_claimed, run_kept}
use Rattle.hp_segs.proofs.RowTables.KeptSlots.{segments_claimed}
use Rattle.hp_log.specs.Log.{table_of}
use Rattle.hp_segs.proofs.table.Table.claim.Goals as goal

pub change_slots-requires : goal.change_slots-requires
change_slots-requires c =
    let granted = rw (← c.self.view_is) at c.requires.granted in
    record { run = run_kept c.self.invariant c.args.run.now granted.listed }

pub invariant_of-self : goal.invariant_of-self
invariant_of-self c =
    let granted = rw (← c.self.view_is) at c.requires.granted in
    rw c.change_slots.ensures (kept_claimed c.args.run.now c.args.generation c.args.heap granted c.self.invariant)

pub returns : goal.returns
returns c =
    let granted = rw (← c.self.view_is) at c.requires.granted in
    rw (
      ← c.self.view_is,
      c.change_slots.ensures,
      segments_claimed c.self.inside.kept.items c.args.run.now (run_kept c.self.invariant c.args.run.now granted.listed) c.args.generation c.args.heap
          (table_of c.self.inside.log.items) granted.same granted.agreed,
    ) refl
