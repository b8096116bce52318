-- The run's bytes no longer count, and its slots are Retiring.
use Rattle.std.proofs.Common.{refl}
use Rattle.hp_segs.proofs.RowTables.KeptTable.{kept_retired, retired_fits, run_kept, socket_small}
use Rattle.hp_segs.proofs.RowTables.KeptSlots.{segments_retired}
use Rattle.hp_log.specs.Log.{table_of}
use Rattle.hp_segs.proofs.table.Table.retire.Goals as goal

pub uncount_run-requires : goal.uncount_run-requires
uncount_run-requires c =
    let counted = rw (← c.self.view_is) at c.requires.counted in
    let fits = retired_fits c.args.run.now counted c.self.invariant in
    record {
      socket = socket_small c.self.invariant c.args.run.now counted.listed;
      counted = rw c.deref_mut.ensures.value fits.0;
      fits = rw c.deref_mut.ensures.value fits.1;
    }

pub change_slots-requires : goal.change_slots-requires
change_slots-requires c =
    let counted = rw (← c.self.view_is) at c.requires.counted in
    record { run = run_kept c.self.invariant c.args.run.now counted.listed }

pub invariant_of-self : goal.invariant_of-self
invariant_of-self c =
    let counted = rw (← c.self.view_is) at c.requires.counted in
    rw (c.uncount_run.ensures, c.deref_mut.ensures.value, c.change_slots.ensures) (kept_retired c.args.run.now counted c.self.invariant)

pub returns : goal.returns
returns c =
    let counted = rw (← c.self.view_is) at c.requires.counted in
    rw (
      ← c.self.view_is,
      c.change_slots.ensures,
      segments_retired c.self.inside.kept.items c.args.run.now (run_kept c.self.invariant c.args.run.now counted.listed)
          (table_of c.self.inside.log.items),
    ) refl
