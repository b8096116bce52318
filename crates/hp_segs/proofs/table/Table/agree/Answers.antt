-- The run's bytes count for its socket, and its slots are Agreed.
use Rattle.std.proofs.Common.{refl}
use Rattle.hp_segs.proofs.RowTables.KeptTable.{agreed_fits, kept_agreed, run_kept, socket_small}
use Rattle.hp_segs.proofs.RowTables.KeptSlots.{segments_agreed}
use Rattle.hp_log.specs.Log.{table_of}
use Rattle.hp_segs.proofs.table.Table.agree.Goals as goal

pub count_run-requires : goal.count_run-requires
count_run-requires c =
    let its = rw (← c.self.view_is) at c.requires.growth in
    record {
      socket = socket_small c.self.invariant c.args.run.now its.listed;
      fits = rw c.deref_mut.ensures.value (agreed_fits c.args.run.now c.args.generation c.args.heap its c.self.invariant);
    }

pub change_slots-requires : goal.change_slots-requires
change_slots-requires c =
    let its = rw (← c.self.view_is) at c.requires.growth in
    record { run = run_kept c.self.invariant c.args.run.now its.listed }

pub invariant_of-self : goal.invariant_of-self
invariant_of-self c =
    let its = rw (← c.self.view_is) at c.requires.growth in
    rw (c.count_run.ensures, c.deref_mut.ensures.value, c.change_slots.ensures) (kept_agreed c.args.run.now c.args.generation c.args.heap its c.self.invariant)

pub returns : goal.returns
returns c =
    let its = rw (← c.self.view_is) at c.requires.growth in
    rw (
      ← c.self.view_is,
      c.change_slots.ensures,
      segments_agreed c.self.inside.kept.items c.args.run.now (run_kept c.self.invariant c.args.run.now its.listed) c.args.generation c.args.heap
          (table_of c.self.inside.log.items) its.same,
    ) refl
