-- The table takes in one record more.
use Rattle.std.proofs.Common.{◌∙◌, sym, take}
use Rattle.hp_log.proofs.LogLemmas.{table_of_more}
use Rattle.hp_log.proofs.table.table_at.Goals as goal

pub loop-place-preserved : goal.loop-place-preserved
loop-place-preserved c =
    let taken = rw c.loop-place.invariant at c.in_ok-take_in.ensures.ok in
    taken ∙ sym (table_of_more (take c.args.n c.args.records.now) c.loop-place.place _ c.loop-place-test.true)
