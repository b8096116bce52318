-- The place is the point between the addresses that are not higher and those that are.
use Rattle.std.proofs.Common.{leb, rules}
use Rattle.std.proofs.lemmas.Bool.{leb-false, leb-true}
use Rattle.std.proofs.lemmas.List.Sorted.{IsPartitionPoint-from_clause, IsPartitionedBy-leb}
use Rattle.hp_base.specs.declared.row.Run.{Run}
use Rattle.hp_segs.proofs.SlotFacts.RunPlaces.{insert_at}
use Rattle.hp_segs.proofs.segs.owners.runs_before.Goals as goal

pub returns-clause-place : goal.returns-clause-place
returns-clause-place c = λ run same.
    let point = IsPartitionPoint-from_clause (λ (other : Run). leb other.addr c.args.addr) _ _ c.partition_point.ensures.partitioned
    (IsPartitionedBy-leb (λ (other : Run). other.addr) c.args.runs.now c.args.addr c.requires.rising) (λ a r q k. search rules) in
    insert_at run c.args.addr same c.args.runs.now c.partition_point.result c.partition_point.ensures.bound (
      λ k d from below. leb-true _ _ (point.0 k d from below),
      λ k d from below. leb-false _ _ (point.1 k d from below),
    )
