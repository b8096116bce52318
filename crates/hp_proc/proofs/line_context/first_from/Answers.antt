use Rattle.std.proofs.Common.{ltb, rules}
use Rattle.std.proofs.lemmas.Bool.{ltb-false, ltb-true}
use Rattle.std.proofs.lemmas.List.Sorted.{IsPartitionPoint-from_clause, IsPartitionedBy-ltb}
use Rattle.hp_proc.specs.declared.own_element.OwnElement.{OwnElement}
use Rattle.hp_proc.proofs.line_context.first_from.Goals as goal

pub returns : goal.returns
returns c =
    let point = IsPartitionPoint-from_clause (λ (element : OwnElement). ltb element.line c.args.line) _ _ c.partition_point.ensures.partitioned
    (IsPartitionedBy-ltb (λ (element : OwnElement). element.line) c.args.elements.now c.args.line c.requires) (λ a r q k. search rules) in (
      λ k d from below. ltb-true _ _ (point.0 k d from below),
      λ k d from below. ltb-false _ _ (point.1 k d from below),
    )
