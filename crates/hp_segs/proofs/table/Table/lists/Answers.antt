-- There are as many lists as pools.
use Rattle.std.proofs.Common.{◌^◌, arith}
use Rattle.hp_segs.proofs.SlotFacts.ListsLemmas.{length_lists_from}
use Rattle.hp_segs.proofs.table.Table.lists.Goals as goal

pub returns-clause-few : goal.returns-clause-few
returns-clause-few c =
    rw (← c.self.view_is) (omega (arith, length_lists_from (2 ^ 32) c.self.inside.pools.items, c.self.invariant.laid.table.limits.few))
