-- The key is the address.
use Rattle.std.proofs.Common.{rules}
use Rattle.std.proofs.lemmas.List.Sorted.{IsNonDecreasingBy-from_sort_by_key}
use Rattle.hp_maps.proofs.row_list.sort_by_address.Goals as goal

pub returns-clause-sorted : goal.returns-clause-sorted
returns-clause-sorted c = IsNonDecreasingBy-from_sort_by_key (λ row. row.addr) _ c.sort_unstable_by_key.ensures.sorted (λ a r q k. search rules)
