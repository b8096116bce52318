-- The second row is above the first one.
use Rattle.std.proofs.Common.{rules}
use Rattle.test_maps.proofs.BatchLemmas.{can_be_second}
use Rattle.test_maps.proofs.tests.batch.beside_a_misplaced.Goals as goal

pub map-requires : goal.map-requires
map-requires g c = can_be_second c.args.first.now c.args.second.now _ _ _ (search rules) (search rules) (search rules) (search rules)
