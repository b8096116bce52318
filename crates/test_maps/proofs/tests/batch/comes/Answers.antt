-- The row may be mapped, and is what is held.
use Rattle.std.proofs.Common.{rules}
use Rattle.test_maps.proofs.BatchLemmas.{can_be_first, one_held}
use Rattle.test_maps.proofs.tests.batch.comes.Goals as goal

pub map-got-requires : goal.map-got-requires
map-got-requires g c = can_be_first c.args.row.now _ _ _ c.requires.held c.requires.answers c.requires.room (search rules)

pub returns-clause-held : goal.returns-clause-held
returns-clause-held g c = λ own. one_held c.args.row.now c.map-got.result _ _ c.requires.held (search rules) c.map-got.ensures.held
