use Rattle.std.proofs.Common.{refl, arith, lit<}
use Rattle.hp_base.specs.declared.row.Run.{Run}
use Rattle.test_heap.specs.declared.tests.TheConstants.{BASE, PAGE}
use Rattle.hp_heap.specs.Growing.{IsRun}
use Rattle.hp_heap.proofs.Growths.{other_can_grow}
use Rattle.test_heap.proofs.tests.heaps.grow_small.Goals as goal

abbrev pages : Run
pages = record { list = 0; first = 0; count = 1; addr = BASE; page = PAGE; socket = 0 }

abbrev small : Run
small = record { list = 1; first = 0; count = 1; addr = 4297064448; page = 262144; socket = 0 }

alone : IsRun small
alone = record { some = lit< tt; size = refl; aligned = refl; base = omega arith; slots = omega arith; end = omega arith }

pub add_run-requires-clause-allowed : goal.add_run-requires-clause-allowed
add_run-requires-clause-allowed c = other_can_grow c.args.heap.now.plain pages small c.requires.grown (omega arith) (λ same. omega (arith, same)) alone
