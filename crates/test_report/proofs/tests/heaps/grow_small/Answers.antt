-- A page of another list may come behind a page.
use Rattle.std.proofs.Common.{refl, arith, lit<, sym, subst}
use Rattle.hp_heap.specs.Growing.{IsGrownTo, IsRun}
use Rattle.hp_heap.proofs.Growths.{other_can_grow}
use Rattle.test_report.specs.declared.tests.heaps.TheConstants.{LARGE, SMALL}
use Rattle.test_report.proofs.tests.heaps.grow_small.Goals as goal

alone : IsRun SMALL
alone = record { some = lit< tt; size = refl; aligned = refl; base = omega arith; slots = omega arith; end = omega arith }

pub add_run-requires-clause-allowed : goal.add_run-requires-clause-allowed
add_run-requires-clause-allowed c =
    other_can_grow c.reserve.new.self.plain LARGE SMALL
    (subst (λ heap. IsGrownTo LARGE heap) (sym c.reserve.ensures.same.plain) (c.in_ok-allocate.ensures.grown LARGE c.requires.grown))
    (omega arith) (λ same. omega (arith, same)) alone
