use Rattle.std.proofs.Common.{sym, subst, refl, ◌∙◌}
use Rattle.test_heap.specs.declared.tests.TheConstants.{BASE, PAGE}
use Rattle.hp_heap.specs.Growing.{IsGrownTo}
use Rattle.hp_heap.proofs.Growths.{grown_opening}
use Rattle.test_heap.proofs.tests.heaps.first_page.Goals as goal

pub grow-requires-clause-grown : goal.grow-requires-clause-grown
grow-requires-clause-grown c =
    subst (λ h. IsGrownTo (record { list = 0; first = 0; count = 0; addr = BASE; page = PAGE; socket = 0 }) h) (sym (c.in_ok-reserve.ensures.same.plain ∙ c.socket-heap.ensures.plain))
    (grown_opening 0 0 (record { list = 0; first = 0; count = 0; addr = BASE; page = PAGE; socket = 0 }) refl)
