-- A hall may open so, and nobody has asked in it.
use Rattle.std.proofs.Common.{[], ◌∷◌, ap}
use Rattle.std.specs.List.{slice_get}
use Rattle.hp_heap.specs.PlainHeap.{PlainHeap}
use Rattle.hp_plain.proofs.FirstHall.{new_opens}
use Rattle.hp_plain.proofs.FirstNames.{heaps_agree}
use Rattle.hp_segs.specs.SegsView.{SegsView}
use Rattle.test_solo.proofs.SoloOpened.{opens, opens_unmarked, serves_first}
use Rattle.test_solo.proofs.tests.plain_hall.Goals as goal

pub new-requires-clause-opens : goal.new-requires-clause-opens
new-requires-clause-opens c =
    let heaps = c.in_ok-heaps.ensures in
    let names = c.in_ok-names.ensures in
    new_opens _ 2 0 c.in_ok-heaps.heaps.items c.in_ok-segs.segs c.in_ok-names.names c.in_ok-segs.ensures heaps.unused
    (λ number heap there. ap (λ (p : PlainHeap). p.pages) (heaps.opened number heap there))
    (heaps_agree (0 ∷ []) c.in_ok-heaps.heaps.items c.in_ok-names.names heaps.order.count heaps.opened names.heaps names.zones)

pub returns : goal.returns
returns c =
    record {
      opening = opens c.in_ok-heaps.heaps.items c.in_ok-segs.segs c.in_ok-names.names c.in_ok-hall.hall c.in_ok-hall.ensures.hall c.in_ok-heaps.ensures.order.count
          (ap (λ (s : SegsView). s.armed) c.in_ok-segs.ensures) (ap (λ (s : SegsView). s.roster) c.in_ok-segs.ensures)
          (λ heap there. serves_first heap (c.in_ok-heaps.ensures.opened 0 heap there));
      unmarked = opens_unmarked c.in_ok-heaps.heaps.items c.in_ok-segs.segs c.in_ok-names.names c.in_ok-hall.hall c.in_ok-hall.ensures.hall
          (λ place heap there. (slice_get (0 ∷ []) place, c.in_ok-heaps.ensures.opened place heap there));
    }
