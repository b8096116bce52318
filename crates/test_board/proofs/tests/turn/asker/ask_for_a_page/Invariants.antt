use Rattle.std.proofs.Common.{◌≡◌, Some}
use Rattle.hp_hall.specs.Views.{HeldHeap}
use Rattle.hp_hall.specs.declared.kept.Kept.TheVariants.{Heap}
use Rattle.test_board.specs.Asking.{IsAsking}
use Rattle.test_board.specs.Playing.{IsPlaying}
use Rattle.test_board.proofs.tests.turn.asker.ask_for_a_page.Given as goal

abbrev pub invariant-loop : goal.invariant-loop
invariant-loop g l = record {
  playing : IsPlaying l.board.id l.seat l.maps;
  from : l.ask.from ≡ 1;
  asking : (heap : HeldHeap) × (l.kept ≡ Heap heap.heap heap.pen) × IsAsking heap (Some l.ask) l.seat.mine;
}
