-- A board opens for a workload, with a place for each of its participants.
use Rattle.std.proofs.Common.{◌∙◌}
use Rattle.hp_threads.proofs.Stages.{opening_heaps, opening_names, opening_segs, opens_for}
use Rattle.hp_threads.proofs.running.opened.Goals as goal

pub new-requires-2-clause-heaps : goal.new-requires-2-clause-heaps
new-requires-2-clause-heaps c = opening_heaps c.args.workload.now c.args.heaps.items c.requires.values.heaps_are

pub new-requires-2-clause-segs : goal.new-requires-2-clause-segs
new-requires-2-clause-segs c = opening_segs c.args.workload.now c.args.segs c.requires.values.segs_are

pub new-requires-2-clause-names : goal.new-requires-2-clause-names
new-requires-2-clause-names c =
    opening_names c.args.workload.now c.args.heaps.items c.args.names c.requires.values.heaps_are c.requires.values.names_are

pub returns : goal.returns
returns c = record {
  opens = opens_for c.args.workload.now c.in_ok-board.board.opening c.args.heaps.items c.args.segs c.requires.given c.requires.values.heaps_are
      c.requires.values.segs_are c.in_ok-board.ensures.participants c.in_ok-board.ensures.serves c.in_ok-board.ensures.segs
      (c.in_ok-board.ensures.names ∙ c.requires.values.names_are);
  cells_are = c.in_ok-board.ensures.cells;
  many = c.in_ok-cells.ensures.cells;
  seats_are = c.in_ok-board.ensures.seats;
  boxed = c.in_ok-boxes.ensures.count;
  placed = c.in_ok-boxes.ensures.placed;
  unread = c.in_ok-cells.ensures.passes;
}
