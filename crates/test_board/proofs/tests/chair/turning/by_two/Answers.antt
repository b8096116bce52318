-- Each may do in its new hall what it shows the other.
use Rattle.test_board.proofs.Naming.{may_name}
use Rattle.test_board.proofs.Players.{holds}
use Rattle.test_board.proofs.Telling.{tells}
use Rattle.test_board.proofs.tests.chair.turning.by_two.Goals as goal

pub hall_of-first-requires : goal.hall_of-first-requires
hall_of-first-requires g c = record { seated = (0, c.requires.first) }

pub hall_of-second-requires : goal.hall_of-second-requires
hall_of-second-requires g c = record { seated = (1, c.requires.second) }

pub come_out-requires : goal.come_out-requires
come_out-requires g c =
    let board = c.args.shared.board.now in
    let boxes = c.args.shared.boxes.now in
    let cells = c.args.shared.cells.now in
    let one = c.args.first in
    let other = c.args.second in
    let mine = c.hall_of-first in
    let theirs = c.hall_of-second in
    record {
      first = record {
        holds = holds 0 board boxes cells one.seat one.passes.items one.stats c.requires.first mine.result mine.ensures;
        tells = tells 0 board boxes cells one.seat one.passes.items one.stats c.requires.first mine.result mine.ensures;
        names = may_name 0 board boxes cells one.seat one.passes.items one.stats c.requires.first mine.result mine.ensures;
      };
      second = record {
        holds = holds 1 board boxes cells other.seat other.passes.items other.stats c.requires.second theirs.result theirs.ensures;
        tells = tells 1 board boxes cells other.seat other.passes.items other.stats c.requires.second theirs.result theirs.ensures;
        names = may_name 1 board boxes cells other.seat other.passes.items other.stats c.requires.second theirs.result theirs.ensures;
      };
    }
