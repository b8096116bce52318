-- Both participants are those of the new board, with their passes.
use Rattle.std.proofs.Common.{lit<}
use Rattle.test_board.proofs.tests.chair.staging.set_up.Goals as goal

pub returns-clause-first : goal.returns-clause-first
returns-clause-first c = record {
  below = lit< tt;
  for_two = c.in_ok-board.ensures.board;
  count = c.in_ok-dealt.ensures.count;
  sits = c.in_ok-board.ensures.first;
  places = c.in_ok-dealt.ensures.first;
  unread = record {
    many = c.in_ok-readers.ensures.pens.count;
    opened = c.in_ok-board.ensures.cells;
    unread = c.in_ok-readers.ensures.first;
  };
}

pub returns-clause-second : goal.returns-clause-second
returns-clause-second c = record {
  below = lit< tt;
  for_two = c.in_ok-board.ensures.board;
  count = c.in_ok-dealt.ensures.count;
  sits = c.in_ok-board.ensures.second;
  places = c.in_ok-dealt.ensures.second;
  unread = record {
    many = c.in_ok-readers.ensures.pens.count;
    opened = c.in_ok-board.ensures.cells;
    unread = c.in_ok-readers.ensures.second;
  };
}
