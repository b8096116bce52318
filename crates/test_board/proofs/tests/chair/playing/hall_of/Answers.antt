use Rattle.test_board.proofs.Players.{boxed, declared, few, placed, sits, unread, unused}
use Rattle.test_board.proofs.tests.chair.playing.hall_of.Goals as goal

pub new-requires : goal.new-requires
new-requires g c =
    let who = c.requires.seated.0 in
    let is = c.requires.seated.1 in
    let board = c.args.shared.board.now in
    let boxes = c.args.shared.boxes.now in
    let cells = c.args.shared.cells.now in
    let seat = c.args.player.seat in
    let passes = c.args.player.passes.items in
    let pass = c.args.player.stats in
    record {
      board = sits who board boxes cells seat passes pass is;
      declared = declared who board boxes cells seat passes pass is;
      few = few who board boxes cells seat passes pass is;
      count = boxed who board boxes cells seat passes pass is;
      unused = unused who board boxes cells seat passes pass is;
      unread = unread who board boxes cells seat passes pass is;
      places = placed who board boxes cells seat passes pass is;
    }
