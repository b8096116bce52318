use Rattle.std.proofs.Common.{rules, ◌≡◌}
use Rattle.test_board.proofs.ZoneNames.{frees_gone}
use Rattle.test_board.proofs.tests.turn.zones.gone.Goals as goal

pub returns : goal.returns
returns c =
    let heap : c.in-Ok.zone.heap ≡ 1 = search rules in
    frees_gone c.args.names.now.zones c.remove.new.self c.args.names.now.heaps c.args.text.now c.in-Ok.zone c.log-changes.ensures.sound c.in-Ok.ensures.freed heap
