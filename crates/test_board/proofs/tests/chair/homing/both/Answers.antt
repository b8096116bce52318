-- Each comes home from the hall that it opened.
use Rattle.test_board.proofs.Homes.{comes_home}
use Rattle.test_board.proofs.tests.chair.homing.both.Goals as goal

pub returns-clause-first : goal.returns-clause-first
returns-clause-first g c =
    let shared = c.args.shared in
    let player = c.args.first in
    let home = c.brought.result in
    comes_home 0 shared.board.now shared.boxes.now shared.cells.now player.seat player.passes.items player.stats c.requires.first c.hall_of-first.result
    c.visit.new.first c.hall_of-first.ensures c.visit.ensures.first_on c.in_ok-visit.ensures.first home.seat home.passes.items home.stats
    c.brought.ensures

pub returns-clause-second : goal.returns-clause-second
returns-clause-second g c =
    let shared = c.args.shared in
    let player = c.args.second in
    let home = c.brought-2.result in
    comes_home 1 shared.board.now shared.boxes.now shared.cells.now player.seat player.passes.items player.stats c.requires.second
    c.hall_of-second.result c.visit.new.second c.hall_of-second.ensures c.visit.ensures.second_on c.in_ok-visit.ensures.second home.seat
    home.passes.items home.stats c.brought-2.ensures
