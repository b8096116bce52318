-- It may serve in the hall that it opens.
use Rattle.std.proofs.Common.{arith}
use Rattle.test_board.proofs.Players.{IsNew, among, can, unarmed}
use Rattle.test_board.proofs.tests.chair.playing.played.Goals as goal

pub member-requires : goal.member-requires
member-requires g c =
    let shared = c.args.shared in
    let player = c.args.player in
    record { declared = among c.args.me shared.board.now shared.boxes.now shared.cells.now player.seat player.passes.items player.stats c.requires.seated }

pub hall_of-hall-requires : goal.hall_of-hall-requires
hall_of-hall-requires g c = record { seated = (c.args.me, c.requires.seated) }

pub play-requires : goal.play-requires
play-requires g c =
    let board = c.args.shared.board.now in
    let boxes = c.args.shared.boxes.now in
    let seat = c.args.player.seat in
    let cells = c.args.shared.cells.now in
    let passes = c.args.player.passes.items in
    let pass = c.args.player.stats in
    let party = c.in_ok-party.party in
    let brought : IsNew c.args.me party = record {
      number = c.in_ok-party.ensures.number;
      joined = c.in_ok-party.ensures.joined;
      tied = c.in_ok-party.ensures.tied;
    } in
    let chair = c.hall_of-hall.result in
    record {
      can = can c.args.me board boxes cells seat passes pass c.requires.seated party brought chair c.hall_of-hall.ensures;
      home = omega arith;
      unarmed = unarmed c.args.me board boxes cells seat passes pass c.requires.seated party brought chair c.hall_of-hall.ensures;
    }
