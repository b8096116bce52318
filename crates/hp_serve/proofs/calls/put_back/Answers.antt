-- The value is as it was taken.
use Rattle.std.proofs.Common.{◌∙◌}
use Rattle.hp_hall.specs.HallState.{known_to}
use Rattle.hp_serve.proofs.AskingFacts.Noting.{as_it_was, gives_in_place, noted_gives}
use Rattle.hp_serve.proofs.Standing.{standing_same}
use Rattle.hp_serve.proofs.calls.put_back.Goals as goal

pub give_segments-requires : goal.give_segments-requires
give_segments-requires g c =
    let old = g.H.Hall.state c.args.hall.now in
    let has = c.requires.has in
    record {
      serves = has.serves;
      gives = gives_in_place (known_to c.args.me old) c.args.segs c.args.segs has.taken
          (noted_gives (known_to c.args.me old) c.args.segs c.args.segs (as_it_was c.args.segs) (λ old. old));
      same = standing_same c.args.me (old.part c.args.me) c.args.segs has.standing;
    }

pub returns-clause-back : goal.returns-clause-back
returns-clause-back g c =
    let given = c.give_segments.ensures in
    record {
      back = given.back;
      parts = record { part = given.part; joined = given.back.gave.joined ∙ c.requires.has.roster; lines = given.back.gave.lines };
    }
