use Rattle.test_maps.proofs.tests.external.calls.create.Goals as goal

pub returns : goal.returns
returns c =
    let old = c.requires in
    record {
      first = c.create.ensures.tied _ _ _ _ old.first;
      second = c.create.ensures.tied _ _ _ _ old.second;
      first_room = old.first_room;
      second_room = old.second_room;
    }
