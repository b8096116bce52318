-- The heap was looked at, and the call keeps its tie.
use Rattle.std.proofs.Common.{◌≡◌, true, rules}
use Rattle.test_maps.proofs.tests.external.calls.add.Goals as goal

pub memory_add-requires-clause-named : goal.memory_add-requires-clause-named
memory_add-requires-clause-named c =
    let looked : c.is_ready.result ≡ true = search rules in
    (c.is_ready.ensures.ready looked).that

pub returns : goal.returns
returns c = record {
  first = c.memory_add.ensures.tied 0 _ c.is_ready.ensures.world.first;
  second = c.memory_add.ensures.tied 1 _ c.is_ready.ensures.world.second;
  first_room = c.is_ready.ensures.world.first_room;
  second_room = c.is_ready.ensures.world.second_room;
}
