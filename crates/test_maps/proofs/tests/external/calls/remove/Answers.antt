-- The heap was looked at, and the call keeps its tie.
use Rattle.std.proofs.Common.{◌≡◌, true, rules}
use Rattle.test_maps.proofs.tests.external.calls.remove.Goals as goal

pub memory_remove-requires-clause-named : goal.memory_remove-requires-clause-named
memory_remove-requires-clause-named c =
    let looked : c.is_ready.result ≡ true = search rules in
    (c.is_ready.ensures.ready looked).that

pub returns : goal.returns
returns c = record {
  first = c.memory_remove.ensures.tied 0 _ c.is_ready.ensures.world.first;
  second = c.memory_remove.ensures.tied 1 _ c.is_ready.ensures.world.second;
  first_room = c.is_ready.ensures.world.first_room;
  second_room = c.is_ready.ensures.world.second_room;
}
