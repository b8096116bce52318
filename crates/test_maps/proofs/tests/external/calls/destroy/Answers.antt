-- The heap was looked at, and the call keeps its tie.
use Rattle.std.proofs.Common.{◌≡◌, true, rules}
use Rattle.test_maps.proofs.tests.external.calls.destroy.Goals as goal

pub destroy-requires-clause-named : goal.destroy-requires-clause-named
destroy-requires-clause-named c =
    let looked : c.is_ready.result ≡ true = search rules in
    (c.is_ready.ensures.ready looked).that

pub returns : goal.returns
returns c = record {
  first = c.destroy.ensures.tied _ 0 _ c.is_ready.ensures.world.first;
  second = c.destroy.ensures.tied _ 1 _ c.is_ready.ensures.world.second;
  first_room = c.is_ready.ensures.world.first_room;
  second_room = c.is_ready.ensures.world.second_room;
}
