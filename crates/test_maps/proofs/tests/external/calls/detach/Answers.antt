-- The heap was looked at; the call keeps the tie to the table that it is over, and to the other one.
use Rattle.std.proofs.Common.{◌≡◌, true, ◌∙◌, rules}
use Rattle.test_maps.proofs.tests.external.calls.detach.Goals as goal

pub detach_by-requires-clause-that : goal.detach_by-requires-clause-that
detach_by-requires-clause-that c =
    let looked : c.is_ready.result ≡ true = search rules in
    (c.is_ready.ensures.ready looked).that

pub detach_by-requires-else-who-eq0-clause-that : goal.detach_by-requires-else-who-eq0-clause-that
detach_by-requires-else-who-eq0-clause-that c =
    let looked : c.is_ready.result ≡ true = search rules in
    (c.is_ready.ensures.ready looked).that

pub returns-then-who-eq0 : goal.returns-then-who-eq0
returns-then-who-eq0 c = record {
  first = c.detach_by.ensures.own _ c.is_ready.ensures.world.first;
  second = c.detach_by.ensures.others _ 1 _ (λ same. cc) c.is_ready.ensures.world.second;
  first_room = c.detach_by.ensures.room ∙ c.is_ready.ensures.world.first_room;
  second_room = c.is_ready.ensures.world.second_room;
}

pub returns-else-who-eq0 : goal.returns-else-who-eq0
returns-else-who-eq0 c = record {
  first = c.detach_by-else-who-eq0.ensures.others _ 0 _ (λ same. cc) c.is_ready.ensures.world.first;
  second = c.detach_by-else-who-eq0.ensures.own _ c.is_ready.ensures.world.second;
  first_room = c.is_ready.ensures.world.first_room;
  second_room = c.detach_by-else-who-eq0.ensures.room ∙ c.is_ready.ensures.world.second_room;
}
