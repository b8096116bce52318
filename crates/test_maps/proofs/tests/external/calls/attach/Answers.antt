-- The heap was looked at; the call keeps the tie to the table that it is over, and to the other one.
use Rattle.std.proofs.Common.{◌≡◌, true, ◌∙◌, rules}
use Rattle.test_maps.proofs.tests.external.calls.attach.Goals as goal

pub attach_by-requires-clause-that : goal.attach_by-requires-clause-that
attach_by-requires-clause-that c =
    let looked : c.is_ready.result ≡ true = search rules in
    (c.is_ready.ensures.ready looked).that

pub attach_by-requires-else-who-eq0-clause-that : goal.attach_by-requires-else-who-eq0-clause-that
attach_by-requires-else-who-eq0-clause-that c =
    let looked : c.is_ready.result ≡ true = search rules in
    (c.is_ready.ensures.ready looked).that

pub returns-then-who-eq0 : goal.returns-then-who-eq0
returns-then-who-eq0 c = record {
  first = c.attach_by.ensures.own _ c.is_ready.ensures.world.first;
  second = c.attach_by.ensures.others _ 1 _ (λ same. cc) c.is_ready.ensures.world.second;
  first_room = c.attach_by.ensures.room ∙ c.is_ready.ensures.world.first_room;
  second_room = c.is_ready.ensures.world.second_room;
}

pub returns-else-who-eq0 : goal.returns-else-who-eq0
returns-else-who-eq0 c = record {
  first = c.attach_by-else-who-eq0.ensures.others _ 0 _ (λ same. cc) c.is_ready.ensures.world.first;
  second = c.attach_by-else-who-eq0.ensures.own _ c.is_ready.ensures.world.second;
  first_room = c.is_ready.ensures.world.first_room;
  second_room = c.attach_by-else-who-eq0.ensures.room ∙ c.is_ready.ensures.world.second_room;
}
