use Rattle.std.proofs.Common.{◌≡◌, ◌≤◌, replicate, vec_capacity}
use Rattle.hp_hall.specs.Own.{after_ack}
use Rattle.hp_plain.proofs.plain_hall.owns.first_parts.Given as goal

abbrev pub invariant-loop-participant : goal.invariant-loop-participant
invariant-loop-participant l = (l.owns.items ≡ replicate l._participant (after_ack 0)) × (l.participants ≤ vec_capacity l.owns)
