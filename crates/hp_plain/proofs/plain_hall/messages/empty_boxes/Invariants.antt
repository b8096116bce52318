use Rattle.std.proofs.Common.{◌≡◌, ◌≤◌, [], replicate, vec_capacity}
use Rattle.hp_plain.proofs.plain_hall.messages.empty_boxes.Given as goal

abbrev pub invariant-loop-participant : goal.invariant-loop-participant
invariant-loop-participant l = (l.boxes.items ≡ replicate l._participant []) × (l.participants ≤ vec_capacity l.boxes)
