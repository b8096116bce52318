use Rattle.std.proofs.Common.{◌≡◌, ◌≤◌, replicate, vec_capacity}
use Rattle.hp_plain.proofs.plain_hall.owns.first_lines.Given as goal

abbrev pub invariant-loop-participant : goal.invariant-loop-participant
invariant-loop-participant l = (l.lines.items ≡ replicate l._participant 0) × (l.participants ≤ vec_capacity l.lines)
