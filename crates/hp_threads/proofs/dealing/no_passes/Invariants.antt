use Rattle.std.proofs.Common.{◌≡◌, ◌≤◌, [], replicate, vec_len, vec_capacity}
use Rattle.hp_threads.proofs.dealing.no_passes.Given as goal

abbrev pub invariant-loop-who : goal.invariant-loop-who
invariant-loop-who l =
    (l.all.items ≡ replicate l._who []) × (vec_len l.all ≡ l._who) × (l.participants ≤ vec_capacity l.all)
