use Rattle.std.proofs.Common.{◌≡◌, ◌+◌, ◌≤◌, ◌++◌, map, vec_len, vec_capacity}
use Rattle.std.specs.Prelude.{zip}
use Rattle.hp_threads.specs.Dealing.{longer}
use Rattle.hp_threads.proofs.dealing.hand_out.Given as goal

abbrev pub invariant-loop-all_passes : goal.invariant-loop-all_passes
invariant-loop-all_passes l =
    (l.all.items ++ map longer (zip l.all_passes.items l.passes.items) ≡ map longer (zip l.initial.all_passes.items l.initial.passes.items))
    × (vec_len l.all + vec_len l.all_passes ≤ vec_capacity l.all) × (vec_len l.passes ≡ vec_len l.all_passes)

abbrev pub decreases-loop-all_passes : goal.decreases-loop-all_passes
decreases-loop-all_passes l = vec_len l.all_passes
