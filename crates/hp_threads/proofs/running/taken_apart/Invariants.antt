use Rattle.std.proofs.Common.{◌≡◌, ◌+◌, ◌≤◌, ◌++◌, map, vec_len, vec_capacity}
use Rattle.std.specs.Prelude.{Some, zip}
use Rattle.hp_threads.specs.Running.{told_of, watched_of}
use Rattle.hp_threads.specs.declared.working.Worked.{Worked}
use Rattle.hp_threads.proofs.running.taken_apart.Given as goal

abbrev pub invariant-loop-worked : goal.invariant-loop-worked
invariant-loop-worked l = record {
  passes : l.all_passes.items ++ map (λ (one : Worked). one.passes.items) l.worked.items
      ≡ map (λ (one : Worked). one.passes.items) l.initial.worked.items;
  seats : l.seats.items ++ map (λ (one : Worked). one.seat) l.worked.items ≡ map (λ (one : Worked). one.seat) l.initial.worked.items;
  stats : l.all_stats.items ++ map (λ (one : Worked). one.stats) l.worked.items ≡ map (λ (one : Worked). one.stats) l.initial.worked.items;
  done : map Some (zip l.answers.items l.tables.items) ++ map (λ (one : Worked). told_of one.done) l.worked.items
      ≡ map (λ (one : Worked). told_of one.done) l.initial.worked.items;
  watched : map Some l.watchers.items ++ map (λ (one : Worked). watched_of one.done) l.worked.items
      ≡ map (λ (one : Worked). watched_of one.done) l.initial.worked.items;
  answered : vec_len l.answers + vec_len l.worked ≡ vec_len l.initial.worked;
  count : vec_len l.tables ≡ vec_len l.answers;
  passed : vec_len l.all_passes ≡ vec_len l.answers;
  watching : vec_len l.watchers ≡ vec_len l.answers;
  reading : vec_len l.all_stats ≡ vec_len l.answers;
  seated : vec_len l.seats ≡ vec_len l.answers;
  passes_room : vec_len l.initial.worked ≤ vec_capacity l.all_passes;
  seats_room : vec_len l.initial.worked ≤ vec_capacity l.seats;
  answers_room : vec_len l.initial.worked ≤ vec_capacity l.answers;
  tables_room : vec_len l.initial.worked ≤ vec_capacity l.tables;
  watchers_room : vec_len l.initial.worked ≤ vec_capacity l.watchers;
  stats_room : vec_len l.initial.worked ≤ vec_capacity l.all_stats;
}

abbrev pub decreases-loop-worked : goal.decreases-loop-worked
decreases-loop-worked l = vec_len l.worked
