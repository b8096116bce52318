use Rattle.std.proofs.Common.{◌≡◌, ◌+◌, ◌<◌, ◌≤◌, ◌++◌, List, Some, drop, length, map, vec_len, vec_capacity}
use Rattle.std.specs.List.{All, slice_get}
use Rattle.hp_mail.specs.PassView.{PassView}
use Rattle.hp_threads.proofs.meeting.parted.Given as goal

abbrev pub invariant-loop-all_passes : goal.invariant-loop-all_passes
invariant-loop-all_passes l = record {
  some : All (λ (passes : List PassView). 0 < length passes) l.all_passes.items;
  firsts : map Some l.firsts.items ++ map (λ (passes : List PassView). slice_get passes 0) l.all_passes.items
      ≡ map (λ (passes : List PassView). slice_get passes 0) l.initial.all_passes.items;
  rest : l.rest.items ++ map (drop 1) l.all_passes.items ≡ map (drop 1) l.initial.all_passes.items;
  firsts_room : vec_len l.firsts + vec_len l.all_passes ≤ vec_capacity l.firsts;
  rest_room : vec_len l.rest + vec_len l.all_passes ≤ vec_capacity l.rest;
}

abbrev pub decreases-loop-all_passes : goal.decreases-loop-all_passes
decreases-loop-all_passes l = vec_len l.all_passes
