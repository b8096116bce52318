use Rattle.std.proofs.Common.{◌≡◌, take}
use Rattle.hp_run.specs.AnswersKept.{counts_so_far}
use Rattle.hp_run.specs.Running.{CanGoOn, FailAsBefore}
use Rattle.hp_run.proofs.doing.do_lines.Given as goal

-- the lines so far were done
abbrev pub invariant-loop-place : goal.invariant-loop-place
invariant-loop-place g l = record {
  done : CanGoOn l.fn.workload (take l.place l.fn.workload.lines.items) l.answers.items l.contexts l.hall;
  counts : l.answers.counts ≡ counts_so_far l.fn.counting (take l.place l.fn.workload.lines.items) l.answers.items;
  may_fail : FailAsBefore l.fn.hall.servers l.hall.servers;
}
