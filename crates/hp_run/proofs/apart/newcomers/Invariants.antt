use Rattle.std.proofs.Common.{◌≡◌, ◌≤◌, drop, map, vec_capacity, vec_len}
use Rattle.hp_run.proofs.Newcomers.{AreBegunBelow}
use Rattle.hp_run.proofs.apart.newcomers.Given as goal

-- those below a number have begun, each over its mapper
abbrev pub invariant-loop-who : goal.invariant-loop-who
invariant-loop-who g l = record {
  left : l.kits.items ≡ drop l.who l.fn.kits.items;
  begun : AreBegunBelow l.fn.workload (map (λ kit. g.M.Mapper.may_fail kit.mapper) l.fn.kits.items) l.who l.all.items;
  long : vec_len l.all ≡ l.who;
  room : l.fn.workload.participants ≤ vec_capacity l.all;
}
