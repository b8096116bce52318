use Rattle.std.proofs.Common.{◌≡◌, drop, map}
use Rattle.hp_run.proofs.Coming.{HaveComeBelow}
use Rattle.hp_run.proofs.running.come_all.Given as goal

-- those below a number have come, each over its mapper
abbrev pub invariant-loop-who : goal.invariant-loop-who
invariant-loop-who g l = record {
  left : l.mappers.items ≡ drop l.who l.fn.mappers.items;
  come : HaveComeBelow l.fn.workload (map g.M.Mapper.may_fail l.fn.mappers.items) l.who l.hall.servers;
  plain : l.hall.plain ≡ l.fn.hall.plain;
}
