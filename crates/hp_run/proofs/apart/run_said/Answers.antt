-- What a run on threads begins with is there.
use Rattle.std.proofs.Common.{◌∙◌, List, ap, map, subst, sym}
use Rattle.hp_base.specs.declared.pool_line.PoolLine.{PoolLine}
use Rattle.hp_script.specs.Limits.{AreParticipantLines}
use Rattle.hp_segs.specs.Opening.{opening}
use Rattle.hp_run.proofs.Coming.{given_by}
use Rattle.hp_run.proofs.Newcomers.{all_new, can_be_done}
use Rattle.hp_run.proofs.OpeningLemmas.{if_ok}
use Rattle.hp_run.proofs.ThreadsRun.{left_is_end}
use Rattle.hp_run.proofs.apart.run_said.Goals as goal

pub of-requires : goal.of-requires
of-requires g c = subst AreParticipantLines (sym c.deref-2.ensures.value) c.requires.runnable.lines

pub run_apart-requires-clause-can : goal.run_apart-requires-clause-can
run_apart-requires-clause-can g c κs lives = record {
  given = given_by c.args.workload.now c.requires.runnable;
  lines = can_be_done c.args.workload.now c.requires.runnable;
  few = c.requires.runnable.limits.few_lines;
}

pub run_apart-requires-clause-values : goal.run_apart-requires-clause-values
run_apart-requires-clause-values g c κs lives = record {
  heaps_are = c.in_ok-heaps.ensures;
  segs_are =
      c.in_ok-segs.ensures
      ∙ ap (λ (pools : List PoolLine). opening pools c.args.workload.now.participants c.args.workload.now.absent) c.deref-3.ensures.value;
  names_are = c.in_ok-names.ensures.names;
}

pub run_apart-requires-clause-count : goal.run_apart-requires-clause-count
run_apart-requires-clause-count g c κs lives = c.in_ok-all.ensures.count

pub run_apart-requires-clause-newcomers : goal.run_apart-requires-clause-newcomers
run_apart-requires-clause-newcomers g c κs lives =
    all_new c.args.workload.now (map (λ kit. g.M.Mapper.may_fail kit.mapper) c.args.kits.items) c.in_ok-all.all.items c.in_ok-all.ensures

pub returns : goal.returns
returns g c = record {
  end =
      if_ok _ _ c.run_apart.result
      (λ left is.
      left_is_end c.args.workload.now (map (λ kit. g.M.Mapper.may_fail kit.mapper) c.args.kits.items) left.answers.items left.heaps.items left.segs
      left.names left.tables.items left.watchers.items c.handed_end_law.ensures c.requires.runnable
      (record { firsts = c.in_ok-all.all.items; begun = c.in_ok-all.ensures; leave = is })) c.run_apart.ensures;
}
