use Rattle.hp_run.proofs.RefusalLemmas.{fault_of_memory, read_as_same}
use Rattle.hp_run.proofs.solo_call.ended_for.Goals as goal

pub returns-in_err-run : goal.returns-in_err-run
returns-in_err-run g c = fault_of_memory _ _ _ c.from_residual-in_err-run.ensures.1

pub returns : goal.returns
returns g c = record {
  done = c.in_ok-workload.ensures.done;
  workload = read_as_same _ _ _ c.in_ok-workload.ensures.read c.in_ok-run.ensures.workload;
  end = c.in_ok-run.ensures.end;
  names = c.in_ok-run.ensures.names;
}
