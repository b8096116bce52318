use Rattle.hp_run.proofs.RefusalLemmas.{fault_of_memory, read_as_same}
use Rattle.hp_run.proofs.apart.ended_on_threads.Goals as goal

pub returns-in_err-run_on_threads : goal.returns-in_err-run_on_threads
returns-in_err-run_on_threads g c = fault_of_memory _ _ _ c.from_residual-in_err-run_on_threads.ensures.1

pub returns : goal.returns
returns g c = record {
  done = c.in_ok-workload.ensures.done;
  workload = read_as_same _ _ _ c.in_ok-workload.ensures.read c.in_ok-run_on_threads.ensures.workload;
  end = c.in_ok-run_on_threads.ensures.end;
}
