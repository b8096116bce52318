use Rattle.hp_run.proofs.RefusalLemmas.{fault_of_memory}
use Rattle.hp_run.proofs.solo_call.counted_for.Goals as goal

pub returns-in_err-run_counted : goal.returns-in_err-run_counted
returns-in_err-run_counted g c = fault_of_memory _ _ _ c.from_residual-in_err-run_counted.ensures.1

pub returns : goal.returns
returns g c =
    let counted = c.in_ok-run_counted.ensures in
    record {
      ended = c.in_ok-workload.workload;
      answers = counted.answers;
      names = counted.names;
      tables = counted.tables;
      watchers = counted.watchers;
      end = record {
        done = c.in_ok-workload.ensures.done;
        workload = c.in_ok-workload.ensures.read;
        end = counted.end;
        names = counted.named;
      };
      counts = counted.counts;
    }
