-- Why a text is not run, or that it is, by what reading it gives.
use Rattle.std.proofs.Common.{◌≡◌, ℕ, List, Option, Some, Result, Ok, Err, refl, ◌∙◌, sym, subst}
use Rattle.std.specs.List.{All}
use Rattle.std.specs.Result.{MatchResult, IsErrAnd}
use Rattle.hp_script.proofs.MovedFacts.MovedLemmas.{ReadAnywhere, read_anywhere}
use Rattle.hp_script.specs.Facts.{AwaitEarlier, IsLineOf}
use Rattle.hp_script.specs.Limits.{AreDeclared, AreParticipantLines, IsWithinLimits}
use Rattle.hp_script.specs.Workloads.{IsReadAs, reading_of}
use Rattle.hp_script.specs.declared.bad_kind.BadKind.{BadKind}
use Rattle.hp_script.specs.declared.workload.Workload.{Workload}
use Rattle.hp_base.specs.Participants.{IsAbsent}
use Rattle.hp_base.specs.Plans.{ArePlanEntries}
use Rattle.hp_base.specs.PoolLines.{ArePoolLines}
use Rattle.hp_run.specs.Outcome.{IsAcceptedAs, IsFaultOf}
use Rattle.hp_run.specs.Refusals.{refusal_of}
use Rattle.hp_run.specs.Running.{IsSameWorkload}
use Rattle.hp_run.specs.declared.refusal.Refusal.{Refusal}
use Rattle.hp_run.specs.declared.refusal.RunFault.{RunFault}
use Rattle.hp_run.specs.declared.refusal.RunFault.TheVariants.{OutOfMemory}

-- what the text says where it stands, said of the text alone
anywhere : (bytes : List ℕ) (workload : Workload) (read : IsReadAs bytes workload) → ReadAnywhere bytes read.read
anywhere bytes workload read = read_anywhere (record { ref_ptr = read.at; now = bytes }) read.read read.whole

-- a text that is read
pub accepted_as : (bytes : List ℕ) (workload : Workload) → IsReadAs bytes workload → IsWithinLimits workload → ArePoolLines workload.pools.items
    → ArePlanEntries workload.participants workload.plan.items → IsAbsent workload.participants workload.absent
    → AreParticipantLines workload.lines.items → AreDeclared workload.participants workload.lines.items
    → All IsLineOf workload.lines.items → AwaitEarlier workload.participants workload.lines.items → IsAcceptedAs bytes workload
unfolding refusal_of
accepted_as bytes workload read limits pools plan absent lines declared acts awaits =
    let nowhere = anywhere bytes workload read in
    record {
      done = rw (nowhere.whole) refl;
      read = read;
      runnable = record {
        limits = limits;
        pools = pools;
        plan = plan;
        absent = absent;
        lines = lines;
        declared = declared;
        acts = acts;
        awaits = awaits;
      };
    }

-- a text that is refused
pub refused_bad : (bytes : List ℕ) (line : ℕ) (kind : BadKind) → reading_of bytes ≡ Err (record { line = line; kind = kind })
    → refusal_of bytes ≡ Some (record { line = line; kind = kind })
unfolding refusal_of
refused_bad bytes line kind refused = rw refused refl

-- a text is read as any workload that says the same
pub read_as_same : (bytes : List ℕ) (workload ended : Workload) → IsReadAs bytes workload → IsSameWorkload ended workload → IsReadAs bytes ended
read_as_same bytes workload ended is same = record {
  at = is.at;
  read = is.read;
  whole = is.whole;
  workload_is = record {
    participants = same.participants ∙ is.workload_is.participants;
    absent = same.absent ∙ is.workload_is.absent;
    sockets = same.sockets ∙ is.workload_is.sockets;
    deadline = same.deadline ∙ is.workload_is.deadline;
    pools = same.pools ∙ is.workload_is.pools;
    plan = same.plan ∙ is.workload_is.plan;
    lines = same.lines ∙ is.workload_is.lines;
  };
}

-- running out of memory is the fault of any text
pub fault_of_memory : {T : Type 0} (result : Result T RunFault) (P : T → Type 0) (due : Option Refusal) → IsErrAnd result (λ fault. fault ≡ OutOfMemory)
    → MatchResult result P (IsFaultOf due)
fault_of_memory (Ok text) P due memory = absurd memory
fault_of_memory (Err fault) P due memory = subst (IsFaultOf due) (sym memory) tt
