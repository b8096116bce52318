-- What was written, by the status that goes with it.
use Rattle.std.proofs.Common.{◌≡◌, ℕ, ◌*◌, ◌≤◌, Bool, true, false, true≢false, List, refl, sym, ap}
use Rattle.std.specs.Prelude.{Option}
use Rattle.std.proofs.lemmas.Nat.{mul-le}
use Rattle.hp_base.specs.declared.status.Status.{Status}
use Rattle.hp_base.specs.declared.status.Status.TheVariants as status
use Rattle.hp_command.specs.Writing.{Holds}
use Rattle.hp_mempool.specs.declared.load.Load.{Load}
use Rattle.hp_mempool.specs.declared.load.TheConstants.{MAX_ROUNDS, MAX_WORKERS}
use Rattle.hp_mempool.specs.Program.{IsLoad, IsPut, IsPutUnlessShort, is_write_fault}

abbrev is_ok : Status → Bool
is_ok status.Ok = true
is_ok _ = false

module _ (text : List ℕ) (held held' : Option (List ℕ)) (failed : Type 0) where
  -- a text was written whole, with a status that does not say that writing failed
  pub put_whole : (ended : Status) → is_write_fault ended ≡ false → Holds held held' text → IsPut ended text held held' failed ended
  put_whole status.Ok is holds = (refl, holds)
  put_whole status.Usage is holds = (refl, holds)
  put_whole status.BadWorkload is holds = (refl, holds)
  put_whole status.ReadFault is holds = (refl, holds)
  put_whole status.WriteFault is holds = absurd (true≢false is)
  put_whole status.OutOfMemory is holds = (refl, holds)
  put_whole status.TooLong is holds = (refl, holds)

  -- what was written did not end for want of memory
  pub put_unless_short : (result : Status) → IsPut status.Ok text held held' failed result → IsPutUnlessShort status.Ok text held held' failed result
  put_unless_short status.Ok put = put
  put_unless_short status.Usage put = put
  put_unless_short status.BadWorkload put = put
  put_unless_short status.ReadFault put = put
  put_unless_short status.WriteFault put = put
  put_unless_short status.OutOfMemory put = absurd (true≢false (sym (ap is_ok put.0)))
  put_unless_short status.TooLong put = put

-- so many calls can be counted
pub few_calls : (load : Load) → IsLoad load → load.workers * load.rounds ≤ MAX_WORKERS * MAX_ROUNDS
few_calls load is = mul-le load.workers load.rounds MAX_WORKERS MAX_ROUNDS is.few_workers is.few_rounds
