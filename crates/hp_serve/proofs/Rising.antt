-- How far the clock of one thread goes on in a wait.
use Rattle.std.proofs.Common.{◌≡◌, ℕ, ◌+◌, ◌*◌, ◌-◌, ◌^◌, ◌<◌, ◌≤◌, ◌⊎◌, arith, inr, ⊎_elim}
use Rattle.std.proofs.lemmas.Bool.{cases_lt}
use Rattle.std.proofs.Math.Nat.{min-le_left}
use Rattle.hp_hall.proofs.AsksOfHalls.Pending.{pending_later}
use Rattle.hp_hall.specs.Measures.{pending_at}
use Rattle.hp_serve.specs.AskSteps.{waits_until}
use Rattle.hp_serve.specs.Clocks.{IsOneClock, RisesWithin, longest_wait}
use Rattle.hp_serve.proofs.Waits.{clock_still}

-- a hall in one thread, in which no slot is found held, has one clock
pub one_clock : {T : Type 0} → IsOneClock {T = T} pending_at (λ hall. ⊥)
one_clock = record {
  reads = λ clock deadline past.
      ⊎_elim (λ (later : clock < deadline). absurd (omega (arith, past, pending_later clock deadline later)))
      (λ (reached : deadline ≤ clock). reached) (cases_lt clock deadline);
  free = λ hall busy. busy;
}

-- a wait after another one up to the same deadline
pub waits_on : (until old mid new : ℕ) → (mid ≡ old) ⊎ (mid ≤ until) → (new ≡ mid) ⊎ (new ≤ until) → (new ≡ old) ⊎ (new ≤ until)
waits_on until old mid new before behind =
    ⊎_elim (λ (stands : new ≡ mid). clock_still until old mid new stands before) (λ (within : new ≤ until). inr within) behind

module _ {T : Type 0} (pending : ℕ → ℕ → ℕ) (IsBusy : T → Type 0) where
  -- a wait that began at a reading carries the clock by three deadlines at most
  pub wait_rises : (since deadline old mid new : ℕ) → mid ≡ old → pending mid since ≡ 0
      → (new ≡ mid) ⊎ (new ≤ waits_until since deadline) → RisesWithin pending IsBusy (longest_wait deadline) old new
  wait_rises since deadline old mid new still read went = λ one.
      let reached = one.reads mid since read in
      ⊎_elim
      (λ (stands : new ≡ mid). omega (arith, stands, still))
      (λ (within : new ≤ waits_until since deadline).
      omega (arith, within, reached, still, min-le_left (since + 3 * deadline) (2 ^ 64 - 1)))
      went
