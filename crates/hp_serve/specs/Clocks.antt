-- How far a line carries the clock of one thread: the rule "Turns of a wait" of docs/PARTICIPANTS.md.
use Rattle.std.specs.Prelude.{◌≡◌, ℕ, ◌+◌, ◌*◌, ◌≤◌}
use Rattle.hp_base.specs.declared.limits.TheConstants.{MAX_HEAPS}

-- the clock of one thread is real: a deadline that counts no more was reached by it, and no slot is found held
pub record IsOneClock {T : Type 0} (pending : ℕ → ℕ → ℕ) (IsBusy : T → Type 0) : Type 0 where
  pub reads : (at deadline : ℕ) → pending at deadline ≡ 0 → deadline ≤ at
  pub free : (hall : T) → IsBusy hall → ⊥

-- in one thread the clock goes on by so many milliseconds at most
abbrev pub RisesWithin : {T : Type 0} → (ℕ → ℕ → ℕ) → (T → Type 0) → ℕ → ℕ → ℕ → Type 0
RisesWithin pending IsBusy most old new = IsOneClock pending IsBusy → new ≤ old + most

-- how long a participant of that deadline waits for an answer at most: three deadlines
abbrev pub longest_wait : ℕ → ℕ
longest_wait deadline = 3 * deadline

-- how long a heap's growth takes at most: a wait for each of the eight page sizes
abbrev pub longest_growth : ℕ → ℕ
longest_growth deadline = 8 * longest_wait deadline

-- how long an allocation takes at most: a growth of each heap
abbrev pub longest_allocation : ℕ → ℕ
longest_allocation deadline = MAX_HEAPS * longest_growth deadline
