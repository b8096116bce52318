-- What there is to write for an input, and what was written of it, say how a call that reads it ended.
use Rattle.std.proofs.Common.{◌≡◌, ℕ, ◌+◌, ◌<◌, true, false, List, [], ◌++◌, length, append-nil, length-append, Option, Some, None, IfSome, nat_lt, ap, sym, ◌∙◌, refl, arith, subst}
use Rattle.std.proofs.lemmas.Option.{none-some, same_Some}
use Rattle.std.proofs.lemmas.Bool.{le-ltb, lt-ltb}
use Rattle.hp_base.specs.Mapping.{FailingCall}
use Rattle.hp_base.specs.declared.status.Status.{Status}
use Rattle.hp_base.specs.declared.status.Status.TheVariants as status
use Rattle.hp_run.specs.declared.reading.TheConstants.{LIMIT}
use Rattle.hp_report.specs.Writing.{Holds, HoldsFront}
use Rattle.hp_report.specs.declared.ended.Ended.{Ended}
use Rattle.hp_run.specs.Reading.{GaveAll, GaveTooMuch}
use Rattle.hp_run.specs.Apart.{IsLeftFor}
use Rattle.hp_run.specs.Outcome.{Answering, IsAnswer, IsAnswered, IsEndFor, IsUnlessFailure, IsWritten, Leaving, ReadEnds, read_status_of, run_status}
use Rattle.hp_run.specs.Outcome.IsAnswer.{of_refusal, of_workload}
use Rattle.hp_run.specs.Outcome.IsAnswered.{wrote, wrote_nothing}
use Rattle.hp_run.specs.Outcome.IsPut.{whole, front}
use Rattle.hp_run.specs.Outcome.IsWritten.{put, short}
use Rattle.hp_run.specs.Refusals.{refusal_of}
use Rattle.hp_run.specs.Outcome.RanOut.{before, amid}

-- a status with which a text for an input goes
pub data IsTold : Status → Type 0 where
  ok : IsTold status.Ok
  refused : IsTold status.BadWorkload

-- the texts for inputs go with such statuses, and with those that a function gives
pub record Tells (answers : Answering) (status_for : List ℕ → Status) : Type 0 where
  pub told : (input : List ℕ) (ended : Status) (text : List ℕ) → answers input ended text → IsTold ended
  pub goes : (input : List ℕ) (ended : Status) (text : List ℕ) → answers input ended text → ended ≡ status_for input

-- a run leaves something of inputs alone that are not refused
module _ (leaves : Leaving) (accepted : (input : List ℕ) (ended : Ended) → leaves input ended → refusal_of input ≡ None) where
  run_told : (input : List ℕ) (ended : Status) (text : List ℕ) → IsAnswer leaves input ended text → IsTold ended
  run_told input _ _ (of_refusal reason is) = refused
  run_told input _ _ (of_workload text is) = ok

  run_goes : (input : List ℕ) (ended : Status) (text : List ℕ) → IsAnswer leaves input ended text → ended ≡ run_status input
  run_goes input _ _ (of_refusal reason is) = rw (is) refl
  run_goes input _ _ (of_workload text is) = rw (accepted input is.ended is.end) refl

  run_tells : Tells (IsAnswer leaves) run_status
  run_tells = record { told = run_told; goes = run_goes }

-- those of a run in one thread do
pub solo_tells : (mappers : List (Option (List FailingCall))) → Tells (IsAnswer (IsEndFor mappers)) run_status
solo_tells mappers = run_tells (IsEndFor mappers) (λ input ended is. is.done)

-- and those of a run on threads
pub threads_tell : (mappers : List (Option (List FailingCall))) → Tells (IsAnswer (IsLeftFor mappers)) run_status
threads_tell mappers = run_tells (IsLeftFor mappers) (λ input ended is. is.done)

module _ (answers : Answering) (left left' held held' : Option (List ℕ)) (source_failed sink_failed : Type 0) where
  read_written : (input : List ℕ) (ended result : Status) (text : List ℕ) → GaveAll left left' input → IsTold ended → answers input ended text
      → IsWritten ended text held held' sink_failed result → ReadEnds answers left left' held held' source_failed sink_failed result
  read_written input _ _ _ gave ok is (put _ (whole written)) =
      record { text = _; is = record { input = input; gave = gave; is = is }; written = written }
  read_written input _ _ _ gave refused is (put _ (whole written)) =
      record { text = _; is = record { input = input; gave = gave; is = is }; written = written }
  read_written input _ _ _ gave told is (put _ (front some failed)) =
      record { ended = _; text = _; is = record { input = input; gave = gave; is = is }; front = some; because = failed }
  read_written input _ _ _ gave told is (short some) =
      amid (record { ended = _; text = _; is = record { input = input; gave = gave; is = is }; front = some; because = tt })

  pub read_answered : (status_for : List ℕ → Status) → Tells answers status_for → (input slice : List ℕ) (result : Status)
      → GaveAll left left' input → slice ≡ input → IsAnswered answers slice held held' sink_failed result
      → ReadEnds answers left left' held held' source_failed sink_failed result
  read_answered status_for tells input slice _ gave same (wrote ended result shown is written) =
      read_written input ended result shown gave (tells.told slice ended shown is) (subst (λ slice. answers slice ended shown) same is) written
  read_answered status_for tells input slice _ gave same (wrote_nothing kept) = before (record { because = tt; nothing = kept })

-- a source that tells its bytes gave those
gave_input : (input : List ℕ) (left' : Option (List ℕ)) (bytes : List ℕ) → GaveAll (Some input) left' bytes → bytes ≡ input
gave_input input None bytes gave = absurd (none-some input (sym gave.took))
gave_input input (Some rest) bytes gave =
    let none_left : rest ≡ [] = same_Some rest [] gave.nothing in
    sym (same_Some input (bytes ++ rest) gave.took ∙ ap (λ rest. bytes ++ rest) none_left ∙ append-nil bytes)

-- and one that gave too much had more than the limit
gave_more : (input : List ℕ) (left' : Option (List ℕ)) → GaveTooMuch (Some input) left' → LIMIT < length input
gave_more input None gave = absurd (none-some input (sym gave.took))
gave_more input (Some rest) gave =
    let same : length input ≡ length gave.bytes + length rest =
    ap length (same_Some input (gave.bytes ++ rest) gave.took) ∙ length-append gave.bytes rest in
    omega (arith, same, gave.long)

module _ (answers : Answering) (status_for : List ℕ → Status) (tells : Tells answers status_for) where
  -- the status that goes with a text is the one for the input
  status_of_text : (input : List ℕ) (left' : Option (List ℕ)) (bytes : List ℕ) (ended : Status) (text : List ℕ)
      → GaveAll (Some input) left' bytes → answers bytes ended text → ended ≡ read_status_of status_for input
  status_of_text input left' bytes ended text gave is =
      let same = gave_input input left' bytes gave in
      let within : nat_lt LIMIT (length bytes) ≡ false = le-ltb LIMIT (length bytes) gave.short in
      subst (λ bytes. ended ≡ read_status_of status_for bytes) same (rw (within) (tells.goes bytes ended text is))

  -- how a call that reads a workload ended is the status for the input, or a failure
  pub read_settled : (left left' held held' : Option (List ℕ)) (source_failed sink_failed : Type 0) (result : Status)
      → ReadEnds answers left left' held held' source_failed sink_failed result
      → IfSome left (λ input. IsUnlessFailure (read_status_of status_for input) result)
  read_settled None left' held held' source_failed sink_failed result ended = tt
  read_settled (Some input) left' held held' source_failed sink_failed status.ReadFault ended = tt
  read_settled (Some input) left' held held' source_failed sink_failed status.WriteFault ended = tt
  read_settled (Some input) left' held held' source_failed sink_failed status.OutOfMemory ended = tt
  read_settled (Some input) left' held held' source_failed sink_failed status.Ok ended =
      sym (status_of_text input left' ended.is.input status.Ok ended.text ended.is.gave ended.is.is)
  read_settled (Some input) left' held held' source_failed sink_failed status.Usage ended = absurd ended
  read_settled (Some input) left' held held' source_failed sink_failed status.BadWorkload ended =
      sym (status_of_text input left' ended.is.input status.BadWorkload ended.text ended.is.gave ended.is.is)
  read_settled (Some input) left' held held' source_failed sink_failed status.TooLong ended =
      let long : nat_lt LIMIT (length input) ≡ true = lt-ltb LIMIT (length input) (gave_more input left' ended.because) in
      rw (long) refl

-- nothing is a front of every text
holds-nothing : (held : Option (List ℕ)) → Holds held held []
holds-nothing None = refl
holds-nothing (Some held) = ap Some (sym (append-nil held))

pub front-nothing : (held : Option (List ℕ)) (text : List ℕ) → HoldsFront held held text
front-nothing held text = record { len = 0; front = holds-nothing held }
