-- Whatever comes of writing what there is to write, reading did not fail.
use Rattle.std.proofs.Common.{◌≡◌, ℕ, Bool, List, Option, false, refl, sym, subst, arith, true≢false}
use Rattle.hp_base.specs.Streams.{CountsFault}
use Rattle.hp_base.specs.declared.status.Status.{Status}
use Rattle.hp_run.specs.Faults.{is_read_fault}
use Rattle.hp_run.specs.Making.{IsMade}
use Rattle.hp_run.specs.Making.IsMade.{wrote as made, wrote_nothing as made_nothing}
use Rattle.hp_run.specs.Outcome.{Answering, IsAnswered, IsPut, IsWritten}
use Rattle.hp_run.specs.Outcome.IsAnswered.{wrote, wrote_nothing}
use Rattle.hp_run.specs.Outcome.IsPut.{whole, front}
use Rattle.hp_run.specs.Outcome.IsWritten.{put, short}
use Rattle.hp_run.proofs.OutcomeLemmas.{IsTold, Tells}
use Rattle.hp_run.proofs.OutcomeLemmas.IsTold.{ok, refused}

told_reads : (ended : Status) → IsTold ended → is_read_fault ended ≡ false
told_reads _ ok = refl
told_reads _ refused = refl

pub put_reads : (ended result : Status) (text : List ℕ) (held held' : Option (List ℕ)) (sink_failed : Type 0)
    → IsPut ended text held held' sink_failed result → is_read_fault ended ≡ false → is_read_fault result ≡ false
put_reads ended result text held held' sink_failed (whole holds) reads = reads
put_reads ended result text held held' sink_failed (front holds failed) reads = refl

written_reads : (ended result : Status) (text : List ℕ) (held held' : Option (List ℕ)) (sink_failed : Type 0)
    → IsWritten ended text held held' sink_failed result → is_read_fault ended ≡ false → is_read_fault result ≡ false
written_reads ended result text held held' sink_failed (put result' is) reads =
    put_reads ended result text held held' sink_failed is reads
written_reads ended result text held held' sink_failed (short holds) reads = refl

-- for an input
pub answered_reads : (answers : Answering) (status_for : List ℕ → Status) → Tells answers status_for → (input : List ℕ)
    (held held' : Option (List ℕ)) (sink_failed : Type 0) (result : Status) → IsAnswered answers input held held' sink_failed result
    → is_read_fault result ≡ false
answered_reads answers status_for tells input held held' sink_failed result (wrote ended result' text answer written) =
    written_reads ended result text held held' sink_failed written (told_reads ended (tells.told input ended text answer))
answered_reads answers status_for tells input held held' sink_failed result (wrote_nothing same) = refl

-- where nothing is read at all
pub made_reads : (is : List ℕ → Type 0) (held held' : Option (List ℕ)) (sink_failed : Type 0) (result : Status)
    → IsMade is held held' sink_failed result → is_read_fault result ≡ false
made_reads is held held' sink_failed result (made result' text shown written) = put_reads _ result text held held' sink_failed written refl
made_reads is held held' sink_failed result (made_nothing same) = refl

-- and a source's count of faults stands as it was
pub unread : (faults : ℕ) (failed : Bool) → failed ≡ false → CountsFault faults faults failed
unread faults failed is =
    subst (λ (failed : Bool). CountsFault faults faults failed) (sym is) (record {
      never_falls = omega arith;
      rose = λ bad. absurd (true≢false (sym bad));
      same = λ _. refl;
    })
