-- What there is to write for an input, and what was written of it, say how a session ended.
use Rattle.std.proofs.Common.{◌≡◌, ℕ, ◌+◌, ◌<◌, Bool, true, false, cond, List, [], ◌++◌, length, append-nil, length-append, Option, Some, None, IfSome, nat_lt, ap, sym, ◌∙◌, refl, arith, subst}
use Rattle.std.specs.Prelude.{Err, Ok}
use Rattle.std.proofs.lemmas.Option.{none-some, same_Some}
use Rattle.std.proofs.lemmas.Bool.{false≢true, le-ltb, lt-ltb}
use Rattle.hp_base.specs.declared.status.Status.{Status}
use Rattle.hp_base.specs.declared.status.Status.TheVariants as status
use Rattle.hp_command.specs.Writing.{Holds, HoldsFront}
use Rattle.hp_bytes.specs.Form.{reading}
use Rattle.hp_bytes.specs.PlainSession.{AreAnswers, opening_session}
use Rattle.hp_bytes.specs.Running.{IsReplyText}
use Rattle.hp_bytes.specs.declared.line.Line.{Line}
use Rattle.hp_bytes.specs.Streaming.{most_input, GaveAll, GaveTooMuch}
use Rattle.hp_bytes.specs.Outcome.{Ends, IsAnswered, IsDue, IsReply, IsText, IsTried, IsUnlessFailure, IsWritten, is_read_fault, is_write_fault, refusal_text, status_of, usage_text}
use Rattle.hp_bytes.specs.Outcome.IsAnswered.{wrote, wrote_nothing}
use Rattle.hp_bytes.specs.Outcome.IsDue.{of_line, of_reply}
use Rattle.hp_bytes.specs.Outcome.IsText.{refused, replies, usage}
use Rattle.hp_bytes.specs.Outcome.IsTried.{ran_out, tried}
use Rattle.hp_bytes.specs.Outcome.IsWritten.{whole, front}

-- the usage text was written, and nothing read
pub usage_ends : (right : Bool) (left held held' : Option (List ℕ)) (source_failed sink_failed : Type 0) (result : Status) → right ≡ false
    → IsWritten status.Usage usage_text held held' sink_failed result → Ends right left left held held' source_failed sink_failed result
usage_ends right left held held' source_failed sink_failed _ wrong (whole written) = record { text = usage_text; is = usage wrong refl; written = written }
usage_ends right left held held' source_failed sink_failed _ wrong (front some failed) =
    record { ended = status.Usage; text = usage_text; is = usage wrong refl; front = some; because = failed }

module _ (left left' held held' : Option (List ℕ)) (source_failed sink_failed : Type 0) where
  due_ends : (input : List ℕ) (ended result : Status) (text : List ℕ) → GaveAll left left' input → IsDue input ended text
      → IsWritten ended text held held' sink_failed result → Ends true left left' held held' source_failed sink_failed result
  due_ends input _ _ _ gave (of_line line is) (whole written) = record { text = _; is = refused input line refl gave is; written = written }
  due_ends input _ _ _ gave (of_line line is) (front some failed) =
      record { ended = _; text = _; is = refused input line refl gave is; front = some; because = failed }
  due_ends input _ _ _ gave (of_reply text is) (whole written) = record { text = _; is = replies input text refl gave is; written = written }
  due_ends input _ _ _ gave (of_reply text is) (front some failed) =
      record { ended = _; text = _; is = replies input text refl gave is; front = some; because = failed }

  pub answered_ends : (input slice : List ℕ) (result : Status) → GaveAll left left' input → slice ≡ input
      → IsAnswered slice held held' sink_failed result → Ends true left left' held held' source_failed sink_failed result
  answered_ends input slice _ gave same (wrote ended result text due written) =
      due_ends input ended result text gave (subst (λ slice. IsDue slice ended text) same due) written
  answered_ends input slice _ gave same (wrote_nothing kept) = record { own = refl; because = tt; nothing = kept }

-- why a line is refused was written, or a front of it, or nothing where memory ran out
pub tried_answers : (input : List ℕ) (held held' : Option (List ℕ)) (sink_failed : Type 0) (line : ℕ) (result : Status) → reading input ≡ Err line
    → IsTried status.BadWorkload (refusal_text line) held held' sink_failed result → IsAnswered input held held' sink_failed result
tried_answers input held held' sink_failed line _ is (tried result written) = wrote status.BadWorkload result (refusal_text line) (of_line line is) written
tried_answers input held held' sink_failed line _ is (ran_out kept) = wrote_nothing kept

-- what was written says of no fault of reading
written_reads : (ended result : Status) (text : List ℕ) (held held' : Option (List ℕ)) (sink_failed : Type 0)
    → IsWritten ended text held held' sink_failed result → is_read_fault ended ≡ false → is_read_fault result ≡ false
written_reads ended result text held held' sink_failed (whole holds) reads = reads
written_reads ended result text held held' sink_failed (front holds failed) reads = refl

due_reads : (input : List ℕ) (ended : Status) (text : List ℕ) → IsDue input ended text → is_read_fault ended ≡ false
due_reads input ended text (of_line line is) = refl
due_reads input ended text (of_reply text' is) = refl

pub answered_reads : (input : List ℕ) (held held' : Option (List ℕ)) (sink_failed : Type 0) (result : Status)
    → IsAnswered input held held' sink_failed result → is_read_fault result ≡ false
answered_reads input held held' sink_failed result (wrote ended result' text due written) =
    written_reads ended result text held held' sink_failed written (due_reads input ended text due)
answered_reads input held held' sink_failed result (wrote_nothing kept) = refl

-- a source that tells its bytes gave those
gave_input : (input : List ℕ) (left' : Option (List ℕ)) (bytes : List ℕ) → GaveAll (Some input) left' bytes → bytes ≡ input
gave_input input None bytes gave = absurd (none-some input (sym gave.took))
gave_input input (Some rest) bytes gave =
    let none_left : rest ≡ [] = same_Some rest [] gave.nothing in
    sym (same_Some input (bytes ++ rest) gave.took ∙ ap (λ rest. bytes ++ rest) none_left ∙ append-nil bytes)

-- and one that gave too much had more than the limit
gave_more : (input : List ℕ) (left' : Option (List ℕ)) → GaveTooMuch (Some input) left' → most_input < length input
gave_more input None gave = absurd (none-some input (sym gave.took))
gave_more input (Some rest) gave =
    let same : length input ≡ length gave.bytes + length rest = ap length (same_Some input (gave.bytes ++ rest) gave.took) ∙ length-append gave.bytes rest in
    omega (arith, same, gave.long)

-- the status that goes with a text is the one for the words and the input
status_of_text : (right : Bool) (input : List ℕ) (left' : Option (List ℕ)) (ended : Status) (text : List ℕ) → IsText right (Some input) left' ended text → status_of right input ≡ ended
status_of_text right input left' _ _ (usage wrong same) = rw wrong refl
status_of_text right input left' _ _ (refused bytes line own gave is) =
    let within : nat_lt most_input (length bytes) ≡ false = le-ltb most_input (length bytes) gave.short in
    subst (λ bytes. status_of right bytes ≡ status.BadWorkload) (gave_input input left' bytes gave) (rw (own, within, is) refl)
status_of_text right input left' _ _ (replies bytes text own gave reply) =
    let within : nat_lt most_input (length bytes) ≡ false = le-ltb most_input (length bytes) gave.short in
    subst (λ bytes. status_of right bytes ≡ status.Ok) (gave_input input left' bytes gave) (rw (own, within, reply.read) refl)

-- how a session ended is the status for the words and the input, or a failure
pub settled_by_end : (right : Bool) (left left' held held' : Option (List ℕ)) (source_failed sink_failed : Type 0) (result : Status)
    → Ends right left left' held held' source_failed sink_failed result → IfSome left (λ input. IsUnlessFailure (status_of right input) result)
settled_by_end right None left' held held' source_failed sink_failed result ended = tt
settled_by_end right (Some input) left' held held' source_failed sink_failed status.ReadFault ended = tt
settled_by_end right (Some input) left' held held' source_failed sink_failed status.WriteFault ended = tt
settled_by_end right (Some input) left' held held' source_failed sink_failed status.OutOfMemory ended = tt
settled_by_end right (Some input) left' held held' source_failed sink_failed status.Ok ended = status_of_text right input left' status.Ok ended.text ended.is
settled_by_end right (Some input) left' held held' source_failed sink_failed status.Usage ended = status_of_text right input left' status.Usage ended.text ended.is
settled_by_end right (Some input) left' held held' source_failed sink_failed status.BadWorkload ended = status_of_text right input left' status.BadWorkload ended.text ended.is
settled_by_end right (Some input) left' held held' source_failed sink_failed status.TooLong ended =
    let long : nat_lt most_input (length input) ≡ true = lt-ltb most_input (length input) (gave_more input left' ended.because) in
    rw (ended.own, long) refl

-- a text that was made for the lines of an input is its reply
pub reply_is : (input text bytes : List ℕ) (lines slice : List Line) → reading input ≡ Ok lines → slice ≡ lines → IsReplyText slice text → bytes ≡ text → IsReply input bytes
reply_is input text bytes lines slice read same reply is = record {
  lines = lines;
  read = read;
  answers = reply.answers;
  are = subst (λ (ls : List Line). AreAnswers 1 ls opening_session reply.answers) same reply.are;
  is = is ∙ reply.is;
}

-- a session ends so under the program's own words
pub own_ends : (right : Bool) (left left' held held' : Option (List ℕ)) (source_failed sink_failed : Type 0) (result : Status) → right ≡ true
    → Ends true left left' held held' source_failed sink_failed result → Ends right left left' held held' source_failed sink_failed result
own_ends right left left' held held' source_failed sink_failed result own ended =
    subst (λ (b : Bool). Ends b left left' held held' source_failed sink_failed result) (sym own) ended
