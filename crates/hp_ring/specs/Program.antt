-- The program: its words, what it writes, and how it ends.
use Rattle.std.specs.Prelude.{◌≡◌, ℕ, ◌==◌, Bool, true, false, List, [], ◌∷◌, ◌++◌, length, codes, Option, Some, None, slice_index_or, if◌then◌else◌}
use Rattle.hp_base.specs.declared.status.Status.{Status}
use Rattle.hp_base.specs.declared.status.Status.TheVariants as status
use Rattle.hp_command.specs.Reading.{GaveAll, GaveTooMuch}
use Rattle.hp_command.specs.Words.{number_within, values_of}
use Rattle.hp_command.specs.Writing.{Holds, HoldsFront}
use Rattle.hp_ring.specs.declared.judging.TheConstants.{MAX_SLOTS}
use Rattle.hp_ring.specs.declared.gathering.Gathered.{Gathered}
use Rattle.hp_ring.specs.PassViews.{SendView, TakeView}
use Rattle.hp_ring.specs.Weave.{WentThrough, woven}

-- what the words ask for: how many slots the ring is to have, in decimal digits and within the range
unfoldable pub slots_of : List (List ℕ) → Option ℕ
slots_of words = if length (values_of words) == 1 then number_within 1 MAX_SLOTS (slice_index_or (values_of words) 0 []) else None

abbrev pub usage_text : List ℕ
usage_text = codes "usage: heapring <slots>\n"

abbrev pub is_read_fault : Status → Bool
is_read_fault status.ReadFault = true
is_read_fault _ = false

abbrev pub is_write_fault : Status → Bool
is_write_fault status.WriteFault = true
is_write_fault _ = false

-- the lines of the text that the passes of two senders and a taker show to have gone through the ring
pub record HaveWoven (text : List ℕ) (senders : List SendView) (taker : TakeView) : Type 0 where
  pub first : SendView
  pub second : SendView
  pub are : senders ≡ first ∷ second ∷ []
  pub went : WentThrough text first second taker

-- What was gathered of two senders was written, or a front of it before the sink failed; or nothing, where there was no memory for all of
-- it.
abbrev pub IsPutOut : Gathered → Gathered → Option (List ℕ) → Option (List ℕ) → Type 0 → Status → Type 0
IsPutOut first second held held' failed status.Ok =
    (first.whole ≡ true) × (second.whole ≡ true) × Holds held held' (first.bytes.items ++ second.bytes.items)
IsPutOut first second held held' failed status.WriteFault =
    (first.whole ≡ true) × (second.whole ≡ true) × HoldsFront held held' (first.bytes.items ++ second.bytes.items) × failed
IsPutOut first second held held' failed status.OutOfMemory = held' ≡ held
IsPutOut first second held held' failed _ = ⊥

-- a text went through the ring, and was written so
abbrev pub EndsThrough : List ℕ → Option (List ℕ) → Option (List ℕ) → Type 0 → Status → List SendView → TakeView → Type 0
EndsThrough text held held' failed status.Ok senders taker = Holds held held' (woven text) × HaveWoven text senders taker
EndsThrough text held held' failed status.WriteFault senders taker = HoldsFront held held' (woven text) × failed
EndsThrough text held held' failed status.OutOfMemory senders taker = held' ≡ held
EndsThrough text held held' failed _ senders taker = ⊥

-- Whatever was read was woven through a ring, and then written, all of it or a front of it before the sink failed; or nothing was written,
-- as reading failed, too much was given, or memory ran out.
abbrev pub EndsWeave : Option (List ℕ) → Option (List ℕ) → Option (List ℕ) → Option (List ℕ) → Type 0 → Type 0 → Status → List SendView
    → TakeView → Type 0
EndsWeave left left' held held' source_failed sink_failed status.Ok senders taker =
    (text : List ℕ) × GaveAll left left' text × Holds held held' (woven text) × HaveWoven text senders taker
EndsWeave left left' held held' source_failed sink_failed status.WriteFault senders taker =
    (text : List ℕ) × GaveAll left left' text × HoldsFront held held' (woven text) × sink_failed
EndsWeave left left' held held' source_failed sink_failed status.ReadFault senders taker = (held' ≡ held) × source_failed
EndsWeave left left' held held' source_failed sink_failed status.TooLong senders taker = (held' ≡ held) × GaveTooMuch left left'
EndsWeave left left' held held' source_failed sink_failed status.OutOfMemory senders taker = held' ≡ held
EndsWeave left left' held held' source_failed sink_failed _ senders taker = ⊥

-- whatever was read was woven and then written, all of it or a front, or nothing was, with no word on the passes
abbrev pub EndsRead : Option (List ℕ) → Option (List ℕ) → Option (List ℕ) → Option (List ℕ) → Type 0 → Type 0 → Status → Type 0
EndsRead left left' held held' source_failed sink_failed status.Ok =
    (text : List ℕ) × GaveAll left left' text × Holds held held' (woven text)
EndsRead left left' held held' source_failed sink_failed status.WriteFault =
    (text : List ℕ) × GaveAll left left' text × HoldsFront held held' (woven text) × sink_failed
EndsRead left left' held held' source_failed sink_failed status.ReadFault = (held' ≡ held) × source_failed
EndsRead left left' held held' source_failed sink_failed status.TooLong = (held' ≡ held) × GaveTooMuch left left'
EndsRead left left' held held' source_failed sink_failed status.OutOfMemory = held' ≡ held
EndsRead left left' held held' source_failed sink_failed _ = ⊥

-- What a call of the program does: it weaves what it reads where its words ask for a ring, and else it writes the usage, reads nothing,
-- and needs no memory.
abbrev pub Ends : Option ℕ → Option (List ℕ) → Option (List ℕ) → Option (List ℕ) → Option (List ℕ) → Type 0 → Type 0 → Status → Type 0
Ends (Some slots) left left' held held' source_failed sink_failed result = EndsRead left left' held held' source_failed sink_failed result
Ends None left left' held held' source_failed sink_failed status.Usage = (left' ≡ left) × Holds held held' usage_text
Ends None left left' held held' source_failed sink_failed status.WriteFault = (left' ≡ left) × HoldsFront held held' usage_text × sink_failed
Ends None left left' held held' source_failed sink_failed _ = ⊥
