-- Turns of all participants in one thread, after the last line: the rule "Turns in one thread" of docs/RUNS.md.
use Rattle.std.specs.Prelude.{◌≡◌, ℕ, ◌-◌, ◌^◌, ◌≤◌, false, List, [], length, Option, Some, None, IsSome, ⊤}
use Rattle.hp_plain.specs.Course.{IsCourse}
use Rattle.hp_plain.specs.HallSteps.{after_pause}
use Rattle.hp_plain.specs.HallView.{IsHome, part_in, slot_at, taken_from}
use Rattle.hp_plain.specs.Boxes.{box_of}
use Rattle.hp_solo.specs.Sequence.{Visits}
use Rattle.hp_solo.specs.Solo.{AreLater, IsPendingDue, IsQuiet, AloneView, SoloView, due_at, has_stopped, party_at, server_at}

-- what turns of all participants leave: the plain values keep their course, each that serves goes on from itself, and the slots and the
-- parts in heaps are as they were
pub record TurnsLeave (old new : SoloView) : Type 0 where
  pub course : IsCourse old.plain new.plain
  pub later : AreLater old new
  pub taken : (number : ℕ) → taken_from (slot_at new.plain number) ≡ taken_from (slot_at old.plain number)
  pub home : (number : ℕ) → IsHome (slot_at old.plain number) → IsHome (slot_at new.plain number)
  pub part : (who heap : ℕ) → part_in new.plain who heap ≡ part_in old.plain who heap

-- a deadline at the end of the clock's type never passes
abbrev pub NeverPasses : ℕ → Type 0
NeverPasses due = 2 ^ 64 - 1 ≤ due

-- the least deadline of participants that are there that is still to come
pub record IsLeastDue (clock : ℕ) (servers : List AloneView) (next : ℕ) : Type 0 where
  pub pending : IsPendingDue clock servers next
  pub least : (due : ℕ) → IsPendingDue clock servers due → next ≤ due

-- all are visited in turn, again and again; where nothing moved the clock goes on to the least deadline that is still to come, in a pause
-- of participant 0
pub data Drains : SoloView → SoloView → Type 0 where
  none : (hall : SoloView) → Drains hall hall
  turns : (old mid new : SoloView) → Drains old mid → Visits 0 (length mid.servers) mid new → Drains old new
  jumps : (old mid next new : SoloView) → Drains old mid → Visits 0 (length mid.servers) mid next → IsQuiet (λ who. ⊤) mid next
      → IsLeastDue next.plain.clock next.servers new.plain.clock → new.plain ≡ after_pause 0 false None new.plain.clock next.plain
      → new.servers ≡ next.servers → Drains old new

-- no deadline of theirs is still to come, but such as never pass
abbrev pub IsNoneDue : ℕ → List AloneView → Type 0
IsNoneDue clock servers = (due : ℕ) → IsPendingDue clock servers due → NeverPasses due

-- no round is under way, but one whose deadline never passes
abbrev pub HasNoRound : Option ℕ → Type 0
HasNoRound round = (due : ℕ) → round ≡ Some due → NeverPasses due

-- the mailboxes of those who are there are empty
abbrev pub AreEmpty : SoloView → Type 0
AreEmpty hall = (who : ℕ) → IsSome (party_at hall.servers who) → box_of hall.plain.boxes who ≡ []

-- nothing is left: who has met no refusal of memory has no round under way, no deadline is still to come, and where nobody has met one the
-- mailboxes of those who are there are empty
pub record IsDrained (hall : SoloView) : Type 0 where
  pub rounds : (who : ℕ) (server : AloneView) → server_at hall.servers who ≡ Some server → server.stopped ≡ false → HasNoRound (due_at server.party)
  pub none_due : IsNoneDue hall.plain.clock hall.servers
  pub empty : has_stopped hall.servers ≡ false → AreEmpty hall
