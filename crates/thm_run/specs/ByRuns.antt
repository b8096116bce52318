-- What participants that came together leave by the run of all, whatever lay in the mailboxes. The rule "Together" of docs/RUNS.md.
use Rattle.std.specs.Prelude.{◌≡◌, ℕ, ◌≤◌, false, List, [], Contains, length, replicate, None, Some, slice_get}
use Rattle.std.specs.List.{All}
use Rattle.hp_frame.specs.declared.frame.Frame.{Frame}
use Rattle.hp_hall.specs.Mail.{MailStep}
use Rattle.hp_heap.specs.History.{HeapView}
use Rattle.hp_script.specs.declared.line.Act.{Act}
use Rattle.hp_script.specs.declared.line.Line.{Line}
use Rattle.hp_script.specs.declared.workload.Workload.{Workload}
use Rattle.hp_segs.specs.SegsView.{SegsView, is_member}
use Rattle.hp_segs.specs.Sound as segments
use Rattle.hp_segs.specs.Standing.{IsArmed}
use Rattle.hp_proc.specs.Courses.{calls_in}
use Rattle.hp_proc.specs.Doing.{Done}
use Rattle.hp_proc.specs.Ends.{HaveGoneBack, KeepsCalls}
use Rattle.hp_proc.specs.Histories.{entries_for}
use Rattle.hp_proc.specs.Outcomes.{AreAskedFor, IsRefusedIn}
use Rattle.hp_proc.specs.Handed.{AreOwnFailures}
use Rattle.hp_weave.specs.Deeds.{Gathering}
use Rattle.hp_weave.specs.Holds.{Hold}
use Rattle.thm_run.specs.Apart.{CameTogether}
use Rattle.thm_run.specs.Seats.{EndedLine, Seat}
use Rattle.thm_run.specs.Together.{IsFirst, GlobalState, Runs}

-- all participants and the segment value, with mailboxes
abbrev pub with_boxes : List (List Frame) → Gathering Seat SegsView → GlobalState
with_boxes boxes at = record { seats = at.seats; segs = at.value; boxes = boxes }

-- a hold gives the value back sound, and armed as it has to be
pub record GivesGood (hold : Hold SegsView) : Type 0 where
  pub sound : segments.IsSound hold.given
  pub armed : IsArmed hold.given

-- wherever participants came together, and each hold gave the value back so, there is a run of all, whatever lay in the mailboxes
abbrev pub RunTogether : Type 0
RunTogether = (count : ℕ) (first last : Gathering Seat SegsView) (steps : ℕ → List MailStep) (holds : List (Hold SegsView))
    → CameTogether count first last steps holds → All GivesGood holds → (boxes : List (List Frame))
    → (left : List (List Frame)) × Runs count (with_boxes boxes first) (with_boxes left last)

-- a line of the workload is that
pub record IsDeedIn (workload : Workload) (deed : Act) : Type 0 where
  pub line : Line
  pub among : Contains workload.lines.items line
  pub its : line.act ≡ deed

-- lines that have ended are lines of the workload
abbrev pub AreLinesIn : Workload → List EndedLine → Type 0
AreLinesIn workload lines = All (λ line. IsDeedIn workload line.deed) lines

-- the participants of a workload came together so from before their first step, and each waits as long as the workload says; the
-- lines that have ended are lines of it; this is what each did, and nobody else did anything
pub record CameFromFirst (workload : Workload) (did : ℕ → List Done) (first last : Gathering Seat SegsView) (steps : ℕ → List MailStep)
    (holds : List (Hold SegsView)) : Type 0 where
  pub is_first : IsFirst workload.participants workload.absent workload.pools.items
      (with_boxes (replicate workload.participants []) first)
  pub came : CameTogether workload.participants first last steps holds
  pub good : All GivesGood holds
  pub waits : (who : ℕ) (seat : Seat) → slice_get last.seats who ≡ Some seat → seat.party.deadline ≡ workload.deadline
  pub ended : (who : ℕ) (seat : Seat) → slice_get last.seats who ≡ Some seat → AreLinesIn workload seat.lines
  pub did_so : (who : ℕ) (seat : Seat) → slice_get last.seats who ≡ Some seat → did who ≡ seat.trace
  pub nobody_else : (who : ℕ) → workload.participants ≤ who → did who ≡ []

-- no call is of a heap that isn't there
abbrev pub AreOfHeaps : (ℕ → List Done) → List HeapView → Type 0
AreOfHeaps did heaps = (who index : ℕ) → length heaps ≤ index → entries_for who index 1 (calls_in (did who)) ≡ []

-- what an end has by that: the segment value is sound, of the pools of the workload; where no growth is open,
-- each was asked for; the workload shows its part of each refusal's cause; where a mapping failed, it was one of a row of the log or of a chunk;
-- what was cut from heaps that keep all calls has gone back or is Retiring; and nobody but participants is in the roster
pub record HasByRun (workload : Workload) (did : ℕ → List Done) (segs : SegsView) : Type 0 where
  pub segs_sound : segments.IsSound segs
  pub pools : segs.pools ≡ workload.pools.items
  pub asked_for : segs.growth ≡ None → AreAskedFor segs
  pub causes : All (IsRefusedIn workload) segs.asks
  pub failed : (who : ℕ) → AreOwnFailures segs.log (did who)
  pub gone : (heaps : List HeapView) → KeepsCalls did heaps → AreOfHeaps did heaps → HaveGoneBack heaps segs
  pub nobody_else : (who : ℕ) → workload.participants ≤ who → is_member segs.roster who ≡ false

-- wherever they came together so, they leave that
abbrev pub EndByRun : Type 0
EndByRun = (workload : Workload) (did : ℕ → List Done) (first last : Gathering Seat SegsView) (steps : ℕ → List MailStep)
    (holds : List (Hold SegsView)) → CameFromFirst workload did first last steps holds → HasByRun workload did last.value
