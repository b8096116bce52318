-- What an `await` puts in order beside the histories of heaps (Awaits): what a participant is handed afterwards.
use Rattle.std.specs.Prelude.{◌≡◌, ℕ, List, drop, filter_map, length, take, Option, Some, None, Contains, slice_get}
use Rattle.std.specs.List.{All}
use Rattle.hp_heap.specs.History.{HeapView}
use Rattle.hp_heap.specs.declared.entry.Entry.{Entry}
use Rattle.hp_script.specs.declared.line.Act.TheVariants as act
use Rattle.hp_proc.specs.Awaits.{calls_within}
use Rattle.hp_proc.specs.Doing.{Done}
use Rattle.hp_proc.specs.Doing.Done.{NamesRead}
use Rattle.hp_proc.specs.Handed.{AreFrontNames, HoldCalls, names_shown, state_seen}
use Rattle.hp_proc.specs.LinesDone.{Course, courses_of, trace_of}
use Rattle.hp_proc.specs.SharedNames.{SharedNames, no_changes}

-- the names that are read, where they are
abbrev pub names_read : Done → Option SharedNames
names_read (NamesRead names) = Some names
names_read _ = None

-- names that are read begin with those that were shown before
abbrev pub ReadsOn : List SharedNames → List SharedNames → Type 0
ReadsOn shown read = (before after : SharedNames) → Contains shown before → Contains read after → AreFrontNames after before

-- the states of a heap that are handed hold the first calls of a participant, so many
abbrev pub HoldCallsOf : ℕ → ℕ → List Done → HeapView → Type 0
HoldCallsOf other calls trace heap = (state : List Entry) → Contains (filter_map (state_seen heap.plain.index) trace) state
    → HoldCalls heap.history (length state) other calls

-- each await was answered when the lines that it names were done: the names and the states of heaps that its participant is handed
-- afterwards hold what these lines changed, and what they had seen of the names
pub record IsAwaitedFor (courses : List Course) (heaps : List HeapView) (who place other lines : ℕ) : Type 0 where
  pub names : ReadsOn (names_shown no_changes (trace_of (take lines (courses_of other courses))))
      (filter_map names_read (trace_of (drop place (courses_of who courses))))
  pub states : All (HoldCallsOf other (calls_within other lines courses) (trace_of (drop place (courses_of who courses)))) heaps

abbrev pub AreAwaitedFor : List Course → List HeapView → Type 0
AreAwaitedFor courses heaps = (who place other lines : ℕ) (course : Course)
    → slice_get (courses_of who courses) place ≡ Some course → course.line.act ≡ act.Await other lines
    → IsAwaitedFor courses heaps who place other lines
