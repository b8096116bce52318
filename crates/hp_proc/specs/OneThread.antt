-- What a run leaves besides where lines are done one after another: each line is handed exactly what the lines before it leave.
use Rattle.std.specs.Prelude.{◌≡◌, ℕ, ◌+◌, Bool, List, [], ◌∷◌, ◌++◌, find, filter_map, fold, length, Option, Some, None, slice_get, ⊤}
use Rattle.std.specs.List.{All}
use Rattle.hp_events.specs.Validators.{AreAnswered}
use Rattle.hp_events.specs.declared.validator.Validator.{Validator}
use Rattle.hp_heap.specs.History.{HeapView, replay}
use Rattle.hp_heap.specs.PlainHeap.{opening_heap}
use Rattle.hp_heap.specs.Statistics.{statistics_of}
use Rattle.hp_heap.specs.declared.entry.Entry.{Entry}
use Rattle.hp_log.specs.Log.{table_at}
use Rattle.hp_script.specs.declared.workload.Workload.{Workload}
use Rattle.hp_segs.specs.Refusals.{bytes_on}
use Rattle.hp_segs.specs.SegsView.{SegsView, is_outcome_for}
use Rattle.hp_segs.specs.declared.outcome.AskLog.{AskLog}
use Rattle.hp_segs.specs.declared.outcome.Cause.TheVariants.{Denied}
use Rattle.hp_segs.specs.declared.outcome.Outcome.TheVariants.{Granted, Refused}
use Rattle.hp_proc.specs.Courses.{numbered_in}
use Rattle.hp_proc.specs.Doing.{Counted, Done}
use Rattle.hp_proc.specs.Doing.Done.{Asked, HeapSeen, NamesRead, StatsRead}
use Rattle.hp_proc.specs.Ends.{history_by, none_made}
use Rattle.hp_proc.specs.Heaps.{sockets_of}
use Rattle.hp_proc.specs.LinesDone.{Course, courses_of, opening_standing, standing_after, trace_of}
use Rattle.hp_proc.specs.NamesAtEnd.{AreHandedTogether, StandsNext}
use Rattle.hp_proc.specs.NamesLog.{change_made}
use Rattle.hp_serve.specs.Denials.{AnswersSo}
use Rattle.hp_proc.specs.SharedNames.{SharedNames, names_with, no_changes}

-- when this was done in a run whose lines are done one after another: after all earlier lines, and in its own line after what stands before
-- it there. These are the lines so far, of which the last one has got so far
pub record IsMoment (courses : List Course) (so_far : List Course) (who : ℕ) (done : Done) : Type 0 where
  pub earlier : List Course
  pub course : Course
  pub later : List Course
  pub first : List Done
  pub rest : List Done
  pub lines : courses ≡ earlier ++ course ∷ later
  pub trace : course.trace ≡ first ++ done ∷ rest
  pub its : course.line.participant ≡ who
  pub until : so_far ≡ earlier ++ record course { trace = first } ∷ []

-- the names that lines leave which are done one after another
abbrev pub names_by : List Course → SharedNames
names_by courses = fold names_with no_changes (filter_map change_made (trace_of courses))

-- the statistics that such lines leave of the heap with that index
abbrev pub counted_by : Workload → ℕ → List Course → Counted
counted_by workload heap courses =
    let history : List Entry = history_by heap none_made courses in
    record {
      entries = length history;
      stats = statistics_of (replay (opening_heap heap (slice_get (sockets_of workload.pools.items) heap)) history);
    }

-- what a line is handed is what the lines so far leave
abbrev pub IsLeftBy : Workload → List Course → Done → Type 0
IsLeftBy workload so_far (NamesRead names) = names ≡ names_by so_far
IsLeftBy workload so_far (HeapSeen heap history) = history ≡ history_by heap none_made so_far
IsLeftBy workload so_far (StatsRead heap counted) = counted ≡ counted_by workload heap so_far
IsLeftBy workload so_far _ = ⊤

-- the validators that lines leave: those of participant 0, which alone registers any
abbrev pub validators_by : Workload → List Course → List (Validator Bool)
validators_by workload courses = (standing_after (opening_standing workload 0) (courses_of 0 courses)).validators

-- what came of the next ask of a participant after such lines: it is found by its number among its participant's asks
abbrev pub next_outcome : SegsView → List Course → ℕ → Option AskLog
next_outcome segs so_far who = find (is_outcome_for who (length (numbered_in (trace_of (courses_of who so_far))) + 1)) segs.asks

-- an ask that was granted: the validators that the lines so far leave allow the socket the bytes that it has with the granted run
abbrev pub WasAllowed : Workload → SegsView → List Course → ℕ → Done → Type 0
WasAllowed workload segs so_far who (Asked asked (Some run)) = (entry : AskLog) (generation : ℕ)
    → next_outcome segs so_far who ≡ Some entry → entry.outcome ≡ Granted generation
    → AreAnswered AnswersSo asked.socket (bytes_on (table_at segs.log generation) asked.socket) (validators_by workload so_far) None
WasAllowed workload segs so_far who _ = ⊤

-- an ask that was denied: the validator that is named is the first of them that denies the socket the bytes that it would have
abbrev pub WasDenied : Workload → SegsView → List Course → ℕ → Done → Type 0
WasDenied workload segs so_far who (Asked asked None) = (entry : AskLog) (name : List ℕ) (limit total : ℕ)
    → next_outcome segs so_far who ≡ Some entry → entry.outcome ≡ Refused (Denied name limit total)
    → AreAnswered AnswersSo asked.socket total (validators_by workload so_far) (Some (name, limit))
WasDenied workload segs so_far who _ = ⊤

-- a line that is done after others is handed exactly what these leave, of the names, of an external heap and of statistics; names and a heap's
-- state that it is handed agree, and its call of the heap stands next; and all lines leave the names
pub record AreHandedInOrder (workload : Workload) (courses : List Course) (names : SharedNames) (heaps : List HeapView) : Type 0 where
  pub handed : (so_far : List Course) (who : ℕ) (done : Done) → IsMoment courses so_far who done → IsLeftBy workload so_far done
  pub together : All (AreHandedTogether workload.pools.items) courses
  pub next : StandsNext heaps courses
  pub leave : names ≡ names_by courses
