-- What an `await` puts in order.
use Rattle.std.specs.Prelude.{◌≡◌, ℕ, ◌<◌, ◌≤◌, List, length, take, Some, slice_get}
use Rattle.std.specs.List.{All}
use Rattle.hp_heap.specs.History.{HeapView}
use Rattle.hp_heap.specs.declared.entry.Entry.{Entry}
use Rattle.hp_script.specs.declared.line.Act.TheVariants as act
use Rattle.hp_proc.specs.Courses.{calls_in}
use Rattle.hp_proc.specs.LinesDone.{Course, courses_of, trace_of}

-- how many calls of heaps a participant made in so many of its lines, from its first on
abbrev pub calls_within : ℕ → ℕ → List Course → ℕ
calls_within who lines courses = length (calls_in (trace_of (take lines (courses_of who courses))))

-- in a history the first calls of one participant, so many, stand before all that another one made after so many of its own
abbrev pub StandBefore : List Entry → ℕ → ℕ → ℕ → ℕ → Type 0
StandBefore history first calls other behind = (early late : ℕ) (entry next : Entry)
    → slice_get history early ≡ Some entry → entry.caller.participant ≡ first → entry.caller.number ≤ calls
    → slice_get history late ≡ Some next → next.caller.participant ≡ other → behind < next.caller.number
    → early < late

-- each await was answered when the lines that it names were done: what they did in heaps stands before what its participant does there
-- afterwards
abbrev pub AreAwaited : List Course → List HeapView → Type 0
AreAwaited courses heaps = (who place other lines : ℕ) (course : Course)
    → slice_get (courses_of who courses) place ≡ Some course → course.line.act ≡ act.Await other lines
    → All (λ heap. StandBefore heap.history other (calls_within other lines courses) who (calls_within who place courses)) heaps
