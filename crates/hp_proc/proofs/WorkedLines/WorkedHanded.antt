-- Worked values: what participants are handed of statistics and of names, and what a denial rests on.
use Rattle.std.proofs.Common.{◌≡◌, refl, ap, arith, ℕ, ◌+◌, ◌-◌, ◌^◌, Bool, true, false, List, [], ◌∷◌, Some, None}
use Rattle.std.specs.Prelude.{codes, find}
use Rattle.std.proofs.lemmas.List.Elements.{All-nil}
use Rattle.hp_base.specs.Class as class
use Rattle.hp_base.specs.Flags as flags
use Rattle.hp_base.specs.Place as place
use Rattle.hp_base.specs.Requests.{IsAccepted}
use Rattle.hp_base.specs.declared.request.Request.{Request}
use Rattle.hp_base.specs.declared.row.Run.{Run}
use Rattle.hp_base.specs.declared.tag.Tag.{Tag}
use Rattle.hp_events.specs.Validators.{Allows, AreAnswered}
use Rattle.hp_events.specs.declared.validator.Validator.{Validator}
use Rattle.hp_heap.proofs.AllocFacts.ChoiceLaw.{Contains-here, Contains-there}
use Rattle.hp_heap.specs.Choice as choice
use Rattle.hp_heap.specs.Growing as growing
use Rattle.hp_heap.specs.History as history
use Rattle.hp_heap.specs.History.{HeapView}
use Rattle.hp_heap.specs.Joining as joining
use Rattle.hp_heap.specs.Placing as placing
use Rattle.hp_heap.specs.PlainHeap.{opening_heap}
use Rattle.hp_heap.specs.Statistics.{statistics_of}
use Rattle.hp_heap.specs.Step as step
use Rattle.hp_heap.specs.declared.entry.Entry.{Entry}
use Rattle.hp_heap.specs.declared.entry.HeapAnswer.{HeapAnswer}
use Rattle.hp_heap.specs.declared.entry.HeapAnswer.TheVariants as gives
use Rattle.hp_heap.specs.declared.entry.HeapCall.{HeapCall}
use Rattle.hp_heap.specs.declared.entry.HeapCall.TheVariants as call
use Rattle.hp_script.specs.Part.{Part}
use Rattle.hp_script.specs.declared.answer.Answer.{Answer}
use Rattle.hp_script.specs.declared.answer.Answer.TheVariants as answer
use Rattle.hp_script.specs.declared.line.Act.{Act}
use Rattle.hp_script.specs.declared.line.Act.TheVariants as act
use Rattle.hp_script.specs.declared.line.Line.{Line}
use Rattle.hp_script.specs.declared.options.Options.{Options}
use Rattle.hp_script.specs.declared.options.SocketChoice.TheVariants as choose
use Rattle.hp_script.specs.declared.workload.Workload.{Workload}
use Rattle.hp_segs.specs.SegsView.{SegsView, is_outcome_for}
use Rattle.hp_segs.specs.declared.outcome.AskLog.{AskLog}
use Rattle.hp_segs.specs.declared.outcome.Cause.TheVariants.{Denied}
use Rattle.hp_segs.specs.declared.outcome.Outcome.TheVariants.{Refused}
use Rattle.hp_serve.specs.declared.pages_asked.PagesAsked.{PagesAsked}
use Rattle.hp_zone.specs.declared.name_change.NameChange.TheVariants.{Named}
use Rattle.hp_proc.specs.LineTrees.{doing_of}
use Rattle.hp_proc.specs.Lines.{Facts}
use Rattle.hp_proc.specs.AwaitedNames.{AreAwaitedFor}
use Rattle.hp_proc.specs.Doing.{Counted, Doing, Done, Goes, Leads}
use Rattle.hp_proc.specs.Doing.Done.{Asked, Called, NamesChanged, NamesRead, StatsRead}
use Rattle.hp_proc.specs.Handed.{AreStatsHanded}
use Rattle.hp_proc.specs.LinesDone.{Course}
use Rattle.hp_proc.specs.OneThread.{WasDenied, validators_by}
use Rattle.hp_serve.specs.Denials.{AnswersSo}
use Rattle.hp_proc.specs.SharedNames.{SharedNames, no_changes}
use Rattle.hp_proc.specs.SharedNames.NamesChange.{OfHeaps}

abbrev part : List ℕ → Part
part text = record { base = (0, 0); start = 0; text = text }

abbrev course_of : ℕ → Act → Answer → List Done → Course
course_of who act given trace = record { line = record { line = 7; participant = who; act = act }; answer = given; trace = trace }

abbrev entry_of : ℕ → ℕ → HeapCall → HeapAnswer → Entry
entry_of who number call answer = record { caller = record { participant = who; number = number }; call = call; answer = answer }

-- what `stats` is answered of the heap of socket 0 after an allocation of 1,000 bytes that grew it: three entries
module _ (accepted : IsAccepted 1024 64 0) where
  abbrev request : ℕ → Request
  request bits = record { size = 1024; align = 64; bound = 0; flags = bits; accepted = accepted }

  abbrev tag : Tag
  tag = record { who = 0; zone = false; number = 2 }

  abbrev run : Run
  run = record { list = 0; first = 0; count = 1; addr = 2 ^ 32; page = 2 ^ 21; socket = 0 }

  abbrev three : List Entry
  three =
      entry_of 0 1 (call.Alloc (request 0) tag) gives.Nothing ∷ entry_of 0 2 (call.Grow run) gives.Done
      ∷ entry_of 0 3 (call.Alloc (request 0) tag) (gives.Address (2 ^ 32 + 2 ^ 21 - 1024)) ∷ []

  three_counted : statistics_of (history.replay (opening_heap 0 (Some 0)) three)
      ≡ record { total = 2097152; free = 2096000; used = 1152; greatest = 2096000; busy = 1; frees = 1 }
  unfolding statistics_of history.after_entry step.after growing.after_grow growing.run_pages joining.with_stretch joining.after_insertion placing.allocated placing.after_alloc placing.placed placing.pieces_of placing.insertions_of choice.chosen choice.eligible choice.is_attached place.place_of flags.is_hint flags.is_fitting_page class.class_number choice.precedes
  three_counted = refl

-- statistics that lack a call which the participant had made are none that it is handed
abbrev zeros : Counted
zeros = record { entries = 0; stats = record { total = 0; free = 0; used = 0; greatest = 0; busy = 0; frees = 0 } }

abbrev dumped : Entry
dumped = entry_of 1 1 call.Stats (gives.Statistics zeros.stats)

abbrev heap_with : List Entry → HeapView
heap_with entries = record { plain = opening_heap 0 (Some 0); lists = []; history = entries; spare = 0 }

lack_own_call : AreStatsHanded 1 (Called 0 call.Stats (gives.Statistics zeros.stats) ∷ StatsRead 0 zeros ∷ []) (heap_with (dumped ∷ [])) → ⊥
lack_own_call handed =
    let held = handed.own (Called 0 call.Stats (gives.Statistics zeros.stats) ∷ []) zeros ([], refl) 0 dumped refl refl (omega arith) in
    grind (arith, held)

-- participant 1 awaits the first line of participant 0, which named a heap; what it reads afterwards has that name
abbrev ext : SharedNames
ext = record { zones = []; heaps = Named 1 256 (codes "ext") ∷ [] }

abbrev naming_line : Course
naming_line =
    course_of 0 (act.Heap (part (codes "ext"))) (answer.Socket 256) (NamesRead no_changes ∷ NamesChanged (OfHeaps (Named 1 256 (codes "ext"))) ∷ [])

abbrev awaiting : SharedNames → List Course
awaiting read =
    naming_line ∷ course_of 1 (act.Await 0 1) answer.Done [] ∷ course_of 1 (act.Dump (part (codes "ext"))) answer.NotFound (NamesRead read ∷ []) ∷ []

lacks_the_name : AreAwaitedFor (awaiting no_changes) [] → ⊥
lacks_the_name orders =
    let first = (orders 1 0 0 1 (course_of 1 (act.Await 0 1) answer.Done []) refl refl).names ext no_changes
    (Contains-there no_changes ext (ext ∷ []) (Contains-here ext [])) (Contains-here no_changes []) in
    let front = first.heaps in cc

-- an allocation whose growth is denied finds no memory
abbrev options : Options
options = record { socket = choose.Any; heap = None; align = 0; bound = 0; flags = 0 }

abbrev allocating : Line
allocating = record { line = 4; participant = 0; act = act.Alloc (part (codes "b")) 2000000 options }

abbrev facts : Request → Facts
facts request = record {
  attached = true;
  own_socket = 0;
  pools = record { socket = 0; page = 2 ^ 21; pages = 4; slots = 4 } ∷ [];
  request = Some request;
  maker = None;
  own_heap = None;
  watchers = [];
  validators = [];
  chunks = [];
}

module _ (accepted : IsAccepted 2000000 64 0) where
  abbrev large : Request
  large = record { size = 2000000; align = 64; bound = 0; flags = 0; accepted = accepted }

  abbrev second_tag : Tag
  second_tag = record { who = 0; zone = false; number = 4 }

  a_denied_growth : Leads (doing_of allocating allocating.act (facts large))
      (Called 0 (call.Alloc large second_tag) gives.Nothing
      ∷ Asked (record { heap = 0; socket = 0; page = 2 ^ 21; request = large }) None ∷ [])
      (Doing.Ended answer.None)
  unfolding Goes Leads doing_of flags.is_hint
  a_denied_growth = (gives.Nothing, refl, (None, refl, refl))

-- a growth to 4M is denied by the validator that a line before registered, and by none that a line before unregistered
abbrev cap : Validator Bool
cap = record { name = codes "cap"; socket = 0; limit = 2 ^ 21; allows = false }

abbrev limited : List Course
limited = course_of 0 (act.Limit (part (codes "cap")) 0 (2 ^ 21) false) answer.Done [] ∷ []

abbrev unlimited : List Course
unlimited =
    course_of 0 (act.Limit (part (codes "cap")) 0 (2 ^ 21) false) answer.Done [] ∷ course_of 0 (act.Unlimit (part (codes "cap")) 0) answer.Done [] ∷ []

abbrev refused : AskLog
refused = record { from = 0; number = 1; outcome = Refused (Denied (codes "cap") (2 ^ 21) (2 ^ 22)); at = 1; ask = None }

pub denied : (workload : Workload) → AreAnswered AnswersSo 0 (2 ^ 22) (validators_by workload limited) (Some (codes "cap", 2 ^ 21))
denied workload = record {
  place = 0;
  own = cap;
  its_place = refl;
  denies = record { asked = record { its_socket = refl; above = omega arith }; answered = refl };
  before = All-nil (Allows AnswersSo 0 (2 ^ 22));
  its_name = refl;
  its_limit = refl;
}

denied_by_none : (workload : Workload) (segs : SegsView) (asked : PagesAsked) → segs.asks ≡ refused ∷ []
    → WasDenied workload segs unlimited 0 (Asked asked None) → ⊥
denied_by_none workload segs asked asks was =
    let its = (was refused (codes "cap") (2 ^ 21) (2 ^ 22) (ap (find (is_outcome_for 0 1)) asks) refl).its_place in cc
