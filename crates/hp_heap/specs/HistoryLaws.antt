-- Laws of histories, of all heaps, which docs/HEAP.md states under "History".
use Rattle.std.specs.Prelude.{◌≡◌, ℕ, List, [], ◌∷◌, ◌++◌, flat_map, Option}
use Rattle.hp_base.specs.declared.row.Run.{Run}
use Rattle.hp_base.specs.declared.tag.Caller.{Caller}
use Rattle.hp_heap.specs.declared.entry.Entry.{Entry}
use Rattle.hp_heap.specs.declared.entry.HeapCall.{HeapCall}
use Rattle.hp_heap.specs.declared.entry.HeapCall.TheVariants as call
use Rattle.hp_heap.specs.declared.entry.HeapAnswer.{HeapAnswer}
use Rattle.hp_heap.specs.declared.entry.HeapAnswer.TheVariants as answer
use Rattle.hp_heap.specs.PlainHeap.{opening_heap}
use Rattle.hp_heap.specs.History.{HeapView, replay, IsLegal, IsLegalEntry, IsCall}

-- the run that a call brings, where it is a growth
abbrev pub run_grown : HeapCall → List Run
run_grown (call.Alloc request tag) = []
run_grown (call.Find tag) = []
run_grown (call.Free addr zone) = []
run_grown (call.Resize addr size) = []
run_grown (call.Grow run) = run ∷ []
run_grown (call.Cut addr) = []
run_grown call.Stats = []
run_grown (call.Name name socket) = []
run_grown call.Unname = []
run_grown (call.Chunk chunk) = []
run_grown (call.Unchunk addr len) = []
run_grown (call.Share addr len) = []
run_grown (call.Unshare addr len) = []

-- the run that a cut gives, by its answer
abbrev pub run_cut : HeapAnswer → List Run
run_cut (answer.Address addr) = []
run_cut (answer.Pages run) = run ∷ []
run_cut answer.Nothing = []
run_cut answer.Done = []
run_cut answer.IsZone = []
run_cut answer.Yes = []
run_cut answer.No = []
run_cut answer.NotAnElement = []
run_cut (answer.Statistics stats) = []

-- the runs that came to a heap and that were cut from it, by its history
unfoldable pub runs_grown : List Entry → List Run
runs_grown history = flat_map (λ entry. run_grown entry.call) history

unfoldable pub runs_cut : List Entry → List Run
runs_cut history = flat_map (λ entry. run_cut entry.answer) history

-- a call adds its own run to those that came or that were cut, and no other
pub record AddsRuns (call : HeapCall) (answer : HeapAnswer) (old new : List Entry) : Type 0 where
  pub grown : runs_grown new ≡ runs_grown old ++ run_grown call
  pub cut : runs_cut new ≡ runs_cut old ++ run_cut answer

abbrev pub CallsAddRuns : Type 0
CallsAddRuns = (caller : Caller) (step : HeapCall) (given : HeapAnswer) (old new : HeapView)
    → IsCall caller step given old new → AddsRuns step given old.history new.history

-- each entry of a legal history is one of a call that was allowed of the heap that the entries before it leave, with the answer that this
-- heap gives: statistics are those of that heap
abbrev pub EntriesAreAnswered : Type 0
EntriesAreAnswered = (index : ℕ) (serves : Option ℕ) (history : List Entry) (entry : Entry) (more : List Entry)
    → IsLegal (opening_heap index serves) (history ++ entry ∷ more) → IsLegalEntry (replay (opening_heap index serves) history) entry
