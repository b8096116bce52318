-- The runs by which a participant's calls grew a heap are those that were granted for it, in their order.
use Rattle.std.proofs.Common.{◌≡◌, ◌==◌, ◌∙◌, ℕ, ◌+◌, Bool, true, false, cond, List, [], ◌∷◌, ◌++◌, Some, refl, ap, sym, if◌then◌else◌, append_assoc, map}
use Rattle.hp_base.specs.declared.row.Run.{Run}
use Rattle.hp_heap.specs.declared.entry.Entry.{Entry}
use Rattle.hp_heap.specs.declared.entry.HeapAnswer.TheVariants as gives
use Rattle.hp_heap.specs.declared.entry.HeapCall.TheVariants as call
use Rattle.hp_script.specs.declared.answer.Answer.{Answer}
use Rattle.hp_script.specs.declared.workload.Workload.{Workload}
use Rattle.hp_proc.specs.Courses.{OwnCall, Standing, calls_in, numbered_in}
use Rattle.hp_proc.specs.Doing.{Done}
use Rattle.hp_proc.specs.Doing.Done.{Asked, Called, NamesChanged}
use Rattle.hp_heap.specs.HistoryLaws.{run_grown, runs_grown}
use Rattle.hp_proc.specs.Histories.{entries_for, entry_for}
use Rattle.hp_proc.specs.LinesDone.{Course, IsDone}
use Rattle.hp_proc.specs.SharedNames.{NamesChange}
use Rattle.thm_run.proofs.TracesTold.OrderlyLines.{line_in_order}
use Rattle.thm_run.proofs.TracesTold.OrderlyTraces.{IsOrderly, LeavesAll, asked_behind, ends, goes_on, is_granted, tells}

-- the run that was granted for a heap by what was done, where one was
abbrev pub run_for : ℕ → Done → List Run
run_for index (Asked asked (Some run)) = if asked.heap == index then run ∷ [] else []
run_for index _ = []

-- the runs that were granted for a heap in a trace, in their order
abbrev pub runs_for : ℕ → List Done → List Run
runs_for index [] = []
runs_for index (done ∷ trace) = run_for index done ++ runs_for index trace

-- runs of histories one after another
pub grown_append : (first second : List Entry) → runs_grown (first ++ second) ≡ runs_grown first ++ runs_grown second
unfolding runs_grown
grown_append [] second = refl
grown_append (entry ∷ first) second =
    ap (λ runs. run_grown entry.call ++ runs) (grown_append first second)
    ∙ sym (append_assoc (run_grown entry.call) (runs_grown first) (runs_grown second))

-- the runs by which the calls of a trace grew a heap
abbrev pub grown_by : ℕ → ℕ → ℕ → List Done → List Run
grown_by who index number trace = runs_grown (entries_for who index number (calls_in trace))

-- a call that is no growth grows nothing
no_growth : (who index number : ℕ) (own : OwnCall) (more : List OwnCall) → run_grown own.call ≡ [] → (mine : Bool)
    → runs_grown (cond mine (entry_for who number own ∷ entries_for who index (number + 1) more) (entries_for who index (number + 1) more))
    ≡ runs_grown (entries_for who index (number + 1) more)
unfolding runs_grown
no_growth who index number own more none true = ap (λ runs. runs ++ runs_grown (entries_for who index (number + 1) more)) none
no_growth who index number own more none false = refl

one_growth : (run : Run) (grown search : Entry) (mine : Bool) → grown.call ≡ call.Grow run → run_grown search.call ≡ []
    → runs_grown (cond mine (grown ∷ cond mine (search ∷ []) []) (cond mine (search ∷ []) [])) ≡ cond mine (run ∷ []) [] ++ []
unfolding runs_grown
one_growth run grown search true grows searches =
    ap (λ step. run_grown step ++ (run_grown search.call ++ [])) grows ∙ ap (λ runs. run ∷ (runs ++ [])) searches
one_growth run grown search false grows searches = refl

-- what leaves all grows no heap, and is no grant
none_grows : (who index number : ℕ) (done : Done) (trace : List Done) → LeavesAll true done
    → ((next : ℕ) → grown_by who index next trace ≡ runs_for index trace)
    → grown_by who index number (done ∷ trace) ≡ runs_for index (done ∷ trace)
unfolding runs_grown
none_grows who index number (Called heap step found) trace leaves rest =
    no_growth who index number (record { heap = heap; call = step; answer = found }) (calls_in trace) leaves.0 (heap == index)
    ∙ rest (number + 1)
none_grows who index number (Asked pages (Some run)) trace leaves rest = absurd leaves
none_grows who index number _ trace leaves rest = rest number

-- changes of the names call no heap, and grant none anything
changes_call : (changes : List NamesChange) → calls_in (map NamesChanged changes) ≡ []
changes_call [] = refl
changes_call (change ∷ changes) = changes_call changes

changes_run : (index : ℕ) (changes : List NamesChange) → runs_for index (map NamesChanged changes) ≡ []
changes_run index [] = refl
changes_run index (change ∷ changes) = changes_run index changes

-- where each granted run comes to its heap, the heap grows by what was granted for it
pub orderly_grows : (given : Answer) (who index number : ℕ) (asked : Bool) (trace : List Done) → IsOrderly true given asked trace
    → grown_by who index number trace ≡ runs_for index trace
unfolding runs_grown
orderly_grows given who index number _ _ (ends asked) = refl
orderly_grows given who index number _ _ (goes_on asked done trace leaves rest) =
    none_grows who index number done trace leaves (λ next. orderly_grows given who index next (asked_behind asked done) trace rest)
orderly_grows given who index number _ _ (tells heap address run ended) =
    no_growth who index number (record { heap = heap; call = call.Cut address; answer = gives.Pages run }) [] refl (heap == index)
orderly_grows given who index number _ _ (is_granted asked pages run tag grown found changes allows last only) =
    let grow : OwnCall = record { heap = pages.heap; call = call.Grow run; answer = grown } in
    let search : OwnCall = record { heap = pages.heap; call = call.Alloc pages.request tag; answer = found } in
    ap (λ (calls : List OwnCall). runs_grown (entries_for who index number (grow ∷ search ∷ calls))) (changes_call changes)
    ∙ (one_growth run (entry_for who number grow) (entry_for who (number + 1) search) (pages.heap == index) refl refl
    ∙ sym (ap (λ (runs : List Run). cond (pages.heap == index) (run ∷ []) [] ++ runs) (changes_run index changes)))

-- so it is with each line
pub line_grows : (workload : Workload) (standing : Standing) (course : Course) (who index number : ℕ) → IsDone workload standing course
    → grown_by who index number course.trace ≡ runs_for index course.trace
line_grows workload standing course who index number done =
    orderly_grows course.answer who index number false course.trace
    (line_in_order course.line course.line.act done.facts course.trace course.answer done.does)

-- what takes no number is no grant
pub runs_numbered : (index : ℕ) (trace : List Done) → runs_for index (numbered_in trace) ≡ runs_for index trace
runs_numbered index [] = refl
runs_numbered index (Asked asked run ∷ trace) = ap (λ runs. run_for index (Asked asked run) ++ runs) (runs_numbered index trace)
runs_numbered index (_ ∷ trace) = runs_numbered index trace
