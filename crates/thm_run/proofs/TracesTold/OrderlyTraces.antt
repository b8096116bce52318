-- How a line's trace goes, whatever the line is: a run that is granted comes to its heap at once, which is searched again, and with that the
-- line ends; a run that is cut is given up at once, before anything was asked for or looked at, and with that the line ends too.
use Rattle.std.proofs.Common.{◌≡◌, ℕ, Bool, true, false, not, ◌&&◌, ◌||◌, cond, List, [], ◌∷◌, filter, map, Option, Some, None, refl, sym, subst, inl, inr}
use Rattle.std.specs.Prelude.{⊤}
use Rattle.std.specs.List.{AllByRecursion}
use Rattle.std.proofs.lemmas.Bool.{or_cases, or_right}
use Rattle.hp_base.specs.Pages.{page_sizes}
use Rattle.hp_base.specs.declared.pool_line.PoolLine.{PoolLine}
use Rattle.hp_base.specs.declared.request.Request.{Request}
use Rattle.hp_base.specs.declared.row.Run.{Run}
use Rattle.hp_base.specs.declared.tag.Tag.{Tag}
use Rattle.hp_heap.proofs.AllocFacts.ChoiceLaw.{Contains-filter}
use Rattle.hp_heap.proofs.Members.{AllByRecursion-each}
use Rattle.hp_heap.proofs.RangeLemmas.{AllByRecursion-append}
use Rattle.hp_base.specs.Flags.{is_fitting_page, is_hint, names_page, names_pages}
use Rattle.hp_heap.specs.declared.entry.HeapAnswer.{HeapAnswer}
use Rattle.hp_heap.specs.declared.entry.HeapAnswer.TheVariants as gives
use Rattle.hp_heap.specs.declared.entry.HeapCall.{HeapCall}
use Rattle.hp_heap.specs.declared.entry.HeapCall.TheVariants as call
use Rattle.hp_script.specs.declared.answer.Answer.{Answer}
use Rattle.hp_script.specs.declared.answer.Answer.TheVariants as answer
use Rattle.hp_proc.specs.Allocating.{asking, first_flags, growing, searching_again, serving, trying, unless_found, with_flags, with_run}
use Rattle.hp_proc.specs.Doing.{Deed, Doing, Done, Given, Goes, Leads, gave}
use Rattle.hp_proc.specs.Doing.Done.{Asked, Called, CaughtUp, GaveUp, Looked, NamesChanged, StatsRead}
use Rattle.hp_proc.specs.Heaps.{NamedHeap, has_pool, page_sizes_for}
use Rattle.hp_heap.specs.HistoryLaws.{run_grown}
use Rattle.hp_proc.specs.SharedNames.{NamesChange}
use Rattle.hp_serve.specs.declared.pages_asked.PagesAsked.{PagesAsked}
use Rattle.thm_run.proofs.GrownHeaps.GrownChoice.{AllowsPage}

-- the answer is an address
abbrev pub IsAddress : HeapAnswer → Type 0
IsAddress found = (address : ℕ) × (found ≡ gives.Address address)

-- a call cut no run
abbrev pub CutsNone : HeapCall → HeapAnswer → Type 0
CutsNone (call.Cut address) (gives.Pages run) = ⊥
CutsNone _ _ = ⊤

-- a line goes on as it likes once this is done: no heap grew or was cut, no pages were granted, no run was given up, and the log was looked at
-- and caught up with, and statistics that were published were read, only where they may be
abbrev pub LeavesAll : Bool → Done → Type 0
LeavesAll looks (Called heap call answer) = (run_grown call ≡ []) × CutsNone call answer
LeavesAll looks (Asked pages (Some run)) = ⊥
LeavesAll looks (GaveUp heap run) = ⊥
LeavesAll looks (Looked records) = looks ≡ true
LeavesAll looks (CaughtUp to caught) = looks ≡ true
LeavesAll looks (StatsRead heap counted) = looks ≡ true
LeavesAll looks _ = ⊤

-- whether something was asked for or looked at, once this is done
abbrev pub asked_behind : Bool → Done → Bool
asked_behind asked (Asked pages run) = true
asked_behind asked (Looked records) = true
asked_behind asked (CaughtUp to caught) = true
asked_behind asked _ = asked

-- what is left of a line's trace, where the line may look at the log or not, is answered so, and asked for something or looked at it before,
-- or not: a granted run comes to the heap that it was asked for, which is searched for the request, and that is the end, but for changes of the
-- names; where the line is answered that there is no memory, the search found nothing, and no name was changed; and a run that is cut is given
-- up, which is the end, and only where nothing was asked for
pub data IsOrderly (looks : Bool) (given : Answer) : Bool → List Done → Type 0 where
  ends : (asked : Bool) → IsOrderly looks given asked []
  goes_on : (asked : Bool) (done : Done) (trace : List Done) → LeavesAll looks done → IsOrderly looks given (asked_behind asked done) trace
      → IsOrderly looks given asked (done ∷ trace)
  tells : (heap address : ℕ) (run : Run) → given ≡ answer.Done
      → IsOrderly looks given false (Called heap (call.Cut address) (gives.Pages run) ∷ GaveUp heap run ∷ [])
  is_granted : (asked : Bool) (pages : PagesAsked) (run : Run) (tag : Tag) (grown found : HeapAnswer) (changes : List NamesChange)
      → AllowsPage pages.request.flags pages.page → (given ≡ answer.None → IsAddress found → ⊥) → (given ≡ answer.None → changes ≡ [])
      → IsOrderly looks given asked
      (Asked pages (Some run) ∷ Called pages.heap (call.Grow run) grown ∷ Called pages.heap (call.Alloc pages.request tag) found
      ∷ map NamesChanged changes)

-- so is each trace that leads through a tree to its end
abbrev pub GoesOrderly : Bool → Bool → Doing → Type 0
GoesOrderly looks asked doing = (trace : List Done) (given : Answer) → Leads doing trace (Doing.Ended given) → IsOrderly looks given asked trace

-- whatever was asked for before
abbrev pub GoesAnyhow : Bool → Doing → Type 0
GoesAnyhow looks doing = (asked : Bool) → GoesOrderly looks asked doing

pub ended_orderly : (looks : Bool) (last : Answer) → GoesAnyhow looks (Doing.Ended last)
unfolding Leads Goes
ended_orderly looks last asked [] given leads = ends asked
ended_orderly looks last asked (done ∷ trace) given leads = elim leads [ ]

-- a deed that leaves all, and then a tree that is orderly
pub then_orderly : (looks asked : Bool) (deed : Deed) (next : Given deed → Doing)
    → ((found : Given deed) → LeavesAll looks (gave deed found))
    → ((found : Given deed) → GoesOrderly looks (asked_behind asked (gave deed found)) (next found))
    → GoesOrderly looks asked (Doing.Then deed next)
unfolding Leads Goes
then_orderly looks asked deed next leaves rest [] given leads = ends asked
then_orderly looks asked deed next leaves rest (done ∷ trace) given (found, is, left) =
    subst (λ done. IsOrderly looks given asked (done ∷ trace)) (sym is)
    (goes_on asked (gave deed found) trace (leaves found) (rest found trace given left))

pub call_orderly : (looks asked : Bool) (heap : ℕ) (step : HeapCall) (next : HeapAnswer → Doing) → run_grown step ≡ []
    → ((found : HeapAnswer) → CutsNone step found) → ((found : HeapAnswer) → GoesOrderly looks asked (next found))
    → GoesOrderly looks asked (Doing.Then (Deed.Call heap step) next)
call_orderly looks asked heap step next none cuts rest = then_orderly looks asked (Deed.Call heap step) next (λ found. (none, cuts found)) rest

-- a search is the last thing that is done where a run came
found_ends : (found : HeapAnswer) → (last : Answer) × (unless_found (Doing.Ended answer.None) found ≡ Doing.Ended last)
found_ends (gives.Address address) = (answer.Address address, refl)
found_ends gives.Nothing = (answer.None, refl)
found_ends gives.Done = (answer.None, refl)
found_ends gives.NotAnElement = (answer.None, refl)
found_ends gives.IsZone = (answer.None, refl)
found_ends gives.Yes = (answer.None, refl)
found_ends gives.No = (answer.None, refl)
found_ends (gives.Pages run) = (answer.None, refl)
found_ends (gives.Statistics stats) = (answer.None, refl)

last_ends : (last given : Answer) (trace : List Done) → Leads (Doing.Ended last) trace (Doing.Ended given) → trace ≡ []
unfolding Leads Goes
last_ends last given [] leads = refl
last_ends last given (done ∷ trace) leads = elim leads [ ]

last_given : (last given : Answer) → Leads (Doing.Ended last) [] (Doing.Ended given) → given ≡ last
unfolding Leads
last_given last given leads = cc

module _ (looks asked : Bool) (pages : PagesAsked) (tag : Tag) (run : Run) (given : Answer) (allows : AllowsPage pages.request.flags pages.page) where
  -- the search after a growth
  search_orderly : (grown found : HeapAnswer) (trace : List Done)
      → Leads (unless_found (Doing.Ended answer.None) found) trace (Doing.Ended given)
      → IsOrderly looks given asked
      (Asked pages (Some run) ∷ Called pages.heap (call.Grow run) grown ∷ Called pages.heap (call.Alloc pages.request tag) found ∷ trace)
  search_orderly grown found trace leads =
      let (last, is) = found_ends found in
      let none : trace ≡ [] = last_ends last given trace (subst (λ doing. Leads doing trace (Doing.Ended given)) is leads) in
      let here : Leads (unless_found (Doing.Ended answer.None) found) [] (Doing.Ended given) =
      subst (λ trace. Leads (unless_found (Doing.Ended answer.None) found) trace (Doing.Ended given)) none leads in
      subst
      (λ trace. IsOrderly looks given asked
      (Asked pages (Some run) ∷ Called pages.heap (call.Grow run) grown ∷ Called pages.heap (call.Alloc pages.request tag) found ∷ trace))
      (sym none) (is_granted asked pages run tag grown found [] allows (λ no_memory address. finds_none here no_memory address) (λ no_memory. refl))
    where
      finds_none : {found : HeapAnswer} → Leads (unless_found (Doing.Ended answer.None) found) [] (Doing.Ended given) → given ≡ answer.None
          → IsAddress found → ⊥
      finds_none here no_memory (address, is) =
          let ended = subst (λ found. Leads (unless_found (Doing.Ended answer.None) found) [] (Doing.Ended given)) is here in
          let same : given ≡ answer.Address address = last_given (answer.Address address) given ended in
          cc

  again_orderly : (grown : HeapAnswer) (trace : List Done) → Leads (searching_again pages.heap pages.request tag) trace (Doing.Ended given)
      → IsOrderly looks given asked (Asked pages (Some run) ∷ Called pages.heap (call.Grow run) grown ∷ trace)
  unfolding Leads Goes
  again_orderly grown [] leads = cc
  again_orderly grown (done ∷ trace) (found, is, left) =
      subst (λ done. IsOrderly looks given asked (Asked pages (Some run) ∷ Called pages.heap (call.Grow run) grown ∷ done ∷ trace)) (sym is)
      (search_orderly grown found trace left)

  run_orderly : (otherwise : Doing) (trace : List Done)
      → Leads (with_run pages.heap pages.request tag otherwise (Some run)) trace (Doing.Ended given)
      → IsOrderly looks given asked (Asked pages (Some run) ∷ trace)
  unfolding Leads Goes
  run_orderly otherwise [] leads = cc
  run_orderly otherwise (done ∷ trace) (grown, is, left) =
      subst (λ done. IsOrderly looks given asked (Asked pages (Some run) ∷ done ∷ trace)) (sym is) (again_orderly grown trace left)

-- so does the asking for pages of sizes that the flags allow
pub asking_orderly : (looks : Bool) (heap socket : ℕ) (request : Request) (tag : Tag) (otherwise : Doing) → GoesAnyhow looks otherwise
    → (pages : List ℕ) → AllByRecursion (AllowsPage request.flags) pages → GoesAnyhow looks (asking heap socket request tag otherwise pages)
unfolding Leads Goes
asking_orderly looks heap socket request tag otherwise goes [] allow asked trace given leads = goes asked trace given leads
asking_orderly looks heap socket request tag otherwise goes (page ∷ pages) allow asked [] given leads = ends asked
asking_orderly looks heap socket request tag otherwise goes (page ∷ pages) allow asked (done ∷ trace) given (run, is, left) =
    subst (λ done. IsOrderly looks given asked (done ∷ trace)) (sym is)
    (by_run run left (asking_orderly looks heap socket request tag otherwise goes pages allow.1 true trace given))
  where
    by_run : (run : Option Run)
        → Leads (with_run heap request tag (asking heap socket request tag otherwise pages) run) trace (Doing.Ended given)
        → (Leads (asking heap socket request tag otherwise pages) trace (Doing.Ended given) → IsOrderly looks given true trace)
        → IsOrderly looks given asked (Asked (record { heap = heap; socket = socket; page = page; request = request }) run ∷ trace)
    by_run None left rest =
        goes_on asked (Asked (record { heap = heap; socket = socket; page = page; request = request }) None) trace tt (rest left)
    by_run (Some run) left rest =
        run_orderly looks asked (record { heap = heap; socket = socket; page = page; request = request }) tag run given allow.0
        (asking heap socket request tag otherwise pages) trace left

-- the flags allow the page sizes for which memory is asked: those that they name, and others where they name none or are a hint
kept_allow : (flags : ℕ) (p : ℕ → Bool) (pages : List ℕ) → ((page : ℕ) → p page ≡ true → AllowsPage flags page)
    → AllByRecursion (AllowsPage flags) (filter p pages)
kept_allow flags p pages each =
    AllByRecursion-each (AllowsPage flags) (filter p pages) (λ page among. each page (Contains-filter p pages page among).0)

named_allowed : (flags page : ℕ) → names_page flags page ≡ true → AllowsPage flags page
unfolding is_fitting_page
named_allowed flags page named = inl (or_right (not (names_pages flags)) (names_page flags page) named)

any_allowed : (flags page : ℕ) → (is_hint flags || not (names_pages flags)) ≡ true → AllowsPage flags page
unfolding is_fitting_page
any_allowed flags page any = elim (or_cases (is_hint flags) (not (names_pages flags)) any) [
  | inl hint ↦ inr hint
  | inr none ↦ inl (rw none refl)
]

others_allow : (flags : ℕ) (p : ℕ → Bool) (pages : List ℕ) (any : Bool) → (is_hint flags || not (names_pages flags)) ≡ any
    → AllByRecursion (AllowsPage flags) (cond any (filter p pages) [])
others_allow flags p pages true is = kept_allow flags p pages (λ page kept. any_allowed flags page is)
others_allow flags p pages false is = tt

sizes_allow : (pools : List PoolLine) (socket flags : ℕ) → AllByRecursion (AllowsPage flags) (page_sizes_for pools socket flags)
sizes_allow pools socket flags =
    let others : ℕ → Bool = λ page. has_pool pools socket page && not (names_page flags page) in
    AllByRecursion-append (AllowsPage flags) (filter (names_page flags) page_sizes)
    (cond (is_hint flags || not (names_pages flags)) (filter others page_sizes) [])
    (kept_allow flags (names_page flags) page_sizes (named_allowed flags))
    (others_allow flags others page_sizes (is_hint flags || not (names_pages flags)) refl)

-- an allocation that finds an address is answered so
found_orderly : (looks : Bool) (otherwise : Doing) → GoesAnyhow looks otherwise → (found : HeapAnswer)
    → GoesAnyhow looks (unless_found otherwise found)
found_orderly looks otherwise goes (gives.Address address) = ended_orderly looks (answer.Address address)
found_orderly looks otherwise goes _ = goes

growing_orderly : (looks : Bool) (pools : List PoolLine) (heap : NamedHeap) (serves : Option ℕ) (request : Request) (tag : Tag)
    (otherwise : Doing) → GoesAnyhow looks otherwise → GoesAnyhow looks (growing pools heap serves request tag otherwise)
growing_orderly looks pools heap None request tag otherwise goes = goes
growing_orderly looks pools heap (Some socket) request tag otherwise goes =
    asking_orderly looks heap.index socket request tag otherwise goes (page_sizes_for pools socket request.flags)
    (sizes_allow pools socket request.flags)

trying_orderly : (looks : Bool) (pools : List PoolLine) (request : Request) (tag : Tag) (heaps : List NamedHeap)
    → GoesAnyhow looks (trying pools request tag heaps)
trying_orderly looks pools request tag [] = ended_orderly looks answer.None
trying_orderly looks pools request tag (heap ∷ heaps) = λ asked.
    let otherwise : Doing = growing pools heap heap.serves request tag (trying pools request tag heaps) in
    let rest : GoesAnyhow looks otherwise =
    growing_orderly looks pools heap heap.serves request tag (trying pools request tag heaps) (trying_orderly looks pools request tag heaps) in
    call_orderly looks asked heap.index (call.Alloc (with_flags (first_flags heap.serves request.flags) request) tag) (unless_found otherwise) refl
    (λ found. tt) (λ found. found_orderly looks otherwise rest found asked)

pub serving_orderly : (looks : Bool) (pools : List PoolLine) (request : Request) (tag : Tag) (heaps : List NamedHeap)
    → GoesAnyhow looks (serving pools request tag heaps)
serving_orderly looks pools request tag [] = ended_orderly looks answer.NoHeap
serving_orderly looks pools request tag (heap ∷ heaps) = trying_orderly looks pools request tag (heap ∷ heaps)
