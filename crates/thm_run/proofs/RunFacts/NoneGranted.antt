-- A line that is answered that there is no memory was granted none: the heap to which a run came would have found an element in it.
use Rattle.std.proofs.Common.{◌≡◌, ◌==◌, ◌∙◌, ℕ, ◌+◌, Bool, false, true, cond, List, [], ◌∷◌, ◌++◌, length, Option, Some, IsSome, slice_get, get_or, refl, ap, sym, subst, append_assoc, map}
use Rattle.std.specs.List.{list_any}
use Rattle.std.proofs.lemmas.Bool.{eq-eqb, false_from_ne_true}
use Rattle.hp_base.specs.Place.{place_of}
use Rattle.hp_base.specs.declared.row.Run.{Run}
use Rattle.hp_base.specs.declared.pool_line.PoolLine.{PoolLine}
use Rattle.hp_base.specs.declared.row.Row.{Row}
use Rattle.hp_base.specs.declared.request.Request.{Request}
use Rattle.hp_base.specs.declared.tag.Tag.{Tag}
use Rattle.hp_heap.proofs.HistoryFacts.FrontsLaw.{fronts_stand}
use Rattle.hp_heap.specs.Allowed.{IsAllowed}
use Rattle.hp_heap.specs.Growing.{CanGrow, run_bytes}
use Rattle.hp_heap.specs.History.{IsLegal, after_entry, replay}
use Rattle.hp_heap.specs.PlainHeap.{PlainHeap, opening_heap}
use Rattle.hp_heap.specs.Step.{after, answer_of}
use Rattle.hp_heap.specs.declared.entry.Entry.{Entry}
use Rattle.hp_heap.specs.declared.entry.HeapAnswer.{HeapAnswer}
use Rattle.hp_heap.specs.declared.entry.HeapCall.TheVariants as call
use Rattle.hp_script.specs.declared.answer.Answer.{Answer}
use Rattle.hp_script.specs.declared.answer.Answer.TheVariants as answer
use Rattle.hp_script.specs.declared.workload.Workload.{Workload}
use Rattle.hp_segs.proofs.SlotFacts.PlanLemmas.{numbered_list}
use Rattle.hp_segs.specs.Lists.{lists_of}
use Rattle.hp_segs.specs.Plan.{IsFirstFor}
use Rattle.hp_segs.specs.SegsView.{SegsView}
use Rattle.hp_segs.specs.Sound as segments
use Rattle.hp_segs.specs.declared.ask.Ask.{Ask}
use Rattle.hp_segs.specs.declared.list_info.ListInfo.{ListInfo}
use Rattle.hp_proc.specs.Courses.{Standing, calls_in, numbered_in}
use Rattle.hp_proc.specs.Doing.{Done}
use Rattle.hp_proc.specs.Doing.Done.{Asked, Called, NamesChanged}
use Rattle.hp_proc.specs.Histories.{entries_for, entry_for}
use Rattle.hp_proc.specs.LinesDone.{Course, IsDone, IsNoneUngranted, is_grant}
use Rattle.hp_proc.specs.Outcomes.{IsAnsweredSo}
use Rattle.hp_serve.specs.declared.pages_asked.PagesAsked.{PagesAsked}
use Rattle.hp_proc.proofs.Joining.{calls_on}
use Rattle.hp_proc.proofs.LawLemmas.{entries_go_on}
use Rattle.hp_proc.specs.SharedNames.{NamesChange}
use Rattle.thm_run.proofs.GrownHeaps.GrantedAsks.{granted_so}
use Rattle.thm_run.proofs.GrownHeaps.GrownChoice.{AllowsPage, grown_answers}
use Rattle.thm_run.proofs.TracesTold.OrderlyLines.{line_in_order}
use Rattle.thm_run.proofs.TracesTold.OrderlyTraces.{IsAddress, IsOrderly, LeavesAll, asked_behind, ends, goes_on, is_granted, tells}
use Rattle.thm_run.proofs.TracesTold.Numbers.{numbered_both}

-- what is done where a run is granted: it comes to its heap, which is searched for the request
abbrev pub granted_trace : PagesAsked → Run → Tag → HeapAnswer → HeapAnswer → List Done
granted_trace asked run tag grown found =
    Asked asked (Some run) ∷ Called asked.heap (call.Grow run) grown ∷ Called asked.heap (call.Alloc asked.request tag) found ∷ []

-- a trace ends so, and what was found then is told by the line's answer
pub record EndsGranted (given : Answer) (trace : List Done) : Type 0 where
  pub front : List Done
  pub asked : PagesAsked
  pub run : Run
  pub tag : Tag
  pub grown : HeapAnswer
  pub found : HeapAnswer
  pub are : trace ≡ front ++ granted_trace asked run tag grown found
  pub allows : AllowsPage asked.request.flags asked.page
  pub last : given ≡ answer.None → IsAddress found → ⊥

one_more : (given : Answer) (done : Done) (trace : List Done) → EndsGranted given trace → EndsGranted given (done ∷ trace)
one_more given done trace ended = record {
  front = done ∷ ended.front;
  asked = ended.asked;
  run = ended.run;
  tag = ended.tag;
  grown = ended.grown;
  found = ended.found;
  are = ap (λ trace. done ∷ trace) ended.are;
  allows = ended.allows;
  last = ended.last;
}

-- what leaves all is no grant
granted_later : (done : Done) (trace : List Done) → LeavesAll true done → list_any is_grant (done ∷ trace) ≡ true
    → list_any is_grant trace ≡ true
granted_later (Asked pages (Some run)) trace leaves some = absurd leaves
granted_later _ trace leaves some = some

-- a line's trace with a grant ends with it
ends_granted : (given : Answer) (asked : Bool) (trace : List Done) → given ≡ answer.None → IsOrderly true given asked trace
    → list_any is_grant trace ≡ true → EndsGranted given trace
ends_granted given _ _ no_memory (ends asked) some = cc
ends_granted given _ _ no_memory (goes_on asked done trace leaves rest) some =
    one_more given done trace (ends_granted given (asked_behind asked done) trace no_memory rest (granted_later done trace leaves some))
ends_granted given _ _ no_memory (tells heap address run ended) some = cc
ends_granted given _ _ no_memory (is_granted asked pages run tag grown found changes allows last only) some = record {
  front = [];
  asked = pages;
  run = run;
  tag = tag;
  grown = grown;
  found = found;
  are = ap (λ (changes : List NamesChange). Asked pages (Some run) ∷ Called pages.heap (call.Grow run) grown
      ∷ Called pages.heap (call.Alloc pages.request tag) found ∷ map NamesChanged changes) (only no_memory);
  allows = allows;
  last = last;
}

-- the run for an ask has pages of the size that is asked for
first_page : (pools : List PoolLine) (table : List Row) (ask : Ask) (run : Run) → IsFirstFor pools table ask run → run.page ≡ ask.page
first_page pools table ask run first =
    let numbered = numbered_list pools ask.socket ask.page first.list first.info first.its_list in
    let one : Some first.info ≡ Some (get_or (lists_of pools) first.list first.info) = sym first.its_info ∙ numbered.here in
    let same : first.info ≡ get_or (lists_of pools) first.list first.info = cc in
    ap (λ (run : Run). run.page) first.its_run ∙ (ap (λ (info : ListInfo). info.page) same ∙ numbered.its_page)

read_behind : {X : Type 0} (front : List X) (x : X) (rest : List X) → slice_get (front ++ x ∷ rest) (length front) ≡ Some x
read_behind [] x rest = refl
read_behind (y ∷ front) x rest = read_behind front x rest

-- a legal history is legal after each of its fronts
legal_behind : (heap : PlainHeap) (front rest : List Entry) → IsLegal heap (front ++ rest) → IsLegal (replay heap front) rest
legal_behind heap [] rest legal = legal
legal_behind heap (entry ∷ front) rest legal = legal_behind (after_entry heap entry) front rest legal.1

both_own : (mine : Bool) (first second : Entry) (rest : List Entry) → mine ≡ true
    → cond mine (first ∷ cond mine (second ∷ rest) rest) (cond mine (second ∷ rest) rest) ≡ first ∷ second ∷ rest
both_own mine first second rest is = rw is refl

-- a run that was granted fits its ask: its pages have the size that was asked for, and it has a place for the request
pub record IsFitting (asked : PagesAsked) (run : Run) : Type 0 where
  pub page : run.page ≡ asked.page
  pub place : IsSome (place_of run.addr (run.addr + run_bytes run) asked.request)

pub granted_fits : (segs : SegsView) (who number : ℕ) (asked : PagesAsked) (run : Run) → segments.IsSound segs
    → IsAnsweredSo segs.log segs.asks who number asked (Some run) → IsFitting asked run
granted_fits segs who number asked run sound so =
    let by = granted_so segs who number asked run sound so in
    record { page = first_page segs.pools _ _ run by.grown.first; place = by.grown.place }

-- entries are legal in a heap's history, after others and before others
pub record AreLegal (entries : List Entry) : Type 0 where
  pub opened : ℕ
  pub serves : Option ℕ
  pub earlier : List Entry
  pub later : List Entry
  pub legal : IsLegal (opening_heap opened serves) (earlier ++ (entries ++ later))

-- a search after a growth for its request finds an address, in a legal history
grown_found : (opened : ℕ) (serves : Option ℕ) (front rest : List Entry) (grow search : Entry) (run : Run) (request : Request) (tag : Tag)
    → grow.call ≡ call.Grow run → search.call ≡ call.Alloc request tag → grow.caller.participant ≡ search.caller.participant
    → IsLegal (opening_heap opened serves) (front ++ grow ∷ search ∷ rest)
    → IsSome (place_of run.addr (run.addr + run_bytes run) request)
    → AllowsPage request.flags run.page → IsAddress search.answer
unfolding after_entry
grown_found opened serves front rest grow search run request tag grows searches who legal place allows =
    let tiled = (fronts_stand opened serves front (grow ∷ search ∷ rest) legal).tiled in
    let heap : PlainHeap = replay (opening_heap opened serves) front in
    let behind = legal_behind (opening_heap opened serves) front (grow ∷ search ∷ rest) legal in
    let can : CanGrow run heap = subst (λ step. IsAllowed grow.caller.participant step heap) grows behind.0.allowed in
    let (address, is) = grown_answers search.caller.participant run request tag heap tiled can place allows in
    let given : search.answer ≡ answer_of search.caller.participant (call.Alloc request tag)
    (after search.caller.participant (call.Grow run) heap) =
    behind.1.0.answered
    ∙ (ap (λ step. answer_of search.caller.participant step (after grow.caller.participant grow.call heap)) searches
    ∙ (ap (λ step. answer_of search.caller.participant (call.Alloc request tag) (after grow.caller.participant step heap)) grows
    ∙ ap (λ who. answer_of search.caller.participant (call.Alloc request tag) (after who (call.Grow run) heap)) who)) in
    (address, given ∙ is)

-- a line of a participant that had made so many calls before: what it was granted fits, and its calls of each heap are legal
module _ (who calls : ℕ) (trace : List Done)
    (fits : (place : ℕ) (asked : PagesAsked) (run : Run) → slice_get (numbered_in trace) place ≡ Some (Asked asked (Some run))
    → IsFitting asked run) (legals : (index : ℕ) → AreLegal (entries_for who index calls (calls_in trace))) where
  -- the entries of the growth and the search stand next to each other
  own_entries : (asked : PagesAsked) (run : Run) (tag : Tag) (grown found : HeapAnswer) (number : ℕ)
      → entries_for who asked.heap number (calls_in (granted_trace asked run tag grown found))
      ≡ entry_for who number (record { heap = asked.heap; call = call.Grow run; answer = grown })
      ∷ entry_for who (number + 1) (record { heap = asked.heap; call = call.Alloc asked.request tag; answer = found })
      ∷ []
  own_entries asked run tag grown found number =
      both_own (asked.heap == asked.heap) (entry_for who number (record { heap = asked.heap; call = call.Grow run; answer = grown }))
      (entry_for who (number + 1) (record { heap = asked.heap; call = call.Alloc asked.request tag; answer = found })) []
      (eq-eqb asked.heap asked.heap refl)

  -- a search for the request of an ask after the growth that it was granted finds an address
  search_finds : (front : List Done) (asked : PagesAsked) (run : Run) (tag : Tag) (grown found : HeapAnswer)
      → trace ≡ front ++ granted_trace asked run tag grown found → AllowsPage asked.request.flags asked.page → IsAddress found
  search_finds front asked run tag grown found are allows =
      let number : ℕ = calls + length (calls_in front) in
      let there : slice_get (numbered_in trace) (length (numbered_in front)) ≡ Some (Asked asked (Some run)) =
      ap (λ trace. slice_get (numbered_in trace) (length (numbered_in front))) are
      ∙ (ap (λ dones. slice_get dones (length (numbered_in front))) (numbered_both front (granted_trace asked run tag grown found))
      ∙ read_behind (numbered_in front) (Asked asked (Some run)) []) in
      let by = fits (length (numbered_in front)) asked run there in
      let grow = entry_for who number (record { heap = asked.heap; call = call.Grow run; answer = grown }) in
      let search = entry_for who (number + 1) (record { heap = asked.heap; call = call.Alloc asked.request tag; answer = found }) in
      let legal = legals asked.heap in
      let own : entries_for who asked.heap calls (calls_in trace)
      ≡ entries_for who asked.heap calls (calls_in front) ++ (grow ∷ search ∷ []) =
      ap (λ trace. entries_for who asked.heap calls (calls_in trace)) are
      ∙ (ap (entries_for who asked.heap calls) (calls_on front (granted_trace asked run tag grown found))
      ∙ (entries_go_on who asked.heap calls (calls_in front) (calls_in (granted_trace asked run tag grown found))
      ∙ ap (λ entries. entries_for who asked.heap calls (calls_in front) ++ entries) (own_entries asked run tag grown found number))) in
      let entries : legal.earlier ++ (entries_for who asked.heap calls (calls_in trace) ++ legal.later)
      ≡ (legal.earlier ++ entries_for who asked.heap calls (calls_in front)) ++ (grow ∷ search ∷ legal.later) =
      ap (λ entries. legal.earlier ++ (entries ++ legal.later)) own
      ∙ (ap (λ entries. legal.earlier ++ entries)
      (append_assoc (entries_for who asked.heap calls (calls_in front)) (grow ∷ search ∷ []) legal.later)
      ∙ sym (append_assoc legal.earlier (entries_for who asked.heap calls (calls_in front)) (grow ∷ search ∷ legal.later))) in
      grown_found legal.opened legal.serves (legal.earlier ++ entries_for who asked.heap calls (calls_in front)) legal.later grow search
      run asked.request tag refl refl refl
      (subst (IsLegal (opening_heap legal.opened legal.serves)) entries legal.legal) by.place
      (subst (AllowsPage asked.request.flags) (sym by.page) allows)

  -- so a line that is answered that there is no memory was granted none
  pub none_granted : (workload : Workload) (standing : Standing) (course : Course) → course.trace ≡ trace
      → IsDone workload standing course → IsNoneUngranted course
  none_granted workload standing course same done no_memory =
      let orderly = line_in_order course.line course.line.act done.facts course.trace course.answer done.does in
      false_from_ne_true (list_any is_grant course.trace) (λ some.
      let ended = ends_granted course.answer false course.trace no_memory orderly some in
      let finds = search_finds ended.front ended.asked ended.run ended.tag ended.grown ended.found (sym same ∙ ended.are) ended.allows in
      ended.last no_memory finds)
