-- The states of heaps that lines are handed, each of which the lines before leave, are fronts of the histories, with the participant's own calls, and
-- never grow shorter.
use Rattle.std.proofs.Common.{◌≡◌, ◌≢◌, ◌∙◌, ◌==◌, ℕ, ◌+◌, Bool, true, false, cond, List, [], ◌∷◌, ◌++◌, eq-eqb, filter, filter_map, length, length-append, map, take, Option, Some, None, if◌then◌else◌, refl, ap, sym, subst, ⊎_elim, arith, inl, inr}
use Rattle.std.specs.List.{All}
use Rattle.std.proofs.lemmas.Bool.{cases_eq, cond-false, cond-true, ne_eqb}
use Rattle.std.proofs.lemmas.List.{take-append-le, take_all}
use Rattle.std.proofs.lemmas.List.Elements.{filter-append}
use Rattle.std.proofs.lemmas.Option.{same_Some}
use Rattle.hp_heap.specs.History.{HeapView, entries_of}
use Rattle.hp_heap.specs.declared.entry.Entry.{Entry}
use Rattle.hp_proc.proofs.Joining.{calls_on}
use Rattle.hp_proc.proofs.LawLemmas.{entries_go_on}
use Rattle.hp_proc.specs.Courses.{OwnCall, calls_in}
use Rattle.hp_proc.specs.Doing.{Done}
use Rattle.hp_proc.specs.Doing.Done.{HeapSeen}
use Rattle.hp_proc.specs.Ends.{history_by, none_made}
use Rattle.hp_proc.specs.Handed.{AreStatesHanded, ComesAfter, IsFrontOf, state_seen}
use Rattle.hp_proc.specs.Histories.{entries_for, entry_for}
use Rattle.hp_proc.specs.LinesDone.{Course, courses_of, trace_of}
use Rattle.hp_proc.specs.Seen.{counted_on}
use Rattle.hp_script.specs.declared.workload.Workload.{Workload}
use Rattle.thm_run.proofs.LineSteps.LineMore.{own_courses, trace_more}
use Rattle.thm_run.proofs.PickedFronts.{all_picked, at, left, lines_rise}
use Rattle.thm_run.proofs.Rising.{Rises, rises_lower, seen_rising}
use Rattle.thm_run.proofs.StatsOwn.{done_in, goes_above}
use Rattle.thm_run.specs.Handing.{AreOfLinesBefore}

-- A PARTICIPANT'S ENTRIES

module _ (who index : ℕ) where
  none_of_it : entries_of who [] ≡ []
  unfolding entries_of
  none_of_it = refl

  of_both : (one other : List Entry) → entries_of who (one ++ other) ≡ entries_of who one ++ entries_of who other
  unfolding entries_of
  of_both one other = filter-append (λ (entry : Entry). entry.caller.participant == who) one other

  one_more : (entry : Entry) (entries : List Entry) → entries_of who (entry ∷ entries)
      ≡ cond (entry.caller.participant == who) (entry ∷ entries_of who entries) (entries_of who entries)
  unfolding entries_of
  one_more entry entries = refl

  all_own : (number : ℕ) (calls : List OwnCall) → entries_of who (entries_for who index number calls) ≡ entries_for who index number calls
  all_own number [] = none_of_it
  all_own number (call ∷ calls) = by_heap (call.heap == index) (all_own (number + 1) calls)
    where
      by_heap : (here : Bool) → entries_of who (entries_for who index (number + 1) calls) ≡ entries_for who index (number + 1) calls
          → entries_of who (if here then entry_for who number call ∷ entries_for who index (number + 1) calls
          else entries_for who index (number + 1) calls)
          ≡ (if here then entry_for who number call ∷ entries_for who index (number + 1) calls else entries_for who index (number + 1) calls)
      by_heap true rest =
          one_more (entry_for who number call) (entries_for who index (number + 1) calls)
          ∙ cond-true (who == who) (entry_for who number call ∷ entries_of who (entries_for who index (number + 1) calls))
          (entries_of who (entries_for who index (number + 1) calls)) (eq-eqb who who refl)
          ∙ ap (λ (entries : List Entry). entry_for who number call ∷ entries) rest
      by_heap false rest = rest

  none_own : (other number : ℕ) (calls : List OwnCall) → other ≢ who → entries_of who (entries_for other index number calls) ≡ []
  none_own other number [] differ = none_of_it
  none_own other number (call ∷ calls) differ = by_heap (call.heap == index) (none_own other (number + 1) calls differ)
    where
      by_heap : (here : Bool) → entries_of who (entries_for other index (number + 1) calls) ≡ []
          → entries_of who (if here then entry_for other number call ∷ entries_for other index (number + 1) calls
          else entries_for other index (number + 1) calls) ≡ []
      by_heap true rest =
          one_more (entry_for other number call) (entries_for other index (number + 1) calls)
          ∙ cond-false (other == who) (entry_for other number call ∷ entries_of who (entries_for other index (number + 1) calls))
          (entries_of who (entries_for other index (number + 1) calls)) (ne_eqb other who differ)
          ∙ rest
      by_heap false rest = rest

  -- of what lines leave a participant's entries are those of its calls
  pub own_entries : (made : ℕ → ℕ) (courses : List Course) → entries_of who (history_by index made courses)
      ≡ entries_for who index (made who + 1) (calls_in (trace_of (courses_of who courses)))
  own_entries made [] = none_of_it
  own_entries made (course ∷ courses) =
      let by : ℕ = course.line.participant in
      let calls : List OwnCall = calls_in course.trace in
      let next : ℕ → ℕ = counted_on made by (length calls) in
      let further = own_entries next courses in
      of_both (entries_for by index (made by + 1) calls) (history_by index next courses)
      ∙ ⊎_elim
      (λ (own : by ≡ who).
      let mine : next who ≡ made who + length calls =
      ap (λ (here : Bool). cond here (made who + length calls) (made who)) (eq-eqb who by (sym own)) in
      let number : next who + 1 ≡ made who + 1 + length calls = omega (arith, mine) in
      let lines : trace_of (courses_of who (course ∷ courses)) ≡ course.trace ++ trace_of (courses_of who courses) =
      ap (λ (here : Bool). trace_of (cond here (course ∷ courses_of who courses) (courses_of who courses))) (eq-eqb by who own) in
      ap (λ (one : ℕ). entries_of who (entries_for one index (made one + 1) calls) ++ entries_of who (history_by index next courses)) own
      ∙ ap (λ (entries : List Entry). entries ++ entries_of who (history_by index next courses)) (all_own (made who + 1) calls)
      ∙ ap (λ (entries : List Entry). entries_for who index (made who + 1) calls ++ entries)
      (further ∙ ap (λ (number : ℕ). entries_for who index number (calls_in (trace_of (courses_of who courses)))) number)
      ∙ sym (entries_go_on who index (made who + 1) calls (calls_in (trace_of (courses_of who courses))))
      ∙ ap (entries_for who index (made who + 1)) (sym (ap calls_in lines ∙ calls_on course.trace (trace_of (courses_of who courses)))))
      (λ (beside : by ≢ who).
      let mine : next who ≡ made who =
      ap (λ (here : Bool). cond here (made who + length calls) (made who)) (ne_eqb who by (λ same. beside (sym same))) in
      let lines : courses_of who (course ∷ courses) ≡ courses_of who courses =
      ap (λ (here : Bool). cond here (course ∷ courses_of who courses) (courses_of who courses)) (ne_eqb by who beside) in
      ap (λ (entries : List Entry). entries ++ entries_of who (history_by index next courses)) (none_own by (made by + 1) calls beside)
      ∙ further
      ∙ ap (λ (made : ℕ). entries_for who index (made + 1) (calls_in (trace_of (courses_of who courses)))) mine
      ∙ ap (λ (lines : List Course). entries_for who index (made who + 1) (calls_in (trace_of lines))) (sym lines))
      (cases_eq by who)

-- WHAT IS HANDED

-- what shows a state of a heap is that one
state_is : (index : ℕ) (done : Done) (state : List Entry) → state_seen index done ≡ Some state → done ≡ HeapSeen index state
state_is index (HeapSeen other own) state is =
    elim (cases_eq other index) [
      | inl same ↦
          let it : Some own ≡ Some state =
          sym (ap (λ (here : Bool). if here then Some own else None) (eq-eqb other index same)) ∙ is in
          ap (λ (heap : ℕ). HeapSeen heap own) same ∙ ap (λ (own : List Entry). HeapSeen index own) (same_Some own state it)
      | inr differ ↦
          let none : None ≡ Some state =
          sym (ap (λ (here : Bool). if here then Some own else None) (ne_eqb other index differ)) ∙ is in
          cc
    ]
state_is index _ state is = cc

module _ (workload : Workload) (courses : List Course) (heap : HeapView)
    (history : heap.history ≡ history_by heap.plain.index none_made courses) (are : AreOfLinesBefore workload courses) where
  abbrev index : ℕ
  index = heap.plain.index

  state_there : (before : List Course) (course : Course) (later : List Course) (first rest : List Done) (state : List Entry)
      → courses ≡ before ++ course ∷ later → course.trace ≡ first ++ HeapSeen index state ∷ rest
      → state ≡ history_by index none_made (before ++ at course first ∷ [])
  state_there before course later first rest state lines trace =
      are.handed (before ++ at course first ∷ []) course.line.participant (HeapSeen index state)
      (record {
        earlier = before;
        course = course;
        later = later;
        first = first;
        rest = rest;
        lines = lines;
        trace = trace;
        its = refl;
        until = refl;
      })

  pub seen_there : (before : List Course) (course : Course) (later : List Course) (first rest : List Done) (done : Done) (state : List Entry)
      → courses ≡ before ++ course ∷ later → course.trace ≡ first ++ done ∷ rest → state_seen index done ≡ Some state
      → state ≡ history_by index none_made (before ++ at course first ∷ [])
  seen_there before course later first rest done state lines trace seen =
      state_there before course later first rest state lines
      (trace ∙ ap (λ (done : Done). first ++ done ∷ rest) (state_is index done state seen))

  front_seen : (before : List Course) (course : Course) (later : List Course) (first rest : List Done) (done : Done) (state : List Entry)
      → courses ≡ before ++ course ∷ later → course.trace ≡ first ++ done ∷ rest → state_seen index done ≡ Some state
      → IsFrontOf heap.history state
  front_seen before course later first rest done state lines trace seen =
      let its = seen_there before course later first rest done state lines trace seen in
      let front : List Entry = history_by index none_made (before ++ at course first ∷ []) in
      let goes = goes_above index course later first (done ∷ rest) trace none_made before in
      let whole : heap.history ≡ front ++ goes.more = history ∙ ap (history_by index none_made) lines ∙ goes.is in
      ap (λ (state : List Entry). take (length state) heap.history) its
      ∙ ap (take (length front)) whole
      ∙ take-append-le (length front) front goes.more (omega arith)
      ∙ take_all (length front) front (omega arith)
      ∙ sym its

  own_seen : (who : ℕ) (first : List Done) (state : List Entry) → ComesAfter (trace_of (courses_of who courses)) first (HeapSeen index state)
      → entries_of who state ≡ entries_for who index 1 (calls_in first)
  own_seen who first state comes =
      let stood = done_in who (HeapSeen index state) courses first comes.0 comes.1 in
      let one : Course = at stood.course stood.first in
      let its = state_there stood.before stood.course stood.later stood.first stood.rest state stood.lines stood.trace in
      let lines : trace_of (courses_of who (stood.before ++ one ∷ [])) ≡ first =
      ap trace_of (own_courses who stood.before one stood.its)
      ∙ trace_more (courses_of who stood.before) one
      ∙ sym stood.front in
      ap (entries_of who) its
      ∙ own_entries who index none_made (stood.before ++ one ∷ [])
      ∙ ap (λ (trace : List Done). entries_for who index 1 (calls_in trace)) lines

  pub states_handed : (who : ℕ) → AreStatesHanded who (trace_of (courses_of who courses)) heap
  states_handed who = record {
    fronts = all_picked (state_seen index) (IsFrontOf heap.history) courses front_seen who [] courses refl;
    rising = (seen_rising (left index courses) _
        (rises_lower 0 (left index []) (left index courses) _ (omega arith)
        (lines_rise index (state_seen index) length courses
        (λ before course later first rest done state lines trace seen.
        ap length (seen_there before course later first rest done state lines trace seen)) who [] courses refl))).rising;
    own = λ first state comes. own_seen who first state comes;
  }
