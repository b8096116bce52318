-- The calls that a participant had made when it read statistics stand in the front of the history that these are of; and so they are handed.
use Rattle.std.proofs.Common.{◌≡◌, ◌≢◌, ◌∙◌, ◌==◌, ℕ, zero, suc, ◌+◌, ◌<◌, ◌≤◌, Bool, true, false, cond, List, [], ◌∷◌, ◌++◌, append-nil, append_assoc, eq-eqb, length, length-append, take, Some, if◌then◌else◌, refl, ap, sym, subst, ⊎_elim, arith}
use Rattle.std.specs.List.{AllByRecursion, slice_get}
use Rattle.std.proofs.lemmas.Bool.{cases_eq, ne_eqb}
use Rattle.std.proofs.lemmas.List.{take-append-le, take_all}
use Rattle.std.proofs.lemmas.Option.{same_Some}
use Rattle.hp_heap.specs.History.{HeapView, opening_of, replay}
use Rattle.hp_heap.specs.PlainHeap.{PlainHeap, opening_heap}
use Rattle.hp_heap.specs.Statistics.{statistics_of}
use Rattle.hp_heap.specs.declared.entry.Entry.{Entry}
use Rattle.hp_script.specs.declared.workload.Workload.{Workload}
use Rattle.hp_proc.specs.Courses.{OwnCall, calls_in}
use Rattle.hp_proc.specs.Doing.{Counted, Done}
use Rattle.hp_proc.specs.Doing.Done.{StatsRead}
use Rattle.hp_proc.specs.Ends.{history_by, none_made}
use Rattle.hp_proc.specs.Handed.{AreStatisticsOf, AreStatsHanded, ComesAfter, HoldCalls}
use Rattle.hp_proc.specs.Heaps.{sockets_of}
use Rattle.hp_proc.specs.Histories.{entries_for, entry_for}
use Rattle.hp_proc.specs.LinesDone.{Course, courses_of, trace_of}
use Rattle.hp_proc.specs.Seen.{counted_on}
use Rattle.hp_proc.proofs.Joining.{calls_on}
use Rattle.hp_proc.proofs.LawLemmas.{entries_go_on}
use Rattle.thm_run.proofs.GrownHeaps.GrownLines.{calls_made, calls_next}
use Rattle.thm_run.proofs.HallFacts.HallHeaps.{all_from_places, heap_at}
use Rattle.thm_run.proofs.HallFacts.HallHistories.{in_order}
use Rattle.thm_run.proofs.Rising.{rises_lower, seen_rising}
use Rattle.thm_run.proofs.PickedFronts.{at, left}
use Rattle.thm_run.proofs.StatsFronts.{all_stats, read_there, stats_rise}
use Rattle.thm_run.specs.Handing.{AreOfLinesBefore, StatisticsEndSo}

-- an entry of a participant has a number above that
abbrev pub IsAbove : ℕ → ℕ → Entry → Type 0
IsAbove who calls entry = entry.caller.participant ≡ who → calls < entry.caller.number

abbrev pub AreAbove : ℕ → ℕ → List Entry → Type 0
AreAbove who calls entries = AllByRecursion (IsAbove who calls) entries

above_both : (who calls : ℕ) (one other : List Entry) → AreAbove who calls one → AreAbove who calls other → AreAbove who calls (one ++ other)
above_both who calls [] other here there = there
above_both who calls (entry ∷ one) other here there = (here.0, above_both who calls one other here.1 there)

above_lower : (who lower calls : ℕ) (entries : List Entry) → lower ≤ calls → AreAbove who calls entries → AreAbove who lower entries
above_lower who lower calls [] le are = tt
above_lower who lower calls (entry ∷ entries) le are = (
  λ its. let above = are.0 its in omega (arith, le, above),
  above_lower who lower calls entries le are.1,
)

-- the entries of one participant's calls are numbered on, and another's are none of its
own_above : (who index calls number : ℕ) (own : List OwnCall) → calls < number → AreAbove who calls (entries_for who index number own)
own_above who index calls number [] above = tt
own_above who index calls number (call ∷ own) above =
    by_heap (call.heap == index) (own_above who index calls (number + 1) own (omega (arith, above)))
  where
    by_heap : (here : Bool) → AreAbove who calls (entries_for who index (number + 1) own)
        → AreAbove who calls (if here then entry_for who number call ∷ entries_for who index (number + 1) own
        else entries_for who index (number + 1) own)
    by_heap true rest = (λ its. above, rest)
    by_heap false rest = rest

others_above : (who other index calls number : ℕ) (own : List OwnCall) → other ≢ who → AreAbove who calls (entries_for other index number own)
others_above who other index calls number [] differ = tt
others_above who other index calls number (call ∷ own) differ =
    by_heap (call.heap == index) (others_above who other index calls (number + 1) own differ)
  where
    by_heap : (here : Bool) → AreAbove who calls (entries_for other index (number + 1) own)
        → AreAbove who calls (if here then entry_for other number call ∷ entries_for other index (number + 1) own
        else entries_for other index (number + 1) own)
    by_heap true rest = (λ its. absurd (differ its), rest)
    by_heap false rest = rest

module _ (who index : ℕ) where
  -- so many a participant made before, and one more makes no fewer
  made_on : (made : ℕ → ℕ) (other more : ℕ) → made who ≤ counted_on made other more who
  made_on made other more = by_who (who == other)
    where
      by_who : (here : Bool) → made who ≤ (if here then made who + more else made who)
      by_who true = omega arith
      by_who false = omega arith

  -- the entries of lines have numbers above those made before
  pub lines_above : (made : ℕ → ℕ) (courses : List Course) → AreAbove who (made who) (history_by index made courses)
  lines_above made [] = tt
  lines_above made (course ∷ courses) =
      let by : ℕ = course.line.participant in
      let next = counted_on made by (length (calls_in course.trace)) in
      above_both who (made who) (entries_for by index (made by + 1) (calls_in course.trace)) (history_by index next courses)
      (⊎_elim
      (λ (own : by ≡ who).
      subst (λ (one : ℕ). AreAbove who (made who) (entries_for one index (made one + 1) (calls_in course.trace))) (sym own)
      (own_above who index (made who) (made who + 1) (calls_in course.trace) (omega arith)))
      (λ (differ : by ≢ who). others_above who by index (made who) (made by + 1) (calls_in course.trace) differ)
      (cases_eq by who))
      (above_lower who (made who) (next who) (history_by index next courses) (made_on made by (length (calls_in course.trace)))
      (lines_above next courses))

-- a history goes on from a front by entries of which those of a participant have numbers above so many
pub record GoesOnAbove (who calls : ℕ) (front whole : List Entry) : Type 0 where
  pub more : List Entry
  pub is : whole ≡ front ++ more
  pub above : AreAbove who calls more

-- after a line that got so far
module _ (index : ℕ) (course : Course) (later : List Course) (first rest : List Done) (trace : course.trace ≡ first ++ rest) where
  abbrev me : ℕ
  me = course.line.participant

  pub goes_above : (made : ℕ → ℕ) (before : List Course)
      → GoesOnAbove me (calls_made made me before + length (calls_in first)) (history_by index made (before ++ at course first ∷ []))
      (history_by index made (before ++ course ∷ later))
  goes_above made [] =
      let next = counted_on made me (length (calls_in course.trace)) in
      let number : ℕ = made me + 1 in
      let calls : calls_in course.trace ≡ calls_in first ++ calls_in rest = ap calls_in trace ∙ calls_on first rest in
      let begun : List Entry = entries_for me index number (calls_in first) in
      let ended : List Entry = entries_for me index (number + length (calls_in first)) (calls_in rest) in
      let all : entries_for me index number (calls_in course.trace) ≡ begun ++ ended =
      ap (entries_for me index number) calls ∙ entries_go_on me index number (calls_in first) (calls_in rest) in
      let many : next me ≡ made me + length (calls_in course.trace) =
      ap (λ (own : Bool). cond own (made me + length (calls_in course.trace)) (made me)) (eq-eqb me me refl) in
      let none : calls_made made me [] ≡ made me = omega arith in
      record {
        more = ended ++ history_by index next later;
        is = ap (λ (entries : List Entry). entries ++ history_by index next later) all
            ∙ append_assoc begun ended (history_by index next later)
            ∙ ap (λ (entries : List Entry). entries ++ (ended ++ history_by index next later)) (sym (append-nil begun));
        above = above_both me (calls_made made me [] + length (calls_in first)) ended (history_by index next later)
            (own_above me index (calls_made made me [] + length (calls_in first)) (number + length (calls_in first)) (calls_in rest)
            (omega (arith, none)))
            (above_lower me (calls_made made me [] + length (calls_in first)) (next me) (history_by index next later)
            (omega (arith, none, many, ap length calls, length-append (calls_in first) (calls_in rest)))
            (lines_above me index next later));
      }
  goes_above made (one ∷ before) =
      let by : ℕ = one.line.participant in
      let next = counted_on made by (length (calls_in one.trace)) in
      let entries : List Entry = entries_for by index (made by + 1) (calls_in one.trace) in
      let further = goes_above next before in
      record {
        more = further.more;
        is = ap (λ (rest : List Entry). entries ++ rest) further.is
            ∙ sym (append_assoc entries (history_by index next (before ++ at course first ∷ [])) further.more);
        above = subst (λ (calls : ℕ). AreAbove me (calls + length (calls_in first)) further.more) (calls_next made one before me) further.above;
      }

-- PLACES OF A TRACE

-- what stands in two lists one behind the other stands in one of them
pub data StandsIn (xs ys first : List Done) (done : Done) (rest : List Done) : Type 0 where
  early : (more : List Done) → xs ≡ first ++ done ∷ more → StandsIn xs ys first done rest
  late : (mid : List Done) → first ≡ xs ++ mid → ys ≡ mid ++ done ∷ rest → StandsIn xs ys first done rest

tail_of : List Done → List Done
tail_of [] = []
tail_of (done ∷ trace) = trace

stands_in : (xs ys first : List Done) (done : Done) (rest : List Done) → xs ++ ys ≡ first ++ done ∷ rest → StandsIn xs ys first done rest
unfolding tail_of
stands_in [] ys first done rest is = StandsIn.late first refl is
stands_in (x ∷ xs) ys [] done rest is =
    let same : x ≡ done = cc in
    StandsIn.early xs (ap (λ (one : Done). one ∷ xs) same)
stands_in (x ∷ xs) ys (one ∷ first) done rest is = behind (stands_in xs ys first done rest (ap tail_of is))
  where
    same : x ≡ one
    same = cc

    behind : StandsIn xs ys first done rest → StandsIn (x ∷ xs) ys (one ∷ first) done rest
    behind (StandsIn.early more its) =
        StandsIn.early more (ap (λ (xs : List Done). x ∷ xs) its ∙ ap (λ (x : Done). x ∷ (first ++ done ∷ more)) same)
    behind (StandsIn.late mid front its) =
        StandsIn.late mid (ap (λ (x : Done). x ∷ first) (sym same) ∙ ap (λ (first : List Done). x ∷ first) front) its

-- it was done in a line of a participant, after what its earlier lines did and what stands before it there
pub record IsDoneIn (who : ℕ) (courses : List Course) (before_it : List Done) (done : Done) : Type 0 where
  pub before : List Course
  pub course : Course
  pub later : List Course
  pub first : List Done
  pub rest : List Done
  pub lines : courses ≡ before ++ course ∷ later
  pub trace : course.trace ≡ first ++ done ∷ rest
  pub its : course.line.participant ≡ who
  pub front : before_it ≡ trace_of (courses_of who before) ++ first

module _ (who : ℕ) (done : Done) where
  own_lines : (course : Course) (courses : List Course) → course.line.participant ≡ who
      → courses_of who (course ∷ courses) ≡ course ∷ courses_of who courses
  own_lines course courses own =
      ap (λ (here : Bool). cond here (course ∷ courses_of who courses) (courses_of who courses)) (eq-eqb course.line.participant who own)

  other_lines : (course : Course) (courses : List Course) → course.line.participant ≢ who
      → courses_of who (course ∷ courses) ≡ courses_of who courses
  other_lines course courses beside =
      ap (λ (here : Bool). cond here (course ∷ courses_of who courses) (courses_of who courses)) (ne_eqb course.line.participant who beside)

  pub done_in : (courses : List Course) (first rest : List Done) → trace_of (courses_of who courses) ≡ first ++ done ∷ rest
      → IsDoneIn who courses first done
  done_in [] [] rest is = cc
  done_in [] (one ∷ first) rest is = cc
  done_in (course ∷ courses) first rest is =
      ⊎_elim
      (λ (own : course.line.participant ≡ who).
      by_place (λ mid rest is. done_in courses mid rest is) own (stands_in course.trace (trace_of (courses_of who courses)) first done rest
      (sym (ap trace_of (own_lines course courses own)) ∙ is)))
      (λ (beside : course.line.participant ≢ who).
      let its = done_in courses first rest (sym (ap trace_of (other_lines course courses beside)) ∙ is) in
      record {
        before = course ∷ its.before;
        course = its.course;
        later = its.later;
        first = its.first;
        rest = its.rest;
        lines = ap (λ (courses : List Course). course ∷ courses) its.lines;
        trace = its.trace;
        its = its.its;
        front = its.front ∙ ap (λ (lines : List Course). trace_of lines ++ its.first) (sym (other_lines course its.before beside));
      })
      (cases_eq course.line.participant who)
    where
      by_place : ((mid rest : List Done) → trace_of (courses_of who courses) ≡ mid ++ done ∷ rest → IsDoneIn who courses mid done)
          → course.line.participant ≡ who → StandsIn course.trace (trace_of (courses_of who courses)) first done rest
          → IsDoneIn who (course ∷ courses) first done
      by_place deeper own (StandsIn.early more its) = record {
        before = [];
        course = course;
        later = courses;
        first = first;
        rest = more;
        lines = refl;
        trace = its;
        its = own;
        front = refl;
      }
      by_place deeper own (StandsIn.late mid front its) =
          let further = deeper mid rest its in
          record {
            before = course ∷ further.before;
            course = further.course;
            later = further.later;
            first = further.first;
            rest = further.rest;
            lines = ap (λ (courses : List Course). course ∷ courses) further.lines;
            trace = further.trace;
            its = further.its;
            front = front
                ∙ ap (λ (mid : List Done). course.trace ++ mid) further.front
                ∙ sym (append_assoc course.trace (trace_of (courses_of who further.before)) further.first)
                ∙ ap (λ (lines : List Course). trace_of lines ++ further.first) (sym (own_lines course further.before own));
          }

-- WHAT IS HANDED

-- an entry whose number is not above stands in the front
pub stands_before : (who calls place : ℕ) (front more : List Entry) (entry : Entry) → AreAbove who calls more
    → slice_get (front ++ more) place ≡ Some entry → entry.caller.participant ≡ who → entry.caller.number ≤ calls → place < length front
stands_before who calls zero [] [] entry above there its few = cc
stands_before who calls (suc place) [] [] entry above there its few = cc
stands_before who calls zero [] (one ∷ more) entry above there its few =
    let same : one ≡ entry = same_Some one entry there in
    let high = subst (IsAbove who calls) same above.0 its in
    absurd (omega (arith, high, few))
stands_before who calls (suc place) [] (one ∷ more) entry above there its few =
    let never = stands_before who calls place [] more entry above.1 there its few in
    absurd (omega (arith, never))
stands_before who calls zero (one ∷ front) more entry above there its few = omega arith
stands_before who calls (suc place) (one ∷ front) more entry above there its few =
    let rest = stands_before who calls place front more entry above there its few in
    omega (arith, rest)

module _ (workload : Workload) (courses : List Course) (heap : HeapView)
    (serves : heap.plain.serves ≡ slice_get (sockets_of workload.pools.items) heap.plain.index)
    (history : heap.history ≡ history_by heap.plain.index none_made courses) (are : AreOfLinesBefore workload courses) where
  abbrev index : ℕ
  index = heap.plain.index

  abbrev opening : PlainHeap
  opening = opening_heap index (slice_get (sockets_of workload.pools.items) index)

  opens : opening_of heap.plain ≡ opening
  opens = ap (opening_heap index) serves

  -- each reading is of a front
  front_read : (before : List Course) (course : Course) (later : List Course) (first rest : List Done) (counted : Counted)
      → courses ≡ before ++ course ∷ later → course.trace ≡ first ++ StatsRead index counted ∷ rest → AreStatisticsOf heap counted
  front_read before course later first rest counted lines trace =
      let its = read_there index workload courses are before course later first rest counted lines trace in
      let front : List Entry = history_by index none_made (before ++ at course first ∷ []) in
      let goes = goes_above index course later first (StatsRead index counted ∷ rest) trace none_made before in
      let whole : heap.history ≡ front ++ goes.more = history ∙ ap (history_by index none_made) lines ∙ goes.is in
      let entries : counted.entries ≡ length front = ap (λ (counted : Counted). counted.entries) its in
      let taken : take counted.entries heap.history ≡ front =
      ap (λ (n : ℕ). take n heap.history) entries
      ∙ ap (take (length front)) whole
      ∙ take-append-le (length front) front goes.more (omega arith)
      ∙ take_all (length front) front (omega arith) in
      record {
        within = omega (arith, entries, ap (λ (entries : List Entry). length entries) whole, length-append front goes.more);
        stats = ap (λ (counted : Counted). counted.stats) its
            ∙ ap (λ (first : PlainHeap). statistics_of (replay first front)) (sym opens)
            ∙ ap (λ (entries : List Entry). statistics_of (replay (opening_of heap.plain) entries)) (sym taken);
      }

  -- and holds the participant's calls
  own_read : (who : ℕ) (first : List Done) (counted : Counted)
      → ComesAfter (trace_of (courses_of who courses)) first (StatsRead index counted)
      → HoldCalls heap.history counted.entries who (length (calls_in first))
  own_read who first counted comes = λ place entry there its few.
      let stood = done_in who (StatsRead index counted) courses first comes.0 comes.1 in
      let goes = goes_above index stood.course stood.later stood.first (StatsRead index counted ∷ stood.rest) stood.trace none_made stood.before in
      let front : List Entry = history_by index none_made (stood.before ++ at stood.course stood.first ∷ []) in
      let whole : heap.history ≡ front ++ goes.more = history ∙ ap (history_by index none_made) stood.lines ∙ goes.is in
      let long : length (calls_in first) ≡ length (calls_in (trace_of (courses_of who stood.before))) + length (calls_in stood.first) =
      omega (
        arith,
        ap (λ (trace : List Done). length (calls_in trace)) stood.front,
        ap length (calls_on (trace_of (courses_of who stood.before)) stood.first),
        length-append (calls_in (trace_of (courses_of who stood.before))) (calls_in stood.first),
      ) in
      let read = read_there index workload courses are stood.before stood.course stood.later stood.first stood.rest counted stood.lines stood.trace
      in
      let below =
      stands_before who (length (calls_in (trace_of (courses_of who stood.before))) + length (calls_in stood.first)) place front goes.more entry
      (subst (λ (one : ℕ). AreAbove one (length (calls_in (trace_of (courses_of one stood.before))) + length (calls_in stood.first)) goes.more)
      stood.its (above_lower stood.course.line.participant _ _ goes.more (omega arith) goes.above))
      (subst (λ (entries : List Entry). slice_get entries place ≡ Some entry) whole there) its (omega (arith, few, long)) in
      omega (arith, below, ap (λ (counted : Counted). counted.entries) read)

  -- so they are handed
  pub stats_handed : (who : ℕ) → AreStatsHanded who (trace_of (courses_of who courses)) heap
  stats_handed who = record {
    fronts = all_stats index (AreStatisticsOf heap) courses front_read who;
    rising = (seen_rising (left index courses) _
        (rises_lower 0 (left index []) (left index courses) _ (omega arith) (stats_rise index workload courses are who))).rising;
    own = λ first counted comes. own_read who first counted comes;
  }

-- so it is with all heaps that the hall hands out at the end
pub statistics_end_so : StatisticsEndSo
statistics_end_so workload courses answers parties hall heaps segs tables given so is_end are = λ who.
    all_from_places (AreStatsHanded who (trace_of (courses_of who courses))) heaps (λ place heap there.
    let its = heap_at workload courses parties hall so heaps segs is_end.names is_end.values place heap there in
    stats_handed workload courses heap
    (its.serves ∙ ap (slice_get (sockets_of workload.pools.items)) (sym its.index))
    (in_order workload courses parties hall so heaps segs is_end.names is_end.values place heap there
    ∙ ap (λ (index : ℕ). history_by index none_made courses) (sym its.index)) are who)
