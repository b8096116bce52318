-- Where lines are done one after another, what was awaited stands before what who awaited it does afterwards.
use Rattle.std.proofs.Common.{◌≡◌, ◌≢◌, ◌∙◌, ◌==◌, ℕ, zero, suc, ◌+◌, ◌<◌, ◌≤◌, Bool, true, false, cond, List, [], ◌∷◌, ◌++◌, append_assoc, drop, eq-eqb, filter, length, length-append, map, take, Some, if◌then◌else◌, refl, ap, sym, subst, ⊎_elim, arith}
use Rattle.std.specs.Prelude.{⊤, slice_get}
use Rattle.std.specs.List.{All, AllByRecursion}
use Rattle.std.proofs.lemmas.Bool.{cases_eq, ne_eqb}
use Rattle.std.proofs.lemmas.List.{take-append-drop, take-append-le}
use Rattle.std.proofs.lemmas.List.Elements.{filter-append}
use Rattle.std.proofs.lemmas.Option.{same_Some}
use Rattle.hp_heap.proofs.HistoryFacts.Counting.{count_by-cons}
use Rattle.hp_heap.specs.History.{HeapView}
use Rattle.hp_heap.specs.declared.entry.Entry.{Entry}
use Rattle.hp_proc.proofs.Joining.{calls_on}
use Rattle.hp_proc.specs.Awaits.{AreAwaited, StandBefore, calls_within}
use Rattle.hp_proc.specs.Courses.{OwnCall, calls_in}
use Rattle.hp_proc.specs.Doing.{Done}
use Rattle.hp_proc.specs.Ends.{history_by, none_made}
use Rattle.hp_proc.specs.Histories.{entries_for, entry_for}
use Rattle.hp_proc.specs.LinesDone.{Course, courses_of, trace_of}
use Rattle.hp_proc.specs.Seen.{counted_on}
use Rattle.hp_script.specs.Counts.{lines_by}
use Rattle.hp_script.specs.Facts.{AwaitAfter, AwaitEarlier, StandsAfter}
use Rattle.hp_script.specs.declared.line.Act.{Act}
use Rattle.hp_script.specs.declared.line.Act.TheVariants as act
use Rattle.hp_script.specs.declared.line.Line.{Line}
use Rattle.thm_run.proofs.GrownHeaps.GrownLines.{calls_made, calls_next}
use Rattle.thm_run.proofs.HallFacts.HallHeaps.{all_from_places}
use Rattle.thm_run.proofs.StatsOwn.{lines_above, stands_before}

-- THE ENTRIES OF LINES

-- an entry of a participant has a number that is not above that
abbrev IsBelow : ℕ → ℕ → Entry → Type 0
IsBelow who calls entry = entry.caller.participant ≡ who → entry.caller.number ≤ calls

abbrev AreBelow : ℕ → ℕ → List Entry → Type 0
AreBelow who calls entries = AllByRecursion (IsBelow who calls) entries

below_both : (who calls : ℕ) (one other : List Entry) → AreBelow who calls one → AreBelow who calls other → AreBelow who calls (one ++ other)
below_both who calls [] other here there = there
below_both who calls (entry ∷ one) other here there = (here.0, below_both who calls one other here.1 there)

own_below : (who index calls number : ℕ) (own : List OwnCall) → number + length own ≤ calls + 1 → AreBelow who calls (entries_for who index number own)
own_below who index calls number [] most = tt
own_below who index calls number (call ∷ own) most =
    by_heap (call.heap == index) (own_below who index calls (number + 1) own (omega (arith, most)))
  where
    by_heap : (here : Bool) → AreBelow who calls (entries_for who index (number + 1) own)
        → AreBelow who calls (if here then entry_for who number call ∷ entries_for who index (number + 1) own
        else entries_for who index (number + 1) own)
    by_heap true rest = (λ its. omega (arith, most), rest)
    by_heap false rest = rest

others_below : (who other index calls number : ℕ) (own : List OwnCall) → other ≢ who → AreBelow who calls (entries_for other index number own)
others_below who other index calls number [] differ = tt
others_below who other index calls number (call ∷ own) differ =
    by_heap (call.heap == index) (others_below who other index calls (number + 1) own differ)
  where
    by_heap : (here : Bool) → AreBelow who calls (entries_for other index (number + 1) own)
        → AreBelow who calls (if here then entry_for other number call ∷ entries_for other index (number + 1) own
        else entries_for other index (number + 1) own)
    by_heap true rest = (λ its. absurd (differ its), rest)
    by_heap false rest = rest

module _ (who index : ℕ) where
  -- the entries of lines have numbers up to the calls that were made by then
  lines_below : (made : ℕ → ℕ) (courses : List Course) → AreBelow who (calls_made made who courses) (history_by index made courses)
  lines_below made [] = tt
  lines_below made (course ∷ courses) =
      let by : ℕ = course.line.participant in
      let next = counted_on made by (length (calls_in course.trace)) in
      let most : ℕ = calls_made made who (course ∷ courses) in
      below_both who most (entries_for by index (made by + 1) (calls_in course.trace)) (history_by index next courses)
      (⊎_elim
      (λ (own : by ≡ who).
      let mine : next who ≡ made who + length (calls_in course.trace) =
      ap (λ (own : Bool). cond own (made who + length (calls_in course.trace)) (made who)) (eq-eqb who by (sym own)) in
      subst (λ (one : ℕ). AreBelow who most (entries_for one index (made one + 1) (calls_in course.trace))) (sym own)
      (own_below who index most (made who + 1) (calls_in course.trace) (omega (arith, calls_next made course courses who, mine))))
      (λ (differ : by ≢ who). others_below who by index most (made by + 1) (calls_in course.trace) differ)
      (cases_eq by who))
      (subst (λ (most : ℕ). AreBelow who most (history_by index next courses)) (calls_next made course courses who) (lines_below next courses))

-- an entry whose number is above stands after the front
stands_after : (who calls place : ℕ) (front more : List Entry) (entry : Entry) → AreBelow who calls front
    → slice_get (front ++ more) place ≡ Some entry → entry.caller.participant ≡ who → calls < entry.caller.number → length front ≤ place
stands_after who calls place [] more entry below there its high = omega arith
stands_after who calls zero (one ∷ front) more entry below there its high =
    let same : one ≡ entry = same_Some one entry there in
    let few = subst (IsBelow who calls) same below.0 its in
    absurd (omega (arith, high, few))
stands_after who calls (suc place) (one ∷ front) more entry below there its high =
    let rest = stands_after who calls place front more entry below.1 there its high in
    omega (arith, rest)

-- the entries of lines are those of the first ones and those of the others
pub record IsSplit (index : ℕ) (made : ℕ → ℕ) (earlier later : List Course) : Type 0 where
  pub next : ℕ → ℕ
  pub is : history_by index made (earlier ++ later) ≡ history_by index made earlier ++ history_by index next later
  pub counts : (who : ℕ) → next who ≡ calls_made made who earlier

pub split : (index : ℕ) (made : ℕ → ℕ) (earlier later : List Course) → IsSplit index made earlier later
split index made [] later = record { next = made; is = refl; counts = λ who. omega arith }
split index made (course ∷ earlier) later =
    let by : ℕ = course.line.participant in
    let next = counted_on made by (length (calls_in course.trace)) in
    let entries : List Entry = entries_for by index (made by + 1) (calls_in course.trace) in
    let rest = split index next earlier later in
    record {
      next = rest.next;
      is = ap (λ (more : List Entry). entries ++ more) rest.is
          ∙ sym (append_assoc entries (history_by index next earlier) (history_by index rest.next later));
      counts = λ who. rest.counts who ∙ calls_next made course earlier who;
    }

-- A LINE AMONG THOSE OF ITS PARTICIPANT

-- where it stands among all lines
pub record IsOwnAt (who : ℕ) (courses : List Course) (place : ℕ) (course : Course) : Type 0 where
  pub earlier : List Course
  pub later : List Course
  pub lines : courses ≡ earlier ++ course ∷ later
  pub own : take place (courses_of who courses) ≡ courses_of who earlier
  pub its : course.line.participant ≡ who

module _ (who : ℕ) where
  lines_own : (first : Course) (courses : List Course) → first.line.participant ≡ who → courses_of who (first ∷ courses) ≡ first ∷ courses_of who courses
  lines_own first courses own =
      ap (λ (here : Bool). cond here (first ∷ courses_of who courses) (courses_of who courses)) (eq-eqb first.line.participant who own)

  lines_other : (first : Course) (courses : List Course) → first.line.participant ≢ who → courses_of who (first ∷ courses) ≡ courses_of who courses
  lines_other first courses beside =
      ap (λ (here : Bool). cond here (first ∷ courses_of who courses) (courses_of who courses)) (ne_eqb first.line.participant who beside)

  pub own_at : (courses : List Course) (place : ℕ) (course : Course) → slice_get (courses_of who courses) place ≡ Some course
      → IsOwnAt who courses place course
  own_at [] place course there = cc
  own_at (first ∷ courses) place course there =
      ⊎_elim
      (λ (own : first.line.participant ≡ who).
      by_place own place (ap (λ (lines : List Course). slice_get lines place) (sym (lines_own first courses own)) ∙ there)
      (λ rest at. own_at courses rest course at))
      (λ (beside : first.line.participant ≢ who).
      let rest = own_at courses place course (ap (λ (lines : List Course). slice_get lines place) (sym (lines_other first courses beside)) ∙ there) in
      record {
        earlier = first ∷ rest.earlier;
        later = rest.later;
        lines = ap (λ (courses : List Course). first ∷ courses) rest.lines;
        own = ap (take place) (lines_other first courses beside) ∙ rest.own ∙ sym (lines_other first rest.earlier beside);
        its = rest.its;
      })
      (cases_eq first.line.participant who)
    where
      by_place : first.line.participant ≡ who → (place : ℕ) → slice_get (first ∷ courses_of who courses) place ≡ Some course
          → ((rest : ℕ) → slice_get (courses_of who courses) rest ≡ Some course → IsOwnAt who courses rest course)
          → IsOwnAt who (first ∷ courses) place course
      by_place own zero at deeper =
          let same : first ≡ course = same_Some first course at in
          record {
            earlier = [];
            later = courses;
            lines = ap (λ (one : Course). one ∷ courses) same;
            own = refl;
            its = ap (λ (one : Course). one.line.participant) (sym same) ∙ own;
          }
      by_place own (suc place) at deeper =
          let rest = deeper place at in
          record {
            earlier = first ∷ rest.earlier;
            later = rest.later;
            lines = ap (λ (courses : List Course). first ∷ courses) rest.lines;
            own = ap (take (suc place)) (lines_own first courses own)
                ∙ ap (λ (lines : List Course). first ∷ lines) rest.own
                ∙ sym (lines_own first rest.earlier own);
            its = rest.its;
          }

-- so many of a participant's lines are among those that stand before a line which awaits them
abbrev lines_of : List Course → List Line
lines_of courses = map (λ course. course.line) courses

by_all : (other : ℕ) (courses : List Course) → lines_by other (lines_of courses) ≡ length (courses_of other courses)
by_all other [] = refl
by_all other (course ∷ courses) =
    count_by-cons (λ (line : Line). line.participant == other) course.line (lines_of courses)
    ∙ by_own (course.line.participant == other) (by_all other courses)
  where
    by_own : (own : Bool) → lines_by other (lines_of courses) ≡ length (courses_of other courses)
        → cond {A = ℕ} own 1 0 + lines_by other (lines_of courses) ≡ length (cond own (course ∷ courses_of other courses) (courses_of other courses))
    by_own true rest = omega (arith, rest)
    by_own false rest = omega (arith, rest)

awaits_after : (participants : ℕ) (before : List Line) (earlier : List Course) (course : Course) (later : List Course)
    → AwaitAfter participants before (lines_of (earlier ++ course ∷ later)) → StandsAfter participants (before ++ lines_of earlier) course.line.act
awaits_after participants before [] course later after =
    subst (λ (lines : List Line). StandsAfter participants lines course.line.act) (sym (append_nothing before)) after.0
  where
    append_nothing : (lines : List Line) → lines ++ [] ≡ lines
    append_nothing [] = refl
    append_nothing (line ∷ lines) = ap (λ (rest : List Line). line ∷ rest) (append_nothing lines)
awaits_after participants before (first ∷ earlier) course later after =
    subst (λ (lines : List Line). StandsAfter participants lines course.line.act) (append_assoc before (first.line ∷ []) (lines_of earlier))
    (awaits_after participants (before ++ first.line ∷ []) earlier course later after.1)

pub awaits_few : (participants : ℕ) (courses earlier : List Course) (course : Course) (later : List Course) (other lines : ℕ)
    → AwaitEarlier participants (map (λ course. course.line) courses) → courses ≡ earlier ++ course ∷ later
    → course.line.act ≡ act.Await other lines → lines ≤ length (courses_of other earlier)
awaits_few participants courses earlier course later other lines awaits is deed =
    let stands =
    awaits_after participants [] earlier course later (subst (λ (courses : List Course). AwaitAfter participants [] (lines_of courses)) is awaits) in
    let found : StandsAfter participants (lines_of earlier) (act.Await other lines) =
    subst (StandsAfter participants (lines_of earlier)) deed stands in
    omega (arith, found.1, by_all other earlier)

-- the first of a participant's lines, so many, are among those that stand first, and made no more calls than these
pub first_lines : (other lines : ℕ) (earlier rest : List Course) → lines ≤ length (courses_of other earlier)
    → take lines (courses_of other (earlier ++ rest)) ≡ take lines (courses_of other earlier)
first_lines other lines earlier rest few =
    ap (take lines) (filter-append (λ (course : Course). course.line.participant == other) earlier rest)
    ∙ take-append-le lines (courses_of other earlier) (courses_of other rest) few

pub trace_both : (courses more : List Course) → trace_of (courses ++ more) ≡ trace_of courses ++ trace_of more
trace_both [] more = refl
trace_both (course ∷ courses) more =
    ap (λ (trace : List Done). course.trace ++ trace) (trace_both courses more)
    ∙ sym (append_assoc course.trace (trace_of courses) (trace_of more))

few_calls : (n : ℕ) (courses : List Course) → length (calls_in (trace_of (take n courses))) ≤ length (calls_in (trace_of courses))
few_calls n courses =
    let first : List Course = take n courses in
    let rest : List Course = drop n courses in
    omega (
      arith,
      ap (λ (courses : List Course). length (calls_in (trace_of courses))) (take-append-drop n courses),
      ap (λ (trace : List Done). length (calls_in trace)) (trace_both first rest),
      ap (λ (calls : List OwnCall). length calls) (calls_on (trace_of first) (trace_of rest)),
      length-append (calls_in (trace_of first)) (calls_in (trace_of rest)),
    )

-- WHAT STANDS FIRST

module _ (participants : ℕ) (courses : List Course) (awaits : AwaitEarlier participants (map (λ course. course.line) courses)) where
  -- the first calls of one, so many as were awaited, stand among what the lines before leave
  module _ (who place other lines index : ℕ) (course : Course) (there : slice_get (courses_of who courses) place ≡ Some course)
      (deed : course.line.act ≡ act.Await other lines) where
    abbrev stood : IsOwnAt who courses place course
    stood = own_at who courses place course there

    pub stands_early : (early : ℕ) (entry : Entry) → slice_get (history_by index none_made courses) early ≡ Some entry
        → entry.caller.participant ≡ other → entry.caller.number ≤ calls_within other lines courses
        → early < length (history_by index none_made stood.earlier)
    stands_early early entry early_at early_its few =
        let rest : List Course = course ∷ stood.later in
        let parts = split index none_made stood.earlier rest in
        let front : List Entry = history_by index none_made stood.earlier in
        let back : List Entry = history_by index parts.next rest in
        let whole : history_by index none_made courses ≡ front ++ back = ap (history_by index none_made) stood.lines ∙ parts.is in
        let enough = awaits_few participants courses stood.earlier course stood.later other lines awaits stood.lines deed in
        let within : calls_within other lines courses ≤ parts.next other =
        omega (
          arith,
          ap (λ (courses : List Course). length (calls_in (trace_of (take lines (courses_of other courses))))) stood.lines,
          ap (λ (courses : List Course). length (calls_in (trace_of courses))) (first_lines other lines stood.earlier rest enough),
          few_calls lines (courses_of other stood.earlier),
          parts.counts other,
        ) in
        stands_before other (parts.next other) early front back entry (lines_above other index parts.next rest)
        (subst (λ (entries : List Entry). slice_get entries early ≡ Some entry) whole early_at) early_its (omega (arith, few, within))

  stand_first : (who place other lines index : ℕ) (course : Course) → slice_get (courses_of who courses) place ≡ Some course
      → course.line.act ≡ act.Await other lines
      → StandBefore (history_by index none_made courses) other (calls_within other lines courses) who (calls_within who place courses)
  stand_first who place other lines index course there deed early late entry next early_at early_its few late_at late_its high =
      let stood = own_at who courses place course there in
      let rest : List Course = course ∷ stood.later in
      let parts = split index none_made stood.earlier rest in
      let front : List Entry = history_by index none_made stood.earlier in
      let back : List Entry = history_by index parts.next rest in
      let whole : history_by index none_made courses ≡ front ++ back = ap (history_by index none_made) stood.lines ∙ parts.is in
      let behind : calls_within who place courses ≡ calls_made none_made who stood.earlier =
      omega (arith, ap (λ (courses : List Course). length (calls_in (trace_of courses))) stood.own) in
      let before : early < length front =
      stands_early who place other lines index course there deed early entry early_at early_its few in
      let after : length front ≤ late =
      stands_after who (calls_made none_made who stood.earlier) late front back next (lines_below who index none_made stood.earlier)
      (subst (λ (entries : List Entry). slice_get entries late ≡ Some next) whole late_at) late_its (omega (arith, high, behind)) in
      omega (arith, before, after)

  -- the clause `awaited`
  pub awaited_in_order : (heaps : List HeapView)
      → ((index : ℕ) (heap : HeapView) → slice_get heaps index ≡ Some heap → heap.history ≡ history_by index none_made courses)
      → AreAwaited courses heaps
  awaited_in_order heaps in_order who place other lines course there deed =
      all_from_places
      (λ (heap : HeapView). StandBefore heap.history other (calls_within other lines courses) who (calls_within who place courses)) heaps
      (λ index heap at.
      subst (λ (history : List Entry). StandBefore history other (calls_within other lines courses) who (calls_within who place courses))
      (sym (in_order index heap at)) (stand_first who place other lines index course there deed))
