-- Between two lines the participant of the next one may do it.
use Rattle.std.proofs.Common.{◌≡◌, ◌∙◌, ℕ, zero, suc, ◌+◌, ◌<◌, ◌≤◌, ◌==◌, ⊎_elim, Bool, true, false, cond, List, [], ◌∷◌, ◌++◌, append_assoc, get_or, get_or-take, length, map, take, Option, Some, None, inl, refl, sym, ap, subst, arith}
use Rattle.std.specs.List.{All, AllPairs}
use Rattle.std.specs.Option.{option_map}
use Rattle.std.proofs.lemmas.Bool.{cases_lt}
use Rattle.std.proofs.lemmas.List.{append-nil, get_or_default, length-replicate, length-take-le}
use Rattle.std.proofs.lemmas.List.Elements.{All-append, All-cons, All-filter, All-get_or, All-head, All-nil, All-tail}
use Rattle.std.proofs.lemmas.List.Sums.{sum_by-cons}
use Rattle.std.proofs.lemmas.Option.{same_Some, slice_get-map, slice_get_past}
use Rattle.hp_plain.specs.Course.{IsLater}
use Rattle.hp_plain.specs.HallSteps.{slots_of}
use Rattle.hp_plain.specs.HallView.{HallView, IsHome, SlotView, lines_at, named_at, named_in, names_seen, slot_at, taken_from}
use Rattle.hp_hall.specs.HallState.{HallState}
use Rattle.hp_hall.specs.Own.{after_ack}
use Rattle.hp_hall.specs.declared.kept.Kept.{Kept}
use Rattle.hp_hall.specs.declared.kept.Kept.TheVariants.{Names}
use Rattle.hp_hall.specs.declared.slot.TheConstants.{NAMES_SLOT, SLOTS}
use Rattle.hp_plain.proofs.Opened.{opened_length}
use Rattle.hp_script.specs.Counts.{lines_by}
use Rattle.hp_script.specs.Facts.{AwaitAfter, IsActOf, IsLineOf, StandsAfter}
use Rattle.hp_script.specs.Limits.{AreDeclared}
use Rattle.hp_script.specs.declared.answer.Answer.{Answer}
use Rattle.hp_script.specs.declared.answer.Answer.TheVariants as gives
use Rattle.hp_script.specs.declared.line.Act.{Act}
use Rattle.hp_script.specs.declared.line.Act.TheVariants as act
use Rattle.hp_script.specs.declared.line.Line.{Line}
use Rattle.hp_script.specs.declared.workload.Workload.{Workload}
use Rattle.hp_segs.proofs.SlotFacts.ListFacts.{all_unmap}
use Rattle.hp_proc.specs.Awaiting.{MayAwait}
use Rattle.hp_proc.specs.Contexts.{IsNextLine}
use Rattle.hp_proc.specs.Courses.{Standing, after_line, calls_in, element_brought, element_in, last_heap}
use Rattle.hp_proc.specs.Doing.{Done}
use Rattle.hp_proc.specs.Heaps.{sockets_of}
use Rattle.hp_proc.specs.LinesDone.{Course, courses_of, opening_standing, standing_after}
use Rattle.hp_serve.specs.Party.{Party}
use Rattle.hp_proc.specs.Progress.{MayComeAndGo}
use Rattle.hp_proc.specs.declared.own_element.OwnElement.{OwnElement}
use Rattle.hp_zone.specs.declared.names.Names.{Names as NamesView}
use Rattle.thm_run.specs.SoFar.{SoFar, context_of, first_hall, first_names, first_segs}
use Rattle.thm_run.proofs.RunFacts.SoFarFacts.{held_many}
use Rattle.hp_run.specs.Running.{IsRunnable}

-- THE LINE IS ONE THAT ITS PARTICIPANT MAY DO, AND STANDS BEHIND THE OTHERS

-- who attaches or detaches is not participant 0
may_come : (who : ℕ) (deed : Act) → IsActOf who deed → MayComeAndGo who deed
may_come who act.Attach of = omega (arith, of.0)
may_come who act.Detach of = omega (arith, of.0)
may_come who _ of = tt

-- a line of a workload that can be run is of a declared participant, which may do it
declared_at : (count : ℕ) (lines : List Line) (place : ℕ) (line : Line) → AreDeclared count lines → place < length lines
    → line ≡ get_or lines place line → line.participant < count
declared_at count [] place line are within is = absurd (omega arith)
declared_at count (first ∷ lines) zero line are within is = subst (λ (l : Line). l.participant < count) (sym is) are.0
declared_at count (first ∷ lines) (suc place) line are within is = declared_at count lines place line are.1 (omega arith) is

module _ (workload : Workload) (place : ℕ) (line : Line) (runnable : IsRunnable workload) (within : place < length workload.lines.items)
    (is : line ≡ get_or workload.lines.items place line) where
  pub line_declared : line.participant < workload.participants
  line_declared = declared_at workload.participants workload.lines.items place line runnable.declared within is

  pub line_can : MayComeAndGo line.participant line.act
  line_can =
      may_come line.participant line.act
      (subst IsLineOf (sym is) (All-get_or IsLineOf workload.lines.items place line within runnable.acts))

-- a line at an index stands after the lines that it awaits, which are among those before it
after_at : (count : ℕ) (before lines : List Line) (index : ℕ) (line : Line) → AwaitAfter count before lines → index < length lines
    → line ≡ get_or lines index line → StandsAfter count (before ++ take index lines) line.act
after_at count before [] index line after within is = absurd (omega (arith, within))
after_at count before (first ∷ lines) zero line after within is =
    subst (λ (earlier : List Line). StandsAfter count earlier line.act) (sym (append-nil before))
    (subst (λ (l : Line). StandsAfter count before l.act) (sym is) after.0)
after_at count before (first ∷ lines) (suc index) line after within is =
    subst (λ (earlier : List Line). StandsAfter count earlier line.act) (append_assoc before (first ∷ []) (take index lines))
    (after_at count (before ++ first ∷ []) lines index line after.1 (omega (arith, within)) is)

-- one that has told of all its lines among these may be awaited
may_await : (count : ℕ) (earlier : List Line) (deed : Act) (now : HallState) → StandsAfter count earlier deed → now.count ≡ count
    → ((other : ℕ) → other < count → now.lines other ≡ lines_by other earlier) → MayAwait 1 deed now
may_await count earlier (act.Await other lines) now after is told = (
  subst (λ (n : ℕ). other < n) (sym is) after.0,
  inl (omega (arith, after.1, told other after.0)),
)
may_await count earlier _ now after is told = tt

-- so many of the lines of courses are one's
one_counted : (own : Bool) (course : Course) (rest : List Course) → cond own 1 0 + length rest ≡ length (cond own (course ∷ rest) rest)
one_counted true course rest = omega arith
one_counted false course rest = omega arith

own_counted : (who : ℕ) (courses : List Course)
    → lines_by who (map (λ (course : Course). course.line) courses) ≡ length (courses_of who courses)
own_counted who [] = refl
own_counted who (course ∷ courses) =
    sum_by-cons (λ (line : Line). cond (line.participant == who) 1 0) course.line (map (λ (course : Course). course.line) courses)
    ∙ ap (λ (n : ℕ). cond (course.line.participant == who) 1 0 + n) (own_counted who courses)
    ∙ one_counted (course.line.participant == who) course (courses_of who courses)

-- an element is of a line below a number
abbrev IsBelow : ℕ → OwnElement → Type 0
IsBelow number element = element.line < number

-- a line that was done is one below a number
abbrev IsEarlier : ℕ → Course → Type 0
IsEarlier number course = course.line.line < number

in_below : (line number : ℕ) (heap : Option ℕ) → line < number → All (IsBelow number) (element_in line heap)
in_below line number None below = All-nil (IsBelow number)
in_below line number (Some heap) below =
    All-cons (IsBelow number) (record { line = line; heap = heap }) [] below (All-nil (IsBelow number))

brought_below : (line : Line) (deed : Act) (given : Answer) (trace : List Done) (number : ℕ) → line.line < number
    → All (IsBelow number) (element_brought line deed given trace)
brought_below line (act.Alloc label size options) (gives.Address address) trace number below =
    in_below line.line number (last_heap (calls_in trace)) below
brought_below line _ _ trace number below = All-nil (IsBelow number)

elements_below : (number : ℕ) (standing : Standing) (courses : List Course) → All (IsBelow number) standing.elements
    → All (IsEarlier number) courses → All (IsBelow number) (standing_after standing courses).elements
elements_below number standing [] before lines = before
elements_below number standing (course ∷ courses) before lines =
    elements_below number (after_line course.line course.answer course.trace standing) courses
    (All-append (IsBelow number) standing.elements (element_brought course.line course.line.act course.answer course.trace) before
    (brought_below course.line course.line.act course.answer course.trace number
    (All-head (IsEarlier number) course courses lines)))
    (All-tail (IsEarlier number) course courses lines)

lines_before : (lines : List Line) (index : ℕ) (line : Line) → AllPairs (λ (one other : Line). one.line < other.line) lines
    → index < length lines → line ≡ get_or lines index line → All (λ (one : Line). one.line < line.line) (take index lines)
lines_before lines index line rising within is = λ i d below.
    let early : i < index = subst (λ (n : ℕ). i < n) (length-take-le index lines (omega (arith, within))) below in
    let one : get_or (take index lines) i d ≡ get_or lines i d = get_or-take index lines i d early in
    let other : get_or lines index d ≡ line = get_or_default lines index d line within ∙ sym is in
    subst (λ (l : Line). l.line < line.line) (sym one)
    (subst (λ (l : Line). (get_or lines i d).line < l.line) other (rising i index d early within))

module _ (workload : Workload) (courses : List Course) (parties : List Party) (hall : HallView)
    (so_far : SoFar workload courses parties hall) where
  -- after the lines so far the next one may be done
  pub next_line : (who : ℕ) (index : ℕ) (line : Line) → IsRunnable workload
      → map (λ (course : Course). course.line) courses ≡ take index workload.lines.items
      → index < length workload.lines.items → line ≡ get_or workload.lines.items index line
      → IsNextLine (context_of workload who courses) line
  next_line who index line runnable lines_are within is =
      let before = lines_before workload.lines.items index line runnable.lines.rising within is in
      let earlier : All (IsEarlier line.line) courses =
      all_unmap (λ (one : Line). one.line < line.line) (λ (course : Course). course.line) courses
      (subst (λ (lines : List Line). All (λ (one : Line). one.line < line.line) lines) (sym lines_are) before) in
      elements_below line.line (opening_standing workload who) (courses_of who courses) (All-nil (IsBelow line.line))
      (All-filter (λ (course : Course). course.line.participant == who) (IsEarlier line.line) courses earlier)

  -- THE HALL BETWEEN TWO LINES

  -- as many take part as the workload says
  pub all_count : length hall.owns ≡ workload.participants
  all_count = so_far.course.count ∙ length-replicate workload.participants (after_ack 0)

  -- so the next line finds done what it awaits
  pub line_awaits : (index : ℕ) (line : Line) (now : HallState) → IsRunnable workload
      → map (λ (course : Course). course.line) courses ≡ take index workload.lines.items
      → index < length workload.lines.items → line ≡ get_or workload.lines.items index line → now.count ≡ workload.participants
      → now.lines ≡ lines_at hall → MayAwait 1 line.act now
  line_awaits index line now runnable lines_are within is count told =
      may_await workload.participants (take index workload.lines.items) line.act now
      (after_at workload.participants [] workload.lines.items index line runnable.awaits within is)
      count
      (λ other below.
      ap (λ (lines : ℕ → ℕ). lines other) told
      ∙ so_far.told other below
      ∙ sym (own_counted other courses)
      ∙ ap (lines_by other) lines_are)

  pub all_there : (number : ℕ) → number ≤ NAMES_SLOT → IsHome (slot_at hall number)
  all_there number few = so_far.home number (omega (arith, few))

  -- the names in their slot opened with the heaps of the pools' sockets
  names_at : (slot : Option SlotView) (names : NamesView) → option_map (λ (slot : SlotView). slot.kept) slot ≡ Some (Names names)
      → (named_at slot).sockets ≡ names.heaps.sockets
  names_at None names is = cc
  names_at (Some slot) names is = ap (λ (kept : Kept). (names_seen kept).sockets) (same_Some _ _ is)

  pub names_there : (named_in hall).sockets ≡ sockets_of workload.pools.items
  names_there =
      names_at (slot_at hall NAMES_SLOT) so_far.names
      (sym (slice_get-map (λ (slot : SlotView). slot.kept) hall.slots NAMES_SLOT) ∙ so_far.named)
      ∙ so_far.opened

  home_free : (slot : Option SlotView) → IsHome slot → taken_from slot ≡ None
  home_free None home = absurd home
  home_free (Some slot) home = ap (option_map (λ (holder : ℕ). slot.kept)) home

  none_later : (old new : Option SlotView) → IsLater old new → old ≡ None → new ≡ None
  none_later None None later none = refl
  none_later None (Some new) later none = absurd later
  none_later (Some old) new later none = cc

  -- nothing is out
  pub nothing_out : (number : ℕ) → taken_from (slot_at hall number) ≡ None
  nothing_out number =
      ⊎_elim
      (λ (below : number < SLOTS). home_free (slot_at hall number) (so_far.home number below))
      (λ (past : SLOTS ≤ number).
      let first = first_segs workload in
      let names = first_names workload in
      let slots : length (slots_of so_far.held first names) ≡ SLOTS =
      opened_length first names so_far.held (sym (held_many so_far.held) ∙ so_far.first_heaps.in_order.count) in
      ap taken_from
      (none_later (slot_at (first_hall workload so_far.held) number) (slot_at hall number) (so_far.course.slots number)
      (slice_get_past (slots_of so_far.held first names) number (omega (arith, slots, past)))))
      (cases_lt number SLOTS)
