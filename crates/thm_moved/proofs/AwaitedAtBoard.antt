-- At a board what participants awaited stood before all that they did afterwards.
use Rattle.std.proofs.Common.{◌≡◌, ◌∙◌, ℕ, zero, suc, ◌+◌, ◌<◌, ◌≤◌, List, [], ◌∷◌, ◌++◌, append_assoc, drop, length, take, Option, Some, inl, inr, ◌⊎◌, ⊎_elim, refl, ap, sym, subst, arith}
use Rattle.std.specs.List.{All, slice_get}
use Rattle.std.specs.Option.{option_map}
use Rattle.std.specs.Prelude.{Contains, unwrap_or}
use Rattle.std.proofs.lemmas.Bool.{cases_lt}
use Rattle.std.proofs.lemmas.List.{drop_at, take-append-le, take_all}
use Rattle.std.proofs.lemmas.Option.{slice_get_within}
use Rattle.hp_base.specs.declared.limits.TheConstants.{MAX_HEAPS}
use Rattle.hp_board.proofs.Histories.{entries_of-append}
use Rattle.hp_board.specs.Closing.{history_at}
use Rattle.hp_board.specs.Lines.{IsAwaited, StandsBefore, made_by_then}
use Rattle.hp_board.specs.SeatView.{SeatView}
use Rattle.hp_board.specs.declared.view.LinesDone.{LinesDone}
use Rattle.hp_board.specs.declared.view.Mine.{Mine}
use Rattle.hp_board.specs.Views.{BeginsWith, values_of}
use Rattle.hp_heap.specs.History.{HeapView, entries_of}
use Rattle.hp_heap.specs.declared.entry.Entry.{Entry}
use Rattle.hp_maps.specs.declared.table.Table.{Table}
use Rattle.hp_script.specs.declared.answer.Answer.{Answer}
use Rattle.hp_script.specs.declared.line.Act.TheVariants as act
use Rattle.hp_script.specs.declared.workload.Workload.{Workload}
use Rattle.hp_segs.specs.SegsView.{SegsView}
use Rattle.hp_proc.proofs.Joining.{calls_on}
use Rattle.hp_proc.proofs.LawLemmas.{entries_go_on}
use Rattle.hp_proc.specs.Awaits.{StandBefore}
use Rattle.hp_proc.specs.Courses.{OwnCall, calls_in}
use Rattle.hp_proc.specs.Histories.{entries_for}
use Rattle.hp_proc.specs.LinesDone.{Course, trace_of}
use Rattle.thm_run.proofs.CountedReads.NewestRead.{all_split}
use Rattle.thm_run.proofs.HallFacts.HallHeaps.{all_from_places}
use Rattle.thm_together.specs.CameHome.{HaveAwaited}
use Rattle.thm_moved.proofs.CameToBoard.{came, its_seat}
use Rattle.thm_moved.proofs.ClosedHeaps.{at_a_place}
use Rattle.thm_moved.proofs.OwnEntries.{AreAbove, AreWithin, IsAbove, IsWithin, all_above, all_within, own_above, own_within, stands_after, stands_before}
use Rattle.thm_moved.specs.AtBoard.{AllCameToTheirSeats, HasLooked, HasTold}

-- THE CALLS OF FIRST LINES

-- those of fewer lines are a front of those of more
calls_front : (lines most : ℕ) (courses : List Course) → lines ≤ most
    → BeginsWith (calls_in (trace_of (take most courses))) (calls_in (trace_of (take lines courses)))
calls_front zero zero [] few = ([], refl)
calls_front zero (suc most) [] few = ([], refl)
calls_front zero zero (course ∷ courses) few = ([], refl)
calls_front zero (suc most) (course ∷ courses) few = (calls_in (trace_of (course ∷ take most courses)), refl)
calls_front (suc lines) zero courses few = absurd (omega (arith, few))
calls_front (suc lines) (suc most) [] few = ([], refl)
calls_front (suc lines) (suc most) (course ∷ courses) few =
    let rest = calls_front lines most courses (omega (arith, few)) in
    let early = trace_of (take lines courses) in (
      rest.0,
      calls_on course.trace (trace_of (take most courses))
          ∙ (ap (λ (calls : List OwnCall). calls_in course.trace ++ calls) rest.1
          ∙ (sym (append_assoc (calls_in course.trace) (calls_in early) rest.0)
          ∙ ap (λ (calls : List OwnCall). calls ++ rest.0) (sym (calls_on course.trace early)))),
    )

-- and of all
calls_whole : (lines : ℕ) (courses : List Course) → BeginsWith (calls_in (trace_of courses)) (calls_in (trace_of (take lines courses)))
calls_whole lines courses =
    let most : ℕ = lines + length courses in
    subst (λ (whole : List Course). BeginsWith (calls_in (trace_of whole)) (calls_in (trace_of (take lines courses))))
    (take_all most courses (omega arith)) (calls_front lines most courses (omega arith))

-- so are their entries
entries_front : (who heap : ℕ) (calls front : List OwnCall) (begins : BeginsWith calls front)
    → entries_for who heap 1 calls ≡ entries_for who heap 1 front ++ entries_for who heap (1 + length front) begins.0
entries_front who heap calls front (rest, is) = ap (entries_for who heap 1) is ∙ entries_go_on who heap 1 front rest

pub begins_on : {A : Type 0} (old mid new : List A) → BeginsWith mid old → BeginsWith new mid → BeginsWith new old
begins_on old mid new (more, first) (rest, then) =
    (more ++ rest, then ∙ (ap (λ (l : List _). l ++ rest) first ∙ append_assoc old more rest))

-- a front of a list that is another's goes on alike
same_rest : {A : Type 0} (front one other : List A) → front ++ one ≡ front ++ other → one ≡ other
same_rest front one other same =
    sym (drop_at front one (length front) refl) ∙ (ap (drop (length front)) same ∙ drop_at front other (length front) refl)

-- IN ONE HISTORY

-- what one made first stands before what another made late, where a front has all of the one and none of the other
split_stands : (history front back : List Entry) (other who calls behind : ℕ) → history ≡ front ++ back → AreAbove other calls back
    → AreWithin who behind front → StandBefore history other calls who behind
split_stands history front back other who calls behind split above within early late entry next at_early first few at_late its high =
    let before =
    stands_before other calls early front back entry above (subst (λ (whole : List Entry). slice_get whole early ≡ Some entry) split at_early)
    first few in
    let after =
    stands_after who behind late front back next within (subst (λ (whole : List Entry). slice_get whole late ≡ Some next) split at_late) its
    high in
    omega (arith, before, after)

-- where a participant made no entry, nothing of it stands anywhere
nothing_stands : (history : List Entry) (other who calls behind : ℕ) → entries_of other history ≡ []
    → StandBefore history other calls who behind
nothing_stands history other who calls behind none early late entry next at_early first few at_late its high =
    let above : AreAbove other calls history = all_above other calls history (subst (AreAbove other calls) (sym none) tt) in
    let never = stands_before other calls early [] history entry above at_early first few in
    absurd (omega (arith, never))

-- of the first lines that were told to be done, fewer are their front
pub first_are : (who : ℕ) (lines : ℕ) (courses : List Course) (mine : Mine) (mark : LinesDone) (told : HasTold who courses mine mark)
    → lines ≤ mark.lines → take lines courses ≡ take lines told.early
first_are who lines courses mine mark told few =
    let many = told.many in
    ap (take lines) told.are ∙ take-append-le lines told.early told.late (omega (arith, few, many))

-- what begins with what was made when lines were told, begins with what fewer lines made
pub first_made : (who heap lines : ℕ) (courses : List Course) (mine : Mine) (mark : LinesDone) → HasTold who courses mine mark → lines ≤ mark.lines
    → (whole : List Entry) → BeginsWith whole (made_by_then heap mark mine)
    → BeginsWith whole (entries_for who heap 1 (calls_in (trace_of (take lines courses))))
first_made who heap lines courses mine mark told few whole begins =
    let front = calls_whole lines told.early in
    let calls = calls_in (trace_of (take lines told.early)) in
    subst (λ (own : List Course). BeginsWith whole (entries_for who heap 1 (calls_in (trace_of own)))) (sym (first_are who lines courses mine mark told few))
    (begins_on (entries_for who heap 1 calls) (entries_for who heap 1 (calls_in (trace_of told.early))) whole
    (entries_for who heap (1 + length calls) front.0, entries_front who heap (calls_in (trace_of told.early)) calls front)
    (subst (BeginsWith whole) (told.made heap) begins))

-- what another made after its first lines comes after a front that has what it made in these
pub behind_front : (other heap lines : ℕ) (courses : List Course) (front back : List Entry)
    → entries_of other (front ++ back) ≡ entries_for other heap 1 (calls_in (trace_of courses))
    → BeginsWith (entries_of other front) (entries_for other heap 1 (calls_in (trace_of (take lines courses))))
    → AreAbove other (length (calls_in (trace_of (take lines courses)))) back
behind_front other heap lines courses front back all (more, stood) =
    let calls = calls_in (trace_of (take lines courses)) in
    let whole = calls_whole lines courses in
    let early = entries_for other heap 1 calls in
    let late = entries_for other heap (1 + length calls) whole.0 in
    let both : early ++ (more ++ entries_of other back) ≡ early ++ late =
    sym (append_assoc early more (entries_of other back))
    ∙ (ap (λ (l : List Entry). l ++ entries_of other back) (sym stood)
    ∙ (sym (entries_of-append other front back) ∙ (all ∙ entries_front other heap (calls_in (trace_of courses)) calls whole))) in
    let above : AreAbove other (length calls) (more ++ entries_of other back) =
    subst (AreAbove other (length calls)) (sym (same_rest early (more ++ entries_of other back) late both))
    (own_above other heap (length calls) (1 + length calls) whole.0 (omega arith)) in
    all_above other (length calls) back (all_split (IsAbove other (length calls)) more (entries_of other back) above).1

-- AT A BOARD

module _ (workload : Workload) (answers : List Answer) (heaps : List HeapView) (segs : SegsView) (tables : List Table)
    (all : AllCameToTheirSeats workload answers heaps segs tables) where
  module _ (who other : ℕ) (below : who < workload.participants) (there : other < workload.participants) where
    abbrev pub mine : SeatView
    mine = (its_seat workload answers heaps segs tables all who below).0

    abbrev pub its : SeatView
    its = (its_seat workload answers heaps segs tables all other there).0

    -- what it looked up of the other
    pub looked_up : (place lines : ℕ) (looked : HasLooked who place other lines (all.courses who) mine.mine)
        → IsAwaited (history_at heaps) mine.mine its.mine looked.awaited
    looked_up place lines looked =
        let one = its_seat workload answers heaps segs tables all who below in
        let two = its_seat workload answers heaps segs tables all other there in
        let came_two = came workload answers heaps segs tables all other there in
        let noted = all.noted mine its (at_a_place all.seats who mine one.1) (at_a_place all.seats other its two.1) in
        noted.awaited looked.awaited
        (subst (λ (n : ℕ). Contains mine.mine.awaited (n, looked.awaited)) (sym came_two.whose) looked.there)

    stands : (place lines heap : ℕ) (view : HeapView) → slice_get heaps heap ≡ Some view
        → HasLooked who place other lines (all.courses who) mine.mine
        → StandBefore view.history other (length (calls_in (trace_of (take lines (all.courses other))))) who
        (length (calls_in (trace_of (take place (all.courses who)))))
    stands place lines heap view at looked =
        let low : heap < MAX_HEAPS = omega (arith, slice_get_within heaps heap view at, all.closed.heaps_are.count) in
        let two = its_seat workload answers heaps segs tables all other there in
        let came_one = came workload answers heaps segs tables all who below in
        let came_two = came workload answers heaps segs tables all other there in
        let its_among = at_a_place all.seats other its two.1 in
        let is = looked_up place lines looked in
        let before : StandsBefore heap (history_at heaps heap) mine.mine its.mine is.mark looked.awaited =
        is.before heap (omega (arith, low)) in
        let history : history_at heaps heap ≡ view.history =
        ap (λ (found : Option HeapView). unwrap_or (option_map (λ (heap : HeapView). heap.history) found) []) at in
        let split : view.history ≡ before.front ++ before.back = sym history ∙ before.split in
        let own : entries_of other (before.front ++ before.back) ≡ entries_for other heap 1 (calls_in (trace_of (all.courses other))) =
        ap (entries_of other) (sym split)
        ∙ (ap (λ (n : ℕ). entries_of n view.history) (sym came_two.whose)
        ∙ ((all.closed.calls its its_among).own heap view at ∙ came_two.made heap)) in
        let stood : BeginsWith (entries_of other before.front) (entries_for other heap 1 (calls_in (trace_of (take lines (all.courses other))))) =
        first_made other heap lines (all.courses other) its.mine is.mark (came_two.told is.mark is.told) (omega (arith, looked.enough, is.lines))
        (entries_of other before.front)
        (subst (λ (n : ℕ). BeginsWith (entries_of n before.front) (made_by_then heap is.mark its.mine)) came_two.whose before.stood) in
        let calls = calls_in (trace_of (take place (all.courses who))) in
        let made : AreWithin who (length calls) (values_of heap (take looked.awaited.entries mine.mine.made)) =
        subst (AreWithin who (length calls)) (sym (looked.made heap)) (own_within who heap (length calls) 1 calls (omega arith)) in
        let later : BeginsWith (values_of heap (take looked.awaited.entries mine.mine.made)) (entries_of who before.front) =
        subst (λ (n : ℕ). BeginsWith (values_of heap (take looked.awaited.entries mine.mine.made)) (entries_of n before.front)) came_one.whose
        before.later in
        let within : AreWithin who (length calls) before.front =
        all_within who (length calls) before.front
        (all_split (IsWithin who (length calls)) (entries_of who before.front) later.0 (subst (AreWithin who (length calls)) later.1 made)).0 in
        split_stands view.history before.front before.back other who
        (length (calls_in (trace_of (take lines (all.courses other))))) (length calls) split
        (behind_front other heap lines (all.courses other) before.front before.back own stood) within

  pub awaited_at_board : HaveAwaited all.courses heaps
  awaited_at_board who place other lines course there awaits =
      ⊎_elim (λ (below : who < workload.participants). by_other below (cases_lt other workload.participants))
      (λ (beyond : workload.participants ≤ who).
      absurd (none_there place (subst (λ (courses : List Course). slice_get courses place ≡ Some course) (all.no_lines who beyond) there)))
      (cases_lt who workload.participants)
    where
      none_there : (place : ℕ) → slice_get [] place ≡ Some course → ⊥
      none_there place at = cc

      by_other : who < workload.participants → (other < workload.participants) ⊎ (workload.participants ≤ other)
          → All (λ heap. StandBefore heap.history other (length (calls_in (trace_of (take lines (all.courses other))))) who
          (length (calls_in (trace_of (take place (all.courses who)))))) heaps
      by_other below (inl declared) =
          all_from_places (λ (heap : HeapView). StandBefore heap.history other (length (calls_in (trace_of (take lines (all.courses other))))) who
          (length (calls_in (trace_of (take place (all.courses who)))))) heaps
          (λ heap view at.
          stands who other below declared place lines heap view at
          ((came workload answers heaps segs tables all who below).looked place other lines course there awaits))
      by_other below (inr beyond) =
          all_from_places (λ (heap : HeapView). StandBefore heap.history other (length (calls_in (trace_of (take lines (all.courses other))))) who
          (length (calls_in (trace_of (take place (all.courses who)))))) heaps
          (λ heap view at.
          nothing_stands view.history other who (length (calls_in (trace_of (take lines (all.courses other)))))
          (length (calls_in (trace_of (take place (all.courses who)))))
          (all.closed.heaps_are.strange other heap view (omega (arith, beyond, all.opens.count)) at))
