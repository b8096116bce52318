-- Participants that came home to a board were answered the statistics of fronts of the histories, with their own calls.
use Rattle.std.proofs.Common.{◌≡◌, ◌≢◌, ◌∙◌, ℕ, ◌<◌, ◌≤◌, eqb, eq-eqb, List, [], ◌∷◌, ◌++◌, append_assoc, flat_map, length, None, Some, ⊎_elim, refl, ap, sym, subst, arith}
use Rattle.std.specs.Prelude.{Contains, slice_get}
use Rattle.std.specs.List.{All}
use Rattle.std.proofs.lemmas.Bool.{cases_eq, cases_lt, cond-true}
use Rattle.std.proofs.lemmas.Grind.{flat_map-append}
use Rattle.std.proofs.lemmas.List.Elements.{All-nil, Contains-append_right}
use Rattle.std.proofs.lemmas.Option.{same_Some, slice_get_within}
use Rattle.hp_base.specs.declared.limits.TheConstants.{MAX_HEAPS}
use Rattle.hp_board.specs.Closing.{HandedOut, IsLeftIn, handed_out}
use Rattle.hp_board.specs.KeptValues.{IsKeptAt}
use Rattle.hp_board.specs.MovesKept.{Replays, Slotted, all_free, slots_after}
use Rattle.hp_board.specs.SeatView.{SeatView}
use Rattle.hp_board.specs.Views.{values_of}
use Rattle.hp_board.specs.declared.opening.Opening.{Opening}
use Rattle.hp_board.specs.declared.view.Move.{Move}
use Rattle.hp_board.specs.declared.view.Move.TheVariants.{Gave}
use Rattle.hp_chair.specs.FoundEmptyLaws.{nothing_among, tail_of}
use Rattle.hp_chair.specs.Steps.{move_in, moves_in, pairs_at, pairs_in}
use Rattle.hp_hall.specs.HeapPairs.{pair_of}
use Rattle.hp_hall.specs.Mail.{Gives, MailStep, Notes}
use Rattle.hp_hall.specs.Values.{history_of}
use Rattle.hp_hall.specs.declared.kept.Kept.{Kept}
use Rattle.hp_hall.specs.declared.kept.Kept.TheVariants.{Heap, Names, Segments}
use Rattle.hp_hall.specs.declared.note.Note.TheVariants.{Published, ReadStats}
use Rattle.hp_heap.specs.History.{HeapView}
use Rattle.hp_heap.specs.declared.entry.Entry.{Entry}
use Rattle.hp_maps.specs.declared.table.Table.{Table}
use Rattle.hp_proc.specs.Doing.{Counted, Done}
use Rattle.hp_proc.specs.Handed.{AreStatsHanded}
use Rattle.hp_proc.specs.LinesDone.{trace_of}
use Rattle.hp_script.specs.declared.answer.Answer.{Answer}
use Rattle.hp_script.specs.declared.workload.Workload.{Workload}
use Rattle.hp_segs.specs.SegsView.{SegsView}
use Rattle.hp_stats.specs.StatViews.{PenView}
use Rattle.hp_stats.specs.declared.stat_pair.StatPair.{StatPair}
use Rattle.thm_run.proofs.HallFacts.HallHeaps.{all_from_places}
use Rattle.thm_run.proofs.PathSteps.Walked.{get_there}
use Rattle.thm_run.specs.OwnLines.{added_in}
use Rattle.thm_moved.proofs.ClosedHeaps.{at_a_place}
use Rattle.thm_moved.proofs.HeapsHeld.{steps_heaps}
use Rattle.thm_moved.proofs.MovesHeld.{other_first, own_first}
use Rattle.thm_moved.specs.AtBoard.{AllCameToTheirSeats, CameToItsSeat}
use Rattle.thm_home.proofs.BesideHeap.{AreBeside, added, added_after}
use Rattle.thm_home.proofs.GivenFronts.{GoesOnWith, IsHeapKept, goes_from, kind_by, own_in}
use Rattle.thm_home.proofs.ReadPlaces.{IsFresh, IsReadAt}
use Rattle.thm_home.proofs.StatsHanded.{IsOfFront, stats_handed}
use Rattle.thm_home.proofs.WayReads.{way_reads}
use Rattle.thm_home.specs.StatsOfThreads.{HaveReadBy, StatsAtBoard}

-- FROM A GIVE ON

-- the slots as they are after a give of a participant, with the moves that are left
record IsGivenAt (who : ℕ) (slot : ℕ) (kept : Kept) (rest : List Move) (end : Slotted) : Type 0 where
  next : Slotted
  left : List (ℕ × Move)
  replay : Replays next left end
  own : values_of who left ≡ rest
  value : next.value slot ≡ kept
  word : next.word slot ≡ 0

head_or : Move → List Move → Move
head_or other [] = other
head_or other (move ∷ moves) = move

module _ (who slot : ℕ) (kept : Kept) (end : Slotted) where
  given_first : (slots : Slotted) (w : ℕ) (move : Move) (moves : List (ℕ × Move)) (rest : List Move) → move ≡ Gave slot kept
      → Replays (slots_after w move slots) moves end → values_of who moves ≡ rest → IsGivenAt who slot kept rest end
  given_first slots w move moves rest is replay own = record {
    next = slots_after w move slots;
    left = moves;
    replay = replay;
    own = own;
    value = ap (λ (m : Move). (slots_after w m slots).value slot) is
        ∙ cond-true (eqb slot slot) kept (slots.value slot) (eq-eqb slot slot refl);
    word = ap (λ (m : Move). (slots_after w m slots).word slot) is ∙ cond-true (eqb slot slot) 0 (slots.word slot) (eq-eqb slot slot refl);
  }

  given_own : (slots : Slotted) (w : ℕ) (move : Move) (moves : List (ℕ × Move)) (before rest : List Move)
      → Replays (slots_after w move slots) moves end → move ∷ values_of who moves ≡ before ++ Gave slot kept ∷ rest
      → ((before : List Move) → values_of who moves ≡ before ++ Gave slot kept ∷ rest → IsGivenAt who slot kept rest end)
      → IsGivenAt who slot kept rest end
  unfolding head_or
  given_own slots w move moves [] rest replay is later = given_first slots w move moves rest (ap (head_or move) is) replay (ap tail_of is)
  given_own slots w move moves (first ∷ before) rest replay is later = later before (ap tail_of is)

  given_at : (moves : List (ℕ × Move)) (slots : Slotted) → Replays slots moves end → (before rest : List Move)
      → values_of who moves ≡ before ++ Gave slot kept ∷ rest → IsGivenAt who slot kept rest end
  given_at [] slots replay before rest is = absurd (nothing_among before rest (Gave slot kept) is)
  given_at ((w, move) ∷ moves) slots replay before rest is =
      ⊎_elim
      (λ (same : w ≡ who).
      given_own slots w move moves before rest replay.1
      (sym (ap (λ (w : ℕ). values_of who ((w, move) ∷ moves)) same ∙ own_first who move moves) ∙ is)
      (λ earlier there. given_at moves (slots_after w move slots) replay.1 earlier rest there))
      (λ (apart : w ≢ who).
      given_at moves (slots_after w move slots) replay.1 before rest (sym (other_first w who move moves (λ same. apart (sym same))) ∙ is))
      (cases_eq w who)

-- a pair that was published is among those of the steps
published_among : (index slot : ℕ) (steps before behind : List MailStep) (pair : StatPair) → slot ≡ index
    → steps ≡ before ++ Notes (Published slot pair) ∷ behind → Contains (pairs_in index steps) pair
published_among index slot steps before behind pair same is =
    let here : pairs_in index (Notes (Published slot pair) ∷ behind) ≡ pair ∷ pairs_in index behind =
    ap (λ (l : List StatPair). l ++ pairs_in index behind) (cond-true (eqb slot index) (pair ∷ []) [] (eq-eqb slot index same)) in
    subst (λ (l : List StatPair). Contains l pair)
    (sym (ap (pairs_in index) is ∙ flat_map-append (pairs_at index) before (Notes (Published slot pair) ∷ behind)))
    (Contains-append_right (pairs_in index before) (pairs_in index (Notes (Published slot pair) ∷ behind)) pair
    (subst (λ (l : List StatPair). Contains l pair) (sym here) (0, omega arith, refl)))

-- WHAT STANDS AT THE BEGINNING AND AT THE END

pub first_kind : (opening : Opening) (index : ℕ) (kept : Kept) → index < MAX_HEAPS → IsKeptAt opening index kept → IsHeapKept kept
first_kind opening index (Heap heap pen) low at = tt
first_kind opening index (Segments segs) low at = let last = at.last in absurd (omega (arith, last, low))
first_kind opening index (Names names) low at = let last = at.last in absurd (omega (arith, last, low))

pub left_heap : (out : HandedOut) (index : ℕ) (kept : Kept) (heap : HeapView) → IsHeapKept kept → IsLeftIn out index kept
    → slice_get out.heaps index ≡ Some heap → history_of kept ≡ heap.history
left_heap out index (Heap own pen) heap kind left there = ap (λ (h : HeapView). h.history) (same_Some own heap (sym left.0 ∙ there))
left_heap out index (Segments segs) heap kind left there = absurd kind
left_heap out index (Names names) heap kind left there = absurd kind

-- ONE PARTICIPANT AND ONE HEAP

module _ (workload : Workload) (answers : List Answer) (heaps : List HeapView) (segs : SegsView) (tables : List Table)
    (all : AllCameToTheirSeats workload answers heaps segs tables) (who : ℕ) (seat : SeatView) (table : Table)
    (sat : slice_get all.seats who ≡ Some seat) (left : slice_get tables who ≡ Some table) (has : HaveReadBy all.pens (all.steps who)) where
  abbrev steps : List MailStep
  steps = all.steps who

  abbrev end : Slotted
  end = all_free all.moved.last

  came : CameToItsSeat workload who (all.first who) (all.last who) (all.courses who) steps seat table
  came = all.home who seat table sat left

  own_moves : values_of who all.moved.moves ≡ moves_in steps
  own_moves =
      ap (λ (other : ℕ). values_of other all.moved.moves) (sym came.whose)
      ∙ (all.moved.own seat (at_a_place all.seats who seat sat) ∙ came.moves)

  module _ (heap : HeapView) (low : heap.plain.index < MAX_HEAPS) (there : slice_get heaps heap.plain.index ≡ Some heap) where
    abbrev index : ℕ
    index = heap.plain.index

    last_is : history_of (all.moved.last index) ≡ heap.history
    last_is =
        let kind = kind_by who index low end all.moved.moves (all_free all.moved.first) all.moved.replay
        (first_kind all.opening index (all.moved.first index) low (all.moved.opened index (omega (arith, low))).at) in
        left_heap (handed_out heaps all.pens segs all.names) index (all.moved.last index) heap kind (all.moved.left index (omega (arith, low))) there

    -- what comes by steps is what comes by their moves
    by_steps : (some : List MailStep) → own_in who index low end None (moves_in some) ≡ added who index None some
    by_steps some = ap (flat_map added_in) (steps_heaps who index None some)

    module _ (counted : Counted) (first rest : List Done) (at : IsReadAt who index first rest counted steps) where
      abbrev read : MailStep
      read = Notes (ReadStats index at.pair)

      -- it never had the heap in hand before
      never_of : AreBeside index at.before → IsOfFront who index first rest counted.entries heap.history
      never_of beside =
          let goes = goes_from who index low end all.moved.moves (all_free all.moved.first) (moves_in steps) all.moved.replay refl own_moves in
          let empty : history_of (all.moved.first index) ≡ [] = (all.moved.opened index (omega (arith, low))).empty in
          record {
            front = history_of (all.moved.first index);
            own = own_in who index low end None (moves_in steps);
            short = omega (arith, ap (λ (l : List Entry). length l) empty);
            goes = subst (GoesOnWith who (own_in who index low end None (moves_in steps)) (history_of (all.moved.first index))) last_is goes;
            late = by_steps steps
                ∙ (ap (added who index None) at.steps_are ∙ (added_after who index at.before (read ∷ at.behind) beside ∙ at.late));
          }

      -- it gave the heap back before
      given_of : (before : List MailStep) (given : HeapView) (pen : PenView) (behind : List MailStep) → given.plain.index ≡ index
          → at.before ≡ before ++ Notes (Published given.plain.index (pair_of given)) ∷ Gives given.plain.index (Heap given pen) ∷ behind
          → AreBeside index behind → IsOfFront who index first rest counted.entries heap.history
      given_of before given pen behind its is beside =
          let slot : ℕ = given.plain.index in
          let published : MailStep = Notes (Published slot (pair_of given)) in
          let late : List MailStep = behind ++ read ∷ at.behind in
          let whole : steps ≡ before ++ published ∷ Gives slot (Heap given pen) ∷ late =
          at.steps_are
          ∙ (ap (λ (l : List MailStep). l ++ read ∷ at.behind) is
          ∙ append_assoc before (published ∷ Gives slot (Heap given pen) ∷ behind) (read ∷ at.behind)) in
          let moves : values_of who all.moved.moves ≡ moves_in before ++ Gave slot (Heap given pen) ∷ moves_in late =
          own_moves
          ∙ (ap moves_in whole ∙ flat_map-append move_in before (published ∷ Gives slot (Heap given pen) ∷ late)) in
          let now =
          given_at who slot (Heap given pen) end all.moved.moves (all_free all.moved.first) all.moved.replay (moves_in before) (moves_in late) moves
          in
          let goes = goes_from who index low end now.left now.next (moves_in late) now.replay (ap now.next.word (sym its) ∙ now.word) now.own in
          let front : history_of (now.next.value index) ≡ given.history = ap history_of (ap now.next.value (sym its) ∙ now.value) in
          let few : length given.history ≤ at.pair.entries =
          has.rising at.before at.behind index at.pair at.steps_are (pair_of given)
          (published_among index slot at.before before (Gives slot (Heap given pen) ∷ behind) (pair_of given) its is) in
          let count : counted.entries ≡ at.pair.entries = ap (λ (c : Counted). c.entries) at.is in
          record {
            front = history_of (now.next.value index);
            own = own_in who index low end None (moves_in late);
            short = omega (arith, ap (λ (l : List Entry). length l) front, few, count);
            goes = subst (GoesOnWith who (own_in who index low end None (moves_in late)) (history_of (now.next.value index))) last_is goes;
            late = by_steps late ∙ (added_after who index behind (read ∷ at.behind) beside ∙ at.late);
          }

      by_fresh : IsFresh index at.before → IsOfFront who index first rest counted.entries heap.history
      by_fresh (IsFresh.never beside) = never_of beside
      by_fresh (IsFresh.given before given pen behind its is beside) = given_of before given pen behind its is beside

      of_front : IsOfFront who index first rest counted.entries heap.history
      of_front = by_fresh at.fresh

    heap_handed : (pen : PenView) → slice_get all.pens index ≡ Some pen → AreStatsHanded who (trace_of (all.courses who)) heap
    heap_handed pen its =
        stats_handed who heap pen (trace_of (all.courses who)) steps (all.closed.heaps_are.pen_at index heap pen there its).pairs
        (has.published index pen its) has.rising
        (λ counted first rest is. way_reads came.went.way came.went.adds index counted first rest is) of_front

  all_handed : All (AreStatsHanded who (trace_of (all.courses who))) heaps
  all_handed =
      all_from_places (AreStatsHanded who (trace_of (all.courses who))) heaps
      (λ slot heap there.
      let at = all.closed.heaps_are.at slot heap there in
      let here : slice_get heaps heap.plain.index ≡ Some heap = ap (slice_get heaps) at.index ∙ there in
      let pen = get_there all.pens heap.plain.index
      (omega (arith, slice_get_within heaps heap.plain.index heap here, all.closed.heaps_are.count, all.closed.heaps_are.pen_count)) in
      let below = at.below in
      let same = at.index in
      heap_handed heap (omega (arith, below, same)) here pen.0 pen.1)

-- who did no line read nothing
nothing_handed : (who : ℕ) (heap : HeapView) (trace : List Done) → trace ≡ [] → AreStatsHanded who trace heap
nothing_handed who heap trace none =
    subst (λ (trace : List Done). AreStatsHanded who trace heap) (sym none) (record {
      fronts = All-nil _;
      rising = λ i j d le within. absurd (omega (arith, within));
      own = λ first counted comes. absurd (nothing_among first comes.0 _ comes.1);
    })

pub stats_at_board : StatsAtBoard
stats_at_board workload answers heaps segs tables all read who =
    ⊎_elim
    (λ (below : who < workload.participants).
    let seat = get_there all.seats who (omega (arith, below, all.many)) in
    let table = get_there tables who (omega (arith, below, all.count)) in
    all_handed workload answers heaps segs tables all who seat.0 table.0 seat.1 table.1 (read who below))
    (λ (beyond : workload.participants ≤ who).
    all_from_places (AreStatsHanded who (trace_of (all.courses who))) heaps
    (λ slot heap there. nothing_handed who heap (trace_of (all.courses who)) (ap trace_of (all.no_lines who beyond))))
    (cases_lt who workload.participants)
