-- At a board the states of heaps that lines are handed are fronts of the histories, with the participant's own calls so far, and never grow shorter.
use Rattle.std.proofs.Common.{◌≡◌, ◌⊎◌, ◌∙◌, ℕ, ◌+◌, ◌<◌, ◌≤◌, ◌==◌, Bool, true, false, cond, eqb, eq-eqb, List, [], ◌∷◌, ◌++◌, append_assoc, filter_map, flat_map, length, length-append, map, take, Option, Some, None, inl, inr, ⊎_elim, refl, ap, sym, subst, arith}
use Rattle.core.specs.List.{cons_option}
use Rattle.std.specs.List.{All, slice_get}
use Rattle.std.proofs.lemmas.Bool.{cases_lt, cond-true, eqb-true}
use Rattle.std.proofs.lemmas.Grind.{flat_map-append}
use Rattle.std.proofs.lemmas.List.{take_at as take_front}
use Rattle.std.proofs.lemmas.List.Elements.{All-cons, All-nil}
use Rattle.std.proofs.lemmas.Option.{same_Some}
use Rattle.hp_base.specs.declared.limits.TheConstants.{MAX_HEAPS}
use Rattle.hp_board.specs.Closing.{handed_out}
use Rattle.hp_board.specs.MovesKept.{Replays, Slotted, all_free, slots_after}
use Rattle.hp_board.specs.SeatView.{SeatView}
use Rattle.hp_board.specs.Views.{values_of}
use Rattle.hp_board.specs.declared.view.Move.{Move}
use Rattle.hp_board.specs.declared.view.Move.TheVariants.{Took}
use Rattle.hp_chair.specs.FoundEmptyLaws.{nothing_among}
use Rattle.hp_chair.specs.Steps.{move_in, moves_in}
use Rattle.hp_hall.specs.Mail.{MailStep, Takes}
use Rattle.hp_hall.specs.Values.{history_of}
use Rattle.hp_hall.specs.declared.kept.Kept.TheVariants.{Heap}
use Rattle.hp_heap.specs.History.{HeapView, entries_of}
use Rattle.hp_heap.specs.declared.entry.Entry.{Entry}
use Rattle.hp_maps.specs.declared.table.Table.{Table}
use Rattle.hp_proc.specs.Courses.{calls_in}
use Rattle.hp_proc.specs.Doing.{Done}
use Rattle.hp_proc.specs.Doing.Done.{HeapSeen}
use Rattle.hp_proc.specs.Handed.{AreStatesHanded, IsFrontOf, state_seen}
use Rattle.hp_proc.specs.Histories.{entries_for}
use Rattle.hp_proc.specs.LinesDone.{trace_of}
use Rattle.hp_script.specs.declared.answer.Answer.{Answer}
use Rattle.hp_script.specs.declared.workload.Workload.{Workload}
use Rattle.hp_segs.specs.SegsView.{SegsView}
use Rattle.hp_stats.specs.StatViews.{PenView}
use Rattle.thm_run.proofs.HallFacts.HallHeaps.{all_from_places}
use Rattle.thm_run.proofs.PathSteps.Walked.{get_there}
use Rattle.thm_run.proofs.Rising.{Rises, seen_rising}
use Rattle.thm_run.specs.OwnLines.{added_in}
use Rattle.thm_moved.proofs.ClosedHeaps.{at_a_place}
use Rattle.thm_moved.proofs.HeapsHeld.{steps_heaps}
use Rattle.thm_moved.specs.AtBoard.{AllCameToTheirSeats, CameToItsSeat}
use Rattle.thm_home.proofs.GivenFronts.{goes_from, goes_held, kind_by}
use Rattle.thm_home.proofs.SeenStates.{IsSeenAt, way_seen}
use Rattle.thm_home.proofs.StatsAtBoard.{first_kind, left_heap}
use Rattle.thm_home.proofs.TakenFronts.{IsTakenAt, taken_at}

-- WHAT A TRACE SHOWS OF ONE HEAP

-- where a done thing shows a state of that heap, it is that
pub state_is : (index : ℕ) (done : Done) (history : List Entry) → state_seen index done ≡ Some history → done ≡ HeapSeen index history
state_is index (HeapSeen heap seen) history is = by_index (heap == index) refl is
  where
    by_index : (same : Bool) → (heap == index) ≡ same → cond same (Some seen) None ≡ Some history → HeapSeen heap seen ≡ HeapSeen index history
    by_index true its is =
        ap (λ (n : ℕ). HeapSeen n seen) (eqb-true heap index its) ∙ ap (λ (l : List Entry). HeapSeen index l) (same_Some seen history is)
    by_index false its is = cc
state_is index _ history is = cc

module _ (who : ℕ) (heap : HeapView) (trace : List Done)
    (fronts : (history : List Entry) (first rest : List Done) → trace ≡ first ++ HeapSeen heap.plain.index history ∷ rest
    → (more : List Entry) × (heap.history ≡ history ++ more))
    (later : (history other : List Entry) (first rest early between : List Done) → trace ≡ first ++ HeapSeen heap.plain.index history ∷ rest
    → first ≡ early ++ HeapSeen heap.plain.index other ∷ between → length other ≤ length history)
    (own : (history : List Entry) (first rest : List Done) → trace ≡ first ++ HeapSeen heap.plain.index history ∷ rest
    → entries_of who history ≡ entries_for who heap.plain.index 1 (calls_in first)) where
  abbrev index : ℕ
  index = heap.plain.index

  abbrev states_in : List Done → List (List Entry)
  states_in done = filter_map (state_seen index) done

  front_of : (history : List Entry) (first rest : List Done) → trace ≡ first ++ HeapSeen index history ∷ rest → IsFrontOf heap.history history
  front_of history first rest is =
      let its = fronts history first rest is in
      ap (take (length history)) its.1 ∙ take_front history its.0 (length history) refl

  short : (history : List Entry) (first rest : List Done) → trace ≡ first ++ HeapSeen index history ∷ rest
      → length history ≤ length heap.history
  short history first rest is =
      let its = fronts history first rest is in
      let long = ap length its.1 in
      let both = length-append history its.0 in
      omega (arith, long, both)

  fronts_on : (first rest : List Done) → trace ≡ first ++ rest → All (IsFrontOf heap.history) (states_in rest)
  fronts_on first [] is = All-nil (IsFrontOf heap.history)
  fronts_on first (done ∷ rest) is =
      by_seen (fronts_on (first ++ done ∷ []) rest (is ∙ sym (append_assoc first (done ∷ []) rest))) (state_seen index done) refl
    where
      by_seen : All (IsFrontOf heap.history) (states_in rest) → (seen : Option (List Entry)) → state_seen index done ≡ seen
          → All (IsFrontOf heap.history) (states_in (done ∷ rest))
      by_seen further None none =
          subst (λ (seen : Option (List Entry)). All (IsFrontOf heap.history) (cons_option seen (states_in rest))) (sym none) further
      by_seen further (Some history) some =
          subst (λ (seen : Option (List Entry)). All (IsFrontOf heap.history) (cons_option seen (states_in rest))) (sym some)
          (All-cons (IsFrontOf heap.history) history (states_in rest)
          (front_of history first rest (is ∙ ap (λ (one : Done). first ++ one ∷ rest) (state_is index done history some))) further)

  -- and they rise: nothing was handed so far, or that
  record WasSeen (first : List Done) (floor : ℕ) : Type 0 where
    history : List Entry
    early : List Done
    between : List Done
    is : first ≡ early ++ HeapSeen index history ∷ between
    count : length history ≡ floor

  abbrev IsFloor : List Done → ℕ → Type 0
  IsFloor first floor = (floor ≡ 0) ⊎ WasSeen first floor

  floor_on : (first : List Done) (done : Done) (floor : ℕ) → IsFloor first floor → IsFloor (first ++ done ∷ []) floor
  floor_on first done floor (inl none) = inl none
  floor_on first done floor (inr was) =
      inr (record {
        history = was.history;
        early = was.early;
        between = was.between ++ done ∷ [];
        is = ap (λ (l : List Done). l ++ done ∷ []) was.is
            ∙ append_assoc was.early (HeapSeen index was.history ∷ was.between) (done ∷ []);
        count = was.count;
      })

  floor_below : (first rest : List Done) (floor : ℕ) → trace ≡ first ++ rest → IsFloor first floor → floor ≤ length heap.history
  floor_below first rest floor is (inl none) = omega (arith, none)
  floor_below first rest floor is (inr was) =
      let within =
      short was.history was.early (was.between ++ rest)
      (is ∙ (ap (λ (l : List Done). l ++ rest) was.is ∙ append_assoc was.early (HeapSeen index was.history ∷ was.between) rest)) in
      let count = was.count in
      omega (arith, within, count)

  floor_under : (history : List Entry) (first rest : List Done) (floor : ℕ) → trace ≡ first ++ HeapSeen index history ∷ rest
      → IsFloor first floor → floor ≤ length history
  floor_under history first rest floor is (inl none) = omega (arith, none)
  floor_under history first rest floor is (inr was) =
      let least = later history was.history first rest was.early was.between is was.is in
      let count = was.count in
      omega (arith, least, count)

  rises_on : (first rest : List Done) → trace ≡ first ++ rest → (floor : ℕ) → IsFloor first floor
      → Rises floor (length heap.history) (map length (states_in rest))
  rises_on first [] is floor its = floor_below first [] floor is its
  rises_on first (done ∷ rest) is floor its =
      by_seen (rises_on (first ++ done ∷ []) rest (is ∙ sym (append_assoc first (done ∷ []) rest))) (state_seen index done) refl
    where
      by_seen : ((floor : ℕ) → IsFloor (first ++ done ∷ []) floor → Rises floor (length heap.history) (map length (states_in rest)))
          → (seen : Option (List Entry)) → state_seen index done ≡ seen
          → Rises floor (length heap.history) (map length (states_in (done ∷ rest)))
      by_seen on None none =
          subst (λ (seen : Option (List Entry)). Rises floor (length heap.history) (map length (cons_option seen (states_in rest)))) (sym none)
          (on floor (floor_on first done floor its))
      by_seen on (Some history) some =
          let done_is : done ≡ HeapSeen index history = state_is index done history some in
          let here : trace ≡ first ++ HeapSeen index history ∷ rest = is ∙ ap (λ (one : Done). first ++ one ∷ rest) done_is in
          subst (λ (seen : Option (List Entry)). Rises floor (length heap.history) (map length (cons_option seen (states_in rest)))) (sym some) (
            floor_under history first rest floor here its,
            on (length history)
                (inr (record {
                  history = history;
                  early = first;
                  between = [];
                  is = ap (λ (one : Done). first ++ one ∷ []) done_is;
                  count = refl;
                })),
          )

  pub states_handed : AreStatesHanded who trace heap
  states_handed = record {
    fronts = fronts_on [] trace refl;
    rising = (seen_rising (length heap.history) (map length (states_in trace)) (rises_on [] trace refl 0 (inl refl))).rising;
    own = λ first history comes. own history first comes.0 comes.1;
  }

-- AT A BOARD

module _ (workload : Workload) (answers : List Answer) (heaps : List HeapView) (segs : SegsView) (tables : List Table)
    (all : AllCameToTheirSeats workload answers heaps segs tables) (who : ℕ) (seat : SeatView) (table : Table)
    (sat : slice_get all.seats who ≡ Some seat) (left : slice_get tables who ≡ Some table) where
  abbrev steps : List MailStep
  steps = all.steps who

  abbrev end : Slotted
  end = all_free all.moved.last

  abbrev begin : Slotted
  begin = all_free all.moved.first

  came : CameToItsSeat workload who (all.first who) (all.last who) (all.courses who) steps seat table
  came = all.home who seat table sat left

  own_moves : values_of who all.moved.moves ≡ moves_in steps
  own_moves =
      ap (λ (other : ℕ). values_of other all.moved.moves) (sym came.whose)
      ∙ (all.moved.own seat (at_a_place all.seats who seat sat) ∙ came.moves)

  module _ (heap : HeapView) (low : heap.plain.index < MAX_HEAPS) (there : slice_get heaps heap.plain.index ≡ Some heap) where
    abbrev its : ℕ
    its = heap.plain.index

    last_is : history_of (all.moved.last its) ≡ heap.history
    last_is =
        let kind = kind_by who its low end all.moved.moves begin all.moved.replay
        (first_kind all.opening its (all.moved.first its) low (all.moved.opened its (omega (arith, low))).at) in
        left_heap (handed_out heaps all.pens segs all.names) its (all.moved.last its) heap kind (all.moved.left its (omega (arith, low))) there

    -- where it took the heap
    taken : (one : HeapView) (pen : PenView) (some before behind : List MailStep) (moves : List (ℕ × Move)) (last : Slotted) → one.plain.index ≡ its
        → some ≡ before ++ Takes one.plain.index (Heap one pen) ∷ behind → Replays begin moves last → values_of who moves ≡ moves_in some
        → IsTakenAt who its (Heap one pen) (moves_in before) (moves_in behind) begin last
    taken one pen some before behind moves last same is replay own =
        taken_at who its (Heap one pen) last moves begin replay (moves_in before) (moves_in behind)
        (own
        ∙ (ap moves_in is
        ∙ (flat_map-append move_in before (Takes one.plain.index (Heap one pen) ∷ behind)
        ∙ ap (λ (n : ℕ). moves_in before ++ Took n (Heap one pen) ∷ moves_in behind) same)))

    -- from then on the history goes on from that
    goes_on : (one : HeapView) (pen : PenView) (before behind : List Move) (last : Slotted) → IsTakenAt who its (Heap one pen) before behind begin last
        → (more : List Entry) × (history_of (last.value its) ≡ one.history ++ more)
    goes_on one pen before behind last at =
        let next : Slotted = slots_after who (Took its (Heap one pen)) at.now in
        let value : history_of (next.value its) ≡ one.history = ap history_of (sym at.takes.2) in
        let goes = goes_held who its low last at.left next behind one at.replay
        (cond-true (eqb its its) (who + 1) (at.now.word its) (eq-eqb its its refl)) value at.own_behind in
        (goes.more, goes.is ∙ ap (λ (l : List Entry). l ++ goes.more) value)

    module _ (history : List Entry) (first rest : List Done) (is : trace_of (all.courses who) ≡ first ++ HeapSeen its history ∷ rest) where
      at : IsSeenAt who its first history steps
      at = way_seen came.went.way came.went.adds its history first rest is

      now : IsTakenAt who its (Heap at.taken.heap at.taken.pen) (moves_in at.taken.before) (moves_in at.taken.behind) begin end
      now =
          taken at.taken.heap at.taken.pen steps at.taken.before at.taken.behind all.moved.moves end at.taken.index_is at.taken.steps_are
          all.moved.replay own_moves

      front : (more : List Entry) × (heap.history ≡ history ++ more)
      front =
          let goes = goes_on at.taken.heap at.taken.pen (moves_in at.taken.before) (moves_in at.taken.behind) end now in
          (goes.0, sym last_is ∙ (goes.1 ∙ ap (λ (l : List Entry). l ++ goes.0) at.taken.history_is))

      -- it had its own calls by then
      own : entries_of who history ≡ entries_for who its 1 (calls_in first)
      own =
          let goes = goes_from who its low now.now now.early begin (moves_in at.taken.before) now.until refl now.own_before in
          let empty : history_of (all.moved.first its) ≡ [] = (all.moved.opened its (omega (arith, low))).empty in
          let value : history_of (now.now.value its) ≡ at.taken.heap.history = ap history_of (sym now.takes.2) in
          let whole : history ≡ goes.more =
          sym at.taken.history_is ∙ (sym value ∙ (goes.is ∙ ap (λ (l : List Entry). l ++ goes.more) empty)) in
          ap (entries_of who) whole
          ∙ (goes.owned ∙ (ap (flat_map added_in) (steps_heaps who its None at.taken.before) ∙ at.made))

      -- and what it was handed before is shorter
      later : (other : List Entry) (early between : List Done) → first ≡ early ++ HeapSeen its other ∷ between → length other ≤ length history
      later other early between also =
          let seen = at.shown other early between also in
          let before =
          taken seen.heap seen.pen at.taken.before seen.before seen.behind now.early now.now seen.index_is seen.steps_are now.until now.own_before
          in
          let goes = goes_on seen.heap seen.pen (moves_in seen.before) (moves_in seen.behind) now.now before in
          let value : history_of (now.now.value its) ≡ at.taken.heap.history = ap history_of (sym now.takes.2) in
          let whole : history ≡ other ++ goes.0 =
          sym at.taken.history_is ∙ (sym value ∙ (goes.1 ∙ ap (λ (l : List Entry). l ++ goes.0) seen.history_is)) in
          let long = ap length whole in
          let both = length-append other goes.0 in
          omega (arith, long, both)

    heap_handed : AreStatesHanded who (trace_of (all.courses who)) heap
    heap_handed =
        states_handed who heap (trace_of (all.courses who)) front (λ history other first rest early between is also. later history first rest is other early between also)
        own

  all_handed : All (AreStatesHanded who (trace_of (all.courses who))) heaps
  all_handed =
      all_from_places (AreStatesHanded who (trace_of (all.courses who))) heaps
      (λ slot heap there.
      let at = all.closed.heaps_are.at slot heap there in
      let below = at.below in
      let same = at.index in
      heap_handed heap (omega (arith, below, same)) (ap (slice_get heaps) at.index ∙ there))

-- who did no line was handed none
nothing_seen : (who : ℕ) (heap : HeapView) (trace : List Done) → trace ≡ [] → AreStatesHanded who trace heap
nothing_seen who heap trace none =
    subst (λ (trace : List Done). AreStatesHanded who trace heap) (sym none) (record {
      fronts = All-nil (IsFrontOf heap.history);
      rising = λ i j d le within. absurd (omega (arith, within));
      own = λ first history comes. absurd (nothing_among first comes.0 (HeapSeen heap.plain.index history) comes.1);
    })

-- what each was handed of the states of heaps
abbrev pub StatesAtBoard : Type 0
StatesAtBoard = (workload : Workload) (answers : List Answer) (heaps : List HeapView) (segs : SegsView) (tables : List Table)
    (all : AllCameToTheirSeats workload answers heaps segs tables) (who : ℕ) → All (AreStatesHanded who (trace_of (all.courses who))) heaps

pub states_at_board : StatesAtBoard
states_at_board workload answers heaps segs tables all who =
    ⊎_elim
    (λ (below : who < workload.participants).
    let seat = get_there all.seats who (omega (arith, below, all.many)) in
    let table = get_there tables who (omega (arith, below, all.count)) in
    all_handed workload answers heaps segs tables all who seat.0 table.0 seat.1 table.1)
    (λ (beyond : workload.participants ≤ who).
    all_from_places (AreStatesHanded who (trace_of (all.courses who))) heaps
    (λ slot heap there. nothing_seen who heap (trace_of (all.courses who)) (ap trace_of (all.no_lines who beyond))))
    (cases_lt who workload.participants)
