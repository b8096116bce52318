-- What participants were handed after they awaited first lines of others holds what these lines changed: the names all that they were shown, and the
-- states of heaps all their calls.
use Rattle.std.proofs.Common.{◌≡◌, ◌∙◌, ℕ, zero, suc, ◌+◌, ◌<◌, ◌≤◌, ◌⊎◌, List, [], ◌∷◌, ◌++◌, Contains, drop, filter_map, length, take, Option, Some, None, inl, inr, ⊎_elim, refl, ap, sym, subst, arith}
use Rattle.std.specs.List.{All, slice_get}
use Rattle.std.proofs.lemmas.Bool.{cases_lt}
use Rattle.std.proofs.lemmas.Grind.{flat_map-append}
use Rattle.std.proofs.lemmas.List.{take-append-drop}
use Rattle.std.proofs.lemmas.List.Elements.{All-contains, Contains-append_right, filter_map-append}
use Rattle.core.specs.List.{cons_option}
use Rattle.hp_board.specs.Lines.{made_by_then}
use Rattle.hp_board.specs.Views.{BeginsWith}
use Rattle.hp_board.specs.declared.view.Mine.{Mine}
use Rattle.hp_hall.specs.declared.kept.Kept.TheVariants.{Heap}
use Rattle.hp_heap.proofs.AllocFacts.ChoiceLaw.{Contains-cases, Contains-none}
use Rattle.hp_heap.specs.History.{HeapView, entries_of}
use Rattle.hp_heap.specs.declared.entry.Entry.{Entry}
use Rattle.hp_maps.specs.declared.table.Table.{Table}
use Rattle.hp_script.specs.declared.answer.Answer.{Answer}
use Rattle.hp_script.specs.declared.line.Act.TheVariants as act
use Rattle.hp_script.specs.declared.workload.Workload.{Workload}
use Rattle.hp_segs.specs.SegsView.{SegsView}
use Rattle.hp_proc.specs.AwaitedNames.{HoldCallsOf, ReadsOn, names_read}
use Rattle.hp_proc.specs.Courses.{calls_in}
use Rattle.hp_proc.specs.Doing.{Done}
use Rattle.hp_proc.specs.Doing.Done.{HeapSeen, NamesRead}
use Rattle.hp_proc.specs.Handed.{AreStatesHanded, IsFrontOf, names_shown, state_seen}
use Rattle.hp_proc.specs.Histories.{entries_for}
use Rattle.hp_proc.specs.LinesDone.{Course, trace_of}
use Rattle.hp_proc.specs.SharedNames.{SharedNames, no_changes}
use Rattle.thm_run.proofs.HallFacts.HallHeaps.{all_from_places}
use Rattle.thm_moved.proofs.AwaitedAtBoard.{behind_front, first_made, its, looked_up, mine}
use Rattle.thm_moved.proofs.CameToBoard.{came, its_seat}
use Rattle.thm_moved.proofs.ClosedHeaps.{at_a_place}
use Rattle.thm_moved.proofs.NamesAwaited.{names_since}
use Rattle.thm_moved.proofs.OwnEntries.{AreAbove, all_above, stands_before}
use Rattle.thm_moved.specs.AtBoard.{AllCameToTheirSeats, HasLooked}
use Rattle.thm_home.proofs.StatesAtBoard.{state_is, states_at_board}

-- what is said of a line that awaits, by the lines of each participant
pub record IsAwaitedBy (own : ℕ → List Course) (heaps : List HeapView) (who place other lines : ℕ) : Type 0 where
  pub names : ReadsOn (names_shown no_changes (trace_of (take lines (own other)))) (filter_map names_read (trace_of (drop place (own who))))
  pub states : All (HoldCallsOf other (length (calls_in (trace_of (take lines (own other))))) (trace_of (drop place (own who)))) heaps

abbrev pub HaveAwaitedFor : (ℕ → List Course) → List HeapView → Type 0
HaveAwaitedFor own heaps = (who place other lines : ℕ) (course : Course) → slice_get (own who) place ≡ Some course
    → course.line.act ≡ act.Await other lines → IsAwaitedBy own heaps who place other lines

-- WHERE SOMETHING IS HANDED

abbrev IsAmong : Done → List Done → Type 0
IsAmong done trace = (first : List Done) × (rest : List Done) × (trace ≡ first ++ done ∷ rest)

among_more : (done one : Done) (trace : List Done) → IsAmong done trace → IsAmong done (one ∷ trace)
among_more done one trace among = (one ∷ among.0, among.1, ap (λ (l : List Done). one ∷ l) among.2)

read_at : (trace : List Done) (shown : SharedNames) → Contains (filter_map names_read trace) shown → IsAmong (NamesRead shown) trace
read_at [] shown has = absurd (Contains-none shown has)
read_at (NamesRead names ∷ trace) shown has = elim (Contains-cases names shown (filter_map names_read trace) has) [
  | inl is ↦ ([], trace, ap (λ (names : SharedNames). NamesRead names ∷ trace) is)
  | inr later ↦ among_more (NamesRead shown) (NamesRead names) trace (read_at trace shown later)
]
read_at (done ∷ trace) shown has = among_more (NamesRead shown) done trace (read_at trace shown has)

seen_at : (index : ℕ) (trace : List Done) (state : List Entry) → Contains (filter_map (state_seen index) trace) state
    → IsAmong (HeapSeen index state) trace
seen_at index [] state has = absurd (Contains-none state has)
seen_at index (done ∷ trace) state has = by_seen (λ has. seen_at index trace state has) (state_seen index done) refl has
  where
    by_seen : (Contains (filter_map (state_seen index) trace) state → IsAmong (HeapSeen index state) trace) → (seen : Option (List Entry))
        → state_seen index done ≡ seen → Contains (filter_map (state_seen index) (done ∷ trace)) state
        → IsAmong (HeapSeen index state) (done ∷ trace)
    by_seen further None none has =
        among_more (HeapSeen index state) done trace
        (further
        (subst (λ (seen : Option (List Entry)). Contains (cons_option seen (filter_map (state_seen index) trace)) state) none has))
    by_seen further (Some history) some has =
        elim (Contains-cases history state (filter_map (state_seen index) trace)
        (subst (λ (seen : Option (List Entry)). Contains (cons_option seen (filter_map (state_seen index) trace)) state) some has)) [
          | inl is ↦ (
            [],
            trace,
            ap (λ (one : Done). one ∷ trace) (state_is index done history some ∙ ap (λ (l : List Entry). HeapSeen index l) is),
          )
          | inr later ↦ among_more (HeapSeen index state) done trace (further later)
        ]

-- no lines, no first ones
none_first : (lines : ℕ) → take {A = Course} lines [] ≡ []
none_first zero = refl
none_first (suc lines) = refl

-- AT A BOARD

module _ (workload : Workload) (answers : List Answer) (heaps : List HeapView) (segs : SegsView) (tables : List Table)
    (all : AllCameToTheirSeats workload answers heaps segs tables) where
  module _ (who other place lines : ℕ) (below : who < workload.participants) (there : other < workload.participants)
      (looked : HasLooked who place other lines (all.courses who) (mine workload answers heaps segs tables all who other below there).mine) where
    abbrev calls : ℕ
    calls = length (calls_in (trace_of (take lines (all.courses other))))

    abbrev after : List Done
    after = trace_of (drop place (all.courses who))

    abbrev its_mine : Mine
    its_mine = (its workload answers heaps segs tables all who other below there).mine

    -- a state that was handed since is a front of the history
    front_since : (heap : HeapView) → Contains heaps heap → (state : List Entry) → Contains (filter_map (state_seen heap.plain.index) after) state
        → IsFrontOf heap.history state
    front_since heap among state has =
        let seen = state_seen heap.plain.index in
        let handed =
        All-contains (AreStatesHanded who (trace_of (all.courses who))) heaps heap (states_at_board workload answers heaps segs tables all who) among
        in
        let before = trace_of (take place (all.courses who)) in
        let whole : trace_of (all.courses who) ≡ before ++ after =
        ap trace_of (sym (take-append-drop place (all.courses who)))
        ∙ flat_map-append (λ (course : Course). course.trace) (take place (all.courses who)) (drop place (all.courses who)) in
        All-contains (IsFrontOf heap.history) (filter_map seen (trace_of (all.courses who))) state handed.fronts
        (subst (λ (l : List (List Entry)). Contains l state) (sym (ap (filter_map seen) whole ∙ filter_map-append seen before after))
        (Contains-append_right (filter_map seen before) (filter_map seen after) state has))

    state_holds : (heap : HeapView) → slice_get heaps heap.plain.index ≡ Some heap → HoldCallsOf other calls after heap
    state_holds heap at state has early entry stood whose few =
        let index : ℕ = heap.plain.index in
        let is = looked_up workload answers heaps segs tables all who other below there place lines looked in
        let came_two = came workload answers heaps segs tables all other there in
        let its_among = at_a_place all.seats other (its workload answers heaps segs tables all who other below there)
        (its_seat workload answers heaps segs tables all other there).1 in
        let split = seen_at index after state has in
        let got = looked.states index state split.0 split.1 split.2 in
        let holds : BeginsWith (entries_of its_mine.who got.0.history) (made_by_then index is.mark its_mine) =
        is.taken index (Heap got.0 got.1) got.3 in
        let begins : BeginsWith (entries_of other state) (made_by_then index is.mark its_mine) =
        subst (λ (n : ℕ). BeginsWith (entries_of n state) (made_by_then index is.mark its_mine)) came_two.whose
        (subst (λ (l : List Entry). BeginsWith (entries_of its_mine.who l) (made_by_then index is.mark its_mine)) got.2 holds) in
        let enough = looked.enough in
        let many = is.lines in
        let first =
        first_made other index lines (all.courses other) its_mine is.mark (came_two.told is.mark is.told) (omega (arith, enough, many))
        (entries_of other state) begins in
        let back = drop (length state) heap.history in
        let whole : heap.history ≡ state ++ back =
        sym (take-append-drop (length state) heap.history)
        ∙ ap (λ (l : List Entry). l ++ back) (front_since heap (at_a_place heaps index heap at) state has) in
        let own : entries_of other (state ++ back) ≡ entries_for other index 1 (calls_in (trace_of (all.courses other))) =
        ap (entries_of other) (sym whole)
        ∙ (ap (λ (n : ℕ). entries_of n heap.history) (sym came_two.whose)
        ∙ ((all.closed.calls (its workload answers heaps segs tables all who other below there) its_among).own index heap at ∙ came_two.made index))
        in
        stands_before other calls early state back entry (behind_front other index lines (all.courses other) state back own first)
        (subst (λ (l : List Entry). slice_get l early ≡ Some entry) whole stood) whose few

    since : IsAwaitedBy all.courses heaps who place other lines
    since = record {
      names = λ shown read has reads.
          let split = read_at after read reads in
          names_since workload answers heaps segs tables all who other place lines below there looked shown read split.0 split.1 has split.2;
      states = all_from_places (HoldCallsOf other calls after) heaps
          (λ slot heap at.
          let stood = all.closed.heaps_are.at slot heap at in
          state_holds heap (ap (slice_get heaps) stood.index ∙ at));
    }

  -- who isn't there did nothing
  module _ (who other place lines : ℕ) (beyond : workload.participants ≤ other) where
    nothing_since : IsAwaitedBy all.courses heaps who place other lines
    nothing_since =
        let none : take lines (all.courses other) ≡ [] = ap (take lines) (all.no_lines other beyond) ∙ none_first lines in
        record {
          names = λ shown read has reads.
              absurd
              (Contains-none shown (subst (λ (l : List Course). Contains (names_shown no_changes (trace_of l)) shown) none has));
          states = all_from_places
              (HoldCallsOf other (length (calls_in (trace_of (take lines (all.courses other))))) (trace_of (drop place (all.courses who)))) heaps
              (λ slot heap at state has early entry stood whose few.
              let calls : ℕ = length (calls_in (trace_of (take lines (all.courses other)))) in
              let strange = all.closed.heaps_are.strange other slot heap (omega (arith, beyond, all.opens.count)) at in
              let above : AreAbove other calls heap.history = all_above other calls heap.history (subst (AreAbove other calls) (sym strange) tt) in
              let never = stands_before other calls early [] heap.history entry above stood whose few in
              absurd (omega (arith, never)));
        }

  pub awaited_for_at_board : HaveAwaitedFor all.courses heaps
  awaited_for_at_board who place other lines course there awaits =
      ⊎_elim (λ (below : who < workload.participants). by_other below (cases_lt other workload.participants))
      (λ (beyond : workload.participants ≤ who).
      absurd (none_there place (subst (λ (courses : List Course). slice_get courses place ≡ Some course) (all.no_lines who beyond) there)))
      (cases_lt who workload.participants)
    where
      none_there : (place : ℕ) → slice_get [] place ≡ Some course → ⊥
      none_there place at = cc

      by_other : who < workload.participants → (other < workload.participants) ⊎ (workload.participants ≤ other)
          → IsAwaitedBy all.courses heaps who place other lines
      by_other below (inl declared) =
          since who other place lines below declared
          ((came workload answers heaps segs tables all who below).looked place other lines course there awaits)
      by_other below (inr beyond) = nothing_since who other place lines beyond
