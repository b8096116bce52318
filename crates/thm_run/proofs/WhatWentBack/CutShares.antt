-- What was cut from all heaps is what the calls of all participants cut: each history has each one's entries, and of nobody else.
use Rattle.std.proofs.Common.{◌≡◌, ◌≢◌, ◌∙◌, ◌==◌, ℕ, suc, ◌+◌, ◌<◌, ◌≤◌, inl, inr, Bool, List, [], ◌∷◌, ◌++◌, length, Some, if◌then◌else◌, refl, ap, sym, subst, arith, eq-eqb, ne_eqb}
use Rattle.std.specs.List.{All, filter, flat_map, range_with_len, slice_get}
use Rattle.std.specs.List.Sorted.{IsPermutation}
use Rattle.std.proofs.lemmas.Bool.{cases_lt}
use Rattle.std.proofs.lemmas.List.Elements.{All-cons, All-head, All-nil, All-tail}
use Rattle.std.proofs.lemmas.List.Sorted.{IsPermutation-append, IsPermutation-append_right, IsPermutation-refl, IsPermutation-sym, IsPermutation-trans}
use Rattle.hp_base.specs.declared.row.Run.{Run}
use Rattle.hp_heap.specs.History.{HeapView, entries_of}
use Rattle.hp_heap.specs.declared.entry.Entry.{Entry}
use Rattle.hp_proc.specs.Courses.{calls_in}
use Rattle.hp_proc.specs.Doing.{Done}
use Rattle.hp_proc.specs.Ends.{KeepsCalls}
use Rattle.hp_heap.specs.HistoryLaws.{run_cut, runs_cut}
use Rattle.hp_proc.specs.Histories.{entries_for}
use Rattle.thm_run.proofs.WhatWentBack.CutRuns.{at_heap, calls_within, cuts_at, cuts_by, cuts_by_heap, cuts_in, flat_map_alike, flat_map_parts, picked_once}

module _ {X A : Type 0} where
  -- pieces that have the same elements
  flat_map_moved : (one other : X → List A) (xs : List X) → ((x : X) → IsPermutation (one x) (other x))
      → IsPermutation (flat_map one xs) (flat_map other xs)
  flat_map_moved one other [] moved = IsPermutation-refl []
  flat_map_moved one other (x ∷ xs) moved =
      IsPermutation-append (one x) (other x) (flat_map one xs) (flat_map other xs) (moved x) (flat_map_moved one other xs moved)

  -- pieces that are nothing
  flat_map_none : (xs : List X) → flat_map {A = A} (λ (x : X). []) xs ≡ []
  flat_map_none [] = refl
  flat_map_none (x ∷ xs) = flat_map_none xs

module _ {X Y A : Type 0} (piece : X → Y → List A) where
  -- pieces row by row are those column by column
  flat_map_across : (xs : List X) (ys : List Y)
      → IsPermutation (flat_map (λ x. flat_map (piece x) ys) xs) (flat_map (λ y. flat_map (λ x. piece x y) xs) ys)
  flat_map_across [] ys = subst (IsPermutation []) (sym (flat_map_none ys)) (IsPermutation-refl [])
  flat_map_across (x ∷ xs) ys =
      let behind = flat_map (λ y. flat_map (λ x. piece x y) xs) ys in
      let all = flat_map (λ y. piece x y ++ flat_map (λ x. piece x y) xs) ys in
      IsPermutation-trans (flat_map (piece x) ys ++ flat_map (λ x. flat_map (piece x) ys) xs) (flat_map (piece x) ys ++ behind) all
      (IsPermutation-append_right (flat_map (piece x) ys) (flat_map (λ x. flat_map (piece x) ys) xs) behind (flat_map_across xs ys))
      (IsPermutation-sym all (flat_map (piece x) ys ++ behind)
      (flat_map_parts (piece x) (λ y. flat_map (λ x. piece x y) xs) ys))

-- the runs that a participant's entries of a history cut
abbrev cuts_for : List Entry → ℕ → List Run
cuts_for entries who = runs_cut (entries_of who entries)

module _ (entry : Entry) (entries : List Entry) where
  -- those of the first entry, where it is the participant's, and then of the others
  first_cuts : (who : ℕ)
      → cuts_for (entry ∷ entries) who ≡ at_heap entry.caller.participant (run_cut entry.answer) who ++ cuts_for entries who
  unfolding entries_of
  first_cuts who = cuts_by (entry.caller.participant == who) entry (filter (λ (e : Entry). e.caller.participant == who) entries)

  kept_by : (who : ℕ) → entry.caller.participant ≡ who → entries_of who (entry ∷ entries) ≡ entry ∷ entries_of who entries
  unfolding entries_of
  kept_by who own =
      ap (λ (is : Bool). if is then entry ∷ filter (λ (e : Entry). e.caller.participant == who) entries
      else filter (λ (e : Entry). e.caller.participant == who) entries) (eq-eqb entry.caller.participant who own)

  left_by : (who : ℕ) → entry.caller.participant ≢ who → entries_of who (entry ∷ entries) ≡ entries_of who entries
  unfolding entries_of
  left_by who other =
      ap (λ (is : Bool). if is then entry ∷ filter (λ (e : Entry). e.caller.participant == who) entries
      else filter (λ (e : Entry). e.caller.participant == who) entries) (ne_eqb entry.caller.participant who other)

no_cuts_in_none : (who : ℕ) → cuts_for [] who ≡ []
unfolding entries_of runs_cut
no_cuts_in_none who = refl

-- the entry is of one of so many participants
abbrev pub IsOfFirst : ℕ → Entry → Type 0
IsOfFirst count entry = entry.caller.participant < count

-- what a history of so many participants cut is what the entries of each cut
shares : (count : ℕ) (entries : List Entry) → All (IsOfFirst count) entries
    → IsPermutation (runs_cut entries) (flat_map (cuts_for entries) (range_with_len 0 count))
unfolding runs_cut
shares count [] are =
    subst (IsPermutation [])
    (sym (flat_map_alike (cuts_for []) (λ who. []) (range_with_len 0 count) no_cuts_in_none ∙ flat_map_none (range_with_len 0 count)))
    (IsPermutation-refl [])
shares count (entry ∷ entries) are =
    let runs = run_cut entry.answer in
    let here = at_heap entry.caller.participant runs in
    let rest = cuts_for entries in
    let all = range_with_len 0 count in
    let whole : flat_map (cuts_for (entry ∷ entries)) all ≡ flat_map (λ who. here who ++ rest who) all =
    flat_map_alike (cuts_for (entry ∷ entries)) (λ who. here who ++ rest who) all (first_cuts entry entries) in
    let first : flat_map here all ≡ runs =
    picked_once entry.caller.participant runs 0 count (omega arith)
    (omega (arith, All-head (IsOfFirst count) entry entries are)) in
    let joined : IsPermutation (flat_map (λ who. here who ++ rest who) all) (runs ++ flat_map rest all) =
    subst (λ front. IsPermutation (flat_map (λ who. here who ++ rest who) all) (front ++ flat_map rest all)) first
    (flat_map_parts here rest all) in
    subst (IsPermutation (runs ++ runs_cut entries)) (sym whole)
    (IsPermutation-trans (runs ++ runs_cut entries) (runs ++ flat_map rest all) (flat_map (λ who. here who ++ rest who) all)
    (IsPermutation-append_right runs (runs_cut entries) (flat_map rest all)
    (shares count entries (All-tail (IsOfFirst count) entry entries are)))
    (IsPermutation-sym (flat_map (λ who. here who ++ rest who) all) (runs ++ flat_map rest all) joined))

-- where nobody else has an entry, the first is of one of them
first_within : (count : ℕ) (entry : Entry) (entries : List Entry)
    → ((who : ℕ) → count ≤ who → entries_of who (entry ∷ entries) ≡ []) → entry.caller.participant < count
first_within count entry entries none =
    elim (cases_lt entry.caller.participant count) [
      | inl within ↦ within
      | inr beyond ↦
          let kept : entry ∷ entries_of entry.caller.participant entries ≡ [] =
          sym (kept_by entry entries entry.caller.participant refl) ∙ none entry.caller.participant (omega (arith, beyond)) in
          cc
    ]

-- and so are all
all_within : (count : ℕ) (entries : List Entry) → ((who : ℕ) → count ≤ who → entries_of who entries ≡ []) → All (IsOfFirst count) entries
all_within count [] none = All-nil (IsOfFirst count)
all_within count (entry ∷ entries) none =
    let within = first_within count entry entries none in
    All-cons (IsOfFirst count) entry entries within
    (all_within count entries
    (λ who beyond. sym (left_by entry entries who (λ same. omega (arith, same, within, beyond))) ∙ none who beyond))

-- so many participants did this, and nobody else anything; none of their calls is of a heap that isn't there
pub record AreTheirs (count heaps : ℕ) (did : ℕ → List Done) : Type 0 where
  pub none : (who : ℕ) → count ≤ who → did who ≡ []
  pub within : (who : ℕ) → who < count → (index : ℕ) → heaps ≤ index → entries_for who index 1 (calls_in (did who)) ≡ []

module _ (count : ℕ) (did : ℕ → List Done) (heaps : List HeapView) (theirs : AreTheirs count (length heaps) did)
    (kept : KeepsCalls did heaps) where
  -- the runs that a participant's calls cut from the heap of an index
  abbrev share : ℕ → ℕ → List Run
  share index who = cuts_at who 1 (calls_in (did who)) index

  of_none : (who index : ℕ) → did who ≡ [] → entries_for who index 1 (calls_in (did who)) ≡ []
  of_none who index none = ap (λ (trace : List Done). entries_for who index 1 (calls_in trace)) none

  no_calls_beyond : (who index : ℕ) → length heaps ≤ index → entries_for who index 1 (calls_in (did who)) ≡ []
  no_calls_beyond who index beyond =
      elim (cases_lt who count) [
        | inl below ↦ theirs.within who below index beyond
        | inr above ↦ of_none who index (theirs.none who (omega (arith, above)))
      ]

  -- a heap's history
  heap_shares : (index number : ℕ) (heap : HeapView) → 0 + index ≡ number → slice_get heaps index ≡ Some heap
      → IsPermutation (runs_cut heap.history) (flat_map (share number) (range_with_len 0 count))
  heap_shares index number heap at here =
      let same : index ≡ number = omega (arith, at) in
      subst (λ runs. IsPermutation (runs_cut heap.history) runs)
      (flat_map_alike (cuts_for heap.history) (share number) (range_with_len 0 count)
      (λ who. ap runs_cut (kept who index heap here) ∙ ap (λ index. share index who) same))
      (shares count heap.history
      (all_within count heap.history (λ who beyond. kept who index heap here ∙ of_none who index (theirs.none who beyond))))

  -- all histories, and all calls
  pub cuts_of_all : IsPermutation (flat_map (λ heap. runs_cut heap.history) heaps)
      (flat_map (λ who. cuts_in (did who)) (range_with_len 0 count))
  cuts_of_all =
      let all = range_with_len 0 count in
      let indices = range_with_len 0 (length heaps) in
      IsPermutation-trans (flat_map (λ heap. runs_cut heap.history) heaps) (flat_map (λ index. flat_map (share index) all) indices)
      (flat_map (λ who. cuts_in (did who)) all)
      (heaps_shares heaps 0 heap_shares)
      (IsPermutation-trans (flat_map (λ index. flat_map (share index) all) indices)
      (flat_map (λ who. flat_map (λ index. share index who) indices) all)
      (flat_map (λ who. cuts_in (did who)) all)
      (flat_map_across share indices all)
      (flat_map_moved (λ who. flat_map (λ index. share index who) indices) (λ who. cuts_in (did who)) all
      (λ who. cuts_by_heap who (length heaps) 1 (calls_in (did who))
      (calls_within who (length heaps) 1 (calls_in (did who)) (no_calls_beyond who)))))
    where
      heaps_shares : (some : List HeapView) (start : ℕ)
          → ((index number : ℕ) (heap : HeapView) → start + index ≡ number → slice_get some index ≡ Some heap
          → IsPermutation (runs_cut heap.history) (flat_map (share number) (range_with_len 0 count)))
          → IsPermutation (flat_map (λ heap. runs_cut heap.history) some)
          (flat_map (λ index. flat_map (share index) (range_with_len 0 count)) (range_with_len start (length some)))
      heaps_shares [] start moved = IsPermutation-refl []
      heaps_shares (heap ∷ some) start moved =
          IsPermutation-append (runs_cut heap.history) (flat_map (share start) (range_with_len 0 count))
          (flat_map (λ heap. runs_cut heap.history) some)
          (flat_map (λ index. flat_map (share index) (range_with_len 0 count)) (range_with_len (start + 1) (length some)))
          (moved 0 start heap (omega arith) refl)
          (heaps_shares some (start + 1) (λ index number heap is here. moved (suc index) number heap (omega (arith, is)) here))
