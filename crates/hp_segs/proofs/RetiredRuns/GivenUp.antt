-- Runs of the rows of one heap, as the log and its rows grow and shrink.
use Rattle.std.proofs.Common.{◌≡◌, ◌∙◌, ℕ, ◌+◌, ◌<◌, ◌≤◌, Bool, true, false, ◌&&◌, ◌||◌, ◌==◌, cond, List, [], ◌∷◌, ◌++◌, filter, get_or, refl, ap, sym, subst, arith, count_by, eq-eqb}
use Rattle.std.specs.List.{All, list_any}
use Rattle.std.proofs.lemmas.Bool.{and_from, and_parts, eqb-true, false_from_ne_true}
use Rattle.std.proofs.lemmas.List.Elements.{All-cons, All-head, All-tail, All-nil, All-append, All-filter, All-map}
use Rattle.hp_base.specs.declared.row.Row.{Row}
use Rattle.hp_base.specs.declared.row.Run.{Run}
use Rattle.hp_log.specs.Log.{IsAddFor}
use Rattle.hp_log.specs.Rows.{at_slot, in_run, is_row_at, rows_at}
use Rattle.hp_log.specs.declared.log_record.LogRecord.{LogRecord}
use Rattle.hp_log.proofs.Counts.{count_cons}
use Rattle.hp_segs.specs.Calls.{is_owned_at}
use Rattle.hp_segs.specs.SegsView.{is_agreed, is_owned_by, rows_in}
use Rattle.hp_segs.specs.SoundRows.{IsOfOneHeap, IsStateOf}
use Rattle.hp_segs.specs.declared.row_state.RowState.{RowState}
use Rattle.hp_segs.specs.declared.row_state.RowState.TheVariants.{Opened, Agreed, Owned, Retiring}
use Rattle.hp_segs.specs.declared.row_state.Segment.{Segment}
use Rattle.hp_segs.proofs.Finds.{count_mapped}
use Rattle.hp_segs.proofs.RowTables.HeapRows.{add_stays}
use Rattle.hp_segs.proofs.GrowthSteps.OpenLemmas.{slot_place}

-- records come after
pub one_heap_stays : (log more : List LogRecord) (rows : List Row) (run : Run) → IsOfOneHeap log rows run → IsOfOneHeap (log ++ more) rows run
one_heap_stays log more rows run old = record {
  heap = old.heap;
  each = λ k d within inside. add_stays log more (get_or rows k d).generation old.heap (old.each k d within inside);
}

-- rows go
pub one_heap_fewer : (log : List LogRecord) (rows : List Row) (p : Row → Bool) (run : Run) → IsOfOneHeap log rows run
    → IsOfOneHeap log (filter p rows) run
one_heap_fewer log rows p run old = record {
  heap = old.heap;
  each = All-filter p (λ row. in_run run row ≡ true → IsAddFor log row.generation old.heap) rows old.each;
}

-- rows come that are not at the run's slots
pub one_heap_more : (log : List LogRecord) (rows more : List Row) (run : Run) → All (λ row. in_run run row ≡ false) more
    → IsOfOneHeap log rows run → IsOfOneHeap log (rows ++ more) run
one_heap_more log rows more run outside old = record {
  heap = old.heap;
  each =
      All-append (λ row. in_run run row ≡ true → IsAddFor log row.generation old.heap) rows more old.each
      (λ k d within inside.
      let wrong : true ≡ false = sym inside ∙ outside k d within in
      cc);
}

module _ {X : Type 0} (p q : X → Bool) where
  one_by : (x : X) (xs : List X) (passes : Bool) → p x ≡ passes → count_by p (x ∷ xs) ≤ 1
      → ((passes && q x) || list_any (λ x. p x && q x) xs) ≡ true
      → (count_by p xs ≤ 1 → list_any (λ x. p x && q x) xs ≡ true → All (λ x. p x ≡ true → q x ≡ true) xs)
      → All (λ x. p x ≡ true → q x ≡ true) (x ∷ xs)
  one_by x xs true here once any rest =
      let one : ◌≡◌ {A = ℕ} (cond (p x) 1 0) 1 = ap (λ b. cond b 1 0) here in
      let none : count_by p xs ≡ 0 = omega (arith, once, one, count_cons p x xs) in
      let off : All (λ x. p x ≡ false) xs = none_pass xs none in
      let none_any : list_any (λ x. p x && q x) xs ≡ false = none_both xs off in
      All-cons (λ x. p x ≡ true → q x ≡ true) x xs (λ passes. or_first (q x) (list_any (λ x. p x && q x) xs) any none_any)
      (λ k d within passes.
      let wrong : true ≡ false = sym passes ∙ off k d within in
      cc)
    where
      or_first : (a b : Bool) → (a || b) ≡ true → b ≡ false → a ≡ true
      or_first true b any none = refl
      or_first false b any none = let wrong : true ≡ false = sym any ∙ none in cc

      none_pass : (xs : List X) → count_by p xs ≡ 0 → All (λ x. p x ≡ false) xs
      none_pass [] none = All-nil (λ x. p x ≡ false)
      none_pass (x ∷ xs) none =
          All-cons (λ x. p x ≡ false) x xs
          (false_from_ne_true (p x) (λ passes.
          let one : ◌≡◌ {A = ℕ} (cond (p x) 1 0) 1 = ap (λ b. cond b 1 0) passes in
          omega (arith, one, none, count_cons p x xs)))
          (none_pass xs (omega (arith, none, count_cons p x xs)))

      none_both : (xs : List X) → All (λ x. p x ≡ false) xs → list_any (λ x. p x && q x) xs ≡ false
      none_both [] off = refl
      none_both (x ∷ xs) off =
          ap (λ b. (b && q x) || list_any (λ x. p x && q x) xs) (All-head (λ x. p x ≡ false) x xs off)
          ∙ none_both xs (All-tail (λ x. p x ≡ false) x xs off)
  one_by x xs false here once any rest =
      let none : ◌≡◌ {A = ℕ} (cond (p x) 1 0) 0 = ap (λ b. cond b 1 0) here in
      All-cons (λ x. p x ≡ true → q x ≡ true) x xs
      (λ passes.
      let wrong : true ≡ false = sym passes ∙ here in
      cc)
      (rest (omega (arith, once, none, count_cons p x xs)) any)

  -- where at most one element passes, and one that passes has q, all that pass have q
  pub one_has : (xs : List X) → count_by p xs ≤ 1 → list_any (λ x. p x && q x) xs ≡ true → All (λ x. p x ≡ true → q x ≡ true) xs
  one_has [] once any = cc
  one_has (x ∷ xs) once any =
      one_by x xs (p x) refl once any (one_has xs)

or_second : (a b : Bool) → b ≡ true → (a || b) ≡ true
or_second true b is = refl
or_second false b is = is

any_weaker_by : {X : Type 0} (p q : X → Bool) (x : X) (xs : List X) (passes : Bool) → p x ≡ passes → (p x ≡ true → q x ≡ true)
    → (passes || list_any p xs) ≡ true → (list_any p xs ≡ true → list_any q xs ≡ true) → (q x || list_any q xs) ≡ true
any_weaker_by p q x xs true here each any rest = ap (λ b. b || list_any q xs) (each here)
any_weaker_by p q x xs false here each any rest = or_second (q x) (list_any q xs) (rest any)

any_weaker : {X : Type 0} (p q : X → Bool) (xs : List X) → ((x : X) → p x ≡ true → q x ≡ true) → list_any p xs ≡ true → list_any q xs ≡ true
any_weaker p q [] each any = cc
any_weaker p q (x ∷ xs) each any = any_weaker_by p q x xs (p x) refl (each x) any (any_weaker p q xs each)

owned_add : (log : List LogRecord) (generation heap : ℕ) (state : RowState) → is_owned_by heap state ≡ true → IsStateOf log generation state
    → IsAddFor log generation heap
owned_add log generation heap Opened owned is = cc
owned_add log generation heap (Agreed other) owned is = cc
owned_add log generation heap (Owned other) owned is = subst (IsAddFor log generation) (eqb-true other heap owned) is
owned_add log generation heap Retiring owned is = cc

owned_agreed : (heap : ℕ) (state : RowState) → is_owned_by heap state ≡ true → is_agreed state ≡ true → ⊥
owned_agreed heap Opened owned agreed = cc
owned_agreed heap (Agreed other) owned agreed = cc
owned_agreed heap (Owned other) owned agreed = cc
owned_agreed heap Retiring owned agreed = cc

owned_here : (heap : ℕ) (run : Run) (n : ℕ) (segment : Segment) → is_owned_at heap run n segment ≡ true
    → (at_slot run.list (run.first + n) segment.row && is_owned_by heap segment.state) ≡ true
owned_here heap run n segment is =
    let parts = and_parts (is_owned_by heap segment.state) (is_row_at run n segment.row) is in
    let list = and_parts (segment.row.list == run.list) _ parts.1 in
    let slot = and_parts (segment.row.slot == run.first + n) _ list.1 in
    and_from (at_slot run.list (run.first + n) segment.row) (is_owned_by heap segment.state)
    (and_from (segment.row.list == run.list) (segment.row.slot == run.first + n) list.0 slot.0) parts.0

module _ (segments : List Segment) (heap : ℕ) (run : Run) (once : (list slot : ℕ) → rows_at (rows_in segments) list slot ≤ 1)
    (owned : (n : ℕ) → n < run.count → list_any (is_owned_at heap run n) segments ≡ true) where
  -- where each slot of a run has a row of the heap, the rows at its slots are the heap's
  pub owned_all : All (λ segment. in_run run segment.row ≡ true → is_owned_by heap segment.state ≡ true) segments
  owned_all k d within inside =
      let row : Row = (get_or segments k d).row in
      let at = slot_place row.list row.slot run inside in
      let here : Segment → Bool = λ segment. at_slot run.list (run.first + at.0) segment.row in
      let its : Segment → Bool = λ segment. is_owned_by heap segment.state in
      let few : count_by here segments ≤ 1 =
      omega (arith, once run.list (run.first + at.0), count_mapped (at_slot run.list (run.first + at.0)) (λ (segment : Segment). segment.row) segments) in
      let any : list_any (λ segment. here segment && its segment) segments ≡ true =
      any_weaker (is_owned_at heap run at.0) (λ segment. here segment && its segment) segments (owned_here heap run at.0) (owned at.0 at.1) in
      one_has here its segments few any k d within
      (and_from (row.list == run.list) (row.slot == run.first + at.0) (eq-eqb row.list run.list at.2) (eq-eqb row.slot (run.first + at.0) at.3))

  -- they were added for it
  pub owned_one_heap : (log : List LogRecord) → All (λ segment. IsStateOf log segment.row.generation segment.state) segments
      → IsOfOneHeap log (rows_in segments) run
  owned_one_heap log heaps = record {
    heap = heap;
    each =
        All-map (λ row. in_run run row ≡ true → IsAddFor log row.generation heap) (λ (segment : Segment). segment.row) segments
        (λ k d within inside.
        owned_add log (get_or segments k d).row.generation heap (get_or segments k d).state (owned_all k d within inside) (heaps k d within));
  }

  -- and none is Agreed
  pub owned_none_agreed : All (λ segment. is_agreed segment.state ≡ true → in_run run segment.row ≡ false) segments
  owned_none_agreed k d within agreed =
      false_from_ne_true (in_run run (get_or segments k d).row)
      (λ inside. owned_agreed heap (get_or segments k d).state (owned_all k d within inside) agreed)
