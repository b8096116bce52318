-- A resize leaves every other busy element and every other zone as it was.
use Rattle.std.proofs.Common.{◌≡◌, ℕ, ◌+◌, ◌-◌, ◌≤◌, ◌⊎◌, Bool, true, false, cond, not, List, [], ◌∷◌, ◌++◌, refl, sym, ap, subst, ◌∙◌, inl, inr, arith, Option, Some, None, eqb, leb}
use Rattle.std.proofs.lemmas.Bool.{and_parts, and_from, cases_Bool, false≢true, eqb-true, eq-eqb, leb-true, leb-false, lt-leb, not-true}
use Rattle.std.specs.List.{AllByRecursion, filter, find}
use Rattle.std.specs.Option.{option_map}
use Rattle.hp_base.specs.declared.span.Span.{Span}
use Rattle.hp_base.specs.declared.span.SpanState.{SpanState}
use Rattle.hp_base.specs.declared.span.SpanState.TheVariants.{Free, Busy}
use Rattle.hp_heap.specs.PlainHeap.{PlainHeap, is_free, pad_of_state, data_address}
use Rattle.hp_heap.specs.Tiling.{IsTiled}
use Rattle.hp_heap.specs.Placing.{replaced}
use Rattle.hp_heap.specs.Joining.{has_data_at, busy_at, busy_ranges, zone_ranges}
use Rattle.hp_heap.specs.Resizing.{bytes_needed, bytes_together, next_free, with_size, resized, with_new_size, taken_over, after_resize, after_resize_of, can_resize, can_resize_of, CanAskSize}
use Rattle.hp_heap.specs.Laws.{ResizesAlone}
use Rattle.hp_heap.proofs.RangeLemmas.{AllByRecursion-weaker, replaced-at}
use Rattle.hp_heap.proofs.Members.{find_behind, find_some}
use Rattle.hp_heap.proofs.FreeFacts.FreeTiling.{IsAmong}
use Rattle.hp_heap.proofs.ResizeFacts.ResizeTiling.{free_resized, IsResizing, next_of, resizing_of, ranges_left}
use Rattle.hp_heap.proofs.HistoryFacts.BusyLemmas.{busy, elsewhere, before_data, others_elsewhere, zones_elsewhere}

-- another size leaves the pad
pad_resized : (size : ℕ) (state : SpanState) → pad_of_state (with_size size state) ≡ pad_of_state state
pad_resized size (Free stamp) = refl
pad_resized size (Busy pad old tag) = refl

-- what a resize leaves: the element with another whole size, and free ones, in the place of it and of free ones
pub record IsResized (address size : ℕ) (heap : PlainHeap) (r : Span) (news : List Span) : Type 0 where
  pub before : List Span
  pub behind : List Span
  pub rest : List Span
  pub next : List Span
  pub whole : ℕ
  pub olds : heap.ranges ≡ before ++ ((r ∷ next) ++ behind)
  pub is : news ≡ before ++ ((resized r whole size ∷ rest) ++ behind)
  pub free_next : AllByRecursion (λ q. is_free q ≡ true) next
  pub free_rest : AllByRecursion (λ q. is_free q ≡ true) rest
  pub others : AllByRecursion (λ q. has_data_at address q ≡ false) before
  pub there : data_address r ≡ address
  pub held : busy r ≡ true

free_or_there : (address : ℕ) (xs : List Span) → AllByRecursion (λ q. is_free q ≡ true) xs → AllByRecursion (λ q. (is_free q ≡ true) ⊎ (data_address q ≡ address)) xs
free_or_there address xs all = AllByRecursion-weaker (λ (q : Span). is_free q ≡ true) (λ q. (is_free q ≡ true) ⊎ (data_address q ≡ address)) (λ q free. inl free) xs all

module _ (address size : ℕ) (heap : PlainHeap) (r : Span) (news : List Span) (left : IsResized address size heap r news) where
  new_data : data_address (resized r left.whole size) ≡ address
  new_data = ap (λ (n : ℕ). r.addr + n + 128) (pad_resized size r.state) ∙ left.there

  left_busy : filter (elsewhere address) (filter busy news) ≡ filter (elsewhere address) (filter busy heap.ranges)
  left_busy =
      ap (λ zs. filter (elsewhere address) (filter busy zs)) left.is
      ∙ others_elsewhere address left.before (resized r left.whole size ∷ left.rest) left.behind (inr new_data, free_or_there address left.rest left.free_rest)
      ∙ sym (ap (λ zs. filter (elsewhere address) (filter busy zs)) left.olds ∙ others_elsewhere address left.before (r ∷ left.next) left.behind (inr left.there, free_or_there address left.next left.free_next))

  left_element : find (has_data_at address) news ≡ Some (resized r left.whole size)
  left_element = ap (λ zs. find (has_data_at address) zs) left.is
      ∙ find_behind (has_data_at address) left.before (resized r left.whole size) (left.rest ++ left.behind) left.others
      (and_from _ _ (ap (λ (b : Bool). not b) (free_resized size r.state) ∙ left.held) (eq-eqb (data_address (resized r left.whole size)) address new_data))

module _ (address size : ℕ) (heap : PlainHeap) (tiled : IsTiled heap) (can : CanAskSize address size heap) where
  -- elements before the one have their data elsewhere
  others_before : (r : Span) (xs ys : List Span) → IsAmong heap r xs ys → busy r ≡ true → data_address r ≡ address → AllByRecursion (λ q. has_data_at address q ≡ false) xs
  others_before r xs ys among held there = subst (λ (a : ℕ). AllByRecursion (λ q. has_data_at a q ≡ false) xs) there (before_data heap r xs ys among held)

  found_is : (r : Span) → find (has_data_at address) heap.ranges ≡ Some r → (busy r ≡ true) × (data_address r ≡ address)
  found_is r found =
      let tests = and_parts (not (is_free r)) (eqb (data_address r) address) (find_some (has_data_at address) heap.ranges r found).0 in
      (tests.0, eqb-true (data_address r) address tests.1)

  left_same : (r : Span) → find (has_data_at address) heap.ranges ≡ Some r → IsResized address size heap r (with_new_size r size heap).ranges
  left_same r found =
      let (xs, ys, is) = resizing_of address size heap r tiled can found in
      let tests = found_is r found in
      record {
        before = xs;
        behind = ys;
        rest = [];
        next = [];
        whole = r.whole;
        olds = is.among.ranges;
        is = ap (λ zs. replaced r.addr (resized r r.whole size ∷ []) zs) is.among.ranges ∙ replaced-at r.addr (resized r r.whole size ∷ []) xs r ys is.among.under refl;
        free_next = tt;
        free_rest = tt;
        others = others_before r xs ys is.among tests.0 tests.1;
        there = tests.1;
        held = tests.0;
      }

  left_taken : (r n : Span) → find (has_data_at address) heap.ranges ≡ Some r → next_free r heap ≡ Some n → bytes_needed r size ≤ r.whole + n.whole → IsResized address size heap r (taken_over r (Some n) size heap).ranges
  left_taken r n found next fits =
      let (xs, ys, is) = resizing_of address size heap r tiled can found in
      let tests = found_is r found in
      let (zs, parts, behind) = next_of heap r size xs ys n tiled is next in
      let at = subst (λ ws. IsResizing heap r size xs ws) parts is in
      let has_rest = leb 192 (r.whole + n.whole - bytes_needed r size) in
      record {
        before = xs;
        behind = zs;
        rest = Rattle.hp_heap.specs.Placing.only_if has_rest (record r { addr = r.addr + bytes_needed r size; whole = r.whole + n.whole - bytes_needed r size; state = Free (heap.insertions + 1) });
        next = n ∷ [];
        whole = cond has_rest (bytes_needed r size) (r.whole + n.whole);
        olds = at.among.ranges;
        is = ranges_left heap r size xs n zs tiled at behind fits;
        free_next = (behind.free, tt);
        free_rest = free_if has_rest;
        others = others_before r xs (n ∷ zs) at.among tests.0 tests.1;
        there = tests.1;
        held = tests.0;
      }
    where
      free_if : (b : Bool) → AllByRecursion (λ (q : Span). is_free q ≡ true) (Rattle.hp_heap.specs.Placing.only_if b (record r { addr = r.addr + bytes_needed r size; whole = r.whole + n.whole - bytes_needed r size; state = Free (heap.insertions + 1) }))
      free_if true = (refl, tt)
      free_if false = tt

  -- what a resize does: nothing, or it leaves that
  abbrev DoesOf : Option Span → Type 0
  DoesOf o = ((can_resize_of o size heap ≡ false) × (after_resize_of o size heap ≡ heap))
      ⊎ ((can_resize_of o size heap ≡ true) × (r : Span) × (o ≡ Some r) × IsResized address size heap r (after_resize_of o size heap).ranges)

  does : (o : Option Span) → find (has_data_at address) heap.ranges ≡ o → DoesOf o
  does None found = inl (refl, refl)
  does (Some r) found = elim (cases_Bool (leb (bytes_needed r size) r.whole)) [
    | inl fits ↦ inr (
      fits_both r (next_free r heap) (leb-true (bytes_needed r size) r.whole fits),
      r,
      refl,
      (let is : after_resize_of (Some r) size heap ≡ with_new_size r size heap = rw fits refl in subst (λ (h : PlainHeap). IsResized address size heap r h.ranges) (sym is) (left_same r found)),
    )
    | inr more ↦ elim (cases_Bool (leb (bytes_needed r size) (bytes_together r (next_free r heap)))) [
      | inl fits ↦ inr (
        fits,
        r,
        refl,
        (let is : after_resize_of (Some r) size heap ≡ taken_over r (next_free r heap) size heap = rw (more, fits) refl in
            subst (λ (h : PlainHeap). IsResized address size heap r h.ranges) (sym is) (with_next r found (next_free r heap) refl more fits)),
      )
      | inr refused ↦ inl (refused, rw (more, refused) refl)
    ]
  ]
    where
      fits_both : (r : Span) (o : Option Span) → bytes_needed r size ≤ r.whole → leb (bytes_needed r size) (bytes_together r o) ≡ true
      fits_both r None fits = Rattle.std.proofs.lemmas.Bool.le-leb (bytes_needed r size) r.whole fits
      fits_both r (Some n) fits = Rattle.std.proofs.lemmas.Bool.le-leb (bytes_needed r size) (r.whole + n.whole) (omega (arith, fits))

      with_next : (r : Span) → find (has_data_at address) heap.ranges ≡ Some r → (o : Option Span) → next_free r heap ≡ o → leb (bytes_needed r size) r.whole ≡ false → leb (bytes_needed r size) (bytes_together r o) ≡ true
          → IsResized address size heap r (taken_over r o size heap).ranges
      with_next r found None none more fits = absurd (false≢true (sym more ∙ fits))
      with_next r found (Some n) next more fits = left_taken r n found next (leb-true (bytes_needed r size) (r.whole + n.whole) fits)

  by_busy : (o : Option Span) → DoesOf o → filter (elsewhere address) (filter busy (after_resize_of o size heap).ranges) ≡ filter (elsewhere address) (filter busy heap.ranges)
  by_busy o (inl nothing) = ap (λ (h : PlainHeap). filter (elsewhere address) (filter busy h.ranges)) nothing.1
  by_busy o (inr some) = left_busy address size heap some.1 (after_resize_of o size heap).ranges some.3

  by_element : (o : Option Span) → DoesOf o → can_resize_of o size heap ≡ true → (whole : ℕ) × (find (has_data_at address) (after_resize_of o size heap).ranges ≡ option_map (λ range. resized range whole size) o)
  by_element o (inl nothing) had = absurd (false≢true (sym nothing.0 ∙ had))
  by_element o (inr some) had =
      (some.3.whole, left_element address size heap some.1 (after_resize_of o size heap).ranges some.3 ∙ sym (ap (λ (p : Option Span). option_map (λ range. resized range some.3.whole size) p) some.2))

  by_refusal : (o : Option Span) → DoesOf o → can_resize_of o size heap ≡ false → after_resize_of o size heap ≡ heap
  by_refusal o (inl nothing) refused = nothing.1
  by_refusal o (inr some) refused = absurd (false≢true (sym refused ∙ some.0))

  pub resizes_alone : ResizesAlone address size heap
  unfolding busy_ranges zone_ranges after_resize can_resize busy_at
  resizes_alone =
      let o = find (has_data_at address) heap.ranges in
      let what = does o refl in
      record {
        busy = by_busy o what;
        zones = zones_elsewhere address (after_resize_of o size heap).ranges heap.ranges (by_busy o what);
        element = by_element o what;
        refused = by_refusal o what;
      }
