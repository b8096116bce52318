-- The elements of memzones of a heap, to the names, where one comes or goes.
use Rattle.std.proofs.Common.{◌≡◌, ◌∙◌, ℕ, ◌+◌, ◌<◌, Bool, true, false, cond, eqb, eq-eqb, not, List, [], ◌∷◌, ◌++◌, map, length, remove, Contains, Option, Some, None, IsSomeAnd, refl, sym, ap, subst, arith, count_by}
use Rattle.std.specs.List.{AllByRecursion, filter, find}
use Rattle.std.specs.List.Sorted.{IsPermutation}
use Rattle.std.specs.Option.{option_and_then}
use Rattle.std.proofs.lemmas.Bool.{and_from, and_parts, eqb-true, false≢true}
use Rattle.std.proofs.lemmas.Option.{none-some, same_Some}
use Rattle.std.proofs.lemmas.List.Elements.{filter-append}
use Rattle.std.proofs.lemmas.List.Sorted.{IsPermutation-cons, IsPermutation-map, IsPermutation-middle, IsPermutation-refl, IsPermutation-remove, IsPermutation-sym, IsPermutation-trans, sum_by-IsPermutation}
use Rattle.hp_base.specs.declared.request.Request.{Request}
use Rattle.hp_base.specs.declared.span.Span.{Span}
use Rattle.hp_base.specs.declared.span.SpanState.{SpanState}
use Rattle.hp_base.specs.declared.span.SpanState.TheVariants.{Free, Busy}
use Rattle.hp_base.specs.declared.tag.Tag.{Tag}
use Rattle.hp_heap.proofs.HistoryFacts.BusyLaw.{allocates_alone}
use Rattle.hp_heap.proofs.HistoryFacts.BusyLemmas.{before_data, before_elsewhere, behind_elsewhere, busy, elsewhere, zones_of_busy}
use Rattle.hp_heap.proofs.AllocFacts.ChoiceLaw.{AllByRecursion-contains, Contains-here}
use Rattle.hp_heap.proofs.HistoryFacts.Counting.{count_by-cons}
use Rattle.hp_heap.proofs.FreeFacts.FreeLaw.{frees_alone}
use Rattle.hp_heap.proofs.FreeFacts.FreeTiling.{among_ranges}
use Rattle.hp_heap.proofs.Members.{AllByRecursion-each, counted_some, filter_implied, filter_swapped, find_some}
use Rattle.hp_heap.proofs.HistoryFacts.StepLaw.{after-tiled}
use Rattle.hp_heap.specs.Joining.{HasZoneAt, after_free, busy_at, busy_ranges, has_data_at, is_zone_range, is_zone_state, tag_at, tag_of_state, zone_ranges}
use Rattle.hp_heap.specs.Placing.{after_alloc, allocated}
use Rattle.hp_heap.specs.PlainHeap.{PlainHeap, data_address, is_free_state}
use Rattle.hp_heap.specs.Step.{after, free_answer}
use Rattle.hp_heap.specs.Tiling.{IsTiled}
use Rattle.hp_heap.specs.declared.entry.HeapAnswer.TheVariants as answer
use Rattle.hp_heap.specs.declared.entry.HeapCall.TheVariants as call

-- NUMBERS IN ANOTHER ORDER

-- how often a list has a number
abbrev times : ℕ → List ℕ → ℕ
times b xs = count_by (λ (x : ℕ). eqb x b) xs

one_more : (x b : ℕ) (xs : List ℕ) → times b (x ∷ xs) ≡ cond (eqb x b) 1 0 + times b xs
one_more x b xs = count_by-cons (λ (y : ℕ). eqb y b) x xs

as_often : (xs ys : List ℕ) → IsPermutation xs ys → (b : ℕ) → times b ys ≡ times b xs
as_often xs ys same b = sum_by-IsPermutation (λ (x : ℕ). cond (eqb x b) 1 0) xs ys same

-- lists that have each number as often are the same in another order
by_times : (xs ys : List ℕ) → ((b : ℕ) → times b xs ≡ times b ys) → IsPermutation xs ys
by_times [] [] same = IsPermutation-refl []
by_times [] (y ∷ ys) same =
    let one : cond {A = ℕ} (eqb y y) 1 0 ≡ 1 = rw (eq-eqb y y refl) refl in
    absurd (omega (arith, same y, one_more y y ys, one))
by_times (x ∷ xs) ys same =
    let one : cond {A = ℕ} (eqb x x) 1 0 ≡ 1 = rw (eq-eqb x x refl) refl in
    let some : 0 < times x ys = omega (arith, same x, one_more x x xs, one) in
    let (z, found) = counted_some (λ (y : ℕ). eqb y x) ys some in
    let (k, inside, at) = subst (Contains ys) (eqb-true z x found.0) found.1 in
    let moved : IsPermutation ys (x ∷ remove ys k) = IsPermutation-remove ys k x inside (sym at) in
    let rest : IsPermutation xs (remove ys k) =
    by_times xs (remove ys k) (λ b. omega (arith, same b, one_more x b xs, one_more x b (remove ys k), as_often ys (x ∷ remove ys k) moved b)) in
    IsPermutation-trans (x ∷ xs) (x ∷ remove ys k) ys (IsPermutation-cons x xs (remove ys k) rest) (IsPermutation-sym ys (x ∷ remove ys k) moved)

-- so are they without one number of both
pub without_one : (x : ℕ) (xs ys : List ℕ) → IsPermutation (x ∷ xs) (x ∷ ys) → IsPermutation xs ys
without_one x xs ys same = by_times xs ys (λ b. omega (arith, as_often (x ∷ xs) (x ∷ ys) same b, one_more x b xs, one_more x b ys))

-- ONE ELEMENT OF A MEMZONE

zone_held : (state : SpanState) → is_zone_state state ≡ true → not (is_free_state state) ≡ true
zone_held (Free stamp) zone = absurd (false≢true zone)
zone_held (Busy pad size tag) zone = refl

-- a memzone's element, and the others, which have their data elsewhere
pub zone_apart : (heap : PlainHeap) (r : Span) → IsTiled heap → Contains heap.ranges r → is_zone_range r ≡ true
    → IsPermutation (map data_address (zone_ranges heap)) (data_address r ∷ map data_address (filter (elsewhere (data_address r)) (zone_ranges heap)))
unfolding zone_ranges
zone_apart heap r tiled has zone =
    let (xs, ys, among) = among_ranges heap r tiled has in
    let a = data_address r in
    let held : busy r ≡ true = zone_held r.state zone in
    let front : filter (elsewhere a) (filter is_zone_range xs) ≡ filter is_zone_range xs =
    filter_implied is_zone_range (elsewhere a) xs
    (AllByRecursion-each (λ (q : Span). is_zone_range q ≡ true → elsewhere a q ≡ true) xs (λ q inside zoned.
    AllByRecursion-contains (λ (x : Span). busy x ≡ true → elsewhere a x ≡ true) xs q (before_elsewhere heap r xs ys among held) inside (zone_held q.state zoned))) in
    let back : filter (elsewhere a) (filter is_zone_range ys) ≡ filter is_zone_range ys =
    filter_implied is_zone_range (elsewhere a) ys
    (AllByRecursion-each (λ (q : Span). is_zone_range q ≡ true → elsewhere a q ≡ true) ys (λ q inside zoned.
    behind_elsewhere heap r xs ys among held q inside (zone_held q.state zoned))) in
    let all : filter is_zone_range heap.ranges ≡ filter is_zone_range xs ++ (r ∷ filter is_zone_range ys) =
    ap (filter is_zone_range) among.ranges ∙ filter-append is_zone_range xs (r ∷ ys)
    ∙ ap (λ (l : List Span). filter is_zone_range xs ++ l) (rw zone refl) in
    let gone : filter (elsewhere a) (r ∷ filter is_zone_range ys) ≡ filter is_zone_range ys = rw (eq-eqb a a refl) back in
    let others : filter (elsewhere a) (filter is_zone_range heap.ranges) ≡ filter is_zone_range xs ++ filter is_zone_range ys =
    ap (filter (elsewhere a)) all ∙ filter-append (elsewhere a) (filter is_zone_range xs) (r ∷ filter is_zone_range ys)
    ∙ ap (λ (l : List Span). l ++ filter (elsewhere a) (r ∷ filter is_zone_range ys)) front ∙ ap (λ (l : List Span). filter is_zone_range xs ++ l) gone in
    subst (λ (l : List Span). IsPermutation (map data_address l) (a ∷ map data_address (filter (elsewhere a) (filter is_zone_range heap.ranges)))) (sym all)
    (subst (λ (l : List Span). IsPermutation (map data_address (filter is_zone_range xs ++ (r ∷ filter is_zone_range ys))) (a ∷ map data_address l)) (sym others)
    (IsPermutation-map data_address (filter is_zone_range xs ++ (r ∷ filter is_zone_range ys)) (r ∷ (filter is_zone_range xs ++ filter is_zone_range ys))
    (IsPermutation-middle (filter is_zone_range xs) r (filter is_zone_range ys))))

-- the first element of a list that passes, behind some that don't
find_behind : (passes : Span → Bool) (xs ys : List Span) (r : Span) → AllByRecursion (λ (q : Span). passes q ≡ false) xs → passes r ≡ true
    → find passes (xs ++ r ∷ ys) ≡ Some r
find_behind passes [] ys r none here = rw here refl
find_behind passes (x ∷ xs) ys r none here = rw (none.0) (find_behind passes xs ys r none.1 here)

-- the element of a memzone is the one that is busy there
pub zone_there : (heap : PlainHeap) (r : Span) → IsTiled heap → Contains heap.ranges r → is_zone_range r ≡ true → HasZoneAt (data_address r) heap
unfolding busy_at
zone_there heap r tiled has zone =
    let (xs, ys, among) = among_ranges heap r tiled has in
    let a = data_address r in
    let held : busy r ≡ true = zone_held r.state zone in
    let here : has_data_at a r ≡ true = and_from (busy r) (eqb a a) held (eq-eqb a a refl) in
    let is : find (has_data_at a) heap.ranges ≡ Some r =
    ap (find (has_data_at a)) among.ranges ∙ find_behind (has_data_at a) xs ys r (before_data heap r xs ys among held) here in
    subst (λ (found : Option Span). IsSomeAnd found (λ (range : Span). is_zone_range range ≡ true)) (sym is) zone

-- the busy element at an address, where it has a memzone's tag
record IsZoneAt (address : ℕ) (heap : PlainHeap) : Type 0 where
  range : Span
  there : Contains heap.ranges range
  at : data_address range ≡ address
  zone : is_zone_range range ≡ true

zone_found : (address : ℕ) (heap : PlainHeap) (r : Span) → busy_at address heap ≡ Some r → is_zone_range r ≡ true → IsZoneAt address heap
unfolding busy_at
zone_found address heap r is zone =
    let found = find_some (has_data_at address) heap.ranges r is in
    record { range = r; there = found.1; at = eqb-true (data_address r) address ((and_parts (busy r) (eqb (data_address r) address) found.0).1); zone = zone }

zone_apart_at : (address : ℕ) (heap : PlainHeap) → IsTiled heap → IsZoneAt address heap
    → IsPermutation (map data_address (zone_ranges heap)) (address ∷ map data_address (filter (elsewhere address) (zone_ranges heap)))
zone_apart_at address heap tiled is =
    subst (λ (a : ℕ). IsPermutation (map data_address (zone_ranges heap)) (a ∷ map data_address (filter (elsewhere a) (zone_ranges heap)))) is.at
    (zone_apart heap is.range tiled is.there is.zone)

-- ALLOCATED

tag_zone : (state : SpanState) (tag : Tag) → tag_of_state state ≡ Some tag → is_zone_state state ≡ tag.zone
tag_zone (Free stamp) tag is = absurd (none-some tag is)
tag_zone (Busy pad size own) tag is = ap (λ (t : Tag). t.zone) (same_Some own tag is)

tagged_at : (address : ℕ) (heap : PlainHeap) (tag : Tag) (o : Option Span) → busy_at address heap ≡ o
    → option_and_then (λ (range : Span). tag_of_state range.state) o ≡ Some tag → tag.zone ≡ true → IsZoneAt address heap
tagged_at address heap tag None is tagged zone = absurd (none-some tag tagged)
tagged_at address heap tag (Some r) is tagged zone = zone_found address heap r is (tag_zone r.state tag tagged ∙ zone)

module _ (participant : ℕ) (request : Request) (tag : Tag) (heap : PlainHeap) (tiled : IsTiled heap) (zone : tag.zone ≡ true) (address : ℕ)
    (is : allocated participant request heap ≡ Some address) where
  abbrev next : PlainHeap
  next = after_alloc participant request tag heap

  others_stay : filter (elsewhere address) (zone_ranges next) ≡ zone_ranges heap
  unfolding zone_ranges busy_ranges
  others_stay =
      ap (filter (elsewhere address)) (zones_of_busy next.ranges) ∙ filter_swapped (elsewhere address) is_zone_range (filter busy next.ranges)
      ∙ ap (filter is_zone_range) ((allocates_alone participant request tag heap tiled).busy address is) ∙ sym (zones_of_busy heap.ranges)

  next_tiled : IsTiled next
  unfolding after
  next_tiled = after-tiled participant (call.Alloc request tag) heap tiled tt

  allocated_there : IsZoneAt address next
  unfolding tag_at
  allocated_there = tagged_at address next tag (busy_at address next) refl ((allocates_alone participant request tag heap tiled).tagged address is) zone

  -- one more memzone has its data at the address that was answered
  pub zone_allocated : IsPermutation (map data_address (zone_ranges next)) (address ∷ map data_address (zone_ranges heap))
  zone_allocated =
      subst (λ (l : List Span). IsPermutation (map data_address (zone_ranges next)) (address ∷ map data_address l)) others_stay
      (zone_apart_at address next next_tiled allocated_there)

-- FREED

zoned_at : (address : ℕ) (heap : PlainHeap) (o : Option Span) → busy_at address heap ≡ o → IsSomeAnd o (λ (range : Span). is_zone_range range ≡ true) → IsZoneAt address heap
zoned_at address heap None is zone = absurd zone
zoned_at address heap (Some r) is zone = zone_found address heap r is zone

-- one memzone less has its data at the address whose element was freed
pub zone_freed : (address : ℕ) (heap : PlainHeap) → IsTiled heap → HasZoneAt address heap → answer.Done ≡ free_answer (busy_at address heap) true
    → IsPermutation (map data_address (zone_ranges heap)) (address ∷ map data_address (zone_ranges (after_free address true heap)))
zone_freed address heap tiled zone done =
    subst (λ (l : List Span). IsPermutation (map data_address (zone_ranges heap)) (address ∷ map data_address l)) (sym ((frees_alone address true heap tiled).zones (sym done)))
    (zone_apart_at address heap tiled (zoned_at address heap (busy_at address heap) refl zone))
