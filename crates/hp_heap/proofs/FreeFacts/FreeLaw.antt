-- A free leaves every other busy element and every other zone as it was.
use Rattle.std.proofs.Common.{◌≡◌, ℕ, ◌+◌, Bool, true, false, not, ◌&&◌, List, [], ◌∷◌, ◌++◌, refl, sym, ap, ◌∙◌, inl, inr, Option, Some, None, Contains, eqb}
use Rattle.std.proofs.lemmas.Bool.{and_parts, cases_Bool, eqb-true}
use Rattle.std.proofs.lemmas.List.Elements.{filter-append}
use Rattle.std.specs.List.{filter, find}
use Rattle.hp_base.specs.declared.span.Span.{Span}
use Rattle.hp_heap.specs.declared.entry.HeapAnswer.TheVariants as answer
use Rattle.hp_heap.specs.PlainHeap.{PlainHeap, is_free, freed, data_address}
use Rattle.hp_heap.specs.Tiling.{IsTiled}
use Rattle.hp_heap.specs.Joining.{with_stretch, after_insertion, has_data_at, busy_at, busy_ranges, zone_ranges, is_zone_range, after_free, after_free_of, stretch_up, stretch_down}
use Rattle.hp_heap.specs.Step.{free_answer}
use Rattle.hp_heap.specs.Laws.{FreesAlone}
use Rattle.hp_heap.proofs.Members.{AllByRecursion-each, find_some, filter_implied}
use Rattle.hp_heap.proofs.FreeFacts.FreeTiling.{IsAmong, among_ranges, with_stretch-at}
use Rattle.hp_heap.proofs.HistoryFacts.BusyLemmas.{busy, elsewhere, busy_stretch, zones_of_busy, before_elsewhere, behind_elsewhere, others_elsewhere}

-- what an element leaves that becomes free
pub record IsFreed (heap : PlainHeap) (r : Span) (xs ys : List Span) (news : List Span) : Type 0 where
  pub among : IsAmong heap r xs ys
  pub left : filter busy news ≡ filter busy (xs ++ ys)
  pub others : filter busy news ≡ filter (elsewhere (data_address r)) (filter busy heap.ranges)

pub freed_leaves : (heap : PlainHeap) (r : Span) → IsTiled heap → Contains heap.ranges r → busy r ≡ true → (xs : List Span) × (ys : List Span) × IsFreed heap r xs ys (after_insertion r heap).ranges
unfolding after_insertion
freed_leaves heap r tiled has is_busy =
    let (xs, ys, among) = among_ranges heap r tiled has in
    let x = freed (heap.insertions + 1) r in
    let ranges : with_stretch x heap.ranges ≡ (stretch_down xs x).left ++ stretch_up (stretch_down xs x).range ys =
    ap (λ zs. with_stretch x zs) among.ranges ∙ with_stretch-at x r xs ys refl among.under among.over in
    let left : filter busy (with_stretch x heap.ranges) ≡ filter busy (xs ++ ys) = ap (λ zs. filter busy zs) ranges ∙ busy_stretch xs ys x refl in
    let kept : filter (elsewhere (data_address r)) (filter busy (xs ++ ys)) ≡ filter busy (xs ++ ys) =
    ap (λ zs. filter (elsewhere (data_address r)) zs) (filter-append busy xs ys)
    ∙ filter-append (elsewhere (data_address r)) (filter busy xs) (filter busy ys)
    ∙ ap (λ zs. zs ++ filter (elsewhere (data_address r)) (filter busy ys)) (filter_implied busy (elsewhere (data_address r)) xs (before_elsewhere heap r xs ys among is_busy))
    ∙ ap (λ zs. filter busy xs ++ zs) (filter_implied busy (elsewhere (data_address r)) ys (AllByRecursion-each (λ q. busy q ≡ true → elsewhere (data_address r) q ≡ true) ys (behind_elsewhere heap r xs ys among is_busy)))
    ∙ sym (filter-append busy xs ys) in
    let olds : filter (elsewhere (data_address r)) (filter busy heap.ranges) ≡ filter busy (xs ++ ys) =
    ap (λ zs. filter (elsewhere (data_address r)) (filter busy zs)) among.ranges
    ∙ others_elsewhere (data_address r) xs (r ∷ []) ys (inr refl, tt) ∙ kept in
    (xs, ys, record { among = among; left = left; others = left ∙ sym olds })

module _ (address : ℕ) (zone : Bool) (heap : PlainHeap) (tiled : IsTiled heap) where
  -- where it is done
  done_busy : (r : Span) → find (has_data_at address) heap.ranges ≡ Some r → filter busy (after_insertion r heap).ranges ≡ filter (elsewhere address) (filter busy heap.ranges)
  done_busy r found =
      let one = find_some (has_data_at address) heap.ranges r found in
      let tests = and_parts (not (is_free r)) (eqb (data_address r) address) one.0 in
      let (xs, ys, is) = freed_leaves heap r tiled one.1 tests.0 in
      is.others ∙ ap (λ (a : ℕ). filter (elsewhere a) (filter busy heap.ranges)) (eqb-true (data_address r) address tests.1)

  done_zones : (r : Span) → find (has_data_at address) heap.ranges ≡ Some r → filter is_zone_range (after_insertion r heap).ranges ≡ filter (elsewhere address) (filter is_zone_range heap.ranges)
  done_zones r found =
      zones_of_busy (after_insertion r heap).ranges ∙ ap (λ zs. filter is_zone_range zs) (done_busy r found)
      ∙ sym (ap (λ zs. filter (elsewhere address) zs) (zones_of_busy heap.ranges) ∙ Rattle.hp_heap.proofs.Members.filter_swapped (elsewhere address) is_zone_range (filter busy heap.ranges))

  -- an element that is no zone's takes no zone with it
  no_zone : (r : Span) → find (has_data_at address) heap.ranges ≡ Some r → is_zone_range r ≡ false → filter is_zone_range (after_insertion r heap).ranges ≡ filter is_zone_range heap.ranges
  no_zone r found ordinary =
      let one = find_some (has_data_at address) heap.ranges r found in
      let tests = and_parts (not (is_free r)) (eqb (data_address r) address) one.0 in
      let (xs, ys, is) = freed_leaves heap r tiled one.1 tests.0 in
      zones_of_busy (after_insertion r heap).ranges ∙ ap (λ zs. filter is_zone_range zs) is.left ∙ sym (zones_of_busy (xs ++ ys))
      ∙ filter-append is_zone_range xs ys
      ∙ sym (ap (λ zs. filter is_zone_range zs) is.among.ranges ∙ filter-append is_zone_range xs (r ∷ ys) ∙ rw ordinary refl)

  by_busy : (o : Option Span) → find (has_data_at address) heap.ranges ≡ o → free_answer o zone ≡ answer.Done → filter busy (after_free_of o zone heap).ranges ≡ filter (elsewhere address) (filter busy heap.ranges)
  by_busy None found done = absurd (differ done)
    where
      differ : answer.NotAnElement ≡ answer.Done → ⊥
      differ is = cc
  by_busy (Some r) found done = elim (cases_Bool (is_zone_range r && not zone)) [
    | inl refused ↦ absurd (differ (sym (rw refused refl) ∙ done))
    | inr free ↦ rw free (done_busy r found)
  ]
    where
      differ : answer.IsZone ≡ answer.Done → ⊥
      differ is = cc

  by_zones : (o : Option Span) → find (has_data_at address) heap.ranges ≡ o → free_answer o zone ≡ answer.Done → filter is_zone_range (after_free_of o zone heap).ranges ≡ filter (elsewhere address) (filter is_zone_range heap.ranges)
  by_zones None found done = absurd (differ done)
    where
      differ : answer.NotAnElement ≡ answer.Done → ⊥
      differ is = cc
  by_zones (Some r) found done = elim (cases_Bool (is_zone_range r && not zone)) [
    | inl refused ↦ absurd (differ (sym (rw refused refl) ∙ done))
    | inr free ↦ rw free (done_zones r found)
  ]
    where
      differ : answer.IsZone ≡ answer.Done → ⊥
      differ is = cc

  by_all : (o : Option Span) → find (has_data_at address) heap.ranges ≡ o → zone ≡ false → filter is_zone_range (after_free_of o zone heap).ranges ≡ filter is_zone_range heap.ranges
  by_all None found ordinary = refl
  by_all (Some r) found ordinary = elim (cases_Bool (is_zone_range r)) [
    | inl is ↦ rw (is, ordinary) refl
    | inr is ↦ rw is (no_zone r found is)
  ]

  by_refusal : (o : Option Span) → (free_answer o zone ≡ answer.Done → ⊥) → after_free_of o zone heap ≡ heap
  by_refusal None refused = refl
  by_refusal (Some r) refused = elim (cases_Bool (is_zone_range r && not zone)) [
    | inl is ↦ rw is refl
    | inr free ↦ absurd (refused (rw free refl))
  ]

  pub frees_alone : FreesAlone address zone heap
  unfolding busy_ranges zone_ranges after_free busy_at
  frees_alone = record {
    busy = by_busy (find (has_data_at address) heap.ranges) refl;
    zones = by_zones (find (has_data_at address) heap.ranges) refl;
    all_zones = by_all (find (has_data_at address) heap.ranges) refl;
    refused = by_refusal (find (has_data_at address) heap.ranges);
  }
