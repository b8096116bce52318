-- A heap is made where the calls on external heaps make it.
use Rattle.std.proofs.Common.{◌≡◌, ◌∙◌, ℕ, zero, suc, Bool, true, false, ◌+◌, ◌^◌, ◌<◌, ◌≤◌, ◌||◌, List, [], ◌∷◌, length, Option, Some, None, inl, inr, refl, ap, sym, arith}
use Rattle.std.specs.Prelude.{filter_map, find, is_none, is_some, nat_lt, slice_get, if◌then◌else◌}
use Rattle.std.specs.List.{list_any, range_with_len}
use Rattle.std.specs.Option.{option_flatten}
use Rattle.std.proofs.lemmas.Bool.{cases_eq, false_from_ne_true, true_from_ne_false, true≢false, ltb-true, lt-ltb}
use Rattle.std.proofs.lemmas.Option.{slice_get-get_or, slice_get_within}
use Rattle.std.proofs.lemmas.Slice.Eq.{bytes_eq-Decides}
use Rattle.hp_base.specs.declared.limits.TheConstants.{MAX_HEAPS}
use Rattle.hp_zone.specs.Directory.{HasPlace, IsLowestUnnamed, IsNotFound, IsUnnamed, PlainDirectory, heap_at}
use Rattle.hp_zone.specs.declared.heap_name.HeapName.{HeapName}
use Rattle.hp_proc.proofs.LeastData.{first_in_range, none_in_range}
use Rattle.hp_proc.proofs.MeantHeaps.{named, no_heap}
use Rattle.hp_proc.specs.Heaps.{has_name}
use Rattle.hp_proc.specs.SharedNames.{heaps_in, named_at, next_index}
use Rattle.hp_proc.specs.VerbLaws.{MakingAgrees}

any_found : {X : Type 0} (test : X → Bool) (xs : List X) → list_any test xs ≡ is_some (find test xs)
any_found test [] = refl
any_found test (x ∷ xs) = by_test (test x) refl (any_found test xs)
  where
    by_test : (passes : Bool) → test x ≡ passes → list_any test xs ≡ is_some (find test xs)
        → list_any test (x ∷ xs) ≡ is_some (find test (x ∷ xs))
    by_test true is rest = rw is refl
    by_test false is rest = rw is rest

or_true : (first : Bool) → (first || true) ≡ true
or_true true = refl
or_true false = refl

module _ (plain : PlainDirectory) (text : List ℕ) where
  -- whether a heap has the name, of so many indexes from one on
  abbrev any_from : ℕ → ℕ → Bool
  any_from from n = list_any (has_name text) (filter_map (λ index. named_at index (heap_at plain index)) (range_with_len from n))

  any_first : (n from : ℕ) (heap : HeapName) → heap_at plain from ≡ Some heap → heap.name ≡ text → any_from from (suc n) ≡ true
  any_first n from heap is its_name = rw is (rw ((bytes_eq-Decides heap.name text).1 its_name) refl)

  any_later : (n from : ℕ) (slot : Option HeapName) → heap_at plain from ≡ slot → any_from (from + 1) n ≡ true → any_from from (suc n) ≡ true
  any_later n from None is rest = rw is rest
  any_later n from (Some own) is rest =
      rw is (ap (λ (more : Bool). has_name text (named from own) || more) rest ∙ or_true (has_name text (named from own)))

  any_there : (n from index : ℕ) (heap : HeapName) → from ≤ index → index < from + n → heap_at plain index ≡ Some heap → heap.name ≡ text
      → any_from from n ≡ true
  any_there zero from index heap low high is its_name = absurd (omega (arith, low, high))
  any_there (suc n) from index heap low high is its_name =
      elim (cases_eq from index) [
        | inl same ↦ any_first n from heap (ap (heap_at plain) same ∙ is) its_name
        | inr other ↦
            any_later n from (heap_at plain from) refl
            (any_there n (from + 1) index heap (omega (arith, low, other)) (omega (arith, high)) is its_name)
      ]

  module _ (long : length plain.heaps ≡ MAX_HEAPS) where
    -- an index below the last one has a name, or it has none
    unnamed_there : (index : ℕ) → index < MAX_HEAPS → is_none (heap_at plain index) ≡ true → IsUnnamed plain index
    unnamed_there index below none = by_slot (slice_get plain.heaps index) refl none
      where
        by_slot : (slot : Option (Option HeapName)) → slice_get plain.heaps index ≡ slot → is_none (option_flatten slot) ≡ true
            → slice_get plain.heaps index ≡ Some None
        by_slot None its flat =
            let there = slice_get-get_or plain.heaps index None (omega (arith, below, long)) in cc
        by_slot (Some None) its flat = its
        by_slot (Some (Some own)) its flat = cc

    abbrev is_unnamed : ℕ → Bool
    is_unnamed index = is_none (heap_at plain index)

    lowest_index : (index : ℕ) → IsLowestUnnamed plain index → plain.next < 2 ^ 32 → next_index plain ≡ Some index
    unfolding next_index
    lowest_index index is next =
        let below : index < MAX_HEAPS = omega (arith, slice_get_within plain.heaps index None is.unnamed, long) in
        rw (lt-ltb plain.next (2 ^ 32) next)
        (first_in_range is_unnamed MAX_HEAPS 0 index (omega arith) (omega (arith, below))
        (ap (λ (slot : Option (Option HeapName)). is_none (option_flatten slot)) is.unnamed)
        (λ other low under.
        false_from_ne_true (is_unnamed other) (λ none. is.lowest other under (unnamed_there other (omega (arith, under, below)) none))))

    no_index : (HasPlace plain → ⊥) → (next : Bool) → nat_lt plain.next (2 ^ 32) ≡ next
        → (if next then find is_unnamed (range_with_len 0 MAX_HEAPS) else None) ≡ None
    no_index full false is = refl
    no_index full true is =
        none_in_range is_unnamed MAX_HEAPS 0
        (λ place low high.
        false_from_ne_true (is_unnamed place)
        (λ none. full (record {
          index = place;
          unnamed = unnamed_there place (omega (arith, high)) none;
          socket = ltb-true plain.next (2 ^ 32) is;
        })))

    no_next : (HasPlace plain → ⊥) → next_index plain ≡ None
    unfolding next_index
    no_next full = no_index full (nat_lt plain.next (2 ^ 32)) refl

    fresh_name : IsNotFound plain text → list_any (has_name text) (heaps_in plain) ≡ false
    fresh_name none = any_found (has_name text) (heaps_in plain) ∙ ap is_some (no_heap plain text long none)

    taken_name : (IsNotFound plain text → ⊥) → list_any (has_name text) (heaps_in plain) ≡ true
    unfolding heaps_in
    taken_name found =
        true_from_ne_false (list_any (has_name text) (heaps_in plain))
        (λ none. found (λ index heap its same.
        true≢false (sym (any_there MAX_HEAPS 0 index heap (omega arith)
        (omega (arith, slice_get_within plain.heaps index (Some heap) its, long)) (ap option_flatten its) same) ∙ none)))

    pub making_agrees : MakingAgrees text plain
    making_agrees = record { index = lowest_index; no_place = no_next; fresh = fresh_name; taken = taken_name }
