-- No heap is named twice: of the heaps that an allocation tries, or in which an element is looked for, and of those to which a line came.
use Rattle.std.proofs.Common.{◌≡◌, ◌==◌, ◌∙◌, ℕ, zero, suc, ◌+◌, ◌<◌, ◌≤◌, Bool, true, false, cond, not, ◌&&◌, List, [], ◌∷◌, ◌++◌, filter, filter_map, find, take, drop, length, map, get_or, Option, Some, None, is_some, count_by, refl, ap, sym, subst, arith}
use Rattle.std.specs.List.{range_with_len}
use Rattle.std.specs.Option.{option_to_list}
use Rattle.std.proofs.lemmas.Bool.{eqb-true, ne_eqb}
use Rattle.std.proofs.lemmas.List.{map-append, take-append-drop, take_more}
use Rattle.std.proofs.lemmas.List.Sums.{count_by-le-length}
use Rattle.hp_base.specs.declared.limits.TheConstants.{MAX_HEAPS}
use Rattle.hp_base.specs.declared.pool_line.PoolLine.{PoolLine}
use Rattle.hp_heap.proofs.HistoryFacts.Counting.{count_by-append, count_by-cons}
use Rattle.hp_heap.proofs.Members.{count_map}
use Rattle.hp_script.specs.declared.options.SocketChoice.{SocketChoice}
use Rattle.hp_script.specs.declared.options.SocketChoice.TheVariants.{Any, Number}
use Rattle.hp_proc.specs.Heaps.{NamedHeap, has_name, heaps_for, heaps_from, own_first, socket_heaps, sockets_of, takes_pages_of}
use Rattle.hp_proc.specs.PlaceLists.{place_named}
use Rattle.hp_proc.specs.Progress.{AreOnce}
use Rattle.hp_proc.specs.SharedNames.{heaps_in, named_at}
use Rattle.hp_proc.specs.declared.searched_heap.SearchedHeap.{SearchedHeap}
use Rattle.hp_proc.proofs.Mapped.{map-mapped}
use Rattle.hp_zone.specs.Directory.{PlainDirectory, heap_at}
use Rattle.hp_zone.specs.declared.heap_name.HeapName.{HeapName}

-- no heap at all, or one alone
pub once_few : (heaps : List ℕ) → length heaps ≤ 1 → AreOnce heaps
once_few heaps few heap = omega (arith, few, count_by-le-length (λ (other : ℕ). other == heap) heaps)

pub once_none : AreOnce []
once_none = once_few [] (omega arith)

pub once_one : (heap : ℕ) → AreOnce (heap ∷ [])
once_one heap = once_few (heap ∷ []) (omega arith)

-- the first of such heaps
once_front : (heaps more : List ℕ) → AreOnce (heaps ++ more) → AreOnce heaps
once_front heaps more once heap = omega (arith, once heap, count_by-append (λ (other : ℕ). other == heap) heaps more)

module _ {X : Type 0} (heap_of : X → ℕ) (places : List X) where
  pub once_taken : (count : ℕ) → AreOnce (map heap_of places) → AreOnce (map heap_of (take count places))
  once_taken count once =
      let parts : map heap_of places ≡ map heap_of (take count places) ++ map heap_of (drop count places) =
      ap (map heap_of) (sym (take-append-drop count places)) ∙ map-append heap_of (take count places) (drop count places) in
      once_front (map heap_of (take count places)) (map heap_of (drop count places)) (subst AreOnce parts once)

  -- those before a place, and those from there on
  pub heaps_whole : (count : ℕ) → map heap_of (take count places) ++ map heap_of (drop count places) ≡ map heap_of places
  heaps_whole count =
      sym (map-append heap_of (take count places) (drop count places)) ∙ ap (map heap_of) (take-append-drop count places)

  -- one place further
  pub heaps_more : (count : ℕ) (place : X) → count < length places
      → map heap_of (take count places) ++ heap_of (get_or places count place) ∷ [] ≡ map heap_of (take (count + 1) places)
  heaps_more count place within =
      sym (ap (map heap_of) (take_more places count place within)
      ∙ map-append heap_of (take count places) (get_or places count place ∷ []))

-- the one place that there may be
pub once_listed : {X : Type 0} (heap_of : X → ℕ) (one : Option X) → AreOnce (map heap_of (option_to_list one))
once_listed heap_of None = once_none
once_listed heap_of (Some place) = once_one (heap_of place)

abbrev index_of : NamedHeap → ℕ
index_of heap = heap.index

-- heaps by index from a number on, none of which has a lower one
none_below : (from : ℕ) (sockets : List ℕ) (heap : ℕ) → heap < from
    → count_by (λ (other : ℕ). other == heap) (map index_of (heaps_from from sockets)) ≡ 0
none_below from [] heap below = refl
none_below from (socket ∷ sockets) heap below =
    let apart : (from == heap) ≡ false = ne_eqb from heap (λ same. omega (arith, same, below)) in
    let measure : cond {A = ℕ} (from == heap) 1 0 ≡ 0 = rw apart refl in
    omega (
      arith,
      count_by-cons (λ (other : ℕ). other == heap) from (map index_of (heaps_from (from + 1) sockets)),
      measure,
      none_below (from + 1) sockets heap (omega (arith, below)),
    )

once_from : (from : ℕ) (sockets : List ℕ) → AreOnce (map index_of (heaps_from from sockets))
once_from from [] heap = omega arith
once_from from (socket ∷ sockets) heap = by_test (from == heap) refl (once_from (from + 1) sockets heap)
  where
    rest : List ℕ
    rest = map index_of (heaps_from (from + 1) sockets)

    by_test : (test : Bool) → (from == heap) ≡ test → count_by (λ (other : ℕ). other == heap) rest ≤ 1
        → count_by (λ (other : ℕ). other == heap) (from ∷ rest) ≤ 1
    by_test true same later =
        let measure : cond {A = ℕ} (from == heap) 1 0 ≡ 1 = rw same refl in
        let here = eqb-true from heap same in
        omega (
          arith,
          count_by-cons (λ (other : ℕ). other == heap) from rest,
          measure,
          none_below (from + 1) sockets heap (omega (arith, here)),
        )
    by_test false apart later =
        let measure : cond {A = ℕ} (from == heap) 1 0 ≡ 0 = rw apart refl in
        omega (arith, count_by-cons (λ (other : ℕ). other == heap) from rest, measure, later)

socket_once : (pools : List PoolLine) → AreOnce (map index_of (socket_heaps pools))
socket_once pools = once_from 0 (sockets_of pools)

-- what passes one test, and of what doesn't what passes another, counted by a third
parts_counted : {X : Type 0} (p q counted : X → Bool) (xs : List X)
    → count_by counted (filter p xs) + count_by counted (filter (λ (x : X). q x && not (p x)) xs) ≤ count_by counted xs
parts_counted p q counted [] = omega arith
parts_counted {X} p q counted (x ∷ xs) = tested (p x) (q x) (parts_counted p q counted xs)
  where
    others : List X
    others = filter (λ (x : X). q x && not (p x)) xs

    tested : (own other : Bool) → count_by counted (filter p xs) + count_by counted others ≤ count_by counted xs
        → count_by counted (cond own (x ∷ filter p xs) (filter p xs)) + count_by counted (cond (other && not own) (x ∷ others) others)
        ≤ count_by counted (x ∷ xs)
    tested true true few = omega (arith, few, count_by-cons counted x (filter p xs), count_by-cons counted x xs)
    tested true false few = omega (arith, few, count_by-cons counted x (filter p xs), count_by-cons counted x xs)
    tested false true few = omega (arith, few, count_by-cons counted x others, count_by-cons counted x xs)
    tested false false few = omega (arith, few, count_by-cons counted x xs)

own_once : (own : ℕ) (heaps : List NamedHeap) → AreOnce (map index_of heaps) → AreOnce (map index_of (own_first own heaps))
own_once own heaps once heap =
    let mine = filter (takes_pages_of own) heaps in
    let others = filter (λ (heap : NamedHeap). is_some heap.serves && not (takes_pages_of own heap)) heaps in
    omega (
      arith,
      count_map index_of (λ (other : ℕ). other == heap) (mine ++ others),
      count_by-append (λ (named : NamedHeap). named.index == heap) mine others,
      parts_counted (takes_pages_of own) (λ (heap : NamedHeap). is_some heap.serves) (λ (named : NamedHeap). named.index == heap) heaps,
      count_map index_of (λ (other : ℕ). other == heap) heaps,
      once heap,
    )

-- the heaps that have a name, by rising index
abbrev search : (ℕ → Option HeapName) → ℕ → ℕ → List NamedHeap
search at from n = filter_map (λ index. named_at index (at index)) (range_with_len from n)

named_below : (at : ℕ → Option HeapName) (n from heap : ℕ) → heap < from
    → count_by (λ (other : ℕ). other == heap) (map index_of (search at from n)) ≡ 0
named_below at zero from heap below = refl
named_below at (suc n) from heap below = by_name (at from) refl (named_below at n (from + 1) heap (omega (arith, below)))
  where
    rest : List ℕ
    rest = map index_of (search at (from + 1) n)

    by_name : (name : Option HeapName) → at from ≡ name → count_by (λ (other : ℕ). other == heap) rest ≡ 0
        → count_by (λ (other : ℕ). other == heap) (map index_of (search at from (suc n))) ≡ 0
    by_name None is later = rw is later
    by_name (Some name) is later =
        let apart : (from == heap) ≡ false = ne_eqb from heap (λ same. omega (arith, same, below)) in
        let measure : cond {A = ℕ} (from == heap) 1 0 ≡ 0 = rw apart refl in
        let counted : count_by (λ (other : ℕ). other == heap) (from ∷ rest) ≡ 0 =
        omega (arith, count_by-cons (λ (other : ℕ). other == heap) from rest, measure, later) in
        rw is counted

named_from : (at : ℕ → Option HeapName) (n from : ℕ) → AreOnce (map index_of (search at from n))
named_from at zero from heap = omega arith
named_from at (suc n) from heap = by_name (at from) refl (named_from at n (from + 1) heap)
  where
    rest : List ℕ
    rest = map index_of (search at (from + 1) n)

    by_test : (test : Bool) → (from == heap) ≡ test → count_by (λ (other : ℕ). other == heap) rest ≤ 1
        → count_by (λ (other : ℕ). other == heap) (from ∷ rest) ≤ 1
    by_test true same later =
        let measure : cond {A = ℕ} (from == heap) 1 0 ≡ 1 = rw same refl in
        omega (
          arith,
          count_by-cons (λ (other : ℕ). other == heap) from rest,
          measure,
          named_below at n (from + 1) heap (omega (arith, eqb-true from heap same)),
        )
    by_test false apart later =
        let measure : cond {A = ℕ} (from == heap) 1 0 ≡ 0 = rw apart refl in
        omega (arith, count_by-cons (λ (other : ℕ). other == heap) from rest, measure, later)

    by_name : (name : Option HeapName) → at from ≡ name → count_by (λ (other : ℕ). other == heap) rest ≤ 1
        → count_by (λ (other : ℕ). other == heap) (map index_of (search at from (suc n))) ≤ 1
    by_name None is later = rw is later
    by_name (Some name) is later = rw is (by_test (from == heap) refl later)

pub named_once : (plain : PlainDirectory) → AreOnce (map index_of (heaps_in plain))
unfolding heaps_in
named_once plain = named_from (heap_at plain) MAX_HEAPS 0

-- an allocation tries no heap twice
heaps_for_once : (own : ℕ) (heaps : List NamedHeap) (name : Option (List ℕ)) (choice : SocketChoice) → AreOnce (map index_of heaps)
    → AreOnce (map index_of (heaps_for own heaps name choice))
heaps_for_once own heaps (Some name) choice once = once_listed index_of (find (has_name name) heaps)
heaps_for_once own heaps None (Number socket) once = once_listed index_of (find (takes_pages_of socket) heaps)
heaps_for_once own heaps None Any once = own_once own heaps once

pub named_places_once : (heaps : List NamedHeap) (places : List SearchedHeap) → places ≡ map place_named heaps → AreOnce (map index_of heaps)
    → AreOnce (map (λ (place : SearchedHeap). place.index) places)
named_places_once heaps places are once =
    subst AreOnce
    (sym (ap (map (λ (place : SearchedHeap). place.index)) are ∙ map-mapped (λ (place : SearchedHeap). place.index) place_named heaps)) once

-- of sockets, or of all that have a name
pub places_once : (pools : List PoolLine) (own : ℕ) (name : Option (List ℕ)) (choice : SocketChoice) (places : List SearchedHeap)
    → places ≡ map place_named (heaps_for own (socket_heaps pools) name choice) → AreOnce (map (λ (place : SearchedHeap). place.index) places)
places_once pools own name choice places are =
    named_places_once (heaps_for own (socket_heaps pools) name choice) places are
    (heaps_for_once own (socket_heaps pools) name choice (socket_once pools))

pub zone_places_once : (plain : PlainDirectory) (own : ℕ) (name : Option (List ℕ)) (choice : SocketChoice) (places : List SearchedHeap)
    → places ≡ map place_named (heaps_for own (heaps_in plain) name choice) → AreOnce (map (λ (place : SearchedHeap). place.index) places)
zone_places_once plain own name choice places are =
    named_places_once (heaps_for own (heaps_in plain) name choice) places are
    (heaps_for_once own (heaps_in plain) name choice (named_once plain))

-- the one heap that a line found by its name, or where its own element lies
pub one_once : (found : Option SearchedHeap) (places : List SearchedHeap) → places ≡ option_to_list found
    → AreOnce (map (λ (place : SearchedHeap). place.index) places)
one_once found places is =
    subst AreOnce (ap (map (λ (place : SearchedHeap). place.index)) (sym is)) (once_listed (λ (place : SearchedHeap). place.index) found)
