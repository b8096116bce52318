-- How far the clock of one thread goes on in several waits one after another.
use Rattle.std.proofs.Common.{◌≡◌, ℕ, zero, suc, ◌+◌, ◌*◌, ◌≤◌, Bool, true, false, cond, not, ◌&&◌, ◌||◌, List, [], ◌∷◌, ◌++◌, filter, filter_map, find, length, map, Option, Some, None, is_some, refl, ap, arith}
use Rattle.std.specs.List.{range_with_len}
use Rattle.std.specs.Option.{option_to_list}
use Rattle.std.proofs.lemmas.List.{length-append, length-map}
use Rattle.std.proofs.Math.Nat.{add-mul, mul-le-mul_right}
use Rattle.hp_base.specs.Pages.{page_sizes}
use Rattle.hp_base.specs.declared.limits.TheConstants.{MAX_HEAPS}
use Rattle.hp_base.specs.declared.pool_line.PoolLine.{PoolLine}
use Rattle.hp_base.specs.Flags.{is_hint, names_page, names_pages}
use Rattle.hp_script.specs.declared.options.SocketChoice.{SocketChoice}
use Rattle.hp_script.specs.declared.options.SocketChoice.TheVariants.{Any, Number}
use Rattle.hp_serve.specs.Clocks.{RisesWithin}
use Rattle.hp_proc.specs.Heaps.{NamedHeap, has_name, has_pool, heaps_for, names_socket, page_sizes_for, socket_heaps, sockets_of, takes_pages_of}
use Rattle.hp_proc.specs.PlaceLists.{place_named}
use Rattle.hp_proc.specs.SharedNames.{heaps_in, named_at}
use Rattle.hp_proc.specs.declared.searched_heap.SearchedHeap.{SearchedHeap}
use Rattle.hp_zone.specs.Directory.{PlainDirectory, heap_at}
use Rattle.hp_zone.specs.declared.heap_name.HeapName.{HeapName}
use Rattle.hp_proc.proofs.Mapped.{length-filter_le}
use Rattle.hp_proc.proofs.SocketHeapLemmas.{length-heaps_from}

module _ {T : Type 0} (pending : ℕ → ℕ → ℕ) (IsBusy : T → Type 0) where
  -- one rise after another
  pub rises_then : (first second old mid new : ℕ) → RisesWithin pending IsBusy first old mid → RisesWithin pending IsBusy second mid new
      → RisesWithin pending IsBusy (first + second) old new
  rises_then first second old mid new before behind = λ one. omega (arith, before one, behind one)

  -- one rise more of so many alike
  pub rises_more : (count step most old mid new : ℕ) → most ≡ step → RisesWithin pending IsBusy (count * step) old mid
      → RisesWithin pending IsBusy most mid new → RisesWithin pending IsBusy ((count + 1) * step) old new
  rises_more count step most old mid new alike before behind = λ one.
      omega (arith, before one, behind one, alike, add-mul count 1 step)

  -- so many rises are within as many or more
  pub rises_within : (count all step old new : ℕ) → count ≤ all → RisesWithin pending IsBusy (count * step) old new
      → RisesWithin pending IsBusy (all * step) old new
  rises_within count all step old new few rises = λ one. omega (arith, rises one, mul-le-mul_right step few)

-- what passes one test, and of what doesn't what passes another
parts_few : {X : Type 0} (p q : X → Bool) (xs : List X) → length (filter p xs) + length (filter (λ (x : X). q x && not (p x)) xs) ≤ length xs
parts_few p q [] = omega arith
parts_few {X} p q (x ∷ xs) = tested (p x) (q x) (parts_few p q xs)
  where
    others : List X
    others = filter (λ (x : X). q x && not (p x)) xs

    tested : (own other : Bool) → length (filter p xs) + length others ≤ length xs
        → length (cond own (x ∷ filter p xs) (filter p xs)) + length (cond (other && not own) (x ∷ others) others) ≤ suc (length xs)
    tested true true few = omega (arith, few)
    tested true false few = omega (arith, few)
    tested false true few = omega (arith, few)
    tested false false few = omega (arith, few)

-- it asks for eight page sizes at most
pub few_page_sizes : (pools : List PoolLine) (socket flags : ℕ) → length (page_sizes_for pools socket flags) ≤ 8
few_page_sizes pools socket flags = tested (is_hint flags || not (names_pages flags))
  where
    named : List ℕ
    named = filter (names_page flags) page_sizes

    others : List ℕ
    others = filter (λ (page : ℕ). has_pool pools socket page && not (names_page flags page)) page_sizes

    tested : (all : Bool) → length (named ++ cond all others []) ≤ 8
    tested true = omega (arith, length-append named others, parts_few (names_page flags) (has_pool pools socket) page_sizes)
    tested false = omega (arith, length-append named [], length-filter_le (names_page flags) page_sizes)

-- there are at most as many heaps of sockets as heaps
few_socket_heaps : (pools : List PoolLine) → length (socket_heaps pools) ≤ MAX_HEAPS
few_socket_heaps pools =
    omega (arith, length-heaps_from 0 (sockets_of pools), length-filter_le (names_socket pools) (range_with_len 0 32))

few_found : {X : Type 0} (p : X → Bool) (xs : List X) → length (option_to_list (find p xs)) ≤ 1
few_found {X} p xs = found (find p xs)
  where
    found : (one : Option X) → length (option_to_list one) ≤ 1
    found None = omega arith
    found (Some x) = omega arith

-- nor of heaps that have a name
few_named : (at : ℕ → Option HeapName) (n from : ℕ) → length (filter_map (λ index. named_at index (at index)) (range_with_len from n)) ≤ n
few_named at zero from = omega arith
few_named at (suc n) from = by_name (at from) refl (few_named at n (from + 1))
  where
    by_name : (name : Option HeapName) → at from ≡ name
        → length (filter_map (λ index. named_at index (at index)) (range_with_len (from + 1) n)) ≤ n
        → length (filter_map (λ index. named_at index (at index)) (range_with_len from (suc n))) ≤ suc n
    by_name None is few = rw is (omega (arith, few))
    by_name (Some name) is few = rw is (omega (arith, few))

few_heaps_in : (plain : PlainDirectory) → length (heaps_in plain) ≤ MAX_HEAPS
unfolding heaps_in
few_heaps_in plain = few_named (heap_at plain) MAX_HEAPS 0

few_chosen : (heaps : List NamedHeap) (own : ℕ) (name : Option (List ℕ)) (choice : SocketChoice) → length heaps ≤ MAX_HEAPS
    → length (heaps_for own heaps name choice) ≤ MAX_HEAPS
few_chosen heaps own (Some name) choice few = omega (arith, few_found (has_name name) heaps)
few_chosen heaps own None (Number socket) few = omega (arith, few_found (takes_pages_of socket) heaps)
few_chosen heaps own None Any few =
    let mine = filter (takes_pages_of own) heaps in
    let others = filter (λ (heap : NamedHeap). is_some heap.serves && not (takes_pages_of own heap)) heaps in
    omega (arith, length-append mine others, parts_few (takes_pages_of own) (λ (heap : NamedHeap). is_some heap.serves) heaps, few)

-- an allocation tries each heap once at most
pub few_places : (pools : List PoolLine) (own : ℕ) (name : Option (List ℕ)) (choice : SocketChoice) (places : List SearchedHeap)
    → places ≡ map place_named (heaps_for own (socket_heaps pools) name choice) → length places ≤ MAX_HEAPS
few_places pools own name choice places are =
    omega (
      arith,
      few_chosen (socket_heaps pools) own name choice (few_socket_heaps pools),
      length-map (heaps_for own (socket_heaps pools) name choice) place_named,
      ap length are,
    )

-- and so does a reservation
pub few_zone_places : (plain : PlainDirectory) (own : ℕ) (name : Option (List ℕ)) (choice : SocketChoice) (places : List SearchedHeap)
    → places ≡ map place_named (heaps_for own (heaps_in plain) name choice) → length places ≤ MAX_HEAPS
few_zone_places plain own name choice places are =
    omega (
      arith,
      few_chosen (heaps_in plain) own name choice (few_heaps_in plain),
      length-map (heaps_for own (heaps_in plain) name choice) place_named,
      ap length are,
    )
