-- A heap that has a name takes the pages of the socket that has its place, or nobody's.
use Rattle.std.proofs.Common.{◌≡◌, ◌≢◌, ◌∙◌, ℕ, zero, suc, ◌+◌, ◌-◌, ◌<◌, ◌≤◌, Bool, true, false, List, [], ◌∷◌, ◌++◌, filter_map, length, get_or, map, replicate, set, slice_get, Option, Some, None, refl, ap, sym, subst, arith, inl, inr}
use Rattle.std.specs.Prelude.{◌⊎◌, ⊤, nat_lt}
use Rattle.std.specs.List.{All, range_with_len}
use Rattle.std.specs.Option.{option_flatten}
use Rattle.std.proofs.lemmas.Bool.{cases_eq, cases_lt, false_from_ne_true, lt-ltb, ltb-true}
use Rattle.std.proofs.lemmas.List.{get_or-set_other, get_or-set_same, length-set}
use Rattle.std.proofs.lemmas.List.Elements.{All-cons, All-get_or, All-nil}
use Rattle.std.proofs.lemmas.Option.{get_or_from_slice_get, none-some, same_Some, slice_get-get_or, slice_get_cases, slice_get_within}
use Rattle.hp_base.specs.declared.limits.TheConstants.{MAX_HEAPS}
use Rattle.hp_base.specs.declared.pool_line.PoolLine.{PoolLine}
use Rattle.hp_zone.specs.Directory.{DirectoryView, HasSocketHeaps, IsDirectory, MayOpen, PlainDirectory, after_change, directory_after, heap_at, opening, socket_given, socket_heap}
use Rattle.hp_zone.specs.declared.heap_name.HeapName.{HeapName}
use Rattle.hp_zone.specs.declared.limits.TheConstants.{FIRST_EXTERNAL_SOCKET}
use Rattle.hp_zone.specs.declared.name_change.NameChange.{NameChange}
use Rattle.hp_zone.specs.declared.name_change.NameChange.TheVariants.{Named, Range, RangeGone, Unnamed}
use Rattle.hp_proc.specs.Contexts.{IsPlaceOf}
use Rattle.hp_proc.specs.Heaps.{NamedHeap, sockets_of}
use Rattle.hp_proc.specs.PlaceLists.{place_named}
use Rattle.hp_proc.specs.SharedNames.{heaps_in, named_at, served_by}
use Rattle.hp_proc.proofs.SocketNames.{slot_past}

-- a heap of that number is that of a socket, at its place, or an external one
abbrev IsOf : ℕ → ℕ → HeapName → Type 0
IsOf count index heap = (index < count) ⊎ (FIRST_EXTERNAL_SOCKET ≤ heap.socket)

abbrev ArePlaced : ℕ → List (Option HeapName) → Type 0
ArePlaced count heaps = (index : ℕ) (heap : HeapName) → slice_get heaps index ≡ Some (Some heap) → IsOf count index heap

-- a change gives no number of a socket
abbrev IsHigh : NameChange → Type 0
IsHigh (Named index socket name) = FIRST_EXTERNAL_SOCKET ≤ socket
IsHigh _ = ⊤

abbrev AreHigh : List NameChange → Type 0
AreHigh [] = ⊤
AreHigh (change ∷ log) = IsHigh change × AreHigh log

-- what is found after one heap was named, or lost its name
set_found : (heaps : List (Option HeapName)) (at : ℕ) (new : Option HeapName) (index : ℕ) (heap : HeapName)
    → slice_get (set heaps at new) index ≡ Some (Some heap) → ((index ≡ at) × (new ≡ Some heap)) ⊎ (slice_get heaps index ≡ Some (Some heap))
set_found heaps at new index heap is =
    let within : index < length (set heaps at new) = slice_get_within (set heaps at new) index (Some heap) is in
    let here : get_or (set heaps at new) index None ≡ Some heap = get_or_from_slice_get (set heaps at new) index (Some heap) None is in
    let long : length (set heaps at new) ≡ length heaps = length-set heaps at new in
    let low : index < length heaps = omega (arith, within, long) in
    elim (cases_eq index at) [
      | inl same ↦
          inl (
            same,
            sym (get_or-set_same heaps at new None (subst (λ (n : ℕ). n < length heaps) same low))
                ∙ (ap (λ (n : ℕ). get_or (set heaps at new) n None) (sym same) ∙ here),
          )
      | inr other ↦
          inr (slice_get-get_or heaps index None low ∙ ap Some (sym (get_or-set_other heaps at index new None other) ∙ here))
    ]

module _ (count : ℕ) where
  change_placed : (plain : PlainDirectory) (change : NameChange) → IsHigh change → ArePlaced count plain.heaps
      → ArePlaced count (after_change plain change).heaps
  change_placed plain (Named at socket name) high placed index heap is =
      elim (set_found plain.heaps at (Some (record { name = name; socket = socket })) index heap is) [
        | inl found ↦ inr (subst (λ (heap : HeapName). FIRST_EXTERNAL_SOCKET ≤ heap.socket) (same_Some _ _ found.1) high)
        | inr found ↦ placed index heap found
      ]
  change_placed plain (Unnamed at) high placed index heap is =
      elim (set_found plain.heaps at None index heap is) [
        | inl found ↦ absurd (none-some heap found.1)
        | inr found ↦ placed index heap found
      ]
  change_placed plain (Range at addr len page) high placed index heap is = placed index heap is
  change_placed plain (RangeGone at addr) high placed index heap is = placed index heap is

  log_placed : (log : List NameChange) (plain : PlainDirectory) → AreHigh log → ArePlaced count plain.heaps
      → ArePlaced count (directory_after plain log).heaps
  log_placed [] plain high placed = placed
  log_placed (change ∷ log) plain high placed = log_placed log (after_change plain change) high.1 (change_placed plain change high.0 placed)

opening_placed : (sockets : List ℕ) → ArePlaced (length sockets) (opening sockets).heaps
opening_placed sockets index heap is =
    elim (cases_lt index (length sockets)) [
      | inl low ↦ inl low
      | inr past ↦ absurd (none-some heap (sym (slot_past sockets (MAX_HEAPS - length sockets) index past) ∙ ap option_flatten is))
    ]

-- the numbers that a log gives are those of external heaps
all_high : (log : List NameChange) (from n : ℕ) → FIRST_EXTERNAL_SOCKET ≤ from → filter_map socket_given log ≡ range_with_len from n → AreHigh log
all_high [] from n above are = tt
all_high (Named index socket name ∷ log) from zero above are = absurd cc
all_high (Named index socket name ∷ log) from (suc n) above are =
    let first : socket ≡ from = cc in
    let rest : filter_map socket_given log ≡ range_with_len (from + 1) n = cc in
    (omega (arith, first, above), all_high log (from + 1) n (omega (arith, above)) rest)
all_high (Unnamed index ∷ log) from n above are = (tt, all_high log from n above are)
all_high (Range index addr len page ∷ log) from n above are = (tt, all_high log from n above are)
all_high (RangeGone index addr ∷ log) from n above are = (tt, all_high log from n above are)

module _ (view : DirectoryView) (is : IsDirectory view) where
  placed : ArePlaced (length view.sockets) view.plain.heaps
  placed =
      subst (λ (plain : PlainDirectory). ArePlaced (length view.sockets) plain.heaps) (sym is.replayed)
      (log_placed (length view.sockets) view.log (opening view.sockets)
      (all_high view.log FIRST_EXTERNAL_SOCKET (view.plain.next - FIRST_EXTERNAL_SOCKET) (omega arith) is.given) (opening_placed view.sockets))

  -- whose pages the heap of an index takes
  pub serves_as : (index : ℕ) (heap : HeapName) → slice_get view.plain.heaps index ≡ Some (Some heap)
      → served_by heap.socket ≡ slice_get view.sockets index
  serves_as index heap there = by_cases ((slice_get_cases view.sockets index).1)
    where
      low_served : (socket : ℕ) → socket < FIRST_EXTERNAL_SOCKET → served_by socket ≡ Some socket
      low_served socket low = rw (lt-ltb socket FIRST_EXTERNAL_SOCKET low) refl

      high_served : (socket : ℕ) → FIRST_EXTERNAL_SOCKET ≤ socket → served_by socket ≡ None
      high_served socket high =
          rw (false_from_ne_true (nat_lt socket FIRST_EXTERNAL_SOCKET) (λ low. omega (arith, ltb-true socket FIRST_EXTERNAL_SOCKET low, high))) refl

      of_socket : (socket : ℕ) → Some (socket_heap socket) ≡ Some (Some heap) → socket ≡ heap.socket
      of_socket socket both = cc

      by_cases : (((socket : ℕ) × (index < length view.sockets) × (slice_get view.sockets index ≡ Some socket) × (get_or view.sockets index socket ≡ socket))
          ⊎ ((length view.sockets ≤ index) × (slice_get view.sockets index ≡ None))) → served_by heap.socket ≡ slice_get view.sockets index
      by_cases (inl (socket, within, its, at)) =
          let low : socket < FIRST_EXTERNAL_SOCKET =
          subst (λ (socket : ℕ). socket < FIRST_EXTERNAL_SOCKET) at
          (All-get_or (λ socket. socket < FIRST_EXTERNAL_SOCKET) view.sockets index socket within is.opened.low) in
          let same = of_socket socket (sym (is.socket_heaps index socket its) ∙ there) in
          ap served_by (sym same) ∙ (low_served socket low ∙ sym its)
      by_cases (inr (past, none)) =
          elim (placed index heap there) [
            | inl low ↦ absurd (omega (arith, low, past))
            | inr high ↦ high_served heap.socket high ∙ sym none
          ]

  -- heaps that have a name, from one index on
  all_from : (pools : List PoolLine) → view.sockets ≡ sockets_of pools → (n from : ℕ) → from + n ≤ MAX_HEAPS
      → All (λ heap. IsPlaceOf pools (place_named heap)) (filter_map (λ index. named_at index (heap_at view.plain index)) (range_with_len from n))
  all_from pools same zero from few = All-nil (λ heap. IsPlaceOf pools (place_named heap))
  all_from pools same (suc n) from few =
      by_name (heap_at view.plain from) refl (all_from pools same n (from + 1) (omega (arith, few)))
    where
      P : NamedHeap → Type 0
      P heap = IsPlaceOf pools (place_named heap)

      rest : List NamedHeap
      rest = filter_map (λ index. named_at index (heap_at view.plain index)) (range_with_len (from + 1) n)

      there : (found : Option (Option HeapName)) (heap : HeapName) → slice_get view.plain.heaps from ≡ found → option_flatten found ≡ Some heap
          → slice_get view.plain.heaps from ≡ Some (Some heap)
      there None heap is some = absurd (none-some heap some)
      there (Some None) heap is some = absurd (none-some heap some)
      there (Some (Some other)) heap is some = is ∙ ap Some some

      by_name : (name : Option HeapName) → heap_at view.plain from ≡ name → All P rest
          → All P (filter_map (λ index. named_at index (heap_at view.plain index)) (range_with_len from (suc n)))
      by_name None is later = rw is later
      by_name (Some heap) is later =
          let its : P (record { index = from; name = heap.name; serves = served_by heap.socket }) =
          record {
            few = omega (arith, few);
            serves = serves_as from heap (there (slice_get view.plain.heaps from) heap refl is)
                ∙ ap (λ (sockets : List ℕ). slice_get sockets from) same;
          } in
          rw is (All-cons P (record { index = from; name = heap.name; serves = served_by heap.socket }) rest its later)

  -- the places of all heaps that have a name are those of heaps
  pub named_places : (pools : List PoolLine) → view.sockets ≡ sockets_of pools
      → All (λ heap. IsPlaceOf pools (place_named heap)) (heaps_in view.plain)
  unfolding heaps_in
  named_places pools same = all_from pools same MAX_HEAPS 0 (omega arith)
