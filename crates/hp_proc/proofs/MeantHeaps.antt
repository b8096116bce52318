-- What a name means to a line on an external heap is what the calls on external heaps make of it, and a heap is made where they make it.
use Rattle.std.proofs.Common.{◌≡◌, ◌≢◌, ◌∙◌, ℕ, zero, suc, Bool, true, false, ◌+◌, ◌<◌, ◌≤◌, List, length, Option, Some, None, inl, inr, refl, ap, arith}
use Rattle.std.specs.Prelude.{filter_map, find, is_some, nat_lt, slice_get}
use Rattle.std.specs.List.{range_with_len}
use Rattle.std.specs.Option.{option_flatten}
use Rattle.std.proofs.lemmas.Bool.{cases_eq, false_from_ne_true, ltb-true, lt-ltb}
use Rattle.std.proofs.lemmas.Option.{slice_get_within}
use Rattle.std.proofs.lemmas.Slice.Eq.{bytes_eq-Decides}
use Rattle.hp_base.specs.declared.limits.TheConstants.{MAX_HEAPS}
use Rattle.hp_external.specs.Naming.{IsExternalName, IsSocketName}
use Rattle.hp_zone.specs.Directory.{IsFoundAt, IsNamed, IsNotFound, PlainDirectory, heap_at}
use Rattle.hp_zone.specs.declared.heap_name.HeapName.{HeapName}
use Rattle.hp_zone.specs.declared.limits.TheConstants.{FIRST_EXTERNAL_SOCKET}
use Rattle.hp_proc.proofs.Reservations.{short_from, short_to}
use Rattle.hp_proc.specs.Heaps.{NamedHeap, has_name}
use Rattle.hp_proc.specs.SharedNames.{heaps_in, is_short_name, meant_in, named_at, served_by}
use Rattle.hp_proc.specs.SharedNames.HeapMeant.{External, NoHeap, OfSocket}
use Rattle.hp_proc.specs.VerbLaws.{MeaningsAgree}

-- the heap of an index, as lines name it
abbrev pub named : ℕ → HeapName → NamedHeap
named index heap = record { index = index; name = heap.name; serves = served_by heap.socket }

module _ (plain : PlainDirectory) (text : List ℕ) where
  -- no heap between these indexes has the name
  abbrev NoneBetween : ℕ → ℕ → Type 0
  NoneBetween from to = (index : ℕ) (heap : HeapName) → from ≤ index → index < to → heap_at plain index ≡ Some heap → heap.name ≢ text

  -- the first heap of that name, of so many indexes from one on
  abbrev search : ℕ → ℕ → Option NamedHeap
  search from n = find (has_name text) (filter_map (λ index. named_at index (heap_at plain index)) (range_with_len from n))

  pub other_name : (heap : HeapName) (index : ℕ) → heap.name ≢ text → has_name text (named index heap) ≡ false
  other_name heap index differs = false_from_ne_true _ (λ same. differs ((bytes_eq-Decides heap.name text).0 same))

  none_first : (n from : ℕ) → NoneBetween from (from + suc n) → search (from + 1) n ≡ None → (heap : Option HeapName)
      → heap_at plain from ≡ heap → search from (suc n) ≡ None
  none_first n from none rest None is = rw is rest
  none_first n from none rest (Some heap) is = rw is (rw (other_name heap from (none from heap (omega arith) (omega arith) is)) rest)

  none_found : (n from : ℕ) → NoneBetween from (from + n) → search from n ≡ None
  none_found zero from none = refl
  none_found (suc n) from none =
      none_first n from none (none_found n (from + 1) (λ index heap low high. none index heap (omega (arith, low)) (omega (arith, high))))
      (heap_at plain from) refl

  -- the heap of an index is the first of that name: it is that of the first index, or stands after one of another name
  found_here : (n from : ℕ) (heap : HeapName) → heap_at plain from ≡ Some heap → heap.name ≡ text → search from (suc n) ≡ Some (named from heap)
  found_here n from heap is its_name = rw is (rw ((bytes_eq-Decides heap.name text).1 its_name) refl)

  found_behind : (n from : ℕ) (heap : Option HeapName) (result : Option NamedHeap) → heap_at plain from ≡ heap
      → ((own : HeapName) → heap_at plain from ≡ Some own → own.name ≢ text) → search (from + 1) n ≡ result → search from (suc n) ≡ result
  found_behind n from None result is other rest = rw is rest
  found_behind n from (Some own) result is other rest = rw is (rw (other_name own from (other own is)) rest)

  first_found : (n from index : ℕ) (heap : HeapName) → from ≤ index → index < from + n → heap_at plain index ≡ Some heap
      → heap.name ≡ text → NoneBetween from index → search from n ≡ Some (named index heap)
  first_found zero from index heap low high there its_name none = absurd (omega (arith, low, high))
  first_found (suc n) from index heap low high there its_name none =
      elim (cases_eq from index) [
        | inl same ↦
            found_here n from heap (ap (heap_at plain) same ∙ there) its_name ∙ ap (λ (at : ℕ). Some (named at heap)) same
        | inr other ↦
            found_behind n from (heap_at plain from) (Some (named index heap)) refl
            (λ own is. none from own (omega arith) (omega (arith, low, other)) is)
            (first_found n (from + 1) index heap (omega (arith, low, other)) (omega (arith, high)) there its_name
            (λ at its above under. none at its (omega (arith, above)) under))
      ]

  module _ (long : length plain.heaps ≡ MAX_HEAPS) where
    pub named_there : (index : ℕ) (heap : HeapName) → heap_at plain index ≡ Some heap → IsNamed plain index heap
    named_there index heap is = by_slot (slice_get plain.heaps index) refl is
      where
        by_slot : (slot : Option (Option HeapName)) → slice_get plain.heaps index ≡ slot → option_flatten slot ≡ Some heap
            → slice_get plain.heaps index ≡ Some (Some heap)
        by_slot None its flat = cc
        by_slot (Some None) its flat = cc
        by_slot (Some (Some own)) its flat = its ∙ ap Some flat

    pub no_heap : IsNotFound plain text → find (has_name text) (heaps_in plain) ≡ None
    unfolding heaps_in
    no_heap none = none_found MAX_HEAPS 0 (λ index heap low high is. none index heap (named_there index heap is))

    pub found : (index socket : ℕ) (is : IsFoundAt plain text index socket) → find (has_name text) (heaps_in plain) ≡ Some (named index is.heap)
    unfolding heaps_in
    found index socket is =
        let within : index < length plain.heaps = slice_get_within plain.heaps index (Some is.heap) is.there in
        first_found MAX_HEAPS 0 index is.heap (omega arith) (omega (arith, within, long)) (ap option_flatten is.there) is.named
        (λ at heap low high its. is.first at heap high (named_there at heap its))

    by_socket : (low : Bool) (socket : ℕ) → nat_lt socket FIRST_EXTERNAL_SOCKET ≡ low → is_some (served_by socket) ≡ low
    by_socket true socket is = rw is refl
    by_socket false socket is = rw is refl

    no_heap_there : IsNotFound plain text → meant_in text plain ≡ NoHeap
    no_heap_there none = rw (no_heap none) refl

    socket_there : IsSocketName plain text → meant_in text plain ≡ OfSocket
    socket_there is =
        let low : nat_lt is.found.heap.socket FIRST_EXTERNAL_SOCKET ≡ true =
        lt-ltb is.found.heap.socket FIRST_EXTERNAL_SOCKET (omega (arith, is.low, is.found.socket_is)) in
        rw (found is.index is.socket is.found) (rw (by_socket true is.found.heap.socket low) refl)

    external_there : (index socket : ℕ) → IsExternalName plain text index socket → meant_in text plain ≡ External index socket
    external_there index socket is =
        let high : nat_lt is.found.heap.socket FIRST_EXTERNAL_SOCKET ≡ false =
        false_from_ne_true (nat_lt is.found.heap.socket FIRST_EXTERNAL_SOCKET)
        (λ below. absurd (omega (arith, ltb-true is.found.heap.socket FIRST_EXTERNAL_SOCKET below, is.external, is.found.socket_is))) in
        let at : heap_at plain index ≡ Some is.found.heap = ap option_flatten is.found.there in
        rw (found index socket is.found)
        (rw (by_socket false is.found.heap.socket high) (rw at (ap (External index) is.found.socket_is)))

    pub meanings_agree : MeaningsAgree text plain
    meanings_agree = record {
      no_name = λ is. let short : is_short_name text ≡ false = false_from_ne_true (is_short_name text) (λ passes. is (short_to text passes)) in
          rw short refl;
      no_heap = λ is. rw (short_from text is.0) (no_heap_there is.1);
      of_socket = λ is. rw (short_from text is.0) (socket_there is.1);
      external = λ index socket short is. rw (short_from text short) (external_there index socket is);
      no_heap_there = no_heap_there;
      socket_there = socket_there;
      external_there = external_there;
    }
