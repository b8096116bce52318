-- That a name is that of one heap at most, and has at most 31 bytes: in the opening directory, and after each change.
use Rattle.std.proofs.Common.{All, ◌≡◌, ◌≢◌, ◌⊎◌, ℕ, ◌+◌, ◌-◌, ◌^◌, ◌<◌, ◌≤◌, Option, Some, None, sym, ap, subst, ◌∙◌, inl, inr, arith}
use Rattle.std.proofs.Common.{List, [], ◌∷◌, ◌++◌, length, get_or, map, replicate, set, slice_get, codes, decimal}
use Rattle.std.proofs.Math.ListN.{get_or-eq_default}
use Rattle.std.proofs.lemmas.Bool.{cases_eq, cases_lt, cases_order}
use Rattle.std.proofs.lemmas.Fmt.{decimal_injective, length-decimal-le}
use Rattle.std.proofs.lemmas.List.{append_cancel_left, get_or-append_right, get_or-map, get_or-replicate, get_or-set_other}
use Rattle.std.proofs.lemmas.List.{get_or_append_left, length-append, length-map, length-replicate, length-set}
use Rattle.std.proofs.lemmas.List.Elements.{All-get_or, All-head, All-tail}
use Rattle.std.proofs.lemmas.List.Kept.{AllPairs-from_increasing}
use Rattle.std.proofs.lemmas.Grind.{get_or-set_at}
use Rattle.std.proofs.lemmas.Option.{get_or_from_slice_get, same_Some, slice_get-get_or, slice_get_within}
use Rattle.hp_base.specs.declared.limits.TheConstants.{MAX_HEAPS}
use Rattle.hp_zone.specs.declared.limits.TheConstants.{FIRST_EXTERNAL_SOCKET}
use Rattle.hp_zone.specs.declared.heap_name.HeapName.{HeapName}
use Rattle.hp_zone.specs.declared.name_change.NameChange.{NameChange}
use Rattle.hp_zone.specs.declared.name_change.NameChange.TheVariants.{Named, Unnamed, Range, RangeGone}
use Rattle.hp_zone.specs.Directory.{AreApart, MayOpen, PlainDirectory, after_change, directory_after, opening, socket_heap, socket_name}
use Rattle.hp_zone.specs.Laws.{GivesShortName, HasShortNames}
use Rattle.hp_zone.specs.Zones.{IsZoneName}

-- what is the same has the same name
name_is : (one other : HeapName) → Some one ≡ Some other → one.name ≡ other.name
name_is one other is = ap (λ (heap : HeapName). heap.name) (same_Some one other is)

-- after one index was set, what has a name is that index with what was set, or had the name before
named_after_set : (heaps : List (Option HeapName)) (at i : ℕ) (new : Option HeapName) (heap : HeapName)
    → slice_get (set heaps at new) i ≡ Some (Some heap) → ((i ≡ at) × (new ≡ Some heap)) ⊎ (slice_get heaps i ≡ Some (Some heap))
named_after_set heaps at i new heap named =
    let within : i < length heaps = rw (length-set heaps at new) at (slice_get_within (set heaps at new) i (Some heap) named) in
    let here : get_or (set heaps at new) i None ≡ Some heap = get_or_from_slice_get (set heaps at new) i (Some heap) None named in
    elim (cases_eq i at) [
      | inl same ↦ inl (same, sym (get_or-set_at heaps at i new None same (rw same at within)) ∙ here)
      | inr other ↦ inr (slice_get-get_or heaps i None within ∙ ap Some (sym (get_or-set_other heaps at i new None other) ∙ here))
    ]

-- a name that no heap has is that of the heap that gets it
pub AreApart-named : (heaps : List (Option HeapName)) (at : ℕ) (new : HeapName)
    → ((i : ℕ) (heap : HeapName) → slice_get heaps i ≡ Some (Some heap) → heap.name ≢ new.name) → AreApart heaps
    → AreApart (set heaps at (Some new))
AreApart-named heaps at new fresh apart i k one other named_i named_k same =
    let name_of : (heap : HeapName) → Some new ≡ Some heap → new.name ≡ heap.name = name_is new in
    elim (named_after_set heaps at i (Some new) one named_i) [
      | inl here_i ↦
          elim (named_after_set heaps at k (Some new) other named_k) [
            | inl here_k ↦ here_i.0 ∙ sym here_k.0
            | inr there_k ↦ absurd (fresh k other there_k (sym (name_of one here_i.1 ∙ same)))
          ]
      | inr there_i ↦
          elim (named_after_set heaps at k (Some new) other named_k) [
            | inl here_k ↦ absurd (fresh i one there_i (same ∙ sym (name_of other here_k.1)))
            | inr there_k ↦ apart i k one other there_i there_k same
          ]
    ]

-- and a name may go
pub AreApart-unnamed : (heaps : List (Option HeapName)) (at : ℕ) → AreApart heaps → AreApart (set heaps at None)
AreApart-unnamed heaps at apart i k one other named_i named_k same =
    elim (named_after_set heaps at i None one named_i) [
      | inl here_i ↦ let none = here_i.1 in cc
      | inr there_i ↦
          elim (named_after_set heaps at k None other named_k) [
            | inl here_k ↦ let none = here_k.1 in cc
            | inr there_k ↦ apart i k one other there_i there_k same
          ]
    ]

-- sockets of one name are the same
socket_name_injective : (a b : ℕ) → a < 2 ^ 64 → b < 2 ^ 64 → socket_name a ≡ socket_name b → a ≡ b
unfolding socket_name
socket_name_injective a b fits_a fits_b same =
    decimal_injective a b fits_a fits_b (append_cancel_left (codes "socket_") (decimal a) (decimal b) same)

-- the heap of a socket has the socket's name
name_of_socket : (socket : ℕ) (heap : HeapName) → socket_heap socket ≡ Some heap → socket_name socket ≡ heap.name
name_of_socket socket heap is = name_is (record { name = socket_name socket; socket = socket }) heap is

-- n indexes without a name
abbrev no_names : ℕ → List (Option HeapName)
no_names n = replicate n None

read_none : (n i : ℕ) → get_or (no_names n) i None ≡ None
read_none n i =
    elim (cases_lt i n) [
      | inl low ↦ get_or-replicate n i None None low
      | inr high ↦ get_or-eq_default (no_names n) None (rw (length-replicate {A = Option HeapName} n None) high)
    ]

module _ (sockets : List ℕ) where
  -- what has a name in the opening directory is the heap of a socket
  opening_named : (i : ℕ) (heap : HeapName) → slice_get (opening sockets).heaps i ≡ Some (Some heap)
      → (i < length sockets) × (socket_heap (get_or sockets i 0) ≡ Some heap)
  opening_named i heap named =
      let others : List (Option HeapName) = replicate (MAX_HEAPS - length sockets) None in
      let here : get_or (opening sockets).heaps i None ≡ Some heap
      = get_or_from_slice_get (opening sockets).heaps i (Some heap) None named in
      let long : length (map socket_heap sockets) ≡ length sockets = length-map sockets socket_heap in
      elim (cases_lt i (length sockets)) [
        | inl low ↦ (
          low,
          sym (get_or-map socket_heap sockets i 0 None low)
              ∙ (sym (get_or_append_left (map socket_heap sockets) others None i (omega (arith, low, long))) ∙ here),
        )
        | inr high ↦
            let none : get_or (opening sockets).heaps i None ≡ None
            = get_or-append_right (map socket_heap sockets) others (length sockets) i None long high
            ∙ read_none (MAX_HEAPS - length sockets) (i - length sockets) in
            let some : None ≡ Some heap = sym none ∙ here in
            cc
      ]

  pub opening_is_apart : MayOpen sockets → AreApart (opening sockets).heaps
  opening_is_apart may i k one other named_i named_k same =
      let at_i = opening_named i one named_i in
      let at_k = opening_named k other named_k in
      let low_i = All-get_or (λ socket. socket < FIRST_EXTERNAL_SOCKET) sockets i 0 at_i.0 may.low in
      let low_k = All-get_or (λ socket. socket < FIRST_EXTERNAL_SOCKET) sockets k 0 at_k.0 may.low in
      let name_i : socket_name (get_or sockets i 0) ≡ one.name = name_of_socket (get_or sockets i 0) one at_i.1 in
      let name_k : socket_name (get_or sockets k 0) ≡ other.name = name_of_socket (get_or sockets k 0) other at_k.1 in
      let alike : socket_name (get_or sockets i 0) ≡ socket_name (get_or sockets k 0) = name_i ∙ (same ∙ sym name_k) in
      let is : get_or sockets i 0 ≡ get_or sockets k 0
      = socket_name_injective (get_or sockets i 0) (get_or sockets k 0) (omega (arith, low_i)) (omega (arith, low_k)) alike in
      elim (cases_order i k) [
        | inl equal ↦ equal
        | inr (inl below) ↦ let rises = AllPairs-from_increasing sockets may.rising i k 0 below at_k.0 in omega (arith, rises, is)
        | inr (inr above) ↦ let rises = AllPairs-from_increasing sockets may.rising k i 0 above at_i.0 in omega (arith, rises, is)
      ]

-- the name of the heap of a socket has at most 27 bytes
short_socket_name : (socket : ℕ) → socket < 2 ^ 64 → IsZoneName (socket_name socket)
unfolding socket_name
short_socket_name socket fits =
    let long : length (codes "socket_" ++ decimal socket) ≡ 7 + length (decimal socket)
    = length-append (codes "socket_") (decimal socket) in
    let digits : length (decimal socket) ≤ 20 = length-decimal-le 20 socket (omega arith) (omega (arith, fits)) fits in
    record { some = omega (arith, long); short = omega (arith, long, digits) }

pub HasShortNames-opening : (sockets : List ℕ) → MayOpen sockets → HasShortNames (opening sockets)
HasShortNames-opening sockets may index heap there =
    let at = opening_named sockets index heap there in
    let low = All-get_or (λ socket. socket < FIRST_EXTERNAL_SOCKET) sockets index 0 at.0 may.low in
    let named : socket_name (get_or sockets index 0) ≡ heap.name = name_of_socket (get_or sockets index 0) heap at.1 in
    subst IsZoneName named (short_socket_name (get_or sockets index 0) (omega (arith, low)))

HasShortNames-change : (plain : PlainDirectory) (change : NameChange) → GivesShortName change → HasShortNames plain
    → HasShortNames (after_change plain change)
HasShortNames-change plain (Named at socket name) short old index heap named =
    elim (named_after_set plain.heaps at index (Some (record { name = name; socket = socket })) heap named) [
      | inl here ↦ subst IsZoneName (name_is (record { name = name; socket = socket }) heap here.1) short
      | inr there ↦ old index heap there
    ]
HasShortNames-change plain (Unnamed at) short old index heap named =
    elim (named_after_set plain.heaps at index None heap named) [
      | inl here ↦ let none = here.1 in cc
      | inr there ↦ old index heap there
    ]
HasShortNames-change plain (Range at addr len page) short old index heap named = old index heap named
HasShortNames-change plain (RangeGone at addr) short old index heap named = old index heap named

pub HasShortNames-after : (plain : PlainDirectory) (log : List NameChange) → HasShortNames plain → All GivesShortName log
    → HasShortNames (directory_after plain log)
HasShortNames-after plain [] old short = old
HasShortNames-after plain (change ∷ log) old short =
    HasShortNames-after (after_change plain change) log (HasShortNames-change plain change (All-head GivesShortName change log short) old)
    (All-tail GivesShortName change log short)
