-- Busy elements of a tiled heap, by the address of their data.
use Rattle.std.proofs.Common.{◌≡◌, ℕ, ◌+◌, ◌<◌, ◌≤◌, inl, inr, Bool, true, false, cond, not, Contains, Option, Some, None, refl, sym, ap, ◌∙◌, arith, eqb, leb, ltb}
use Rattle.std.proofs.lemmas.Bool.{and_parts, and_from, eqb-true, false≢true, le-leb, lt-ltb, cases_lt}
use Rattle.std.specs.List.{find}
use Rattle.hp_base.specs.declared.span.Span.{Span}
use Rattle.hp_base.specs.declared.span.SpanState.{SpanState}
use Rattle.hp_base.specs.declared.span.SpanState.TheVariants.{Free, Busy}
use Rattle.hp_heap.specs.PlainHeap.{PlainHeap, end_of, is_free_state, pad_of_state, size_of_state, data_address}
use Rattle.hp_heap.specs.Tiling.{IsTiled, IsElement, HasRoomFor, in_range, range_at}
use Rattle.hp_heap.specs.Joining.{busy_at, has_data_at}
use Rattle.hp_heap.proofs.AllocFacts.ChoiceLaw.{AllByRecursion-contains}
use Rattle.hp_heap.proofs.Members.{find_some, find_none, counted_once}

-- an element, where its data are at an address
abbrev pub if_data : ℕ → Option Span → Option Span
if_data addr None = None
if_data addr (Some range) = cond (has_data_at addr range) (Some range) None

-- the data of a busy element end within it
data_room : (whole : ℕ) (state : SpanState) → not (is_free_state state) ≡ true → HasRoomFor whole state
    → (0 < size_of_state state) × (pad_of_state state + 128 + size_of_state state ≤ whole)
data_room whole (Free stamp) is room = absurd (false≢true is)
data_room whole (Busy pad size tag) is room = (room.size_some, room.room)

-- an element has its data at an address: there are some, and they lie in it
pub record HasData (addr : ℕ) (range : Span) : Type 0 where
  pub at : data_address range ≡ addr
  pub some : 0 < size_of_state range.state
  pub from : range.addr + 128 ≤ addr
  pub to : addr + size_of_state range.state ≤ end_of range

module _ (heap : PlainHeap) (tiled : IsTiled heap) where
  pub has_data : (addr : ℕ) (range : Span) → Contains heap.ranges range → has_data_at addr range ≡ true → HasData addr range
  has_data addr range among has =
      let (busy, at) = and_parts (not (is_free_state range.state)) (eqb (data_address range) addr) has in
      let same : data_address range ≡ addr = eqb-true (data_address range) addr at in
      let element = AllByRecursion-contains (IsElement heap.insertions) heap.ranges range tiled.tiling.elements among in
      let room = data_room range.whole range.state busy element.busy in
      record { at = same; some = room.0; from = omega (arith, same); to = omega (arith, same, room.1) }

  -- each byte of an element is in it
  pub in_element : (byte : ℕ) (range : Span) → range.addr ≤ byte → byte < end_of range → in_range byte range ≡ true
  in_element byte range from to = and_from (leb range.addr byte) (ltb byte (range.addr + range.whole)) (le-leb range.addr byte from) (lt-ltb byte (range.addr + range.whole) to)

  pub data_in : (addr byte : ℕ) (range : Span) → HasData addr range → addr ≤ byte → byte < addr + size_of_state range.state → in_range byte range ≡ true
  data_in addr byte range has from to = in_element byte range (omega (arith, has.from)) (omega (arith, has.to))

  -- two elements with a byte in common are one
  pub one_element : (byte : ℕ) (range other : Span) → Contains heap.ranges range → Contains heap.ranges other → in_range byte range ≡ true → in_range byte other ≡ true
      → range ≡ other
  one_element byte range other among among' is is' = counted_once (in_range byte) heap.ranges range other (tiled.tiling.single byte) (is, among) (is', among')

  -- the busy element with its data at an address is the one that has them there
  pub busy_there : (addr : ℕ) (range : Span) → Contains heap.ranges range → has_data_at addr range ≡ true → busy_at addr heap ≡ Some range
  unfolding busy_at
  busy_there addr range among has = by_search (find (has_data_at addr) heap.ranges) refl
    where
      by_search : (o : Option Span) → find (has_data_at addr) heap.ranges ≡ o → o ≡ Some range
      by_search None none = absurd (false≢true (sym (AllByRecursion-contains (λ q. has_data_at addr q ≡ false) heap.ranges range (find_none (has_data_at addr) heap.ranges none) among) ∙ has))
      by_search (Some other) searched =
          let found = find_some (has_data_at addr) heap.ranges other searched in
          let mine = has_data addr range among has in
          let its = has_data addr other found.1 found.0 in
          ap Some (one_element addr other range found.1 among (data_in addr addr other its (omega arith) (omega (arith, its.some))) (data_in addr addr range mine (omega arith) (omega (arith, mine.some))))

  -- what is found has them there
  pub record IsBusyAt (addr : ℕ) (range : Span) : Type 0 where
    pub among : Contains heap.ranges range
    pub has : has_data_at addr range ≡ true
    pub data_is : HasData addr range

  pub busy_is : (addr : ℕ) (range : Span) → busy_at addr heap ≡ Some range → IsBusyAt addr range
  unfolding busy_at
  busy_is addr range is =
      let found = find_some (has_data_at addr) heap.ranges range is in
      record { among = found.1; has = found.0; data_is = has_data addr range found.1 found.0 }

  -- it is the element that contains the address, where that has its data there
  pub busy_by_range : (addr : ℕ) → busy_at addr heap ≡ if_data addr (range_at addr heap)
  unfolding range_at
  busy_by_range addr = by_search (find (in_range addr) heap.ranges) refl
    where
      none_there : (range : Span) → busy_at addr heap ≡ Some range → in_range addr range ≡ true
      none_there range is = let its = busy_is addr range is in data_in addr addr range its.data_is (omega arith) (omega (arith, its.data_is.some))

      by_busy : (o : Option Span) → busy_at addr heap ≡ o → ((range : Span) → o ≡ Some range → ⊥) → o ≡ None
      by_busy None is nothing = refl
      by_busy (Some range) is nothing = absurd (nothing range refl)

      by_test : (range : Span) (b : Bool) → has_data_at addr range ≡ b → Contains heap.ranges range → in_range addr range ≡ true → busy_at addr heap ≡ cond b (Some range) None
      by_test range true has among inside = busy_there addr range among has
      by_test range false lacks among inside =
          by_busy (busy_at addr heap) refl (λ other is.
          let its = busy_is addr other is in
          let same : range ≡ other = one_element addr range other among its.among inside (none_there other is) in
          false≢true (sym lacks ∙ ap (has_data_at addr) same ∙ its.has))

      by_search : (o : Option Span) → find (in_range addr) heap.ranges ≡ o → busy_at addr heap ≡ if_data addr o
      by_search None none = by_busy (busy_at addr heap) refl (λ other is.
          let its = busy_is addr other is in
          false≢true (sym (AllByRecursion-contains (λ q. in_range addr q ≡ false) heap.ranges other (find_none (in_range addr) heap.ranges none) its.among) ∙ none_there other is))
      by_search (Some range) searched =
          let found = find_some (in_range addr) heap.ranges range searched in
          by_test range (has_data_at addr range) refl found.1 found.0

  -- the data of two busy elements are apart: those that begin first end first
  pub data_apart : (a b : ℕ) (first second : Span) → busy_at a heap ≡ Some first → busy_at b heap ≡ Some second → a < b → a + size_of_state first.state ≤ b
  data_apart a b first second is is' below = elim (cases_lt b (a + size_of_state first.state)) [
    | inl over ↦ (
        let one = busy_is a first is in
        let other = busy_is b second is' in
        let same : first ≡ second = one_element b first second one.among other.among (data_in a b first one.data_is (omega arith) over) (data_in b b second other.data_is (omega arith) (omega (arith, other.data_is.some))) in
        let at : data_address first ≡ b = ap data_address same ∙ other.data_is.at in
        absurd (omega (arith, one.data_is.at, at)))
    | inr apart ↦ apart
  ]
