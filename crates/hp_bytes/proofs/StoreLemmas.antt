-- What is lent of a store, and what it has once something was written.
use Rattle.std.proofs.Common.{◌≡◌, ℕ, ◌+◌, ◌-◌, ◌<◌, ◌≤◌, inl, inr, Bool, true, false, cond, List, length, take, drop, Option, Some, None, refl, sym, ap, ◌∙◌, arith, eqb}
use Rattle.std.proofs.lemmas.Bool.{eq-eqb, eqb-true, ne_eqb, cases_order, cases_Bool}
use Rattle.std.proofs.lemmas.List.{length-take-le, length-drop}
use Rattle.std.proofs.lemmas.Option.{same_Some, none-some}
use Rattle.std.specs.Option.{option_map}
use Rattle.hp_base.specs.declared.span.Span.{Span}
use Rattle.hp_heap.specs.PlainHeap.{PlainHeap, size_of_state}
use Rattle.hp_heap.specs.Tiling.{IsTiled, range_at}
use Rattle.hp_heap.specs.Joining.{busy_at, has_data_at}
use Rattle.hp_bytes.specs.StoreView.{StoreView}
use Rattle.hp_bytes.specs.Stores.{lies_in, with_bytes, size_of, size_at, data_at, IsData, fault_of, byte_fault}
use Rattle.hp_bytes.specs.Parts.{IsPartOf, AreApart, two_fault}
use Rattle.hp_bytes.specs.Written.{written_over}
use Rattle.hp_bytes.specs.declared.fault.ByteFault.{ByteFault}
use Rattle.hp_bytes.specs.declared.fault.ByteFault.TheVariants.{NotAnElement, Outside, Same}
use Rattle.hp_bytes.specs.declared.part.Part.{Part}
use Rattle.hp_bytes.proofs.ElementLemmas.{if_data, busy_by_range, data_apart}
use Rattle.hp_bytes.proofs.WrittenLemmas.{written-there, written-before, written-behind, written-same}

-- the size of the element that contains an address, where it has its data there
sized : (addr : ℕ) (o : Option Span) → option_map (λ range. size_of_state range.state) (if_data addr o)
    ≡ elim o [ None ↦ None | Some range ↦ cond (has_data_at addr range) (Some (size_of_state range.state)) None ]
sized addr None = refl
sized addr (Some range) = by_test (has_data_at addr range)
  where
    by_test : (b : Bool) → option_map (λ (r : Span). size_of_state r.state) (cond b (Some range) None) ≡ cond b (Some (size_of_state range.state)) None
    by_test true = refl
    by_test false = refl

pub no_range_no_size : (heap : PlainHeap) (addr : ℕ) → IsTiled heap → range_at addr heap ≡ None
    → None ≡ option_map (λ range. size_of_state range.state) (busy_at addr heap)
no_range_no_size heap addr tiled none =
    sym (ap (λ (o : Option Span). option_map (λ range. size_of_state range.state) o) (busy_by_range heap tiled addr ∙ ap (if_data addr) none))

pub size_by_range : (heap : PlainHeap) (addr : ℕ) (range : Span) → IsTiled heap → range_at addr heap ≡ Some range
    → cond (has_data_at addr range) (Some (size_of_state range.state)) None ≡ option_map (λ r. size_of_state r.state) (busy_at addr heap)
size_by_range heap addr range tiled is =
    sym (ap (λ (o : Option Span). option_map (λ r. size_of_state r.state) o) (busy_by_range heap tiled addr ∙ ap (if_data addr) is) ∙ sized addr (Some range))

-- an element without a size is none
pub no_size : (heap : PlainHeap) (addr : ℕ) (store : StoreView) → None ≡ option_map (λ range. size_of_state range.state) (busy_at addr heap)
    → Some (NotAnElement addr) ≡ byte_fault addr store heap
unfolding byte_fault
no_size heap addr store none = of (busy_at addr heap) none
  where
    of : (o : Option Span) → None ≡ option_map (λ range. size_of_state range.state) o → Some (NotAnElement addr) ≡ fault_of addr store o
    of None none = refl
    of (Some range) none = absurd (none-some (size_of_state range.state) none)

-- one with a size is refused or not by where its data lie
pub size_fault : (heap : PlainHeap) (addr size : ℕ) (store : StoreView) → Some size ≡ option_map (λ range. size_of_state range.state) (busy_at addr heap)
    → byte_fault addr store heap ≡ cond (lies_in addr size store) None (Some (Outside addr))
unfolding byte_fault
size_fault heap addr size store some = of (busy_at addr heap) some
  where
    of : (o : Option Span) → Some size ≡ option_map (λ range. size_of_state range.state) o → fault_of addr store o ≡ cond (lies_in addr size store) None (Some (Outside addr))
    of None some = absurd (none-some size (sym some))
    of (Some range) some = rw (same_Some size (size_of_state range.state) some) refl

-- and it is the size of what is there
pub size_there : (heap : PlainHeap) (addr size : ℕ) → Some size ≡ option_map (λ range. size_of_state range.state) (busy_at addr heap) → size ≡ size_at addr heap
unfolding size_at
size_there heap addr size some = of (busy_at addr heap) some
  where
    of : (o : Option Span) → Some size ≡ option_map (λ range. size_of_state range.state) o → size ≡ size_of o
    of None some = absurd (none-some size (sym some))
    of (Some range) some = same_Some size (size_of_state range.state) some

pub size_is : (heap : PlainHeap) (addr : ℕ) (range : Span) → busy_at addr heap ≡ Some range → size_at addr heap ≡ size_of_state range.state
unfolding size_at
size_is heap addr range is = rw is refl

-- a part of the buffer has the data of an element
pub part_data : (addr : ℕ) (store : StoreView) (heap : PlainHeap) (part : Part) (bytes : List ℕ) → IsPartOf addr store heap part
    → bytes ≡ take part.len (drop part.from store.bytes) → IsData addr store heap bytes
part_data addr store heap part bytes is same =
    let from : part.from ≡ addr - store.base = omega (arith, is.from) in
    let read : bytes ≡ take (size_at addr heap) (drop (addr - store.base) store.bytes) = rw (same, is.len, from) refl in
    record {
      size = ap length same ∙ length-take-le part.len (drop part.from store.bytes) (omega (arith, length-drop part.from store.bytes, is.within)) ∙ is.len;
      bytes = read;
    }

-- what is written over a part is written from the address on
pub part_written : (addr : ℕ) (store : StoreView) (heap : PlainHeap) (part : Part) (written : List ℕ) → IsPartOf addr store heap part
    → ◌≡◌ {A = StoreView} (record { base = store.base; bytes = written_over part.from written store.bytes }) (with_bytes addr written store)
part_written addr store heap part written is =
    let from : part.from ≡ addr - store.base = omega (arith, is.from) in
    ap (λ (n : ℕ). record { base = store.base; bytes = written_over n written store.bytes }) from

-- the data of two elements are parts that are apart
pub parts_apart : (a b : ℕ) (store : StoreView) (heap : PlainHeap) (first second : Part) → IsTiled heap → (a ≡ b → ⊥) → byte_fault a store heap ≡ None
    → byte_fault b store heap ≡ None → IsPartOf a store heap first → IsPartOf b store heap second → AreApart first second
unfolding byte_fault
parts_apart a b store heap first second tiled differ lent lent' is is' = of (busy_at a heap) refl (busy_at b heap) refl
  where
    of : (o : Option Span) → busy_at a heap ≡ o → (o' : Option Span) → busy_at b heap ≡ o' → AreApart first second
    of None none o' is_b = absurd (none-some (NotAnElement a) (sym lent ∙ ap (fault_of a store) none))
    of (Some range) is_a None none = absurd (none-some (NotAnElement b) (sym lent' ∙ ap (fault_of b store) none))
    of (Some range) is_a (Some other) is_b =
        let size = size_is heap a range is_a in
        let size' = size_is heap b other is_b in
        record {
          up = λ below. omega (arith, data_apart heap tiled a b range other is_a is_b (omega (arith, is.from, is'.from, below)), is.from, is'.from, is.len, size);
          down = λ below. omega (arith, data_apart heap tiled b a other range is_b is_a (at_least below), is.from, is'.from, is'.len, size');
        }
      where
        at_least : second.from ≤ first.from → b < a
        at_least below = elim (cases_order a b) [
          | inl same ↦ absurd (differ same)
          | inr (inl less) ↦ absurd (omega (arith, less, below, is.from, is'.from))
          | inr (inr more) ↦ more
        ]

-- why two elements' data are not lent together
pub two_same : (a b : ℕ) (store : StoreView) (heap : PlainHeap) → a ≡ b → Some (Same a) ≡ two_fault a b store heap
unfolding two_fault
two_same a b store heap same = rw (eq-eqb a b same) refl

pub two_first : (a b : ℕ) (store : StoreView) (heap : PlainHeap) (fault : ByteFault) → (a ≡ b → ⊥) → Some fault ≡ byte_fault a store heap → Some fault ≡ two_fault a b store heap
unfolding two_fault
two_first a b store heap fault differ is = rw (ne_eqb a b differ, ← is) refl

pub two_second : (a b : ℕ) (store : StoreView) (heap : PlainHeap) (o : Option ByteFault) → (a ≡ b → ⊥) → None ≡ byte_fault a store heap → o ≡ byte_fault b store heap → o ≡ two_fault a b store heap
unfolding two_fault
two_second a b store heap o differ none is = rw (ne_eqb a b differ, ← none) is

-- of two whose data are in the store the refusal is that they are one
pub one_refused : (a b : ℕ) (store : StoreView) (heap : PlainHeap) (fault : ByteFault) → byte_fault a store heap ≡ None → byte_fault b store heap ≡ None → Some fault ≡ two_fault a b store heap → a ≡ b
unfolding two_fault
one_refused a b store heap fault lent lent' is = elim (cases_Bool (eqb a b)) [
  | inl same ↦ eqb-true a b same
  | inr differ ↦ absurd (none-some fault (sym (is ∙ rw (differ, lent, lent') refl)))
]

pub two_lent : (a b : ℕ) (store : StoreView) (heap : PlainHeap) → None ≡ two_fault a b store heap → a ≡ b → ⊥
two_lent a b store heap is same = none-some (Same a) (is ∙ sym (two_same a b store heap same))

-- what is written leaves as many bytes behind the same addresses
pub stays_long : (addr : ℕ) (written : List ℕ) (store store' : StoreView) → store' ≡ with_bytes addr written store → (store'.base ≡ store.base) × (length store'.bytes ≡ length store.bytes)
stays_long addr written store store' is = (ap (λ (s : StoreView). s.base) is, ap (λ (s : StoreView). length s.bytes) is ∙ written-same (addr - store.base) written store.bytes)

-- data that are written over those of an element are there, and those of others stay
module _ (store : StoreView) (heap : PlainHeap) (tiled : IsTiled heap) (addr : ℕ) (range : Span) (is : busy_at addr heap ≡ Some range)
    (within : (store.base ≤ addr) × (addr + size_of_state range.state ≤ store.base + length store.bytes))
    (written : List ℕ) (sized : length written ≤ size_of_state range.state) where
  fits : (addr - store.base) + length written ≤ length store.bytes
  fits = omega (arith, within.0, within.1)

  pub data_written : length written ≡ size_of_state range.state → data_at addr (with_bytes addr written store) heap ≡ written
  data_written all =
      ap (λ (n : ℕ). take n (drop (addr - store.base) (written_over (addr - store.base) written store.bytes))) (size_is heap addr range is ∙ sym all)
      ∙ written-there (addr - store.base) written store.bytes fits

  pub data_kept : (other : ℕ) (there : Span) → busy_at other heap ≡ Some there → (other ≡ addr → ⊥) → store.base ≤ other
      → data_at other (with_bytes addr written store) heap ≡ data_at other store heap
  data_kept other there is_there differ above = elim (cases_order other addr) [
    | inl same ↦ absurd (differ same)
    | inr (inl below) ↦ (
        let apart = data_apart heap tiled other addr there range is_there is below in
        written-before (addr - store.base) written store.bytes fits (other - store.base) (size_at other heap) (omega (arith, size_is heap other there is_there, apart, above)))
    | inr (inr over) ↦ (
        let apart = data_apart heap tiled addr other range there is is_there over in
        written-behind (addr - store.base) written store.bytes fits (other - store.base) (size_at other heap) (omega (arith, apart, sized, above, within.0)))
  ]
