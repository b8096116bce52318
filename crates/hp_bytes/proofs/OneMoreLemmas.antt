-- Busy elements of a heap, and of one that has one more.
use Rattle.std.proofs.Common.{◌≡◌, ℕ, ◌⊎◌, inl, inr, Bool, true, not, List, Contains, Option, Some, refl, sym, ap, subst, ◌∙◌, eqb}
use Rattle.std.proofs.lemmas.Bool.{and_parts, and_from, cases_Bool, false≢true, eqb-true, eq-eqb}
use Rattle.std.specs.List.{filter}
use Rattle.hp_base.specs.declared.span.Span.{Span}
use Rattle.hp_heap.specs.PlainHeap.{PlainHeap, data_address}
use Rattle.hp_heap.specs.Tiling.{IsTiled}
use Rattle.hp_heap.specs.Joining.{busy_at, busy_ranges, has_data_at}
use Rattle.hp_heap.proofs.HistoryFacts.BusyLemmas.{busy, elsewhere}
use Rattle.hp_heap.proofs.AllocFacts.ChoiceLaw.{Contains-filter}
use Rattle.hp_heap.proofs.Members.{Contains-kept}
use Rattle.hp_bytes.proofs.ElementLemmas.{busy_is, busy_there}

-- an element with its data elsewhere, or not
pub at_or_elsewhere : (addr : ℕ) (range : Span) → (data_address range ≡ addr) ⊎ (elsewhere addr range ≡ true)
at_or_elsewhere addr range = elim (cases_Bool (eqb (data_address range) addr)) [
  | inl is ↦ inl (eqb-true (data_address range) addr is)
  | inr not_there ↦ inr (rw not_there refl)
]

pub busy_data : (addr : ℕ) (range : Span) → busy range ≡ true → data_address range ≡ addr → has_data_at addr range ≡ true
busy_data addr range held at = and_from (busy range) (eqb (data_address range) addr) held (eq-eqb (data_address range) addr at)

-- what holds of a heap's busy elements besides one
pub busy_member : (heap : PlainHeap) (range : Span) → Contains (busy_ranges heap) range → (busy range ≡ true) × Contains heap.ranges range
unfolding busy_ranges
busy_member heap range has = Contains-filter busy heap.ranges range has

pub member_busy : (heap : PlainHeap) (range : Span) → Contains heap.ranges range → busy range ≡ true → Contains (busy_ranges heap) range
unfolding busy_ranges
member_busy heap range has held = Contains-kept busy heap.ranges range held has

-- a heap that has the busy elements of another, and one more with its data at an address
module _ (addr : ℕ) (old new : PlainHeap) (tiled : IsTiled new) (others : filter (elsewhere addr) (busy_ranges new) ≡ busy_ranges old) where
  -- the others were there
  pub was_there : (range : Span) → Contains new.ranges range → busy range ≡ true → elsewhere addr range ≡ true → Contains old.ranges range
  was_there range has held away =
      let kept : Contains (filter (elsewhere addr) (busy_ranges new)) range = Contains-kept (elsewhere addr) (busy_ranges new) range away (member_busy new range has held) in
      (busy_member old range (subst (λ (zs : List Span). Contains zs range) others kept)).1

  -- busy elements of before are still there
  pub still_there : (other : ℕ) (range : Span) → IsTiled old → busy_at other old ≡ Some range → busy_at other new ≡ Some range
  still_there other range tiled_old is =
      let its = busy_is old tiled_old other range is in
      let held : busy range ≡ true = (and_parts (busy range) (eqb (data_address range) other) its.has).0 in
      let kept : Contains (filter (elsewhere addr) (busy_ranges new)) range = subst (λ (zs : List Span). Contains zs range) (sym others) (member_busy old range its.among held) in
      let among = (busy_member new range (Contains-filter (elsewhere addr) (busy_ranges new) range kept).1).1 in
      busy_there new tiled other range among its.has

  -- and have their data elsewhere
  pub away : (other : ℕ) (range : Span) → IsTiled old → busy_at other old ≡ Some range → other ≡ addr → ⊥
  away other range tiled_old is same =
      let its = busy_is old tiled_old other range is in
      let held : busy range ≡ true = (and_parts (busy range) (eqb (data_address range) other) its.has).0 in
      let kept : Contains (filter (elsewhere addr) (busy_ranges new)) range = subst (λ (zs : List Span). Contains zs range) (sym others) (member_busy old range its.among held) in
      let away_is = (Contains-filter (elsewhere addr) (busy_ranges new) range kept).0 in
      let there : eqb (data_address range) addr ≡ true = eq-eqb (data_address range) addr (its.data_is.at ∙ same) in
      false≢true (sym (ap not there) ∙ away_is)
