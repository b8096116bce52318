-- Which element a tag finds, before and after an allocation or a free.
use Rattle.std.proofs.Common.{◌≡◌, ℕ, ◌+◌, ◌<◌, ◌⊎◌, inl, inr, Bool, true, false, cond, not, ◌&&◌, List, [], ◌∷◌, Contains, Option, Some, None, IsSomeAnd, refl, sym, ap, subst, ◌∙◌, arith, eqb}
use Rattle.std.proofs.lemmas.Bool.{and_parts, and_from, cases_Bool, cond_both, false≢true, eqb-true, eq-eqb, not-true}
use Rattle.std.proofs.lemmas.Option.{none-some, same_Some}
use Rattle.std.specs.List.{AllByRecursion, filter, find}
use Rattle.std.specs.Option.{option_map, option_and_then}
use Rattle.hp_base.specs.declared.span.Span.{Span}
use Rattle.hp_base.specs.declared.span.SpanState.{SpanState}
use Rattle.hp_base.specs.declared.span.SpanState.TheVariants.{Free, Busy}
use Rattle.hp_base.specs.declared.tag.Tag.{Tag}
use Rattle.hp_heap.specs.PlainHeap.{PlainHeap, is_free, is_free_state, data_address}
use Rattle.hp_heap.specs.Tiling.{IsTiled}
use Rattle.hp_heap.specs.Joining.{busy_at, busy_ranges, has_data_at, has_tag, has_tag_state, tag_at, tag_of_state}
use Rattle.hp_heap.specs.Step.{found}
use Rattle.hp_heap.specs.Tagged.{HasTaggedAt}
use Rattle.hp_heap.proofs.HistoryFacts.BusyLemmas.{busy, elsewhere}
use Rattle.hp_heap.proofs.AllocFacts.ChoiceLaw.{AllByRecursion-contains, Contains-filter}
use Rattle.hp_heap.proofs.Members.{AllByRecursion-each, Contains-kept, find_some, find_none}
use Rattle.hp_heap.proofs.TaggedLemmas.{found_there}
use Rattle.hp_bytes.specs.PlainSession.{tag_of}
use Rattle.hp_bytes.specs.Sessions.{IsTaggedBelow}
use Rattle.hp_bytes.proofs.ElementLemmas.{busy_is, busy_there}
use Rattle.hp_bytes.proofs.OneMoreLemmas.{at_or_elsewhere, busy_data, busy_member, member_busy, was_there}

-- a search finds the same where a filter keeps all that pass it
find-kept : {X : Type 0} (p q : X → Bool) (xs : List X) → AllByRecursion (λ x. p x ≡ true → q x ≡ true) xs → find p (filter q xs) ≡ find p xs
find-kept p q [] all = refl
find-kept p q (x ∷ xs) all = cond_both (q x) (x ∷ filter q xs) (filter q xs) (λ zs. find p zs ≡ find p (x ∷ xs))
    (λ kept. ap (λ o. cond (p x) (Some x) o) (find-kept p q xs all.1))
    (λ fails. find-kept p q xs all.1 ∙ sym (by_test (p x) refl fails))
  where
    by_test : (b : Bool) → p x ≡ b → q x ≡ false → cond (p x) (Some x) (find p xs) ≡ find p xs
    by_test true passes fails = absurd (false≢true (sym fails ∙ all.0 passes))
    by_test false misses fails = rw misses refl

abbrev pub is_tagged : ℕ → Span → Bool
is_tagged number = has_tag false number

-- an element with a tag is busy, and the tag has the number
tagged_state : (number : ℕ) (state : SpanState) → has_tag_state false number state ≡ true → not (is_free_state state) ≡ true
tagged_state number (Free stamp) is = absurd (false≢true is)
tagged_state number (Busy pad size tag) is = refl

number_of_state : (number other : ℕ) (state : SpanState) → has_tag_state false number state ≡ true → tag_of_state state ≡ Some (tag_of other) → number ≡ other
number_of_state number other (Free stamp) is tag = absurd (false≢true is)
number_of_state number other (Busy pad size tag) is same =
    let its : tag ≡ tag_of other = same_Some tag (tag_of other) same in
    sym (eqb-true tag.number number (and_parts (not tag.zone) (eqb tag.number number) is).1) ∙ ap (λ (t : Tag). t.number) its

two_numbers : (number other : ℕ) (state : SpanState) → has_tag_state false number state ≡ true → has_tag_state false other state ≡ true → number ≡ other
two_numbers number other (Free stamp) is is' = absurd (false≢true is)
two_numbers number other (Busy pad size tag) is is' =
    sym (eqb-true tag.number number (and_parts (not tag.zone) (eqb tag.number number) is).1) ∙ eqb-true tag.number other (and_parts (not tag.zone) (eqb tag.number other) is').1

below_state : (number bound : ℕ) (state : SpanState) → has_tag_state false number state ≡ true → IsTaggedBelow bound state → number < bound
below_state number bound (Free stamp) is below = absurd (false≢true is)
below_state number bound (Busy pad size tag) is below = omega (arith, eqb-true tag.number number (and_parts (not tag.zone) (eqb tag.number number) is).1, below)

own_state : (number : ℕ) (state : SpanState) → tag_of_state state ≡ Some (tag_of number) → has_tag_state false number state ≡ true
own_state number (Free stamp) is = absurd (none-some (tag_of number) is)
own_state number (Busy pad size tag) is = rw (same_Some tag (tag_of number) is) (eq-eqb number number refl)

own_below : (number : ℕ) (state : SpanState) → tag_of_state state ≡ Some (tag_of number) → IsTaggedBelow (number + 1) state
own_below number (Free stamp) is = tt
own_below number (Busy pad size tag) is = let its : tag.number ≡ number = ap (λ (t : Tag). t.number) (same_Some tag (tag_of number) is) in omega (arith, its)

pub below_more : (number : ℕ) (state : SpanState) → IsTaggedBelow number state → IsTaggedBelow (number + 1) state
below_more number (Free stamp) below = tt
below_more number (Busy pad size tag) below = omega (arith, below)

free_below : (bound : ℕ) (state : SpanState) → not (is_free_state state) ≡ false → IsTaggedBelow bound state
free_below bound (Free stamp) is = tt
free_below bound (Busy pad size tag) is = absurd (false≢true (sym is))

-- a tag is looked for among the busy elements
found_busy : (number : ℕ) (heap : PlainHeap) → found (tag_of number) heap ≡ option_map data_address (find (is_tagged number) (busy_ranges heap))
unfolding found busy_ranges
found_busy number heap =
    ap (option_map data_address) (sym (find-kept (is_tagged number) busy heap.ranges (AllByRecursion-each (λ r. is_tagged number r ≡ true → busy r ≡ true) heap.ranges (λ r has is. tagged_state number r.state is))))

-- the element that a tag finds
pub record IsTaggedAt (number addr : ℕ) (heap : PlainHeap) : Type 0 where
  pub range : Span
  pub there : busy_at addr heap ≡ Some range
  pub tagged : is_tagged number range ≡ true

pub tagged_at : (number addr : ℕ) (heap : PlainHeap) → IsTiled heap → found (tag_of number) heap ≡ Some addr → IsTaggedAt number addr heap
tagged_at number addr heap tiled is = of (busy_at addr heap) refl (found_there heap (tag_of number) addr tiled is)
  where
    of : (o : Option Span) → busy_at addr heap ≡ o → IsSomeAnd o (λ range. has_tag false number range ≡ true) → IsTaggedAt number addr heap
    of None none has = absurd has
    of (Some range) there has = record { range = range; there = there; tagged = has }

-- two numbers that find one address are one
pub one_number : (number other addr : ℕ) (heap : PlainHeap) → IsTiled heap → found (tag_of number) heap ≡ Some addr → found (tag_of other) heap ≡ Some addr → number ≡ other
one_number number other addr heap tiled is is' =
    let first = tagged_at number addr heap tiled is in
    let second = tagged_at other addr heap tiled is' in
    let same : second.range ≡ first.range = same_Some second.range first.range (sym second.there ∙ first.there) in
    two_numbers number other first.range.state first.tagged (subst (λ (r : Span). is_tagged other r ≡ true) same second.tagged)

-- a heap that has the busy elements of another, and one more with its data at an address and the tag of a number
pub record HasOneMore (number addr : ℕ) (old new : PlainHeap) : Type 0 where
  pub others : filter (elsewhere addr) (busy_ranges new) ≡ busy_ranges old
  pub tagged : tag_at addr new ≡ Some (tag_of number)

module _ (number addr : ℕ) (old new : PlainHeap) (tiled : IsTiled new) (more : HasOneMore number addr old new) where
  -- the one more
  pub own : (range : Span) × (busy_at addr new ≡ Some range) × (tag_of_state range.state ≡ Some (tag_of number))
  unfolding tag_at
  own = of (busy_at addr new) refl more.tagged
    where
      of : (o : Option Span) → busy_at addr new ≡ o → option_and_then (λ range. tag_of_state range.state) o ≡ Some (tag_of number)
          → (range : Span) × (busy_at addr new ≡ Some range) × (tag_of_state range.state ≡ Some (tag_of number))
      of None none is = absurd (none-some (tag_of number) is)
      of (Some range) there is = (range, there, is)

  its_tag : (range : Span) → Contains new.ranges range → busy range ≡ true → data_address range ≡ addr → tag_of_state range.state ≡ Some (tag_of number)
  its_tag range has held at =
      let (mine, there, tag) = own in
      let same : range ≡ mine = same_Some range mine (sym (busy_there new tiled addr range has (busy_data addr range held at)) ∙ there) in
      ap (λ (r : Span). tag_of_state r.state) same ∙ tag

  -- the tag of an earlier number finds what it found
  pub found_as_before : (other : ℕ) → (other ≡ number → ⊥) → found (tag_of other) new ≡ found (tag_of other) old
  found_as_before other differ =
      found_busy other new
      ∙ ap (option_map data_address)
      (sym (find-kept (is_tagged other) (elsewhere addr) (busy_ranges new) (AllByRecursion-each (λ r. is_tagged other r ≡ true → elsewhere addr r ≡ true) (busy_ranges new) (λ r has is. by_place r (busy_member new r has) is (at_or_elsewhere addr r))))
      ∙ ap (find (is_tagged other)) more.others)
      ∙ sym (found_busy other old)
    where
      by_place : (r : Span) → (busy r ≡ true) × Contains new.ranges r → is_tagged other r ≡ true → (data_address r ≡ addr) ⊎ (elsewhere addr r ≡ true) → elsewhere addr r ≡ true
      by_place r member is (inl at) = absurd (differ (number_of_state other number r.state is (its_tag r member.1 member.0 at)))
      by_place r member is (inr apart) = apart

  -- its own finds the one more, where the others' are below it
  pub found_own : AllByRecursion (λ (range : Span). IsTaggedBelow number range.state) old.ranges → found (tag_of number) new ≡ Some addr
  found_own below = found_busy number new ∙ by_search (find (is_tagged number) (busy_ranges new)) refl
    where
      by_search : (o : Option Span) → find (is_tagged number) (busy_ranges new) ≡ o → option_map data_address o ≡ Some addr
      by_search None none =
          let (mine, there, tag) = own in
          let its = busy_is new tiled addr mine there in
          let held : busy mine ≡ true = (and_parts (busy mine) (eqb (data_address mine) addr) its.has).0 in
          let misses = AllByRecursion-contains (λ r. is_tagged number r ≡ false) (busy_ranges new) mine (find_none (is_tagged number) (busy_ranges new) none) (member_busy new mine its.among held) in
          absurd (false≢true (sym misses ∙ own_state number mine.state tag))
      by_search (Some r) searched =
          let is = find_some (is_tagged number) (busy_ranges new) r searched in
          let member = busy_member new r is.1 in
          elim (at_or_elsewhere addr r) [
            | inl at ↦ ap Some at
            | inr apart ↦ absurd (omega (arith, below_state number number r.state is.0 (AllByRecursion-contains (λ (range : Span). IsTaggedBelow number range.state) old.ranges r below (was_there addr old new tiled more.others r member.1 member.0 apart))))
          ]

  -- all tags are below the next number
  pub tags_more : AllByRecursion (λ (range : Span). IsTaggedBelow number range.state) old.ranges → AllByRecursion (λ (range : Span). IsTaggedBelow (number + 1) range.state) new.ranges
  tags_more below = AllByRecursion-each (λ (range : Span). IsTaggedBelow (number + 1) range.state) new.ranges (λ r has. elim (cases_Bool (busy r)) [
    | inl held ↦ elim (at_or_elsewhere addr r) [
      | inl at ↦ own_below number r.state (its_tag r has held at)
      | inr apart ↦ below_more number r.state (AllByRecursion-contains (λ (range : Span). IsTaggedBelow number range.state) old.ranges r below (was_there addr old new tiled more.others r has held apart))
    ]
    | inr free ↦ free_below (number + 1) r.state free
  ])

-- a heap that has the busy elements of another but the one with its data at an address
module _ (number addr : ℕ) (old new : PlainHeap) (tiled : IsTiled old) (tiled' : IsTiled new) (is : found (tag_of number) old ≡ Some addr)
    (fewer : busy_ranges new ≡ filter (elsewhere addr) (busy_ranges old)) where
  -- the others are still there
  pub others_there : (other : ℕ) (range : Span) → (other ≡ addr → ⊥) → busy_at other old ≡ Some range → busy_at other new ≡ Some range
  others_there other range differ there =
      let its = busy_is old tiled other range there in
      let held : busy range ≡ true = (and_parts (busy range) (eqb (data_address range) other) its.has).0 in
      let kept : Contains (filter (elsewhere addr) (busy_ranges old)) range = Contains-kept (elsewhere addr) (busy_ranges old) range (apart its.data_is.at) (member_busy old range its.among held) in
      let among = (busy_member new range (subst (λ (zs : List Span). Contains zs range) (sym fewer) kept)).1 in
      busy_there new tiled' other range among its.has
    where
      apart : data_address range ≡ other → elsewhere addr range ≡ true
      apart at = elim (at_or_elsewhere addr range) [
        | inl same ↦ absurd (differ (sym at ∙ same))
        | inr away ↦ away
      ]

  -- their tags find them
  pub found_others : (other : ℕ) → (other ≡ number → ⊥) → found (tag_of other) new ≡ found (tag_of other) old
  found_others other differ =
      found_busy other new
      ∙ ap (option_map data_address)
      (ap (find (is_tagged other)) fewer
      ∙ find-kept (is_tagged other) (elsewhere addr) (busy_ranges old) (AllByRecursion-each (λ r. is_tagged other r ≡ true → elsewhere addr r ≡ true) (busy_ranges old) (λ r has tagged. by_place r (busy_member old r has) tagged (at_or_elsewhere addr r))))
      ∙ sym (found_busy other old)
    where
      by_place : (r : Span) → (busy r ≡ true) × Contains old.ranges r → is_tagged other r ≡ true → (data_address r ≡ addr) ⊎ (elsewhere addr r ≡ true) → elsewhere addr r ≡ true
      by_place r member tagged (inl at) =
          let mine = tagged_at number addr old tiled is in
          let same : mine.range ≡ r = same_Some mine.range r (sym mine.there ∙ busy_there old tiled addr r member.1 (busy_data addr r member.0 at)) in
          absurd (differ (two_numbers other number r.state tagged (subst (λ (x : Span). is_tagged number x ≡ true) same mine.tagged)))
      by_place r member tagged (inr apart) = apart

  -- and no tag comes
  pub tags_fewer : (bound : ℕ) → AllByRecursion (λ (range : Span). IsTaggedBelow bound range.state) old.ranges → AllByRecursion (λ (range : Span). IsTaggedBelow bound range.state) new.ranges
  tags_fewer bound below = AllByRecursion-each (λ (range : Span). IsTaggedBelow bound range.state) new.ranges (λ r has. elim (cases_Bool (busy r)) [
    | inl held ↦ (
        let kept : Contains (filter (elsewhere addr) (busy_ranges old)) r = subst (λ (zs : List Span). Contains zs r) fewer (member_busy new r has held) in
        let member = (busy_member old r (Contains-filter (elsewhere addr) (busy_ranges old) r kept).1).1 in
        AllByRecursion-contains (λ (range : Span). IsTaggedBelow bound range.state) old.ranges r below member)
    | inr free ↦ free_below bound r.state free
  ])
