-- A free over elements under keys, and the free of the plain heap.
use Rattle.std.proofs.Common.{◌≡◌, ℕ, ◌+◌, ◌≤◌, Bool, true, false, cond, not, ◌&&◌, List, ◌∷◌, ◌++◌, Option, Some, None, is_some, refl, sym, ap, subst, ◌∙◌, arith}
use Rattle.std.proofs.lemmas.Bool.{cond-true, cond-false, cond_both}
use Rattle.std.specs.List.{find, AllByRecursion}
use Rattle.std.specs.Option.{option_map}
use Rattle.hp_base.specs.declared.span.Span.{Span}
use Rattle.hp_base.specs.declared.span.SpanState.{SpanState}
use Rattle.hp_base.specs.declared.span.SpanState.TheVariants.{Free, Busy}
use Rattle.hp_base.specs.declared.tag.Tag.{Tag}
use Rattle.hp_chain.specs.Chain.{Keyed}
use Rattle.hp_elem.specs.declared.node.Node.{Node}
use Rattle.hp_elem.specs.Items.{Items, IsAt, Stands}
use Rattle.hp_heap.specs.declared.freeing.FreeFault.{FreeFault}
use Rattle.hp_heap.specs.declared.freeing.FreeFault.TheVariants as fault
use Rattle.hp_heap.specs.declared.entry.HeapAnswer.{HeapAnswer}
use Rattle.hp_heap.specs.PlainHeap.{PlainHeap, freed}
use Rattle.hp_heap.specs.Tiling.{IsElement}
use Rattle.hp_heap.specs.Joining.{has_data_at, is_zone_state, is_zone_range, with_stretch, busy_at, after_insertion, after_free, after_free_of}
use Rattle.hp_heap.specs.Step.{free_answer}
use Rattle.hp_heap.specs.Headers.{HeadersView, spans_of, CanInsert}
use Rattle.hp_heap.specs.Finding.{IsOfHeap, HasDataAt, kept_tag, ranges_freed, insertions_freed}
use Rattle.hp_heap.specs.Freeing.{fault_of, fault_of_state, fault_answer, free_fault}
use Rattle.hp_heap.proofs.RangeLemmas.{AllByRecursion-back}
use Rattle.hp_heap.proofs.FreeFacts.JoiningLemmas.{spans-append, one_value}

-- a free is refused by a tag where the element is a memzone's and the free is not for memzones
some_if : (b : Bool) (tag : Tag) → is_some (cond b (Some tag) None) ≡ b
some_if true tag = refl
some_if false tag = refl

pub kept_some : (zone : Bool) (state : SpanState) → is_some (kept_tag zone state) ≡ (is_zone_state state && not zone)
kept_some zone (Free stamp) = refl
kept_some zone (Busy pad size tag) = some_if (tag.zone && not zone) tag

fault_if : (b : Bool) (tag : Tag) → cond {A = Option FreeFault} b (Some (fault.IsZone tag)) None ≡ option_map (λ (t : Tag). fault.IsZone t) (cond {A = Option Tag} (b && true) (Some tag) None)
fault_if true tag = refl
fault_if false tag = refl

pub kept_fault : (state : SpanState) → fault_of_state state ≡ option_map (λ (t : Tag). fault.IsZone t) (kept_tag false state)
kept_fault (Free stamp) = refl
kept_fault (Busy pad size tag) = fault_if tag.zone tag

module _ (headers : HeadersView) (addr key : ℕ) (zone : Bool) (node : Node) (of_heap : IsOfHeap headers) (here : HasDataAt addr headers.items key) (stands : Stands headers.items key node) where
  own : node.span ≡ here.found.value
  own = one_value (λ _. Unit {0}) (λ _. Unit {0}) key headers.items
      (record { front = stands.front; found = record { key = key; value = node.span }; back = stands.back; is = stands.is; same = refl; holds = tt })
      (record { front = here.front; found = here.found; back = here.back; is = here.is; same = here.same; holds = tt }) of_heap.apart

  pub can_insert : IsAt CanInsert key headers.items
  can_insert = record {
    front = here.front;
    found = here.found;
    back = here.back;
    is = here.is;
    same = here.same;
    holds = record { busy = here.busy; least = element.size.least };
  }
    where
      element : IsElement headers.insertions here.found.value
      element = (AllByRecursion-back (IsElement headers.insertions) (spans_of here.front) (here.found.value ∷ spans_of here.back)
          (subst (λ zs. AllByRecursion (IsElement headers.insertions) zs) (ap spans_of here.is ∙ spans-append here.front (here.found ∷ here.back)) of_heap.elements)).0

  -- the test of the definition
  tested : (o : Option Tag) → kept_tag zone node.span.state ≡ o → (is_zone_range here.found.value && not zone) ≡ is_some o
  tested o is = sym (ap (λ (s : Span). is_some (kept_tag zone s.state)) own ∙ kept_some zone here.found.value.state) ∙ ap is_some is

  -- it was refused
  module _ (tag : Tag) (is : kept_tag zone node.span.state ≡ Some tag) where
    pub refused_ranges : spans_of headers.items ≡ ranges_freed (find (has_data_at addr) (spans_of headers.items)) zone headers.insertions (spans_of headers.items)
    refused_ranges = sym (ap (λ o. ranges_freed o zone headers.insertions (spans_of headers.items)) here.found_is
        ∙ cond-true (is_zone_range here.found.value && not zone) (spans_of headers.items) (with_stretch (freed (headers.insertions + 1) here.found.value) (spans_of headers.items)) (tested (Some tag) is))

    pub refused_insertions : headers.insertions ≡ insertions_freed (find (has_data_at addr) (spans_of headers.items)) zone headers.insertions
    refused_insertions = sym (ap (λ o. insertions_freed o zone headers.insertions) here.found_is
        ∙ cond-true (is_zone_range here.found.value && not zone) headers.insertions (headers.insertions + 1) (tested (Some tag) is))

    pub refused_fault : zone ≡ false → Some (fault.IsZone tag) ≡ fault_of addr (find (has_data_at addr) (spans_of headers.items))
    refused_fault plain =
        let kept : kept_tag false node.span.state ≡ Some tag = subst (λ (b : Bool). kept_tag b node.span.state ≡ Some tag) plain is in
        sym (ap (λ o. fault_of addr o) here.found_is ∙ ap (λ (s : Span). fault_of_state s.state) (sym own) ∙ kept_fault node.span.state ∙ ap (λ o. option_map (λ (t : Tag). fault.IsZone t) o) kept)

  -- it was done
  module _ (is : kept_tag zone node.span.state ≡ None) where
    pub done_ranges : (news : Items)
        → ((front back : Items) (e : Keyed Span) → headers.items ≡ front ++ e ∷ back → e.key ≡ key → spans_of news ≡ with_stretch (freed (headers.insertions + 1) e.value) (spans_of headers.items))
        → spans_of news ≡ ranges_freed (find (has_data_at addr) (spans_of headers.items)) zone headers.insertions (spans_of headers.items)
    done_ranges news inserted = inserted here.front here.back here.found here.is here.same
        ∙ sym (ap (λ o. ranges_freed o zone headers.insertions (spans_of headers.items)) here.found_is
        ∙ cond-false (is_zone_range here.found.value && not zone) (spans_of headers.items) (with_stretch (freed (headers.insertions + 1) here.found.value) (spans_of headers.items)) (tested None is))

    pub done_insertions : (n : ℕ) → n ≡ headers.insertions + 1 → n ≡ insertions_freed (find (has_data_at addr) (spans_of headers.items)) zone headers.insertions
    done_insertions n more = more ∙ sym (ap (λ o. insertions_freed o zone headers.insertions) here.found_is
        ∙ cond-false (is_zone_range here.found.value && not zone) headers.insertions (headers.insertions + 1) (tested None is))

    pub done_fault : zone ≡ false → None ≡ fault_of addr (find (has_data_at addr) (spans_of headers.items))
    done_fault plain =
        let kept : kept_tag false node.span.state ≡ None = subst (λ (b : Bool). kept_tag b node.span.state ≡ None) plain is in
        sym (ap (λ o. fault_of addr o) here.found_is ∙ ap (λ (s : Span). fault_of_state s.state) (sym own) ∙ kept_fault node.span.state ∙ ap (λ o. option_map (λ (t : Tag). fault.IsZone t) o) kept)

-- the plain heap
module _ (heap : PlainHeap) (address : ℕ) (zone : Bool) where
  free_of-ranges : (o : Option Span) → (after_free_of o zone heap).ranges ≡ ranges_freed o zone heap.insertions heap.ranges
  unfolding after_insertion
  free_of-ranges None = refl
  free_of-ranges (Some range) = by_test (is_zone_range range && not zone)
    where
      by_test : (b : Bool) → (cond b heap (after_insertion range heap)).ranges ≡ cond b heap.ranges (with_stretch (freed (heap.insertions + 1) range) heap.ranges)
      by_test true = refl
      by_test false = refl

  free_of-insertions : (o : Option Span) → (after_free_of o zone heap).insertions ≡ insertions_freed o zone heap.insertions
  unfolding after_insertion
  free_of-insertions None = refl
  free_of-insertions (Some range) = by_test (is_zone_range range && not zone)
    where
      by_test : (b : Bool) → (cond b heap (after_insertion range heap)).insertions ≡ cond b heap.insertions (heap.insertions + 1)
      by_test true = refl
      by_test false = refl

  pub after_free-ranges : (after_free address zone heap).ranges ≡ ranges_freed (find (has_data_at address) heap.ranges) zone heap.insertions heap.ranges
  unfolding after_free busy_at
  after_free-ranges = free_of-ranges (find (has_data_at address) heap.ranges)

  pub after_free-insertions : (after_free address zone heap).insertions ≡ insertions_freed (find (has_data_at address) heap.ranges) zone heap.insertions
  unfolding after_free busy_at
  after_free-insertions = free_of-insertions (find (has_data_at address) heap.ranges)

  -- what it leaves as it was
  pub record IsKeptByFree (other : PlainHeap) : Type 0 where
    pub name : heap.name ≡ other.name
    pub socket : heap.socket ≡ other.socket
    pub chunks : heap.chunks ≡ other.chunks
    pub pages : heap.pages ≡ other.pages

  kept_of : (o : Option Span) → IsKeptByFree (after_free_of o zone heap)
  unfolding after_insertion
  kept_of None = record { name = refl; socket = refl; chunks = refl; pages = refl }
  kept_of (Some range) = cond_both (is_zone_range range && not zone) heap (after_insertion range heap) IsKeptByFree
      (λ _. record { name = refl; socket = refl; chunks = refl; pages = refl }) (λ _. record { name = refl; socket = refl; chunks = refl; pages = refl })

  pub after_free-kept : IsKeptByFree (after_free address zone heap)
  unfolding after_free
  after_free-kept = kept_of (busy_at address heap)

-- at most one insertion more
one_more : (o : Option Span) (zone : Bool) (insertions : ℕ) → insertions_freed o zone insertions ≤ insertions + 1
one_more None zone insertions = omega arith
one_more (Some range) zone insertions = cond_both (is_zone_range range && not zone) insertions (insertions + 1) (λ n. n ≤ insertions + 1) (λ _. omega arith) (λ _. omega arith)

pub freed_more : (o : Option Span) (zone : Bool) (insertions n : ℕ) → n ≡ insertions_freed o zone insertions → n ≤ insertions + 1
freed_more o zone insertions n is = omega (arith, is, one_more o zone insertions)

-- the answer
answered_if : (b : Bool) (tag : Tag) → fault_answer (cond b (Some (fault.IsZone tag)) None) ≡ cond (b && true) Rattle.hp_heap.specs.declared.entry.HeapAnswer.TheVariants.IsZone Rattle.hp_heap.specs.declared.entry.HeapAnswer.TheVariants.Done
answered_if true tag = refl
answered_if false tag = refl

answered_state : (range : Span) (state : SpanState) → range.state ≡ state → fault_answer (fault_of_state range.state) ≡ free_answer (Some range) false
answered_state range (Free stamp) is = rw is refl
answered_state range (Busy pad size tag) is = rw is (answered_if tag.zone tag)

answered_of : (address : ℕ) (o : Option Span) → fault_answer (fault_of address o) ≡ free_answer o false
answered_of address None = refl
answered_of address (Some range) = answered_state range range.state refl

pub free_answered : (heap : PlainHeap) (address : ℕ) → fault_answer (free_fault address heap) ≡ free_answer (busy_at address heap) false
unfolding free_fault
free_answered heap address = answered_of address (busy_at address heap)

-- a free for memzones of a memzone's element is done
pub zone_answered : (heap : PlainHeap) (address : ℕ) → Rattle.hp_heap.specs.Joining.HasZoneAt address heap → Rattle.hp_heap.specs.declared.entry.HeapAnswer.TheVariants.Done ≡ free_answer (busy_at address heap) true
zone_answered heap address has = of (busy_at address heap) has
  where
    off : (b : Bool) → Rattle.hp_heap.specs.declared.entry.HeapAnswer.TheVariants.Done ≡ cond (b && false) Rattle.hp_heap.specs.declared.entry.HeapAnswer.TheVariants.IsZone Rattle.hp_heap.specs.declared.entry.HeapAnswer.TheVariants.Done
    off true = refl
    off false = refl

    of : (o : Option Span) → Rattle.std.specs.Prelude.IsSomeAnd o (λ range. is_zone_range range ≡ true) → Rattle.hp_heap.specs.declared.entry.HeapAnswer.TheVariants.Done ≡ free_answer o true
    of None none = absurd none
    of (Some range) zone = off (is_zone_range range)

-- a free of the elements is that of the plain heap that has them
module _ (heap : PlainHeap) (address : ℕ) (zone : Bool) (spans : List Span) (insertions : ℕ) (same : spans ≡ heap.ranges) (count : insertions ≡ heap.insertions) where
  pub freed_ranges : ranges_freed (find (has_data_at address) spans) zone insertions spans ≡ (after_free address zone heap).ranges
  freed_ranges =
      ap (λ zs. ranges_freed (find (has_data_at address) zs) zone insertions zs) same
      ∙ ap (λ (n : ℕ). ranges_freed (find (has_data_at address) heap.ranges) zone n heap.ranges) count
      ∙ sym (after_free-ranges heap address zone)

  pub freed_insertions : insertions_freed (find (has_data_at address) spans) zone insertions ≡ (after_free address zone heap).insertions
  freed_insertions =
      ap (λ zs. insertions_freed (find (has_data_at address) zs) zone insertions) same
      ∙ ap (λ (n : ℕ). insertions_freed (find (has_data_at address) heap.ranges) zone n) count
      ∙ sym (after_free-insertions heap address zone)

  pub freed_fault : fault_of address (find (has_data_at address) spans) ≡ free_fault address heap
  unfolding free_fault busy_at
  freed_fault = ap (λ zs. fault_of address (find (has_data_at address) zs)) same
