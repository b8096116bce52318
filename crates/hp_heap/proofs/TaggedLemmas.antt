-- What a search by a tag finds.
use Rattle.std.proofs.Common.{◌≡◌, ℕ, Bool, true, not, Option, Some, None, IsSome, IsSomeAnd, IfSome, refl, sym, ap, subst, ◌∙◌, eqb}
use Rattle.std.proofs.lemmas.Bool.{and_parts, and_from, eq-eqb, false≢true}
use Rattle.std.proofs.lemmas.Option.{same_Some, none-some}
use Rattle.std.specs.List.{find}
use Rattle.std.specs.Option.{option_map}
use Rattle.hp_base.specs.declared.span.Span.{Span}
use Rattle.hp_base.specs.declared.span.SpanState.{SpanState}
use Rattle.hp_base.specs.declared.span.SpanState.TheVariants.{Free, Busy}
use Rattle.hp_base.specs.declared.tag.Tag.{Tag}
use Rattle.hp_heap.specs.PlainHeap.{PlainHeap, is_free_state, data_address}
use Rattle.hp_heap.specs.Tiling.{IsTiled}
use Rattle.hp_heap.specs.Joining.{has_data_at, busy_at, has_tag, has_tag_state, is_zone_range, is_zone_state, HasZoneAt}
use Rattle.hp_heap.specs.Tagged.{HasTaggedAt}
use Rattle.hp_heap.specs.Step.{found}
use Rattle.hp_heap.proofs.Members.{find_behind, find_some}
use Rattle.hp_heap.proofs.FreeFacts.FreeTiling.{among_ranges}
use Rattle.hp_heap.proofs.HistoryFacts.BusyLemmas.{busy, before_data}

-- an element with a tag is busy
tag_busy : (zone : Bool) (number : ℕ) (state : SpanState) → has_tag_state zone number state ≡ true → not (is_free_state state) ≡ true
tag_busy zone number (Free stamp) is = absurd (false≢true is)
tag_busy zone number (Busy pad size tag) is = refl

-- and is the one that is found by the address of its data
pub found_there : (heap : PlainHeap) (tag : Tag) (address : ℕ) → IsTiled heap → found tag heap ≡ Some address → HasTaggedAt tag address heap
unfolding found busy_at
found_there heap tag address tiled is = by_search (find (has_tag tag.zone tag.number) heap.ranges) refl is
  where
    by_search : (o : Option Span) → find (has_tag tag.zone tag.number) heap.ranges ≡ o → option_map data_address o ≡ Some address
        → IsSomeAnd (find (has_data_at address) heap.ranges) (λ range. has_tag tag.zone tag.number range ≡ true)
    by_search None none here = absurd (none-some address here)
    by_search (Some r) search here =
        let one = find_some (has_tag tag.zone tag.number) heap.ranges r search in
        let held : busy r ≡ true = tag_busy tag.zone tag.number r.state one.0 in
        let (xs, ys, among) = among_ranges heap r tiled one.1 in
        let at_data : find (has_data_at (data_address r)) heap.ranges ≡ Some r =
        ap (λ zs. find (has_data_at (data_address r)) zs) among.ranges
        ∙ find_behind (has_data_at (data_address r)) xs r ys (before_data heap r xs ys among held) (and_from _ _ held (eq-eqb (data_address r) (data_address r) refl)) in
        subst (λ (a : ℕ). IsSomeAnd (find (has_data_at a) heap.ranges) (λ range. has_tag tag.zone tag.number range ≡ true)) (same_Some (data_address r) address here)
        (subst (λ o. IsSomeAnd o (λ range. has_tag tag.zone tag.number range ≡ true)) (sym at_data) one.0)

pub found_if : (heap : PlainHeap) (tag : Tag) (o : Option ℕ) → IsTiled heap → o ≡ found tag heap → IfSome o (λ address. HasTaggedAt tag address heap)
found_if heap tag None tiled is = tt
found_if heap tag (Some address) tiled is = found_there heap tag address tiled (sym is)

-- so there is a busy element, and a memzone's by the tag of a memzone
pub tagged_busy : (tag : Tag) (address : ℕ) (heap : PlainHeap) → HasTaggedAt tag address heap → IsSome (busy_at address heap)
tagged_busy tag address heap = of (busy_at address heap)
  where
    of : (o : Option Span) → IsSomeAnd o (λ range. has_tag tag.zone tag.number range ≡ true) → IsSome o
    of None none = absurd none
    of (Some r) is = refl

zone_state : (number : ℕ) (state : SpanState) → has_tag_state true number state ≡ true → is_zone_state state ≡ true
zone_state number (Free stamp) is = absurd (false≢true is)
zone_state number (Busy pad size tag) is = (and_parts tag.zone (eqb tag.number number) is).0

pub tagged_zone : (tag : Tag) (address : ℕ) (heap : PlainHeap) → tag.zone ≡ true → HasTaggedAt tag address heap → HasZoneAt address heap
tagged_zone tag address heap zone = of (busy_at address heap)
  where
    of : (o : Option Span) → IsSomeAnd o (λ range. has_tag tag.zone tag.number range ≡ true) → IsSomeAnd o (λ range. is_zone_range range ≡ true)
    of None none = absurd none
    of (Some r) is = zone_state tag.number r.state (subst (λ (b : Bool). has_tag_state b tag.number r.state ≡ true) zone is)
