-- The pages of the heaps of a hall of all participants at the end: they are those of the segments that are each heap's own.
use Rattle.std.proofs.Common.{◌≡◌, ◌∙◌, ◌==◌, ◌&&◌, ℕ, ◌≤◌, Bool, true, List, count_by, find, Option, Some, None, eq-eqb, refl, ap, sym, subst, arith}
use Rattle.std.specs.Prelude.{Contains}
use Rattle.std.specs.List.{All, list_any}
use Rattle.std.specs.Option.{option_map}
use Rattle.std.proofs.lemmas.Bool.{and_from, and_parts, eqb-true}
use Rattle.std.proofs.lemmas.Option.{same_Some}
use Rattle.hp_plain.specs.Opening.{HandsOut}
use Rattle.hp_zone.specs.declared.names.Names.{Names as NamesView}
use Rattle.hp_plain.specs.HallView.{HallView, IsHall}
use Rattle.hp_hall.specs.Holding.{HasPages, is_page_of}
use Rattle.hp_segs.specs.Standing.{owned_by}
use Rattle.hp_hall.proofs.StandingFacts.StandingAsks.{contains_kept, found_once}
use Rattle.hp_hall.proofs.StandingFacts.StandingLists.{any_contained, contains_passes, contains_unkept, found_in}
use Rattle.hp_hall.proofs.StandingFacts.StandingPages.{numbers_of}
use Rattle.hp_heap.specs.History.{HeapView}
use Rattle.hp_heap.specs.PlainHeap.{HeapPage}
use Rattle.hp_heap.proofs.Members.{find_some}
use Rattle.hp_log.specs.Rows.{at_slot}
use Rattle.hp_script.specs.declared.workload.Workload.{Workload}
use Rattle.hp_segs.specs.SegsView.{SegsView, is_owned_by, state_at}
use Rattle.hp_segs.specs.Sound.{IsSound}
use Rattle.hp_segs.specs.declared.row_state.RowState.{RowState}
use Rattle.hp_segs.specs.declared.row_state.RowState.TheVariants.{Agreed, Opened, Owned, Retiring}
use Rattle.hp_segs.specs.declared.row_state.Segment.{Segment}
use Rattle.hp_segs.proofs.Finds.{count_mapped}
use Rattle.hp_proc.specs.Ends.{OwnsItsPages}
use Rattle.hp_proc.specs.LinesDone.{Course}
use Rattle.hp_serve.specs.Party.{Party}
use Rattle.thm_run.specs.SoFar.{SoFar}
use Rattle.thm_run.proofs.HallFacts.HallHeaps.{all_from_places, heap_at, heap_home}
use Rattle.thm_run.proofs.HallFacts.HallSegs.{segs_sound}

-- a heap's own state
owner_is : (heap : ℕ) (state : RowState) → is_owned_by heap state ≡ true → state ≡ Owned heap
owner_is heap Opened owned = cc
owner_is heap (Agreed other) owned = cc
owner_is heap (Owned other) owned = ap Owned (eqb-true other heap owned)
owner_is heap Retiring owned = cc

own_state : (heap : ℕ) (state : RowState) → state ≡ Owned heap → is_owned_by heap state ≡ true
own_state heap state is = ap (is_owned_by heap) is ∙ eq-eqb heap heap refl

-- a segment that has a state was found
pub record IsSegmentAt (segments : List Segment) (list slot : ℕ) (state : RowState) : Type 0 where
  pub segment : Segment
  pub among : Contains segments segment
  pub there : at_slot list slot segment.row ≡ true
  pub its_state : segment.state ≡ state

pub found_at : (segments : List Segment) (list slot : ℕ) (state : RowState) (found : Option Segment)
    → find (λ segment. at_slot list slot segment.row) segments ≡ found
    → option_map (λ (segment : Segment). segment.state) found ≡ Some state → IsSegmentAt segments list slot state
found_at segments list slot state None is has = cc
found_at segments list slot state (Some segment) is has =
    let from = find_some (λ (segment : Segment). at_slot list slot segment.row) segments segment is in
    record { segment = segment; among = from.1; there = from.0; its_state = same_Some segment.state state has }

module _ (segs : SegsView) (sound : IsSound segs) (index list slot : ℕ) where
  -- no two segments are at one slot
  one_segment : count_by (λ (segment : Segment). at_slot list slot segment.row) segs.segments ≤ 1
  one_segment =
      omega (arith, sound.rows.table.once list slot, count_mapped (at_slot list slot) (λ (segment : Segment). segment.row) segs.segments)

  module _ (pages : List HeapPage) (has : HasPages pages (owned_by index segs)) where
    abbrev is_there : HeapPage → Bool
    is_there page = (page.list == list) && (page.slot == slot)

    page_owned : list_any is_there pages ≡ true → state_at segs.segments list slot ≡ Some (Owned index)
    page_owned any =
        let found = found_in is_there pages any in
        let at = and_parts (found.element.list == list) (found.element.slot == slot) found.passes in
        let own =
        found_in (λ (segment : Segment). is_page_of segment.row found.element) (owned_by index segs) (has.owns found.element found.among) in
        let segment : Segment = own.element in
        let numbers = numbers_of segment.row found.element own.passes in
        let there : at_slot list slot segment.row ≡ true =
        and_from (segment.row.list == list) (segment.row.slot == slot)
        (eq-eqb segment.row.list list (numbers.list ∙ eqb-true found.element.list list at.0))
        (eq-eqb segment.row.slot slot (numbers.slot ∙ eqb-true found.element.slot slot at.1)) in
        let among = contains_unkept (λ (segment : Segment). is_owned_by index segment.state) segs.segments segment own.among in
        let owned = contains_passes (λ (segment : Segment). is_owned_by index segment.state) segs.segments segment own.among in
        ap (option_map (λ (segment : Segment). segment.state))
        (found_once (λ (segment : Segment). at_slot list slot segment.row) segs.segments segment one_segment among there)
        ∙ ap Some (owner_is index segment.state owned)

    owned_page : state_at segs.segments list slot ≡ Some (Owned index) → list_any is_there pages ≡ true
    owned_page is =
        let at = found_at segs.segments list slot (Owned index) (find (λ segment. at_slot list slot segment.row) segs.segments) refl is in
        let segment : Segment = at.segment in
        let own : Contains (owned_by index segs) segment =
        contains_kept (λ (segment : Segment). is_owned_by index segment.state) segs.segments segment at.among
        (own_state index segment.state at.its_state) in
        let found = found_in (is_page_of segment.row) pages (has.pages_of segment own) in
        let numbers = numbers_of segment.row found.element found.passes in
        let place = and_parts (segment.row.list == list) (segment.row.slot == slot) at.there in
        any_contained is_there pages found.element found.among
        (and_from (found.element.list == list) (found.element.slot == slot)
        (eq-eqb found.element.list list (sym numbers.list ∙ eqb-true segment.row.list list place.0))
        (eq-eqb found.element.slot slot (sym numbers.slot ∙ eqb-true segment.row.slot slot place.1)))

-- a heap that has the pages of its own segments
pub owns_pages : (segs : SegsView) (heap : HeapView) → IsSound segs → HasPages heap.plain.pages (owned_by heap.plain.index segs)
    → OwnsItsPages segs heap
owns_pages segs heap sound has list slot =
    let index : ℕ = heap.plain.index in
    (page_owned segs sound index list slot heap.plain.pages has, owned_page segs sound index list slot heap.plain.pages has)

module _ (workload : Workload) (courses : List Course) (parties : List Party) (hall : HallView)
    (so : SoFar workload courses parties hall) (heaps : List HeapView) (segs : SegsView) (names : NamesView)
    (out : HandsOut hall.slots heaps segs names) where
  -- the clause `owned`
  pub pages_owned : IsHall hall → All (OwnsItsPages so.now.segs) heaps
  pages_owned is =
      let same : is.segs ≡ so.now.segs = same_Some is.segs so.now.segs (sym is.there ∙ so.its_segs) in
      all_from_places (OwnsItsPages so.now.segs) heaps (λ index heap at.
      let its : heap.plain.index ≡ index = (heap_at workload courses parties hall so heaps segs names out index heap at).index in
      owns_pages so.now.segs heap (segs_sound workload courses parties hall so)
      (subst (λ (index : ℕ). HasPages heap.plain.pages (owned_by index so.now.segs)) (sym its)
      (subst (λ (value : SegsView). HasPages heap.plain.pages (owned_by index value)) same
      (is.home index _ (heap_home workload courses parties hall so heaps segs names out index heap at).1).pages)))
