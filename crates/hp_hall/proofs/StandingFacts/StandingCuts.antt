-- A run that a heap cuts is its own, and it has the pages of its segments after that is given up.
use Rattle.std.proofs.Common.{◌≡◌, ◌==◌, ◌∙◌, ℕ, zero, suc, ◌+◌, ◌-◌, ◌*◌, ◌/◌, ◌%◌, ◌<◌, ◌≤◌, Bool, true, false, not, ◌&&◌, List, filter, get_or, sym, subst, arith, count_by, eq-eqb, inl, inr}
use Rattle.std.specs.Prelude.{Contains}
use Rattle.std.specs.List.{All, list_any}
use Rattle.std.proofs.Math.Nat.{add-mul, mul-le-mul_right}
use Rattle.std.proofs.lemmas.Bool.{and_from, and_parts, cases_lt, false_from_ne_true, not-true, not_from_false}
use Rattle.std.proofs.lemmas.List.Elements.{All-contains}
use Rattle.std.proofs.lemmas.Nat.{le-div}
use Rattle.hp_base.proofs.Rounding.{multiple_is}
use Rattle.hp_base.specs.declared.row.Row.{Row}
use Rattle.hp_base.specs.declared.row.Run.{Run}
use Rattle.hp_heap.specs.Cut.{after_cut}
use Rattle.hp_heap.specs.Growing.{run_page, run_pages}
use Rattle.hp_heap.specs.Laws.{IsRunCut}
use Rattle.hp_heap.specs.PlainHeap.{HeapPage, PlainHeap}
use Rattle.hp_heap.proofs.CutFacts.RunPages.{has_run_page, of_run}
use Rattle.hp_log.specs.Rows.{at_slot, in_run, is_row_at}
use Rattle.hp_log.proofs.RowLemmas.{in_run_from, place_in_run}
use Rattle.hp_segs.specs.Calls.{OwnsRun, is_owned_at}
use Rattle.hp_segs.specs.SegsView.{SegsView, is_owned_by}
use Rattle.hp_segs.specs.Sound.{IsSound}
use Rattle.hp_segs.specs.declared.row_state.Segment.{Segment}
use Rattle.hp_segs.proofs.Finds.{count_mapped}
use Rattle.hp_segs.proofs.RetiredRuns.GivenUp.{one_has}
use Rattle.hp_hall.specs.Holding.{HasPages, is_page_of}
use Rattle.hp_segs.specs.Standing.{owned_by}
use Rattle.hp_hall.specs.Standings.{RetireTakesPages}
use Rattle.hp_hall.proofs.StandingFacts.StandingAsks.{contains_kept}
use Rattle.hp_hall.proofs.StandingFacts.StandingLists.{any_contained, contains_passes, contains_unkept, found_in}
use Rattle.hp_hall.proofs.StandingFacts.StandingPages.{HasNumbersOf, at_its_slot, at_place, numbers_at, numbers_of, one_page}
use Rattle.hp_hall.proofs.StandingFacts.StandingRetires.{owned_left}

-- a stretch of whole pages has a page
some_by : (from to page : ℕ) → from / page * page ≡ from → to / page * page ≡ to → from < to → page ≤ to - from
some_by from to page low high rises =
    elim (cases_lt (from / page) (to / page)) [
      | inl less ↦
          let next : (from / page + 1) * page ≤ to / page * page = mul-le-mul_right page (omega (arith, less)) in
          let more : (from / page + 1) * page ≡ from / page * page + 1 * page = add-mul (from / page) 1 page in
          omega (arith, next, more, low, high)
      | inr most ↦
          let back : to / page * page ≤ from / page * page = mul-le-mul_right page most in
          absurd (omega (arith, back, low, high, rises))
    ]

some_page : (from to page : ℕ) → from % page ≡ 0 → to % page ≡ 0 → from < to → 0 < (to - from) / page
some_page from to zero first last rises =
    let low : from / 0 * 0 ≡ from = multiple_is from 0 first in
    let high : to / 0 * 0 ≡ to = multiple_is to 0 last in
    absurd (omega (arith, low, high, rises))
some_page from to (suc page) first last rises =
    let most : suc page ≤ to - from =
    some_by from to (suc page) (multiple_is from (suc page) first) (multiple_is to (suc page) last) rises in
    let least : 1 ≤ (to - from) / suc page = le-div 1 (to - from) (suc page) (omega arith) (omega (arith, most)) in
    omega (arith, least)

-- a row at a slot of a run is at its place there
record IsAtPlace (run : Run) (segment : Segment) : Type 0 where
  place : ℕ
  within : place < run.count
  is : is_row_at run place segment.row ≡ true

module _ (segs : SegsView) (heap : ℕ) (run : Run) (sound : IsSound segs) (owns : OwnsRun heap run segs) where
  -- the rows at the slots of a run that a heap owns are at its places
  placed : All (λ segment. in_run run segment.row ≡ true → IsAtPlace run segment) segs.segments
  placed k d within inside =
      let row : Row = (get_or segs.segments k d).row in
      let at = place_in_run run row inside in
      let here : Segment → Bool = λ segment. at_slot run.list (run.first + at.place) segment.row in
      let its : Segment → Bool = λ segment. is_row_at run at.place segment.row in
      let few : count_by here segs.segments ≤ 1 =
      omega (
        arith,
        sound.rows.table.once run.list (run.first + at.place),
        count_mapped (at_slot run.list (run.first + at.place)) (λ (segment : Segment). segment.row) segs.segments,
      ) in
      let found = found_in (is_owned_at heap run at.place) segs.segments (owns.owned at.place at.within) in
      let own = and_parts (is_owned_by heap found.element.state) (is_row_at run at.place found.element.row) found.passes in
      let any : list_any (λ segment. here segment && its segment) segs.segments ≡ true =
      any_contained (λ segment. here segment && its segment) segs.segments found.element found.among
      (and_from (here found.element) (its found.element)
      (at_its_slot run at.place found.element.row (numbers_at run at.place found.element.row own.1)) own.1) in
      record {
        place = at.place;
        within = at.within;
        is =
            one_has here its segs.segments few any k d within
            (and_from (row.list == run.list) (row.slot == run.first + at.place) (eq-eqb row.list run.list at.its_list)
            (eq-eqb row.slot (run.first + at.place) at.its_slot));
      }

module _ (segs : SegsView) (address : ℕ) (heap : PlainHeap) (run : Run) (sound : IsSound segs) (cuts : IsRunCut address heap run)
    (has : HasPages heap.pages (owned_by heap.index segs)) where
  abbrev is_own : Segment → Bool
  is_own segment = is_owned_by heap.index segment.state

  abbrev kept : List HeapPage
  kept = (after_cut address heap).pages

  -- the pages of the run are the heap's, and go
  gone : (page : HeapPage) → Contains (run_pages run) page → Contains heap.pages page × (Contains kept page → ⊥)
  gone =
      subst (λ r. (page : HeapPage) → Contains (run_pages r) page → Contains heap.pages page × (Contains kept page → ⊥)) (sym cuts.is)
      cuts.pages.left

  -- so their rows are the heap's
  own_run : OwnsRun heap.index run segs
  own_run = record {
    some =
        subst (λ r. 0 < r.count) (sym cuts.is)
        (some_page cuts.cut.from cuts.cut.to cuts.cut.range.page cuts.pages.widest.cut.first
        cuts.pages.widest.cut.last cuts.pages.widest.cut.some);
    owned = λ n below.
        let page : HeapPage = run_page run n in
        let among : Contains heap.pages page = (gone page (has_run_page run n below)).0 in
        let found = found_in (λ segment. is_page_of segment.row page) (owned_by heap.index segs) (has.owns page among) in
        any_contained (is_owned_at heap.index run n) segs.segments found.element
        (contains_unkept is_own segs.segments found.element found.among)
        (and_from (is_own found.element) (is_row_at run n found.element.row)
        (contains_passes is_own segs.segments found.element found.among)
        (at_place run n found.element.row (numbers_of found.element.row page found.passes)));
  }

  abbrev rest : List Segment
  rest = filter (λ segment. not (in_run run segment.row)) (owned_by heap.index segs)

  -- a page that stays is of a row outside the run
  outside : (page : HeapPage) (segment : Segment) → Contains kept page → Contains segs.segments segment → is_page_of segment.row page ≡ true
      → in_run run segment.row ≡ false
  outside page segment stays among is =
      false_from_ne_true (in_run run segment.row) (λ inside.
      let at : IsAtPlace run segment =
      All-contains (λ segment. in_run run segment.row ≡ true → IsAtPlace run segment) segs.segments segment
      (placed segs heap.index run sound own_run) among inside in
      let same : run_page run at.place ≡ page =
      one_page segment.row (run_page run at.place) page (numbers_at run at.place segment.row at.is) (numbers_of segment.row page is) in
      (gone page (subst (Contains (run_pages run)) same (has_run_page run at.place at.within))).1 stays)

  owns : (page : HeapPage) → Contains kept page → list_any (λ segment. is_page_of segment.row page) rest ≡ true
  owns page stays =
      let found =
      found_in (λ segment. is_page_of segment.row page) (owned_by heap.index segs) (has.owns page (cuts.pages.stayed page stays)) in
      let among : Contains segs.segments found.element = contains_unkept is_own segs.segments found.element found.among in
      any_contained (λ segment. is_page_of segment.row page) rest found.element
      (contains_kept (λ segment. not (in_run run segment.row)) (owned_by heap.index segs) found.element found.among
      (not_from_false (in_run run found.element.row) (outside page found.element stays among found.passes))) found.passes

  -- a row outside the run has no page that goes
  no_page : (segment : Segment) (page : HeapPage) → in_run run segment.row ≡ false → is_page_of segment.row page ≡ true
      → Contains (run_pages run) page → ⊥
  no_page segment page out is among =
      let of = of_run run page among in
      let numbers : HasNumbersOf (run_page run of.place) segment.row =
      subst (λ page. HasNumbersOf page segment.row) (sym of.is) (numbers_of segment.row page is) in
      let inside : in_run run segment.row ≡ true =
      in_run_from run of.place segment.row of.within (at_its_slot run of.place segment.row numbers) in
      let wrong : true ≡ false = sym inside ∙ out in
      cc

  pages_of : (segment : Segment) → Contains rest segment → list_any (is_page_of segment.row) kept ≡ true
  pages_of segment among =
      let own : Contains (owned_by heap.index segs) segment =
      contains_unkept (λ segment. not (in_run run segment.row)) (owned_by heap.index segs) segment among in
      let out : in_run run segment.row ≡ false =
      not-true (in_run run segment.row)
      (contains_passes (λ segment. not (in_run run segment.row)) (owned_by heap.index segs) segment among) in
      let found = found_in (is_page_of segment.row) heap.pages (has.pages_of segment own) in
      elim (cuts.pages.pages found.element found.among) [
        | inl stays ↦ any_contained (is_page_of segment.row) kept found.element stays found.passes
        | inr goes ↦
            absurd (no_page segment found.element out found.passes (subst (λ r. Contains (run_pages r) found.element) (sym cuts.is) goes))
      ]

pub retire_takes_pages : RetireTakesPages
retire_takes_pages segs address heap run sound cuts has = record {
  own = own_run segs address heap run sound cuts has;
  pages =
      subst (HasPages (after_cut address heap).pages)
      (sym (owned_left segs heap.index run sound (own_run segs address heap run sound cuts has)))
      (record { owns = owns segs address heap run sound cuts has; pages_of = pages_of segs address heap run sound cuts has });
}
