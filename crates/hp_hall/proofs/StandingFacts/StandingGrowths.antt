-- The run of a grant that can be claimed may come to a heap that has the pages of its segments.
use Rattle.std.proofs.Common.{◌≡◌, ◌⊎◌, ◌==◌, ◌∙◌, ℕ, ◌+◌, ◌-◌, ◌*◌, ◌<◌, ◌≤◌, Bool, true, ◌&&◌, get_or, Option, Some, None, IsTrue, IsSomeAnd, refl, ap, sym, subst, arith, count_by, eq-eqb, inl, inr}
use Rattle.std.specs.Prelude.{Contains, slice_get}
use Rattle.std.specs.List.{All, list_any}
use Rattle.std.specs.Option.{option_and_then}
use Rattle.std.proofs.lemmas.Bool.{and_from, and_parts, cases_lt, eqb-true, le-leb, lt-ltb}
use Rattle.std.proofs.lemmas.List.Elements.{All-contains}
use Rattle.hp_base.specs.declared.row.Row.{Row}
use Rattle.hp_base.specs.declared.row.Run.{Run}
use Rattle.hp_heap.specs.Growing.{CanGrow}
use Rattle.hp_heap.specs.PlainHeap.{HeapPage, PlainHeap}
use Rattle.hp_log.specs.Log.{run_in}
use Rattle.hp_log.specs.Rows.{at_slot, in_run, row_of, rows_of}
use Rattle.hp_log.proofs.RowLemmas.{place_in_run, row_at_place}
use Rattle.hp_segs.specs.Lists.{lists_of}
use Rattle.hp_segs.specs.SegsView.{SegsView, added_run, grant_of, is_agreed, is_owned_by, is_unclaimed, run_of}
use Rattle.hp_segs.specs.Sound.{IsSound}
use Rattle.hp_segs.specs.SoundRows.{IsWholeGrant, of_generation}
use Rattle.hp_segs.specs.Steps.{segment_of}
use Rattle.hp_segs.specs.Table.{IsListRun, IsPlaced}
use Rattle.hp_segs.specs.declared.row_state.RowState.{RowState}
use Rattle.hp_segs.specs.declared.row_state.RowState.TheVariants.{Opened, Agreed, Owned, Retiring}
use Rattle.hp_segs.specs.declared.row_state.Segment.{Segment}
use Rattle.hp_segs.proofs.Finds.{count_mapped}
use Rattle.hp_segs.proofs.RetiredRuns.GivenUp.{one_has}
use Rattle.hp_segs.proofs.GrowthSteps.GrantLemmas.{any_mapped}
use Rattle.hp_segs.proofs.GrowthSteps.GrantedRows.{claim_by}
use Rattle.hp_segs.proofs.SlotFacts.ListFacts.{all_unmap}
use Rattle.hp_segs.proofs.RowTables.TableUse.{at_place}
use Rattle.hp_hall.specs.Holding.{HasPages, is_page_of}
use Rattle.hp_segs.specs.Standing.{owned_by}
use Rattle.hp_hall.specs.Standings.{ClaimedCanGrow}
use Rattle.hp_hall.proofs.StandingFacts.StandingLists.{any_contained, any_row, contains_passes, contains_unkept, found_in}
use Rattle.hp_hall.proofs.StandingFacts.StandingPages.{numbers_of}
use Rattle.hp_hall.proofs.StandingFacts.StandingSlots.{LiesBeside, beside_can_grow}

-- a heap's own row is not Agreed
owned_settled : (heap : ℕ) (state : RowState) → is_owned_by heap state ≡ true → is_agreed state ≡ true → ⊥
owned_settled heap Opened owned agreed = cc
owned_settled heap (Agreed other) owned agreed = cc
owned_settled heap (Owned other) owned agreed = cc
owned_settled heap Retiring owned agreed = cc

-- a grant all rows of which are Agreed
record IsWhole (segs : SegsView) (generation : ℕ) : Type 0 where
  owner : ℕ
  grant : IsWholeGrant segs.log segs.segments generation owner

whole_of : (segs : SegsView) (generation : ℕ) → IsSound segs → is_unclaimed segs.segments generation ≡ true → IsWhole segs generation
whole_of segs generation sound any =
    let found = found_in (λ segment. (segment.row.generation == generation) && is_agreed segment.state) segs.segments any in
    let segment : Segment = found.element in
    let parts = and_parts (segment.row.generation == generation) (is_agreed segment.state) found.passes in
    let whole =
    claim_by segs generation found.among.0 segment (get_or segs.segments found.among.0 segment).state sound found.among.1 refl
    (ap (λ (s : Segment). is_agreed s.state) found.among.2 ∙ parts.1)
    (ap (λ (s : Segment). s.row.generation) found.among.2 ∙ eqb-true segment.row.generation generation parts.0) in
    record { owner = whole.0; grant = whole.1 }

module _ (segs : SegsView) (generation : ℕ) (sound : IsSound segs) (whole : IsWhole segs generation) where
  abbrev its_run : Run
  its_run = whole.grant.run

  -- the its_run is one of a list
  listed : IsListRun (lists_of segs.pools) its_run
  listed =
      at_place (λ entry. IsListRun (lists_of segs.pools) (run_in entry)) segs.log
      (generation - 1) _ sound.rows.table.listed whole.grant.added

  -- the rows at its slots are Agreed
  agreed_at : (n : ℕ) → n < its_run.count
      → list_any (λ segment. at_slot its_run.list (its_run.first + n) segment.row && is_agreed segment.state) segs.segments ≡ true
  agreed_at n below =
      let test : Segment → Bool = λ segment. at_slot its_run.list (its_run.first + n) segment.row && is_agreed segment.state in
      let among : list_any test (of_generation generation segs.segments) ≡ true =
      ap (list_any test) whole.grant.rows
      ∙ (any_mapped test (segment_of (Agreed whole.owner)) (rows_of its_run generation)
      ∙ any_row (λ row. test (segment_of (Agreed whole.owner) row)) its_run generation its_run.count n below
      (and_from (at_slot its_run.list (its_run.first + n) (row_of its_run generation n)) true (row_at_place its_run generation n) refl)) in
      let found = found_in test (of_generation generation segs.segments) among in
      any_contained test segs.segments found.element
      (contains_unkept (λ segment. segment.row.generation == generation) segs.segments found.element found.among) found.passes

  all_agreed : All (λ segment. in_run its_run segment.row ≡ true → is_agreed segment.state ≡ true) segs.segments
  all_agreed k d within inside =
      let row : Row = (get_or segs.segments k d).row in
      let at = place_in_run its_run row inside in
      let here : Segment → Bool = λ segment. at_slot its_run.list (its_run.first + at.place) segment.row in
      let its : Segment → Bool = λ segment. is_agreed segment.state in
      let few : count_by here segs.segments ≤ 1 =
      omega (
        arith,
        sound.rows.table.once its_run.list (its_run.first + at.place),
        count_mapped (at_slot its_run.list (its_run.first + at.place)) (λ (segment : Segment). segment.row) segs.segments,
      ) in
      one_has here its segs.segments few (agreed_at at.place at.within) k d within
      (and_from (row.list == its_run.list) (row.slot == its_run.first + at.place) (eq-eqb row.list its_run.list at.its_list)
      (eq-eqb row.slot (its_run.first + at.place) at.its_slot))

  -- so a heap's own row is not at one of them
  own_outside : (heap : ℕ) (segment : Segment) → Contains segs.segments segment → is_owned_by heap segment.state ≡ true
      → segment.row.list ≡ its_run.list → (segment.row.slot < its_run.first) ⊎ (its_run.first + its_run.count ≤ segment.row.slot)
  own_outside heap segment among owned list =
      elim (cases_lt segment.row.slot its_run.first) [
        | inl before ↦ inl before
        | inr later ↦
            elim (cases_lt segment.row.slot (its_run.first + its_run.count)) [
              | inl inside ↦
                  let in_it : in_run its_run segment.row ≡ true =
                  and_from (segment.row.list == its_run.list) _ (eq-eqb segment.row.list its_run.list list)
                  (and_from _ _ (le-leb its_run.first segment.row.slot later)
                  (lt-ltb segment.row.slot (its_run.first + its_run.count) inside)) in
                  absurd (owned_settled heap segment.state owned
                  (All-contains
                  (λ segment. in_run its_run segment.row ≡ true → is_agreed segment.state ≡ true) segs.segments segment
                  all_agreed among in_it))
              | inr behind ↦ inr behind
            ]
      ]

  module _ (heap : PlainHeap) (has : HasPages heap.pages (owned_by heap.index segs)) where
    -- the heap's pages lie beside the its_run
    beside : (page : HeapPage) → Contains heap.pages page → LiesBeside segs.pools its_run page
    beside page among =
        let found = found_in (λ segment. is_page_of segment.row page) (owned_by heap.index segs) (has.owns page among) in
        let segment : Segment = found.element in
        let there : Contains segs.segments segment =
        contains_unkept (λ segment. is_owned_by heap.index segment.state) segs.segments segment found.among in
        let owned : is_owned_by heap.index segment.state ≡ true =
        contains_passes (λ segment. is_owned_by heap.index segment.state) segs.segments segment found.among in
        let each : All (λ segment. IsPlaced (lists_of segs.pools) segment.row) segs.segments =
        all_unmap (IsPlaced (lists_of segs.pools)) (λ (segment : Segment). segment.row) segs.segments sound.rows.table.placed in
        let placed : IsPlaced (lists_of segs.pools) segment.row =
        All-contains (λ segment. IsPlaced (lists_of segs.pools) segment.row) segs.segments segment each there in
        let is = numbers_of segment.row page found.passes in
        record {
          info = placed.info;
          its_list = ap (slice_get (lists_of segs.pools)) (sym is.list) ∙ placed.its_list;
          within = omega (arith, placed.within, is.slot);
          addr = sym is.addr ∙ (placed.addr ∙ ap (λ slot. placed.info.base + slot * placed.info.page) is.slot);
          size = sym is.page_size ∙ placed.page;
          socket = sym is.socket ∙ placed.socket;
          outside = λ same.
              subst (λ slot. (slot < its_run.first) ⊎ (its_run.first + its_run.count ≤ slot)) is.slot
              (own_outside heap.index segment there owned (is.list ∙ same));
        }

granted_unclaimed : (segs : SegsView) (grant : Option ℕ) (run : Run)
    → IsSomeAnd grant (λ generation. IsTrue (is_unclaimed segs.segments generation))
    → option_and_then (run_of segs.log) grant ≡ Some run
    → (generation : ℕ) × (is_unclaimed segs.segments generation ≡ true) × (run_of segs.log generation ≡ Some run)
granted_unclaimed segs None run unclaimed claimed = absurd unclaimed
granted_unclaimed segs (Some generation) run unclaimed claimed = (generation, unclaimed, claimed)

pub claimed_can_grow : ClaimedCanGrow
claimed_can_grow segs from number run heap sound unclaimed claimed serves no_chunks has =
    let grant = granted_unclaimed segs (grant_of segs.asks from number) run unclaimed claimed in
    let whole = whole_of segs grant.0 sound grant.1 in
    let runs : Some whole.grant.run ≡ Some run = sym (ap (option_and_then added_run) whole.grant.added) ∙ grant.2 in
    let its_run : whole.grant.run ≡ run = cc in
    subst (λ r. CanGrow r heap) its_run
    (beside_can_grow segs.pools whole.grant.run sound.rows.table.limits (listed segs grant.0 sound whole) heap serves no_chunks
    (beside segs grant.0 sound whole heap has))
