-- Each page of a heap is mapped alike by all who are attached: between two lines, and at the end of a run.
use Rattle.std.proofs.Common.{◌≡◌, ◌==◌, ◌∙◌, ℕ, ◌+◌, ◌*◌, Bool, true, false, List, [], ◌∷◌, find, if◌then◌else◌, ◌&&◌, Some, inl, inr, eq-eqb, refl, ap, sym, subst, arith}
use Rattle.std.specs.Prelude.{Contains, slice_get}
use Rattle.std.specs.List.{All}
use Rattle.std.proofs.Math.Nat.{add-mul}
use Rattle.std.proofs.lemmas.Bool.{and_from, and_parts, eqb-true}
use Rattle.std.proofs.lemmas.List.Elements.{All-contains, All-head, All-tail, Contains-append_cases}
use Rattle.std.proofs.lemmas.Option.{same_Some}
use Rattle.hp_base.specs.declared.row.Row.{Row}
use Rattle.hp_base.specs.declared.row.Run.{Run}
use Rattle.hp_heap.specs.Growing.{run_page}
use Rattle.hp_heap.specs.History.{HeapView, IsSound, replay}
use Rattle.hp_heap.specs.PlainHeap.{HeapPage, PlainHeap}
use Rattle.hp_heap.proofs.AllocFacts.ChoiceLaw.{Contains-cases, Contains-none}
use Rattle.hp_heap.proofs.Members.{Contains-image}
use Rattle.hp_heap.proofs.CutFacts.RunPages.{of_run}
use Rattle.hp_hall.specs.Holding.{HasPages, is_page_of}
use Rattle.hp_segs.specs.Standing.{owned_by}
use Rattle.hp_hall.proofs.StandingFacts.StandingAsks.{contains_kept}
use Rattle.hp_hall.proofs.StandingFacts.StandingLists.{any_contained, contains_passes, contains_unkept, found_in}
use Rattle.hp_log.specs.Log.{run_in}
use Rattle.hp_log.specs.Rows.{at_slot}
use Rattle.hp_log.specs.declared.log_record.LogRecord.{LogRecord}
use Rattle.hp_log.specs.declared.log_record.LogRecord.TheVariants.{Add, Drop}
use Rattle.hp_maps.specs.declared.table.Table.{Table}
use Rattle.hp_script.specs.declared.answer.Answer.{Answer}
use Rattle.hp_script.specs.declared.workload.Workload.{Workload}
use Rattle.hp_segs.specs.Lists.{lists_of}
use Rattle.hp_segs.specs.SegsView.{SegsView, is_opened, is_owned_by}
use Rattle.hp_segs.specs.Sound as segments
use Rattle.hp_segs.specs.SoundAsks.{is_granted}
use Rattle.hp_segs.specs.Table.{IsListRun, IsPlaced}
use Rattle.hp_segs.specs.declared.list_info.ListInfo.{ListInfo}
use Rattle.hp_segs.specs.declared.outcome.AskLog.{AskLog}
use Rattle.hp_segs.specs.declared.row_state.RowState.{RowState}
use Rattle.hp_segs.specs.declared.row_state.RowState.TheVariants.{Agreed, Opened, Owned, Retiring}
use Rattle.hp_segs.specs.declared.row_state.Segment.{Segment}
use Rattle.hp_segs.proofs.RowTables.TableUse.{at_place}
use Rattle.hp_proc.specs.Ends.{IsEnd, OwnsItsPages, has_page_at}
use Rattle.hp_heap.specs.HistoryLaws.{runs_grown}
use Rattle.hp_segs.specs.GrantedRuns.{added_for, granted_runs}
use Rattle.thm_alike.specs.Alike.{AttachedPagesAlike, EndPagesAlike, IsMappedAlike, TablesHave}
use Rattle.thm_alike.proofs.AttachedAlike.{attached_map_alike}
use Rattle.thm_alike.proofs.EndAlike.{tables_alike}
use Rattle.thm_alike.proofs.HeapPages.{replayed_pages}
use Rattle.thm_run.proofs.HallFacts.HallPages.{IsSegmentAt, found_at}

-- what is a heap's own is not Opened
own_settled : (heap : ℕ) (state : RowState) → is_owned_by heap state ≡ true → is_opened state ≡ false
own_settled heap Opened own = cc
own_settled heap (Agreed other) own = refl
own_settled heap (Owned other) own = refl
own_settled heap Retiring own = refl

pub attached_pages_alike : AttachedPagesAlike
attached_pages_alike workload courses parties hall segs index held page given so is there home among =
    let same : is.segs ≡ segs = same_Some is.segs segs (sym is.there ∙ there) in
    let has : HasPages held.heap.plain.pages (owned_by index segs) =
    subst (λ (segs : SegsView). HasPages held.heap.plain.pages (owned_by index segs)) same (is.home index held home).pages in
    let its = found_in (λ (segment : Segment). is_page_of segment.row page) (owned_by index segs) (has.owns page among) in
    let segment : Segment = its.element in
    let own : is_owned_by index segment.state ≡ true =
    contains_passes (λ (segment : Segment). is_owned_by index segment.state) segs.segments segment its.among in
    record {
      segment = segment;
      own = its.among;
      its_page = its.passes;
      mapped = λ who party at joined.
          (attached_map_alike workload courses parties hall segs who party given so there at joined).mapped segment
          (contains_unkept (λ (segment : Segment). is_owned_by index segment.state) segs.segments segment its.among)
          (own_settled index segment.state own);
    }

-- at an end too a page lies at its slot of a segment list
record IsListed (lists : List ListInfo) (page : HeapPage) : Type 0 where
  info : ListInfo
  its_list : slice_get lists page.list ≡ Some info
  addr : page.addr ≡ info.base + page.slot * info.page
  size : page.page ≡ info.page
  socket : page.socket ≡ info.socket

-- so lies each page of a run of such a list
run_listed : (lists : List ListInfo) (run : Run) (i : ℕ) → IsListRun lists run → IsListed lists (run_page run i)
run_listed lists run i is =
    let size : run.page ≡ is.info.page = ap (λ (run : Run). run.page) is.is_run in
    let addr : run.addr ≡ is.info.base + run.first * is.info.page = ap (λ (run : Run). run.addr) is.is_run in
    let behind : i * run.page ≡ i * is.info.page = ap (λ (page : ℕ). i * page) size in
    record {
      info = is.info;
      its_list = is.its_list;
      addr = omega (arith, addr, behind, add-mul run.first i is.info.page);
      size = size;
      socket = ap (λ (run : Run). run.socket) is.is_run;
    }

-- what all runs of a log have, each has that was granted for a heap
granted_so : (Q : Run → Type 0) (heap : ℕ) (granted : Bool) (entry : LogRecord) (run : Run) → Contains (added_for heap granted entry) run
    → Q (run_in entry) → Q run
granted_so Q heap granted (Drop other) run among its = absurd (Contains-none run among)
granted_so Q heap granted (Add other for) run among its = by_test (granted && (for == heap)) among
  where
    by_test : (b : Bool) → Contains (if b then other ∷ [] else []) run → Q run
    by_test true among = elim (Contains-cases other run [] among) [
      | inl same ↦ subst Q same its
      | inr none ↦ absurd (Contains-none run none)
    ]
    by_test false among = absurd (Contains-none run among)

of_granted : (Q : Run → Type 0) (heap : ℕ) (asks : List AskLog) (generation : ℕ) (log : List LogRecord) (run : Run)
    → All (λ entry. Q (run_in entry)) log → Contains (granted_runs heap asks generation log) run → Q run
of_granted Q heap asks generation [] run all among = absurd (Contains-none run among)
of_granted Q heap asks generation (entry ∷ log) run all among =
    let first : List Run = added_for heap (is_granted asks generation) entry in
    elim (Contains-append_cases first (granted_runs heap asks (generation + 1) log) run among) [
      | inl here ↦
          granted_so Q heap (is_granted asks generation) entry run here (All-head (λ (entry : LogRecord). Q (run_in entry)) entry log all)
      | inr later ↦
          of_granted Q heap asks (generation + 1) log run (All-tail (λ (entry : LogRecord). Q (run_in entry)) entry log all) later
    ]

-- a page of a heap that grew by granted runs lies at its slot of its list
page_listed : (segs : SegsView) (index : ℕ) (heap : HeapView) (page : HeapPage) → segments.IsSound segs → IsSound heap
    → runs_grown heap.history ≡ granted_runs index segs.asks 1 segs.log → Contains heap.plain.pages page
    → IsListed (lists_of segs.pools) page
page_listed segs index heap page sound is grown among =
    let left : Contains (replay _ heap.history).pages page =
    subst (λ (plain : PlainHeap). Contains plain.pages page) is.stands.left among in
    elim (replayed_pages heap.history _ page left) [
      | inl first ↦ absurd (Contains-none page first)
      | inr came ↦
          let its = of_run came.run page came.its_page in
          let listed : IsListRun (lists_of segs.pools) came.run =
          of_granted (IsListRun (lists_of segs.pools)) index segs.asks 1 segs.log came.run sound.rows.table.listed
          (subst (λ (runs : List Run). Contains runs came.run) grown came.its_run) in
          subst (IsListed (lists_of segs.pools)) its.is (run_listed (lists_of segs.pools) came.run its.place listed)
    ]

-- two at one slot of one list are at one place
page_of_row : (lists : List ListInfo) (row : Row) (page : HeapPage) → IsPlaced lists row → IsListed lists page → row.list ≡ page.list
    → row.slot ≡ page.slot → is_page_of row page ≡ true
page_of_row lists row page placed listed list slot =
    let one : placed.info ≡ listed.info =
    same_Some placed.info listed.info (sym placed.its_list ∙ (ap (slice_get lists) list ∙ listed.its_list)) in
    let base : placed.info.base ≡ listed.info.base = ap (λ (info : ListInfo). info.base) one in
    let behind : row.slot * placed.info.page ≡ page.slot * listed.info.page =
    ap (λ (slot : ℕ). slot * placed.info.page) slot ∙ ap (λ (info : ListInfo). page.slot * info.page) one in
    let addr : page.addr ≡ row.addr = omega (arith, listed.addr, placed.addr, base, behind) in
    let size : page.page ≡ row.page = listed.size ∙ (sym (ap (λ (info : ListInfo). info.page) one) ∙ sym placed.page) in
    let socket : page.socket ≡ row.socket = listed.socket ∙ (sym (ap (λ (info : ListInfo). info.socket) one) ∙ sym placed.socket) in
    and_from (page.list == row.list) _ (eq-eqb page.list row.list (sym list))
    (and_from (page.slot == row.slot) _ (eq-eqb page.slot row.slot (sym slot))
    (and_from (page.addr == row.addr) _ (eq-eqb page.addr row.addr addr)
    (and_from (page.page == row.page) (page.socket == row.socket) (eq-eqb page.page row.page size)
    (eq-eqb page.socket row.socket socket))))

module _ (workload : Workload) (answers : List Answer) (heaps : List HeapView) (segs : SegsView) (tables : List Table)
    (end : IsEnd workload answers heaps segs tables) (index : ℕ) (heap : HeapView) (page : HeapPage)
    (at : slice_get heaps index ≡ Some heap) (among : Contains heap.plain.pages page) where
  -- it is at a slot of one of the heap's own segments
  its_segment : IsSegmentAt segs.segments page.list page.slot (Owned heap.plain.index)
  its_segment =
      let has : has_page_at page.list page.slot heap.plain ≡ true =
      any_contained (λ (other : HeapPage). (other.list == page.list) && (other.slot == page.slot)) heap.plain.pages page among
      (and_from (page.list == page.list) (page.slot == page.slot) (eq-eqb page.list page.list refl) (eq-eqb page.slot page.slot refl)) in
      let owns : OwnsItsPages segs heap = at_place (OwnsItsPages segs) heaps index heap end.owned at in
      found_at segs.segments page.list page.slot (Owned heap.plain.index)
      (find (λ segment. at_slot page.list page.slot segment.row) segs.segments) refl ((owns page.list page.slot).0 has)

  mapped_alike : IsMappedAlike segs heap.plain.index page (TablesHave tables)
  mapped_alike =
      let heap_index : ℕ = heap.plain.index in
      let segment : Segment = its_segment.segment in
      let numbers = and_parts (segment.row.list == page.list) (segment.row.slot == page.slot) its_segment.there in
      let placed : IsPlaced (lists_of segs.pools) segment.row =
      All-contains (IsPlaced (lists_of segs.pools)) _ segment.row end.segs_sound.rows.table.placed
      (Contains-image (λ (segment : Segment). segment.row) segs.segments segment its_segment.among) in
      let listed : IsListed (lists_of segs.pools) page =
      page_listed segs index heap page end.segs_sound (at_place IsSound heaps index heap end.heaps_sound at) (end.grown index heap at)
      among in
      record {
        segment = segment;
        own =
            contains_kept (λ (segment : Segment). is_owned_by heap_index segment.state) segs.segments segment its_segment.among
            (ap (is_owned_by heap_index) its_segment.its_state ∙ eq-eqb heap_index heap_index refl);
        its_page =
            page_of_row (lists_of segs.pools) segment.row page placed listed (eqb-true segment.row.list page.list numbers.0)
            (eqb-true segment.row.slot page.slot numbers.1);
        mapped = λ who table there joined.
            tables_alike workload answers heaps segs tables end who table segment there joined its_segment.among
            (ap is_opened its_segment.its_state);
      }

pub end_pages_alike : EndPagesAlike
end_pages_alike workload answers heaps segs tables is index heap page at among =
    mapped_alike workload answers heaps segs tables is index heap page at among
