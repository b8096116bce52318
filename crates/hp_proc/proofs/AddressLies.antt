-- An address that an allocation in the heap in hand gives lies in a page of that heap, and so in a row of its holder's own table.
use Rattle.std.proofs.Common.{◌≡◌, ◌∙◌, ℕ, Bool, ◌+◌, ◌<◌, ◌≤◌, true, List, [], ◌++◌, append-nil, map, filter, Option, Some, None, MatchOption, Contains, nat_le, ◌==◌, count_by, refl, ap, sym, subst, ⊎_elim, inl, inr, arith}
use Rattle.std.proofs.lemmas.Bool.{and_from, and_parts, eqb-true, le-leb, leb-true, lt-ltb, ltb-true}
use Rattle.hp_base.specs.declared.chunk.Chunk.{Chunk}
use Rattle.hp_base.specs.declared.request.Request.{Request}
use Rattle.hp_base.specs.declared.row.Row.{Row}
use Rattle.hp_base.specs.declared.span.Span.{Span}
use Rattle.hp_base.specs.declared.tag.Tag.{Tag}
use Rattle.std.proofs.lemmas.List.Elements.{All-contains}
use Rattle.hp_hall.specs.HallState.{HallState}
use Rattle.hp_hall.specs.Holding.{HasPages, IsHeldWith}
use Rattle.hp_hall.specs.Own.{Own, rows_known}
use Rattle.hp_hall.proofs.StandingFacts.StandingLists.{contains_unkept, found_in}
use Rattle.hp_heap.specs.Choice.{HasNoChoice}
use Rattle.hp_heap.specs.History.{HeapView, IsCall}
use Rattle.hp_heap.specs.Placing.{IsPlacedIn, allocated}
use Rattle.hp_heap.specs.PlainHeap.{Extent, HasKind, HeapPage, PlainHeap, chunk_extent, end_of, page_extent, segments_of}
use Rattle.hp_heap.specs.Step.{address_answer, answer_of}
use Rattle.hp_heap.specs.Tiling.{IsTiled, in_range, in_segment}
use Rattle.hp_heap.specs.declared.entry.HeapAnswer.TheVariants as gives
use Rattle.hp_heap.specs.declared.entry.HeapCall.TheVariants as call
use Rattle.hp_heap.proofs.AllocFacts.AllocLaw.{allocated-is}
use Rattle.hp_heap.proofs.AllocFacts.ChoiceLaw.{eligible-candidate}
use Rattle.hp_heap.proofs.Members.{Contains-imaged, counted_some, some_counted}
use Rattle.hp_log.specs.declared.log_record.LogRecord.{LogRecord}
use Rattle.hp_maps.specs.Chunks.{is_of_chunk, rows_of_chunk}
use Rattle.hp_maps.specs.MapsView.{chunk_rows, is_of_log, table_in}
use Rattle.hp_script.specs.declared.answer.Answer.{Answer}
use Rattle.hp_script.specs.declared.answer.Answer.TheVariants as answer
use Rattle.hp_segs.specs.Standing.{Holding}
use Rattle.hp_segs.specs.declared.row_state.Segment.{Segment}
use Rattle.hp_proc.specs.LineInHall.{HoldsIn, IsKnownMapped, IsMapped, LiesIn, LiesInMarked, TableStays}
use Rattle.hp_serve.specs.InHall.{IsTiedIn, marked_in}
use Rattle.hp_serve.specs.Party.{Party}
use Rattle.hp_serve.specs.Tied.{part_of}
use Rattle.hp_proc.specs.ParticipantView.{ParticipantView}
use Rattle.hp_proc.specs.Progress.{caller_of}

-- an address lies in a page of a heap
record IsInPage (pages : List HeapPage) (address : ℕ) : Type 0 where
  page : HeapPage
  among : Contains pages page
  from : page.addr ≤ address
  below : address < page.addr + page.page

-- in the heap of a socket, each address of an element does
page_with : (heap : PlainHeap) (socket address : ℕ) (range : Span) → IsTiled heap → heap.serves ≡ Some socket → Contains heap.ranges range
    → range.addr ≤ address → address < end_of range → IsInPage heap.pages address
page_with heap socket address range tiled serves among from below =
    let here : in_range address range ≡ true =
    and_from (nat_le range.addr address) _ (le-leb range.addr address from) (lt-ltb address (range.addr + range.whole) below) in
    let some : 0 < count_by (in_segment address) (segments_of heap) =
    omega (arith, some_counted (in_range address) heap.ranges range here among, tiled.tiling.once address) in
    let found = counted_some (in_segment address) (segments_of heap) some in
    let none : heap.chunks ≡ [] = subst (λ (serves : Option ℕ). HasKind serves heap.pages heap.chunks) serves tiled.kind in
    let all : segments_of heap ≡ map page_extent heap.pages =
    ap (λ (chunks : List Chunk). map page_extent heap.pages ++ map chunk_extent chunks) none ∙ append-nil (map page_extent heap.pages) in
    let one = Contains-imaged page_extent heap.pages found.0 (subst (λ (extents : List Extent). Contains extents found.0) all found.1.1) in
    let tests = and_parts (nat_le one.0.addr address) _ (ap (in_segment address) one.2 ∙ found.1.0) in
    record {
      page = one.0;
      among = one.1;
      from = leb-true one.0.addr address tests.0;
      below = ltb-true address (one.0.addr + one.0.page) tests.1;
    }

-- the segment that a page is has its address and its size
row_with : (pages : List HeapPage) (owned : List Segment) (rows : List Row) (address : ℕ) → HasPages pages owned
    → ((segment : Segment) → Contains owned segment → Contains rows segment.row) → IsInPage pages address → LiesIn rows address
row_with pages owned rows address has mapped at =
    let found = found_in _ owned (has.owns at.page at.among) in
    let row = found.element.row in
    let places = and_parts (at.page.slot == row.slot) _ (and_parts (at.page.list == row.list) _ found.passes).1 in
    let addr = and_parts (at.page.addr == row.addr) _ places.1 in
    let size = and_parts (at.page.page == row.page) _ addr.1 in
    let addr_is : at.page.addr ≡ row.addr = eqb-true at.page.addr row.addr addr.0 in
    let size_is : at.page.page ≡ row.page = eqb-true at.page.page row.page size.0 in
    record {
      row = row;
      among = mapped found.element found.among;
      from = omega (arith, at.from, addr_is);
      below = omega (arith, at.below, addr_is, size_is);
    }

-- the place that an allocation is given lies in an element of the heap
pub placed_by : (participant : ℕ) (request : Request) (heap : PlainHeap) (address : ℕ) → IsTiled heap
    → allocated participant request heap ≡ Some address → IsPlacedIn participant request heap address
placed_by participant request heap address tiled is =
    subst (λ (found : Option ℕ). MatchOption found (HasNoChoice participant request heap) (IsPlacedIn participant request heap)) is
    (allocated-is heap participant request tiled)

allocated_so : (found : Option ℕ) (address : ℕ) → gives.Address address ≡ address_answer found → found ≡ Some address
allocated_so None address is = absurd (differs is)
  where
    differs : gives.Address address ≡ gives.Nothing → ⊥
    differs equal = cc
allocated_so (Some other) address is = cc

pub given_so : (participant : ℕ) (request : Request) (tag : Tag) (heap : PlainHeap) (address : ℕ)
    → gives.Address address ≡ answer_of participant (call.Alloc request tag) heap → allocated participant request heap ≡ Some address
unfolding answer_of
given_so participant request tag heap address is = allocated_so (allocated participant request heap) address is

-- so an allocation's address lies in a page
address_in_page : (doer : ParticipantView) (request : Request) (tag : Tag) (address socket : ℕ) (heap next : HeapView)
    → IsCall (caller_of doer) (call.Alloc request tag) (gives.Address address) heap next → IsTiled heap.plain → heap.plain.serves ≡ Some socket
    → IsInPage heap.plain.pages address
address_in_page doer request tag address socket heap next step tiled serves =
    let placed = placed_by doer.party.me request heap.plain address tiled
    (given_so doer.party.me request tag heap.plain address step.answered) in
    let room = placed.place.room in
    page_with heap.plain socket address placed.range tiled serves
    (eligible-candidate heap.plain doer.party.me request placed.range placed.choice.among).1 (omega (arith, room.behind))
    (omega (arith, room.before, request.accepted.some))

-- and in a row of its holder's own table, where that is in the roster
module _ (me : ℕ) (doer : ParticipantView) (request : Request) (tag : Tag) (address socket : ℕ) (heap next : HeapView) (state : HallState)
    (step : IsCall (caller_of doer) (call.Alloc request tag) (gives.Address address) heap next) (serves : heap.plain.serves ≡ Some socket)
    (holds : HoldsIn me doer heap state) where
  pub address_lies : state.joined me ≡ true → LiesIn (rows_known (state.seen me) (state.own me)) address
  address_lies joined =
      by_holding (state.part me heap.plain.index).holding refl holds.in_hand.held
    where
      by_holding : (holding : Option Holding) → (state.part me heap.plain.index).holding ≡ holding → IsHeldWith heap holding
          → LiesIn (rows_known (state.seen me) (state.own me)) address
      by_holding None is held = absurd held
      by_holding (Some holding) is held =
          row_with heap.plain.pages holding.owned (rows_known (state.seen me) (state.own me)) address held.pages
          (λ segment among. holds.mapped joined heap.plain.index holding segment is among)
          (address_in_page doer request tag address socket heap next step holds.in_hand.sound.tiled serves)

-- a row of a chunk in a table is a row of the table
in_table : (rows : List Row) (row : Row) → Contains (chunk_rows rows) row → Contains rows row
in_table rows row has = contains_unkept _ rows row has

-- what it answers is that
pub lies_so : (me : ℕ) (state : HallState) (given answer : Answer) → IsKnownMapped me state given → Some given ≡ Some answer → IsKnownMapped me state answer
lies_so me state given answer lies same =
    let is : given ≡ answer = cc in
    subst (λ (answer : Answer). IsKnownMapped me state answer) is lies

-- a heap that is passed answers nothing
pub lies_none : (me : ℕ) (state : HallState) (answer : Answer) → None ≡ Some answer → IsKnownMapped me state answer
lies_none me state answer same = absurd cc

-- where its own table is known by the same, and its marks are the same, it is so still
pub lies_still : (me : ℕ) (old new : HallState) (given : Answer) → TableStays me old new
    → ((heap : ℕ) → marked_in me new heap ≡ marked_in me old heap) → IsKnownMapped me old given → IsKnownMapped me new given
lies_still me old new (answer.Address address) stays marks lies = λ joined.
    ⊎_elim
    (λ (known : LiesIn (rows_known (old.seen me) (old.own me)) address). inl
    (subst (λ (log : List LogRecord). LiesIn (rows_known log (new.own me)) address) (sym stays.seen)
    (subst (λ (own : Own). LiesIn (rows_known (old.seen me) own) address) (sym stays.own) known)))
    (λ (has : LiesInMarked (marked_in me old) address). inr
    (record {
      heap = has.heap;
      few = has.few;
      chunk = has.chunk;
      among = subst (λ (chunks : List Chunk). Contains chunks has.chunk) (sym (marks has.heap)) has.among;
      lies = has.lies;
    }))
    (lies (sym stays.joined ∙ joined))
lies_still me old new _ stays marks lies = lies

-- who is in the roster has the row in its own table
pub lies_in_table : (me : ℕ) (party : Party) (state : HallState) (given : Answer) → IsTiedIn me party state → state.joined me ≡ true
    → IsKnownMapped me state given → IsMapped party given
lies_in_table me party state (answer.Address address) tied joined lies =
    ⊎_elim
    (λ (known : LiesIn (rows_known (state.seen me) (state.own me)) address).
    (let has : table_in party.maps.rows ≡ rows_known (state.seen me) (state.own me) =
    tied.table.table.rows
    ∙ ap (λ (joined : Bool). rows_known (state.seen me) (part_of joined (state.own me))) (sym tied.same ∙ joined) in
    record {
      row = known.row;
      among = contains_unkept is_of_log party.maps.rows known.row (subst (λ (rows : List Row). Contains rows known.row) (sym has) known.among);
      from = known.from;
      below = known.below;
    }))
    (λ (has : LiesInMarked (marked_in me state) address).
    (let all : filter (is_of_chunk has.chunk) (chunk_rows party.maps.rows) ≡ rows_of_chunk has.chunk =
    All-contains (λ (chunk : Chunk). filter (is_of_chunk chunk) (chunk_rows party.maps.rows) ≡ rows_of_chunk chunk) (marked_in me state has.heap)
    has.chunk (tied.table.table.chunks.each has.heap has.few) has.among in
    let its : Contains (chunk_rows party.maps.rows) has.lies.row =
    contains_unkept (is_of_chunk has.chunk) (chunk_rows party.maps.rows) has.lies.row
    (subst (λ (rows : List Row). Contains rows has.lies.row) (sym all) has.lies.among) in
    record {
      row = has.lies.row;
      among = in_table party.maps.rows has.lies.row its;
      from = has.lies.from;
      below = has.lies.below;
    }))
    (lies joined)
lies_in_table me party state _ tied joined lies = tt
