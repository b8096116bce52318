-- An address that an allocation gives in external memory lies in a page of a chunk that its caller has attached; and so each address that it gives
-- lies in a row that the caller's table is known to have.
use Rattle.std.proofs.Common.{◌≡◌, ◌≢◌, ◌∙◌, ℕ, zero, suc, ◌+◌, ◌*◌, ◌/◌, ◌<◌, ◌≤◌, Bool, true, ◌&&◌, ◌||◌, ◌==◌, nat_le, List, [], ◌∷◌, ◌++◌, map, Option, Some, None, is_some, Contains, count_by, eqb, eq-eqb, refl, ap, sym, subst, inl, inr, arith}
use Rattle.std.specs.List.{list_any}
use Rattle.std.proofs.lemmas.Bool.{and_from, and_parts, cases_lt, eqb-true, le-leb, leb-true, lt-ltb, ltb-true}
use Rattle.std.proofs.lemmas.List.Elements.{Contains-append_left, Contains-push}
use Rattle.hp_base.specs.ExternalMemory.{IsExternalMemory}
use Rattle.hp_base.specs.Flags.{has_bit}
use Rattle.hp_base.specs.declared.chunk.Chunk.{Chunk}
use Rattle.hp_base.specs.declared.request.Request.{Request}
use Rattle.hp_base.specs.declared.row.Run.{Run}
use Rattle.hp_base.specs.declared.span.Span.{Span}
use Rattle.hp_base.specs.declared.tag.Tag.{Tag}
use Rattle.hp_hall.proofs.StandingFacts.StandingLists.{found_in}
use Rattle.hp_hall.specs.HallState.{HallState}
use Rattle.hp_hall.specs.Naming.{marked_by, unmarked}
use Rattle.hp_heap.proofs.AllocFacts.ChoiceLaw.{AllByRecursion-contains, eligible-candidate}
use Rattle.hp_heap.proofs.Members.{Contains-imaged, counted_once, counted_some, some_counted}
use Rattle.hp_heap.specs.Choice.{is_attached}
use Rattle.hp_heap.specs.History.{HeapView, IsCall}
use Rattle.hp_heap.specs.LaidOut.{IsChunk}
use Rattle.hp_heap.specs.PlainHeap.{Extent, HasKind, HeapPage, PlainHeap, chunk_extent, end_of, is_free, page_extent, segments_of}
use Rattle.hp_heap.specs.Tiling.{IsTiled, in_range, in_range_of, in_segment, in_segment_of}
use Rattle.hp_heap.specs.declared.entry.HeapAnswer.TheVariants as gives
use Rattle.hp_heap.specs.declared.entry.HeapCall.TheVariants as call
use Rattle.hp_log.specs.Rows.{row_of, rows_below}
use Rattle.hp_maps.specs.Chunks.{rows_of_chunk, run_of_chunk}
use Rattle.hp_script.specs.declared.answer.Answer.TheVariants as answer
use Rattle.hp_proc.specs.LineInHall.{HoldsIn, IsKnownMapped, LiesIn, LiesInMarked}
use Rattle.hp_proc.specs.ParticipantView.{ParticipantView}
use Rattle.hp_proc.specs.Progress.{caller_of}
use Rattle.hp_proc.proofs.AddressLies.{address_lies, given_so, placed_by}
use Rattle.hp_proc.proofs.SharedMarks.{marked_to}
use Rattle.hp_serve.specs.InHall.{marked_in}

-- an address within the first slots of a run lies in one of their rows
lies_below : (run : Run) (n address : ℕ) → run.addr ≤ address → address < run.addr + n * run.page → LiesIn (rows_below run 0 n) address
lies_below run zero address from below = absurd (omega (arith, from, below))
lies_below run (suc n) address from below = elim (cases_lt address (run.addr + n * run.page)) [
  | inl early ↦ (let found = lies_below run n address from early in
      record {
        row = found.row;
        among = Contains-append_left (rows_below run 0 n) (row_of run 0 n ∷ []) found.row found.among;
        from = found.from;
        below = found.below;
      })
  | inr late ↦ record {
    row = row_of run 0 n;
    among = Contains-push (rows_below run 0 n) (row_of run 0 n);
    from = late;
    below = omega (arith, below);
  }
]

-- a byte of a chunk lies in one of its pages
in_page : (chunk : Chunk) (address : ℕ) → IsExternalMemory chunk.addr chunk.len chunk.page → chunk.addr ≤ address
    → address < chunk.addr + chunk.len → LiesIn (rows_of_chunk chunk) address
in_page chunk address memory from below =
    let whole : chunk.len / chunk.page * chunk.page ≡ chunk.len = omega (arith, memory.whole, memory.least) in
    lies_below (run_of_chunk chunk) (chunk.len / chunk.page) address from (omega (arith, below, whole))

-- an address lies in a chunk of a heap that a participant has attached
record IsInChunk (who : ℕ) (heap : PlainHeap) (address : ℕ) : Type 0 where
  chunk : Chunk
  among : Contains heap.chunks chunk
  marked : has_bit chunk.attached who ≡ true
  from : chunk.addr ≤ address
  below : address < chunk.addr + chunk.len

-- each address of an element that it may use does
chunk_with : (who : ℕ) (heap : PlainHeap) (range : Span) (address : ℕ) → IsTiled heap → heap.serves ≡ None → Contains heap.ranges range
    → is_attached who heap range ≡ true → range.addr ≤ address → address < end_of range → IsInChunk who heap address
unfolding is_attached
chunk_with who heap range address tiled external among usable from below =
    let attached : Chunk → Bool = λ (chunk : Chunk). (chunk.list == range.list) && has_bit chunk.attached who in
    let any : list_any attached heap.chunks ≡ true =
    subst (λ (serves : Option ℕ). (is_some serves || list_any attached heap.chunks) ≡ true) external usable in
    let own = found_in attached heap.chunks any in
    let bits = and_parts (own.element.list == range.list) (has_bit own.element.attached who) own.passes in
    let here : in_range_of range.list range.page address range ≡ true =
    and_from (in_range address range) _
    (and_from (nat_le range.addr address) _ (le-leb range.addr address from) (lt-ltb address (range.addr + range.whole) below))
    (and_from (eqb range.list range.list) _ (eq-eqb range.list range.list refl) (eq-eqb range.page range.page refl)) in
    let some : 0 < count_by (in_segment_of range.list range.page address) (segments_of heap) =
    omega (
      arith,
      some_counted (in_range_of range.list range.page address) heap.ranges range here among,
      tiled.tiling.one_list range.list range.page address,
    ) in
    let found = counted_some (in_segment_of range.list range.page address) (segments_of heap) some in
    let none : heap.pages ≡ [] = subst (λ (serves : Option ℕ). HasKind serves heap.pages heap.chunks) external tiled.kind in
    let all : segments_of heap ≡ map chunk_extent heap.chunks =
    ap (λ (pages : List HeapPage). map page_extent pages ++ map chunk_extent heap.chunks) none in
    let one = Contains-imaged chunk_extent heap.chunks found.0 (subst (λ (extents : List Extent). Contains extents found.0) all found.1.1) in
    let passes : in_segment_of range.list range.page address (chunk_extent one.0) ≡ true =
    ap (in_segment_of range.list range.page address) one.2 ∙ found.1.0 in
    let parts = and_parts (in_segment address (chunk_extent one.0)) _ passes in
    let within = and_parts (nat_le one.0.addr address) _ parts.0 in
    let lists = and_parts (one.0.list == range.list) _ parts.1 in
    let same : one.0 ≡ own.element =
    counted_once (λ (chunk : Chunk). eqb chunk.list range.list) heap.chunks one.0 own.element (tiled.laid.own_lists range.list)
    (lists.0, one.1) (bits.0, own.among) in
    record {
      chunk = one.0;
      among = one.1;
      marked = ap (λ (chunk : Chunk). has_bit chunk.attached who) same ∙ bits.1;
      from = leb-true one.0.addr address within.0;
      below = ltb-true address (one.0.addr + one.0.len) within.1;
    }

module _ (me : ℕ) (doer : ParticipantView) (request : Request) (tag : Tag) (address : ℕ) (heap next : HeapView) (state : HallState)
    (step : IsCall (caller_of doer) (call.Alloc request tag) (gives.Address address) heap next) (who : doer.party.me ≡ me)
    (holds : HoldsIn me doer heap state) where
  -- so an allocation's address does
  lies_attached : heap.plain.serves ≡ None → LiesInMarked (marked_in me state) address
  lies_attached external =
      let tiled = holds.in_hand.sound.tiled in
      let placed = placed_by doer.party.me request heap.plain address tiled
      (given_so doer.party.me request tag heap.plain address step.answered) in
      let room = placed.place.room in
      let is = eligible-candidate heap.plain doer.party.me request placed.range placed.choice.among in
      let usable = and_parts (is_attached doer.party.me heap.plain placed.range) _ (and_parts (is_free placed.range) _ is.0).1 in
      let at = chunk_with doer.party.me heap.plain placed.range address tiled external is.1 usable.0 (omega (arith, room.behind))
      (omega (arith, room.before, request.accepted.some)) in
      let memory = AllByRecursion-contains IsChunk heap.plain.chunks at.chunk tiled.laid.each_chunk at.among in
      record {
        heap = heap.plain.index;
        few = holds.in_hand.few;
        chunk = unmarked at.chunk;
        among = subst (λ (chunks : List Chunk). Contains chunks (unmarked at.chunk)) holds.marks
            (marked_to me heap.plain at.chunk at.among (ap (has_bit at.chunk.attached) (sym who) ∙ at.marked));
        lies = in_page at.chunk address memory at.from at.below;
      }

  by_serves : (serves : Option ℕ) → heap.plain.serves ≡ serves → IsKnownMapped me state (answer.Address address)
  by_serves None external joined = inr (lies_attached external)
  by_serves (Some socket) serves joined = inl (address_lies me doer request tag address socket heap next state step serves holds joined)

  pub allocation_lies : IsKnownMapped me state (answer.Address address)
  allocation_lies = by_serves heap.plain.serves refl
