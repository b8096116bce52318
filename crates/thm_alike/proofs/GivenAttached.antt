-- Memory of a heap for external memory is given only where the participant has attached its chunk.
use Rattle.std.proofs.Common.{◌≡◌, ◌∙◌, ℕ, ◌+◌, ◌-◌, ◌<◌, ◌≤◌, Bool, true, ◌&&◌, ◌||◌, ◌==◌, nat_le, List, [], ◌∷◌, ◌++◌, map, Option, None, is_some, Contains, count_by, eqb, eq-eqb, refl, ap, subst, arith}
use Rattle.std.specs.List.{list_any}
use Rattle.std.proofs.lemmas.Bool.{and_from, and_parts, le-leb, leb-true, lt-ltb, ltb-true}
use Rattle.std.proofs.lemmas.List.Elements.{All-weaker}
use Rattle.hp_base.specs.Flags.{has_bit}
use Rattle.hp_base.specs.declared.chunk.Chunk.{Chunk}
use Rattle.hp_base.specs.declared.span.Span.{Span}
use Rattle.hp_hall.proofs.StandingFacts.StandingLists.{found_in}
use Rattle.hp_heap.proofs.AllocFacts.ChoiceLaw.{eligible-candidate}
use Rattle.hp_heap.proofs.FreeFacts.EntriesLaw.{entries_are_answered}
use Rattle.hp_heap.proofs.HistoryFacts.FrontsLaw.{fronts_stand}
use Rattle.hp_heap.proofs.HistoryFacts.HistoryLaw.{replay-same}
use Rattle.hp_heap.proofs.Members.{Contains-imaged, counted_once, counted_some, some_counted}
use Rattle.hp_heap.specs.Choice.{is_attached}
use Rattle.hp_heap.specs.History.{HeapView, IsLegal, IsSound, opening_of, replay}
use Rattle.hp_heap.specs.PlainHeap.{Extent, HasKind, HeapPage, PlainHeap, chunk_extent, end_of, is_free, page_extent, segments_of}
use Rattle.hp_heap.specs.Tiling.{IsTiled, in_range, in_range_of, in_segment, in_segment_of}
use Rattle.hp_heap.specs.declared.entry.Entry.{Entry}
use Rattle.hp_heap.specs.declared.entry.HeapAnswer.TheVariants as answer
use Rattle.hp_heap.specs.declared.entry.HeapCall.TheVariants as call
use Rattle.hp_proc.proofs.AddressLies.{given_so, placed_by}
use Rattle.thm_alike.specs.Given.{EndsGiveAttached, GivesAttached, IsInAttached}

-- a byte lies in a chunk
record HasByte (chunk : Chunk) (byte : ℕ) : Type 0 where
  from : chunk.addr ≤ byte
  below : byte < chunk.addr + chunk.len

module _ (who : ℕ) (heap : PlainHeap) (tiled : IsTiled heap) (external : heap.serves ≡ None) (range : Span)
    (among : Contains heap.ranges range) where
  -- each byte of an element lies in the chunk with the element's list
  byte_in : (chunk : Chunk) → Contains heap.chunks chunk → eqb chunk.list range.list ≡ true → (byte : ℕ) → range.addr ≤ byte
      → byte < end_of range → HasByte chunk byte
  byte_in chunk there listed byte from below =
      let here : in_range_of range.list range.page byte range ≡ true =
      and_from (in_range byte range) _
      (and_from (nat_le range.addr byte) _ (le-leb range.addr byte from) (lt-ltb byte (range.addr + range.whole) below))
      (and_from (eqb range.list range.list) _ (eq-eqb range.list range.list refl) (eq-eqb range.page range.page refl)) in
      let some : 0 < count_by (in_segment_of range.list range.page byte) (segments_of heap) =
      omega (
        arith,
        some_counted (in_range_of range.list range.page byte) heap.ranges range here among,
        tiled.tiling.one_list range.list range.page byte,
      ) in
      let found = counted_some (in_segment_of range.list range.page byte) (segments_of heap) some in
      let none : heap.pages ≡ [] = subst (λ (serves : Option ℕ). HasKind serves heap.pages heap.chunks) external tiled.kind in
      let all : segments_of heap ≡ map chunk_extent heap.chunks =
      ap (λ (pages : List HeapPage). map page_extent pages ++ map chunk_extent heap.chunks) none in
      let one = Contains-imaged chunk_extent heap.chunks found.0 (subst (λ (extents : List Extent). Contains extents found.0) all found.1.1) in
      let passes : in_segment_of range.list range.page byte (chunk_extent one.0) ≡ true =
      ap (in_segment_of range.list range.page byte) one.2 ∙ found.1.0 in
      let parts = and_parts (in_segment byte (chunk_extent one.0)) _ passes in
      let within = and_parts (nat_le one.0.addr byte) _ parts.0 in
      let lists = and_parts (one.0.list == range.list) _ parts.1 in
      let same : one.0 ≡ chunk =
      counted_once (λ (chunk : Chunk). eqb chunk.list range.list) heap.chunks one.0 chunk (tiled.laid.own_lists range.list)
      (lists.0, one.1) (listed, there) in
      subst (λ (chunk : Chunk). HasByte chunk byte) same
      (record { from = leb-true one.0.addr byte within.0; below = ltb-true byte (one.0.addr + one.0.len) within.1 })

  -- memory of an element that a participant may use lies in a chunk that it has attached
  in_attached : is_attached who heap range ≡ true → (addr size : ℕ) → 0 < size → range.addr ≤ addr → addr + size ≤ end_of range
      → IsInAttached who addr size heap
  unfolding is_attached
  in_attached usable addr size some from to =
      let attached : Chunk → Bool = λ (chunk : Chunk). (chunk.list == range.list) && has_bit chunk.attached who in
      let any : list_any attached heap.chunks ≡ true =
      subst (λ (serves : Option ℕ). (is_some serves || list_any attached heap.chunks) ≡ true) external usable in
      let own = found_in attached heap.chunks any in
      let bits = and_parts (own.element.list == range.list) (has_bit own.element.attached who) own.passes in
      let first = byte_in own.element own.among bits.0 addr from (omega (arith, to, some)) in
      let last : ℕ = range.addr + range.whole - 1 in
      let behind = byte_in own.element own.among bits.0 last (omega (arith, from, to, some)) (omega (arith, from, to, some)) in
      record {
        chunk = own.element;
        among = own.among;
        marked = bits.1;
        from = first.from;
        to = omega (arith, to, behind.below, some);
      }

-- a sound heap gave no other memory
gives_attached : (heap : HeapView) → IsSound heap → GivesAttached heap
gives_attached heap sound before after caller request tag addr history external =
    let entry : Entry = record { caller = caller; call = call.Alloc request tag; answer = answer.Address addr } in
    let legal : IsLegal (opening_of heap.plain) (before ++ entry ∷ after) =
    subst (IsLegal (opening_of heap.plain)) history sound.stands.legal in
    let then_heap : PlainHeap = replay (opening_of heap.plain) before in
    let tiled = (fronts_stand heap.plain.index heap.plain.serves before (entry ∷ after) legal).tiled in
    let made = entries_are_answered heap.plain.index heap.plain.serves before entry after legal in
    let serves : then_heap.serves ≡ None = (replay-same (opening_of heap.plain) before).serves ∙ external in
    let placed = placed_by caller.participant request then_heap addr tiled
    (given_so caller.participant request tag then_heap addr made.answered) in
    let room = placed.place.room in
    let is = eligible-candidate then_heap caller.participant request placed.range placed.choice.among in
    let usable = and_parts (is_attached caller.participant then_heap placed.range) _ (and_parts (is_free placed.range) _ is.0).1 in
    in_attached caller.participant then_heap tiled serves placed.range is.1 usable.0 addr request.size request.accepted.some
    (omega (arith, room.behind)) room.before

pub ends_give_attached : EndsGiveAttached
ends_give_attached workload answers heaps segs tables end = All-weaker IsSound GivesAttached gives_attached heaps end.heaps_sound
