-- At a closed board the names that are handed out agree with the heaps, with external memory, and with the tables that participants leave.
use Rattle.std.proofs.Common.{◌≡◌, ◌∙◌, ◌==◌, ℕ, ◌<◌, List, [], ◌∷◌, Contains, filter, map, Some, refl, ap, sym, subst, arith}
use Rattle.std.specs.List.{All, slice_get}
use Rattle.std.specs.List.Sorted.{IsPermutation}
use Rattle.std.proofs.lemmas.Option.{slice_get_within}
use Rattle.std.proofs.lemmas.List.Elements.{All-contains}
use Rattle.hp_base.proofs.MemoryLemmas.{good_memory}
use Rattle.hp_base.specs.ExternalMemory.{IsExternalMemory}
use Rattle.hp_base.specs.declared.limits.TheConstants.{MAX_HEAPS}
use Rattle.hp_base.specs.declared.row.Row.{Row}
use Rattle.hp_base.specs.declared.span.Span.{Span}
use Rattle.hp_board.specs.Views.{marked_in}
use Rattle.hp_external.specs.Tie.{AreClaimed, AreListed, AreMarked}
use Rattle.hp_hall.specs.Naming.{Naming, marked_by, naming_of}
use Rattle.hp_heap.specs.History.{HeapView}
use Rattle.hp_heap.specs.Joining.{zone_ranges}
use Rattle.hp_heap.specs.PlainHeap.{PlainHeap, data_address}
use Rattle.hp_heap.specs.Tiling.{IsTiled}
use Rattle.hp_maps.specs.MapsView.{chunk_rows}
use Rattle.hp_maps.specs.declared.table.Table.{Table}
use Rattle.hp_script.specs.declared.answer.Answer.{Answer}
use Rattle.hp_script.specs.declared.workload.Workload.{Workload}
use Rattle.hp_segs.specs.SegsView.{SegsView}
use Rattle.hp_segs.specs.SoundPlaces.{IsRange}
use Rattle.hp_segs.specs.declared.external_range.ExternalRange.{ExternalRange}
use Rattle.hp_serve.specs.Tied.{HasChunks}
use Rattle.hp_zone.specs.Directory.{HasSocketHeaps, PlainDirectory, directory_at, heap_at}
use Rattle.hp_zone.specs.declared.heap_name.HeapRange.{HeapRange}
use Rattle.hp_zone.specs.declared.names.Names.{Names as NamesView}
use Rattle.hp_zone.specs.declared.zone.Zone.{Zone}
use Rattle.hp_proc.specs.Handing.{shared_of}
use Rattle.hp_proc.specs.Heaps.{sockets_of}
use Rattle.hp_proc.specs.NamesAtEnd.{AreClaimsOf, AreElementsOf, AreZonesOf, IsDirectoryOf}
use Rattle.hp_proc.specs.RunEnds.{HasAttached}
use Rattle.hp_proc.specs.SharedNames.{directory_in, zones_in}
use Rattle.thm_run.proofs.HallFacts.HallHeaps.{all_from_places}
use Rattle.thm_run.proofs.NamesEnd.AgreedAtEnd.{all_claimed, all_known, all_marked, claims_are, directory_is, lists_are, names_are, naming_at}
use Rattle.thm_moved.proofs.CameToBoard.{its_seat}
use Rattle.thm_moved.proofs.ClosedHeaps.{at_a_place}
use Rattle.thm_moved.specs.AtBoard.{AllCameToTheirSeats}
use Rattle.thm_moved.specs.NamesLeft.{NamesLeftAtBoard}

elements_are : (heap : PlainHeap) → (naming_of heap).zones ≡ zone_ranges heap
unfolding naming_of
elements_are heap = refl

module _ (workload : Workload) (answers : List Answer) (heaps : List HeapView) (segs : SegsView) (tables : List Table)
    (all : AllCameToTheirSeats workload answers heaps segs tables) where
  sockets : all.names.heaps.sockets ≡ sockets_of workload.pools.items
  sockets = all.left.sockets ∙ ap (λ (names : NamesView). names.heaps.sockets) all.names_are

  directory_same : directory_in workload.pools.items (shared_of all.names) ≡ all.names.heaps.plain
  directory_same = directory_is workload.pools.items all.names all.left.directory sockets

  zones_same : zones_in (shared_of all.names) ≡ all.names.zones.zones
  zones_same = sym all.left.zones.replayed

  directory : IsDirectoryOf workload (shared_of all.names) segs.ranges heaps
  directory = record {
    names_are = λ index below.
        ap (λ (plain : PlainDirectory). heap_at plain index) directory_same
        ∙ names_are all.names heaps segs.ranges all.closed.heaps_are.count all.left.agreed index below;
    chunks_are = all_from_places (λ (heap : HeapView). AreListed (directory_in workload.pools.items (shared_of all.names)).ranges heap.plain) heaps
        (λ index heap there.
        subst (λ (plain : PlainDirectory). AreListed plain.ranges heap.plain) (sym directory_same)
        (lists_are all.names heaps segs.ranges all.closed.heaps_are.count all.left.agreed index heap there
        (all.closed.heaps_are.at index heap there).index));
    no_other = subst (λ (plain : PlainDirectory). All (λ (range : HeapRange). range.index < MAX_HEAPS) plain.ranges) (sym directory_same)
        all.left.agreed.ranges;
    claimed = all_from_places (λ (heap : HeapView). AreClaimed segs.ranges heap.plain.chunks) heaps
        (all_claimed all.names heaps segs.ranges all.closed.heaps_are.count all.left.agreed);
  }

  claimed : AreClaimsOf heaps segs.ranges
  claimed = claims_are all.names heaps segs.ranges all.closed.heaps_are.count all.left.agreed

  -- each socket has its heap, whatever changes there were so far
  socket_heaps : (front : ℕ) → HasSocketHeaps (sockets_of workload.pools.items)
      (directory_at (sockets_of workload.pools.items) (shared_of all.names).heaps front)
  socket_heaps =
      subst (λ (numbers : List ℕ). (front : ℕ) → HasSocketHeaps numbers (directory_at numbers all.names.heaps.log front)) sockets
      all.left.directory.fronts

  elements : (index : ℕ) (heap : HeapView) → slice_get heaps index ≡ Some heap → AreElementsOf (shared_of all.names) index heap.plain
  elements index heap there =
      let named = (all.left.agreed.each index (omega (arith, slice_get_within heaps index heap there, all.closed.heaps_are.count))).zones in
      let here : List ℕ = map (λ (zone : Zone). zone.addr) (filter (λ (zone : Zone). zone.heap == index) all.names.zones.zones) in
      subst (λ (zones : List Zone). IsPermutation (map (λ (zone : Zone). zone.addr) (filter (λ (zone : Zone). zone.heap == index) zones))
      (map data_address (zone_ranges heap.plain))) (sym zones_same)
      (subst (λ (spans : List Span). IsPermutation here (map data_address spans)) (elements_are heap.plain)
      (subst (λ (naming : Naming). IsPermutation here (map data_address naming.zones))
      (naming_at all.names heaps segs.ranges all.closed.heaps_are.count all.left.agreed index heap there) named))

  zones : AreZonesOf (shared_of all.names) heaps
  zones = record {
    elements = elements;
    few = subst (All (λ (zone : Zone). zone.heap < MAX_HEAPS)) (sym zones_same) all.left.agreed.zones;
    reserved = λ zone there.
        let is = all.left.reserved zone there in
        record { heap = is.heap; there = is.there; allocated = is.allocated };
  }

  -- external memory is within its limits, and no two ranges have one list
  memory : (range : ExternalRange) → Contains segs.ranges range → IsExternalMemory range.addr range.len range.page
  memory range there =
      good_memory range.addr range.len range.page
      (All-contains IsRange segs.ranges range all.closed.segs_are.sound.places.external.each there).good

  attached : (who : ℕ) (table : Table) → slice_get tables who ≡ Some table → HasAttached heaps segs who table
  attached who table at =
      let below : who < workload.participants = omega (arith, slice_get_within tables who table at, all.count) in
      let seat = its_seat workload answers heaps segs tables all who below in
      let came = all.home who seat.0 table seat.1 at in
      let ends = came.ends in
      let marks : (index : ℕ) (heap : HeapView) → slice_get heaps index ≡ Some heap → marked_by who heap.plain ≡ marked_in index seat.0.mine =
      λ index heap there.
      ap (λ (n : ℕ). marked_by n heap.plain) (sym came.whose)
      ∙ (all.closed.calls seat.0 (at_a_place all.seats who seat.0 seat.1)).marks index heap there in
      let has : HasChunks (λ heap. marked_in heap seat.0.mine) (chunk_rows table.rows.items) =
      subst (λ (rows : List Row). HasChunks (λ heap. marked_in heap seat.0.mine) (chunk_rows rows)) (sym ends.leaves.rows)
      ends.tied.table.table.chunks in
      let tiled : (index : ℕ) (heap : HeapView) → slice_get heaps index ≡ Some heap → IsTiled heap.plain =
      λ index heap there. (all.closed.heaps_are.at index heap there).sound.tiled in
      let distinct = all.closed.segs_are.sound.places.external.distinct in
      record {
        marked = all_from_places (λ (heap : HeapView). AreMarked who table.rows.items heap.plain.chunks) heaps
            (all_marked all.names heaps segs.ranges all.closed.heaps_are.count all.left.agreed distinct memory tiled who
            (λ heap. marked_in heap seat.0.mine) marks table.rows.items has);
        known = all_known all.names heaps segs.ranges all.closed.heaps_are.count all.left.agreed distinct memory tiled who
            (λ heap. marked_in heap seat.0.mine) marks table.rows.items has;
      }

pub names_left_at_board : NamesLeftAtBoard
names_left_at_board workload answers heaps segs tables all = record {
  count = all.closed.heaps_are.count;
  directory = directory workload answers heaps segs tables all;
  zones = zones workload answers heaps segs tables all;
  claimed = claimed workload answers heaps segs tables all;
  sockets = socket_heaps workload answers heaps segs tables all;
  attached = attached workload answers heaps segs tables all;
}
