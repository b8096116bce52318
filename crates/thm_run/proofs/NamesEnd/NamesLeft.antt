-- Where a workload was run to in one thread, the names agree with the heaps, with external memory, and with the tables that participants leave.
use Rattle.std.proofs.Common.{◌≡◌, ◌∙◌, ◌==◌, ℕ, zero, suc, ◌<◌, List, [], ◌∷◌, Contains, filter, length, map, Option, Some, None, refl, ap, sym, subst, arith}
use Rattle.std.specs.List.{All, slice_get}
use Rattle.std.specs.List.Sorted.{IsPermutation}
use Rattle.std.specs.Option.{option_map_or}
use Rattle.std.specs.Prelude.{unwrap_or}
use Rattle.std.proofs.lemmas.Option.{same_Some, slice_get_within}
use Rattle.std.proofs.lemmas.List.Elements.{All-contains}
use Rattle.hp_base.proofs.MemoryLemmas.{good_memory}
use Rattle.hp_base.specs.ExternalMemory.{IsExternalMemory}
use Rattle.hp_base.specs.declared.chunk.Chunk.{Chunk}
use Rattle.hp_base.specs.declared.limits.TheConstants.{MAX_HEAPS}
use Rattle.hp_base.specs.declared.row.Row.{Row}
use Rattle.hp_base.specs.declared.span.Span.{Span}
use Rattle.hp_external.specs.Tie.{AreClaimed, AreListed, AreMarked}
use Rattle.hp_hall.proofs.AgreedAlike.{agree_alike}
use Rattle.hp_hall.specs.AgreedNames.{AreAgreedNames}
use Rattle.hp_hall.specs.Naming.{Naming, marked_by, naming_of}
use Rattle.hp_hall.specs.Views.{HeldHeap}
use Rattle.hp_hall.specs.Named.{IsAllocated}
use Rattle.hp_hall.specs.Values.{history_of}
use Rattle.hp_hall.specs.declared.kept.Kept.{Kept}
use Rattle.hp_hall.specs.declared.kept.Kept.TheVariants.{Heap, Names, Segments}
use Rattle.hp_hall.specs.declared.slot.TheConstants.{NAMES_SLOT}
use Rattle.hp_heap.proofs.AllocFacts.ChoiceLaw.{Contains-none}
use Rattle.hp_heap.specs.History.{HeapView, IsSound}
use Rattle.hp_heap.specs.declared.entry.Entry.{Entry}
use Rattle.hp_heap.specs.Joining.{zone_ranges}
use Rattle.hp_heap.specs.PlainHeap.{PlainHeap, data_address, opening_heap}
use Rattle.hp_maps.specs.MapsView.{chunk_rows}
use Rattle.hp_maps.specs.declared.table.Table.{Table}
use Rattle.hp_plain.proofs.Opened.{opened_segs}
use Rattle.hp_plain.proofs.Slotted.{value_at}
use Rattle.hp_plain.proofs.Walks.{values_stay_sound}
use Rattle.hp_plain.specs.HallSteps.{heap_slot, home_slot, slots_of}
use Rattle.hp_plain.specs.HallView.{HallView, IsHall, SlotView, marks_in, names_of_slot, naming_at, naming_in, part_in, segs_in, slot_at}
use Rattle.hp_plain.specs.Keeping.{values_in}
use Rattle.hp_plain.specs.Opening.{HandsOut, heaps_in, namings_of}
use Rattle.hp_proc.specs.Handing.{shared_of}
use Rattle.hp_proc.specs.Heaps.{sockets_of}
use Rattle.hp_proc.specs.LinesDone.{Course}
use Rattle.hp_proc.specs.NamesAtEnd.{AreClaimsOf, AreElementsOf, AreZonesOf, IsDirectoryOf, IsReserved}
use Rattle.hp_proc.specs.OneThread.{names_by}
use Rattle.hp_proc.specs.RunEnds.{HasAttached}
use Rattle.hp_proc.specs.SharedNames.{directory_in, zones_in}
use Rattle.hp_script.specs.declared.workload.Workload.{Workload}
use Rattle.hp_segs.specs.SegsView.{SegsView}
use Rattle.hp_segs.specs.Sound as segments
use Rattle.hp_segs.specs.SoundPlaces.{IsRange}
use Rattle.hp_segs.specs.declared.external_range.ExternalRange.{ExternalRange}
use Rattle.hp_serve.specs.Ending.{LeavesTable}
use Rattle.hp_serve.specs.Party.{Party}
use Rattle.hp_serve.specs.Tied.{HasChunks}
use Rattle.hp_zone.specs.Directory.{PlainDirectory, heap_at}
use Rattle.hp_zone.specs.declared.heap_name.HeapRange.{HeapRange}
use Rattle.hp_zone.specs.declared.names.Names.{Names as NamesView}
use Rattle.hp_stats.specs.StatViews.{PenView}
use Rattle.hp_zone.specs.declared.zone.Zone.{Zone}
use Rattle.hp_zone.specs.declared.zone.ZoneChange.TheVariants.{Put}
use Rattle.thm_run.proofs.HallFacts.HallEnds.{heaps_many, opened_many, out_many}
use Rattle.thm_run.proofs.HallFacts.HallHeaps.{all_from_places, first_sound, heap_at as heap_of_slot, heap_home, values_sound}
use Rattle.thm_run.proofs.NamesEnd.NamesHome.{agreed_so_far, sound_so_far}
use Rattle.thm_run.proofs.NamesEnd.Reserved.{AreReserved, all_reserved, history_at}
use Rattle.thm_run.proofs.NamesEnd.AgreedAtEnd.{all_claimed, all_known, all_marked, claims_are, directory_is, lists_are, names_are, naming_at as naming_there}
use Rattle.thm_run.proofs.SeatFacts.FirstSegs.{armed_first}
use Rattle.thm_run.proofs.SlotAlong.{opened_names}
use Rattle.thm_run.specs.SoFar.{AreSoundNames, SoFar, first_hall, first_names, first_segs}

-- what the names speak of, of each heap that a hall hands out
naming_out : (segs : SegsView) (names : NamesView) (heaps : List HeldHeap) (number : ℕ) (other : Naming) → number < length heaps
    → option_map_or (λ (heap : HeapView). naming_of heap.plain) (slice_get (heaps_in heaps) number) other
    ≡ unwrap_or (naming_in (slice_get (slots_of heaps segs names) number)) other
naming_out segs names [] number other below = absurd (omega (arith, below))
naming_out segs names (heap ∷ heaps) zero other below = refl
naming_out segs names (heap ∷ heaps) (suc number) other below = naming_out segs names heaps number other (omega (arith, below))

heap_out : (segs : SegsView) (names : NamesView) (heaps : List HeldHeap) (number : ℕ) (own : HeapView) (pen : PenView)
    → slice_get (map (λ (slot : SlotView). slot.kept) (slots_of heaps segs names)) number ≡ Some (Heap own pen)
    → slice_get (heaps_in heaps) number ≡ Some own
heap_out segs names [] zero own pen there =
    let same : Segments segs ≡ Heap own pen = same_Some (Segments segs) (Heap own pen) there in
    cc
heap_out segs names [] (suc zero) own pen there =
    let same : Names names ≡ Heap own pen = same_Some (Names names) (Heap own pen) there in
    cc
heap_out segs names [] (suc (suc number)) own pen there = cc
heap_out segs names (heap ∷ heaps) zero own pen there =
    let same : Heap heap.heap heap.pen ≡ Heap own pen = same_Some (Heap heap.heap heap.pen) (Heap own pen) there in
    let its : heap.heap ≡ own = cc in
    ap Some its
heap_out segs names (heap ∷ heaps) (suc number) own pen there = heap_out segs names heaps number own pen there

same_view : (one other : NamesView) → Names one ≡ Names other → one ≡ other
same_view one other same = cc

elements_are : (heap : PlainHeap) → (naming_of heap).zones ≡ zone_ranges heap
unfolding naming_of
elements_are heap = refl

module _ (workload : Workload) (courses : List Course) (parties : List Party) (hall : HallView) (so : SoFar workload courses parties hall)
    (is_hall : IsHall hall) (heaps : List HeapView) (segs : SegsView) (names : NamesView) (out : HandsOut hall.slots heaps segs names) where
  pub count : length heaps ≡ MAX_HEAPS
  count = heaps_many workload courses parties hall so heaps segs names out

  held_count : length out.held ≡ MAX_HEAPS
  held_count = out_many workload courses parties hall so heaps segs names out

  value : slice_get (values_in hall) NAMES_SLOT ≡ Some (Names names)
  value =
      ap (λ (slots : List SlotView). slice_get (map (λ (slot : SlotView). slot.kept) slots) NAMES_SLOT) out.slots_are
      ∙ opened_names segs names out.held MAX_HEAPS held_count

  pub names_same : so.names ≡ names
  names_same = same_view so.names names (same_Some (Names so.names) (Names names) (sym so.named ∙ value))

  pub sockets : names.heaps.sockets ≡ sockets_of workload.pools.items
  sockets = ap (λ (names : NamesView). names.heaps.sockets) (sym names_same) ∙ so.opened

  -- they are those that the lines leave
  pub leave : shared_of names ≡ names_by courses
  leave = ap shared_of (sym names_same) ∙ so.leave

  pub sound : AreSoundNames names
  sound = subst AreSoundNames names_same (sound_so_far workload courses parties hall so)

  segs_is : is_hall.segs ≡ segs
  segs_is =
      same_Some is_hall.segs segs
      (sym is_hall.there ∙ (ap (λ (slots : List SlotView). segs_in (slice_get slots MAX_HEAPS)) out.slots_are
      ∙ opened_segs segs names out.held MAX_HEAPS held_count))

  sound_segs : segments.IsSound segs
  sound_segs = subst segments.IsSound segs_is is_hall.sound

  naming_same : (index : ℕ) → index < MAX_HEAPS → namings_of heaps index ≡ naming_at hall index
  naming_same index below =
      let other : Naming = naming_of (opening_heap index None) in
      ap (λ (heaps : List HeapView). option_map_or (λ (heap : HeapView). naming_of heap.plain) (slice_get heaps index) other) (sym out.heaps_are)
      ∙ naming_out segs names out.held index other (omega (arith, below, held_count))
      ∙ ap (λ (slots : List SlotView). unwrap_or (naming_in (slice_get slots index)) other) (sym out.slots_are)

  pub agreed : AreAgreedNames names (namings_of heaps) segs.ranges
  agreed =
      agree_alike names (naming_at hall) (namings_of heaps) segs.ranges naming_same
      (subst (λ (segs : SegsView). AreAgreedNames names (naming_at hall) segs.ranges) segs_is
      (subst (λ (names : NamesView). AreAgreedNames names (naming_at hall) is_hall.segs.ranges) names_same
      (agreed_so_far workload courses parties hall so is_hall)))

  pub directory_same : directory_in workload.pools.items (shared_of names) ≡ names.heaps.plain
  directory_same = directory_is workload.pools.items names sound.1 sockets

  pub zones_same : zones_in (shared_of names) ≡ names.zones.zones
  zones_same = sym sound.0.replayed

  its_index : (index : ℕ) (heap : HeapView) → slice_get heaps index ≡ Some heap → heap.plain.index ≡ index
  its_index index heap there = (heap_of_slot workload courses parties hall so heaps segs names out index heap there).index

  pub directory : IsDirectoryOf workload (shared_of names) segs.ranges heaps
  directory = record {
    names_are = λ index below.
        ap (λ (plain : PlainDirectory). heap_at plain index) directory_same ∙ names_are names heaps segs.ranges count agreed index below;
    chunks_are = all_from_places (λ (heap : HeapView). AreListed (directory_in workload.pools.items (shared_of names)).ranges heap.plain) heaps
        (λ index heap there.
        subst (λ (plain : PlainDirectory). AreListed plain.ranges heap.plain) (sym directory_same)
        (lists_are names heaps segs.ranges count agreed index heap there (its_index index heap there)));
    no_other = subst (λ (plain : PlainDirectory). All (λ (range : HeapRange). range.index < MAX_HEAPS) plain.ranges) (sym directory_same)
        agreed.ranges;
    claimed = all_from_places (λ (heap : HeapView). AreClaimed segs.ranges heap.plain.chunks) heaps
        (all_claimed names heaps segs.ranges count agreed);
  }

  pub elements : (index : ℕ) (heap : HeapView) → slice_get heaps index ≡ Some heap → AreElementsOf (shared_of names) index heap.plain
  elements index heap there =
      let named = (agreed.each index (omega (arith, slice_get_within heaps index heap there, count))).zones in
      let here : List ℕ = map (λ (zone : Zone). zone.addr) (filter (λ (zone : Zone). zone.heap == index) names.zones.zones) in
      subst (λ (zones : List Zone). IsPermutation (map (λ (zone : Zone). zone.addr) (filter (λ (zone : Zone). zone.heap == index) zones))
      (map data_address (zone_ranges heap.plain))) (sym zones_same)
      (subst (λ (spans : List Span). IsPermutation here (map data_address spans)) (elements_are heap.plain)
      (subst (λ (naming : Naming). IsPermutation here (map data_address naming.zones))
      (naming_there names heaps segs.ranges count agreed index heap there) named))

  pub few_zones : All (λ (zone : Zone). zone.heap < MAX_HEAPS) (zones_in (shared_of names))
  few_zones = subst (All (λ (zone : Zone). zone.heap < MAX_HEAPS)) (sym zones_same) agreed.zones

  pub claimed : AreClaimsOf heaps segs.ranges
  claimed = claims_are names heaps segs.ranges count agreed

  -- each memzone that was ever put was reserved
  first_reserved : AreReserved (values_in (first_hall workload so.held))
  first_reserved names there zone among =
      let at : slice_get (values_in (first_hall workload so.held)) NAMES_SLOT ≡ Some (Names (first_names workload)) =
      opened_names (first_segs workload) (first_names workload) so.held MAX_HEAPS (opened_many workload courses parties hall so) in
      let same : names ≡ first_names workload =
      same_view names (first_names workload) (same_Some (Names names) (Names (first_names workload)) (sym there ∙ at)) in
      absurd (Contains-none (Put zone) (subst (λ (names : NamesView). Contains names.zones.log (Put zone)) same among))

  heap_there : (index : ℕ) (entry : Entry) (kept : Option Kept) → slice_get (values_in hall) index ≡ kept
      → Contains (option_map_or history_of kept []) entry → (heap : HeapView) × (slice_get heaps index ≡ Some heap) × (history_at (values_in hall) index ≡ heap.history)
  heap_there index entry None is among = absurd (Contains-none entry among)
  heap_there index entry (Some (Segments segs)) is among = absurd (Contains-none entry among)
  heap_there index entry (Some (Names names)) is among = absurd (Contains-none entry among)
  heap_there index entry (Some (Heap heap pen)) is among = (
    heap,
    ap (λ (heaps : List HeapView). slice_get heaps index) (sym out.heaps_are)
        ∙ heap_out segs names out.held index heap pen
        (ap (λ (slots : List SlotView). slice_get (map (λ (slot : SlotView). slot.kept) slots) index) (sym out.slots_are) ∙ is),
    ap (λ (kept : Option Kept). option_map_or history_of kept []) is,
  )

  pub reserved : (zone : Zone) → Contains names.zones.log (Put zone) → IsReserved heaps zone
  reserved zone among =
      let its =
      all_reserved (length (first_hall workload so.held).owns) so.course.steps (values_in (first_hall workload so.held)) (values_in hall)
      so.course.kept first_reserved names value zone among in
      let at = heap_there zone.heap its.entry (slice_get (values_in hall) zone.heap) refl its.there in
      record { heap = at.0; there = at.1; allocated = subst (IsAllocated zone.addr) at.2 its }

  pub zones : AreZonesOf (shared_of names) heaps
  zones = record { elements = elements; few = few_zones; reserved = reserved }

  -- WHO HAS ATTACHED WHAT

  memory : (range : ExternalRange) → Contains segs.ranges range → IsExternalMemory range.addr range.len range.page
  memory range there =
      good_memory range.addr range.len range.page
      (All-contains IsRange segs.ranges range sound_segs.places.external.each there).good

  heap_sound : (index : ℕ) (heap : HeapView) → slice_get heaps index ≡ Some heap → IsSound heap
  heap_sound index heap there =
      let home = heap_home workload courses parties hall so heaps segs names out index heap there in
      (values_stay_sound (first_hall workload so.held) hall so.course (λ number kept there.
      values_sound so.held (first_segs workload) (first_names workload) number kept so.first_heaps.sound
      (first_sound workload courses parties hall so) (armed_first workload.pools.items workload.participants workload.absent) so.names_sound there)).1
      index (Heap heap home.0) (value_at hall index (heap_slot (record { heap = heap; pen = home.0 })) home.1)

  marks_there : (who index : ℕ) (heap : HeapView) → slice_get heaps index ≡ Some heap → marked_by who heap.plain ≡ (part_in hall who index).marked
  marks_there who index heap there =
      ap (marks_in who) (sym (heap_home workload courses parties hall so heaps segs names out index heap there).1)

  pub attached : (who : ℕ) (party : Party) (table : Table) → slice_get parties who ≡ Some party → LeavesTable party table
      → HasAttached heaps segs who table
  attached who party table there leaves =
      let own = so.each who party there in
      let has : HasChunks (λ heap. (part_in hall who heap).marked) (chunk_rows table.rows.items) =
      subst (λ (rows : List Row). HasChunks (λ heap. (part_in hall who heap).marked) (chunk_rows rows)) (sym leaves.rows)
      own.tied.table.chunks in
      let distinct = sound_segs.places.external.distinct in
      let tiled = λ (index : ℕ) (heap : HeapView) (there : slice_get heaps index ≡ Some heap). (heap_sound index heap there).tiled in
      record {
        marked = all_from_places (λ (heap : HeapView). AreMarked who table.rows.items heap.plain.chunks) heaps
            (all_marked names heaps segs.ranges count agreed distinct memory tiled who (λ heap. (part_in hall who heap).marked) (marks_there who)
            table.rows.items has);
        known = all_known names heaps segs.ranges count agreed distinct memory tiled who (λ heap. (part_in hall who heap).marked) (marks_there who)
            table.rows.items has;
      }
