-- What the names speak of, of a heap, after calls for memzones, for its name and for its memory; and that names agree with it still.
use Rattle.std.proofs.Common.{◌≡◌, ◌≢◌, ◌∙◌, ℕ, ◌+◌, ◌<◌, true, eqb, eq-eqb, ne_eqb, List, [], ◌∷◌, ◌++◌, map, flat_map, length, get_or, set, Option, Some, None, refl, sym, ap, subst, arith, get_or-set_same, slice_get}
use Rattle.std.specs.List.{All, filter, range_with_len}
use Rattle.std.specs.List.Sorted.{IsPermutation}
use Rattle.std.specs.Option.{option_flatten}
use Rattle.std.proofs.lemmas.Bool.{cond-false, cond-true}
use Rattle.std.proofs.lemmas.List.{append-nil, length-set}
use Rattle.std.proofs.lemmas.List.Elements.{All-push, filter-append}
use Rattle.std.proofs.lemmas.List.Sorted.{IsPermutation-append_left, IsPermutation-cons, IsPermutation-sym, IsPermutation-to_front, IsPermutation-trans}
use Rattle.std.proofs.lemmas.Option.{slice_get-get_or, slice_get_within}
use mathlib.Core.Logic.{dite}
use native.Mathlib.Decide.{ℕ_discrete}
use Rattle.hp_base.specs.declared.chunk.Chunk.{Chunk}
use Rattle.hp_base.specs.declared.limits.TheConstants.{MAX_HEAPS}
use Rattle.hp_base.specs.declared.request.Request.{Request}
use Rattle.hp_base.specs.declared.span.Span.{Span}
use Rattle.hp_base.specs.declared.tag.Caller.{Caller}
use Rattle.hp_base.specs.declared.tag.Tag.{Tag}
use Rattle.hp_external.specs.Adding.{Adds}
use Rattle.hp_external.specs.Creating.{Creates}
use Rattle.hp_heap.proofs.HistoryFacts.BusyLaw.{leaves_busy}
use Rattle.hp_heap.specs.Choice.{chosen}
use Rattle.hp_heap.specs.Chunks.{after_chunk, with_chunk}
use Rattle.hp_heap.specs.History.{HeapView, IsCall, SameButSpare}
use Rattle.hp_heap.specs.Joining.{after_free, busy_at, zone_ranges}
use Rattle.hp_heap.specs.Placing.{after_alloc, allocated}
use Rattle.hp_heap.specs.PlainHeap.{PlainHeap, data_address}
use Rattle.hp_heap.specs.Step.{address_answer, after, after_name, answer_of}
use Rattle.hp_heap.specs.Tiling.{IsTiled}
use Rattle.hp_heap.specs.declared.entry.HeapAnswer.{HeapAnswer}
use Rattle.hp_heap.specs.declared.entry.HeapAnswer.TheVariants as answer
use Rattle.hp_heap.specs.declared.entry.HeapCall.TheVariants as call
use Rattle.hp_segs.proofs.SlotFacts.PlacesSteps.{get_set_other}
use Rattle.hp_segs.specs.SegsView.{SegsView}
use Rattle.hp_segs.specs.declared.external_range.ExternalRange.{ExternalRange}
use Rattle.hp_zone.specs.Directory.{DirectoryView, heap_at}
use Rattle.hp_zone.specs.Zones.{ZonesView}
use Rattle.hp_zone.specs.declared.heap_name.HeapName.{HeapName}
use Rattle.hp_zone.specs.declared.heap_name.HeapRange.{HeapRange}
use Rattle.hp_zone.specs.declared.names.Names.{Names as NamesView}
use Rattle.hp_zone.specs.declared.zone.Zone.{Zone}
use Rattle.hp_hall.proofs.AgreedAlike.{agree_alike}
use Rattle.hp_hall.proofs.LeavesNaming.{IsNamedAs, named_freed, named_placed}
use Rattle.hp_hall.specs.AgreedNames.{AreAgreedNames, IsNamedBy, chunk_memory, directory_name, directory_range}
use Rattle.hp_hall.specs.Naming.{Naming, naming_of, unmarked}
use Rattle.test_board.specs.Zoned.{AgreeStill, HasOneMore, with_naming}
use Rattle.test_board.proofs.ZoneAgreed.{agree_one, memory_more, memory_stays, name_of, naming_else, naming_here, places}
use Rattle.test_board.proofs.ZoneElements.{zone_allocated, zone_freed}

-- A MEMZONE'S ELEMENT

named_alloc : (participant : ℕ) (request : Request) (tag : Tag) (heap : PlainHeap) → IsNamedAs heap (after_alloc participant request tag heap)
unfolding after_alloc
named_alloc participant request tag heap = named_placed heap request tag (chosen participant request heap)

named_free : (addr : ℕ) (heap : PlainHeap) → IsNamedAs heap (after_free addr true heap)
unfolding after_free
named_free addr heap = named_freed heap true (busy_at addr heap)

one_more : (addr : ℕ) (fewer more : PlainHeap) → IsNamedAs fewer more → IsPermutation (map data_address (zone_ranges more)) (addr ∷ map data_address (zone_ranges fewer))
    → HasOneMore addr (naming_of fewer) (naming_of more)
unfolding naming_of
one_more addr fewer more named zones = record { name = named.name; socket = named.socket; chunks = ap (map unmarked) named.chunks; zones = zones }

one_less : (addr : ℕ) (more fewer : PlainHeap) → IsNamedAs more fewer → IsPermutation (map data_address (zone_ranges more)) (addr ∷ map data_address (zone_ranges fewer))
    → HasOneMore addr (naming_of fewer) (naming_of more)
unfolding naming_of
one_less addr more fewer named zones =
    record { name = sym named.name; socket = sym named.socket; chunks = ap (map unmarked) (sym named.chunks); zones = zones }

address_is : (o : Option ℕ) (addr : ℕ) → answer.Address addr ≡ address_answer o → o ≡ Some addr
address_is None addr is = absurd (cc)
address_is (Some found) addr is = cc

-- an allocation for a memzone
pub alloc_more : (caller : Caller) (request : Request) (tag : Tag) (addr : ℕ) (old new : HeapView) → IsTiled old.plain → tag.zone ≡ true
    → IsCall caller (call.Alloc request tag) (answer.Address addr) old new → HasOneMore addr (naming_of old.plain) (naming_of new.plain)
unfolding after answer_of
alloc_more caller request tag addr old new tiled zone step =
    let is : allocated caller.participant request old.plain ≡ Some addr = address_is (allocated caller.participant request old.plain) addr step.answered in
    subst (λ (h : PlainHeap). HasOneMore addr (naming_of old.plain) (naming_of h)) (sym step.heap)
    (one_more addr old.plain (after_alloc caller.participant request tag old.plain) (named_alloc caller.participant request tag old.plain)
    (zone_allocated caller.participant request tag old.plain tiled zone addr is))

-- and a free of its element
pub free_more : (caller : Caller) (addr : ℕ) (old new : HeapView) → IsTiled old.plain → IsCall caller (call.Free addr true) answer.Done old new
    → HasOneMore addr (naming_of new.plain) (naming_of old.plain)
unfolding after answer_of
free_more caller addr old new tiled step =
    subst (λ (h : PlainHeap). HasOneMore addr (naming_of h) (naming_of old.plain)) (sym step.heap)
    (one_less addr old.plain (after_free addr true old.plain) (named_free addr old.plain) (zone_freed addr old.plain tiled (step.allowed refl) step.answered))

-- A HEAP GETS A NAME

slice_get_here : {X : Type 0} (xs : List (Option X)) (at : ℕ) (x : Option X) → at < length xs → slice_get (set xs at x) at ≡ Some x
slice_get_here xs at x within =
    slice_get-get_or (set xs at x) at None (subst (λ (n : ℕ). at < n) (sym (length-set xs at x)) within) ∙ ap Some (get_or-set_same xs at x None within)

-- what the names speak of once the heap has this name and number
record IsNamedTo (text : List ℕ) (socket : ℕ) (old new : Naming) : Type 0 where
  name : new.name ≡ Some text
  socket_is : new.socket ≡ socket
  chunks : new.chunks ≡ old.chunks
  zones : new.zones ≡ old.zones

named_to : (caller : Caller) (text : List ℕ) (socket : ℕ) (old new : HeapView) → IsTiled old.plain → IsCall caller (call.Name text socket) answer.Done old new
    → IsNamedTo text socket (naming_of old.plain) (naming_of new.plain)
unfolding naming_of after after_name
named_to caller text socket old new tiled step =
    let zones = (leaves_busy caller.participant (call.Name text socket) old.plain tiled tt refl).zones in
    subst (λ (h : PlainHeap). IsNamedTo text socket (naming_of old.plain) (naming_of h)) (sym step.heap)
    (record { name = refl; socket_is = refl; chunks = refl; zones = zones })

module _ (names created : NamesView) (text : List ℕ) (socket : ℕ) (heap given : HeapView) (creates : Creates names created text heap.plain.index socket) (caller : Caller)
    (step : IsCall caller (call.Name text socket) answer.Done heap given) (tiled : IsTiled heap.plain) (below : heap.plain.index < MAX_HEAPS) where
  abbrev index : ℕ
  index = heap.plain.index

  unchanged : created.heaps.plain.ranges ≡ names.heaps.plain.ranges
  unchanged = ap (λ (d : DirectoryView). d.plain.ranges) creates.given.changed

  now_named : heap_at created.heaps.plain index ≡ Some (record { name = text; socket = socket })
  now_named =
      ap (λ (d : DirectoryView). heap_at d.plain index) creates.given.changed
      ∙ ap option_flatten (slice_get_here names.heaps.plain.heaps index (Some (record { name = text; socket = socket }))
      (slice_get_within names.heaps.plain.heaps index None creates.given.index_is.unnamed))

  still_named : (other : ℕ) → other ≢ index → heap_at created.heaps.plain other ≡ heap_at names.heaps.plain other
  still_named other apart =
      ap (λ (d : DirectoryView). heap_at d.plain other) creates.given.changed
      ∙ ap option_flatten (get_set_other names.heaps.plain.heaps index other (Some (record { name = text; socket = socket })) apart)

  to : IsNamedTo text socket (naming_of heap.plain) (naming_of given.plain)
  to = named_to caller text socket heap given tiled step

  kept_of : (other : ℕ) (naming : Naming) → IsNamedBy names other naming
      → IsPermutation (filter (λ (range : HeapRange). eqb range.index other) created.heaps.plain.ranges) (map (directory_range other) naming.chunks)
  kept_of other naming was =
      subst (λ (l : List HeapRange). IsPermutation (filter (λ (range : HeapRange). eqb range.index other) l) (map (directory_range other) naming.chunks)) (sym unchanged) was.ranges

  zones_of : (other : ℕ) (naming : Naming) → IsNamedBy names other naming → IsPermutation (places other created.zones.zones) (map data_address naming.zones)
  zones_of other naming was =
      subst (λ (z : ZonesView). IsPermutation (places other z.zones) (map data_address naming.zones)) (sym creates.zones) was.zones

  pub create_agrees : (claims : List ExternalRange) → AgreeStill heap given names created claims claims
  create_agrees claims namings is agreed =
      let naming = naming_of given.plain in
      let was : IsNamedBy names index (naming_of heap.plain) = subst (IsNamedBy names index) is (agreed.each index below) in
      agree_one index naming namings created claims
      (record {
        name = now_named ∙ sym (λ i. name_of (to.name i) (to.socket_is i));
        ranges = subst (λ (c : List Chunk). IsPermutation (filter (λ (range : HeapRange). eqb range.index index) created.heaps.plain.ranges) (map (directory_range index) c)) (sym to.chunks)
            (kept_of index (naming_of heap.plain) was);
        zones = subst (λ (z : List Span). IsPermutation (places index created.zones.zones) (map data_address z)) (sym to.zones) (zones_of index (naming_of heap.plain) was);
      })
      (λ other apart low. record {
        name = still_named other apart ∙ (agreed.each other low).name;
        ranges = kept_of other (namings other) (agreed.each other low);
        zones = zones_of other (namings other) (agreed.each other low);
      })
      (subst (λ (z : ZonesView). All (λ (zone : Zone). zone.heap < MAX_HEAPS) z.zones) (sym creates.zones) agreed.zones)
      (subst (All (λ (range : HeapRange). range.index < MAX_HEAPS)) (sym unchanged) agreed.ranges)
      (subst (λ (l : List ExternalRange). IsPermutation l claims) (sym (memory_stays index naming namings (to.chunks ∙ ap (λ (n : Naming). n.chunks) (sym is)))) agreed.claims)

-- MEMORY COMES TO A HEAP WITHOUT MEMORY

-- what the names speak of once the heap has this chunk and no other
record HasOneChunk (chunk : Chunk) (old new : Naming) : Type 0 where
  name : new.name ≡ old.name
  socket : new.socket ≡ old.socket
  had : old.chunks ≡ []
  chunks : new.chunks ≡ chunk ∷ []
  zones : new.zones ≡ old.zones

module _ (caller : Caller) (text : List ℕ) (addr len page : ℕ) (names named : NamesView) (segs claimed : SegsView) (heap given : HeapView)
    (adds : Adds caller text addr len page names named segs claimed heap given) (tiled : IsTiled heap.plain) (below : heap.plain.index < MAX_HEAPS) (none : heap.plain.chunks ≡ []) where
  abbrev chunk : Chunk
  chunk = record { list = adds.list; addr = addr; len = len; page = page; socket = adds.socket; attached = 0 }

  abbrev at : ℕ
  at = heap.plain.index

  abbrev range : HeapRange
  range = record { index = at; addr = addr; len = len; page = page }

  one_chunk : HasOneChunk chunk (naming_of heap.plain) (naming_of given.plain)
  unfolding naming_of after after_chunk
  one_chunk =
      let zones = (leaves_busy caller.participant (call.Chunk chunk) heap.plain tiled adds.came.allowed refl).zones in
      subst (λ (h : PlainHeap). HasOneChunk chunk (naming_of heap.plain) (naming_of h)) (sym adds.came.heap)
      (record {
        name = refl;
        socket = refl;
        had = ap (map unmarked) none;
        chunks = ap (λ (l : List Chunk). map unmarked (with_chunk chunk l)) none;
        zones = zones;
      })

  more_ranges : named.heaps.plain.ranges ≡ names.heaps.plain.ranges ++ range ∷ []
  more_ranges = ap (λ (d : DirectoryView). d.plain.ranges) adds.listed

  same_heaps : (other : ℕ) → heap_at named.heaps.plain other ≡ heap_at names.heaps.plain other
  same_heaps other = ap (λ (d : DirectoryView). heap_at d.plain other) adds.listed

  same_places : (other : ℕ) (naming : Naming) → IsNamedBy names other naming → IsPermutation (places other named.zones.zones) (map data_address naming.zones)
  same_places other naming was =
      subst (λ (z : ZonesView). IsPermutation (places other z.zones) (map data_address naming.zones)) (sym adds.zones) was.zones

  abbrev ranges_at : ℕ → List HeapRange → List HeapRange
  ranges_at other ranges = filter (λ (r : HeapRange). eqb r.index other) ranges

  own_range : ranges_at at named.heaps.plain.ranges ≡ ranges_at at names.heaps.plain.ranges ++ range ∷ []
  own_range =
      ap (ranges_at at) more_ranges ∙ (filter-append (λ (r : HeapRange). eqb r.index at) names.heaps.plain.ranges (range ∷ [])
      ∙ ap (λ (l : List HeapRange). ranges_at at names.heaps.plain.ranges ++ l)
      (cond-true (eqb at at) (range ∷ []) [] (eq-eqb at at refl)))

  other_ranges : (other : ℕ) → other ≢ at → ranges_at other named.heaps.plain.ranges ≡ ranges_at other names.heaps.plain.ranges
  other_ranges other apart =
      ap (ranges_at other) more_ranges ∙ (filter-append (λ (r : HeapRange). eqb r.index other) names.heaps.plain.ranges (range ∷ [])
      ∙ (ap (λ (l : List HeapRange). ranges_at other names.heaps.plain.ranges ++ l)
      (cond-false (eqb at other) (range ∷ []) [] (ne_eqb at other (λ same. apart (sym same))))
      ∙ append-nil (ranges_at other names.heaps.plain.ranges)))

  more_claims : claimed.ranges ≡ segs.ranges ++ chunk_memory chunk ∷ []
  more_claims = ap (λ (s : SegsView). s.ranges) adds.claimed

  pub add_agrees : AgreeStill heap given names named segs.ranges claimed.ranges
  add_agrees namings is agreed =
      let naming = naming_of given.plain in
      let one = one_chunk in
      let was : IsNamedBy names at (naming_of heap.plain) = subst (IsNamedBy names at) is (agreed.each at below) in
      let was_ranges : IsPermutation (ranges_at at names.heaps.plain.ranges) [] =
      subst (λ (c : List Chunk). IsPermutation (ranges_at at names.heaps.plain.ranges) (map (directory_range at) c)) one.had was.ranges in
      let f : ℕ → List ExternalRange = λ (k : ℕ). map chunk_memory (namings k).chunks in
      let g : ℕ → List ExternalRange = λ (k : ℕ). map chunk_memory (with_naming at naming namings k).chunks in
      let g_at : g at ≡ chunk_memory chunk ∷ f at =
      ap (λ (n : Naming). map chunk_memory n.chunks) (naming_here at naming namings) ∙ (ap (map chunk_memory) one.chunks
      ∙ ap (λ (c : List Chunk). chunk_memory chunk ∷ map chunk_memory c) (sym (ap (λ (n : Naming). n.chunks) is ∙ one.had))) in
      let all = flat_map f (range_with_len 0 MAX_HEAPS) in
      let memory : IsPermutation (flat_map g (range_with_len 0 MAX_HEAPS)) (segs.ranges ++ chunk_memory chunk ∷ []) =
      IsPermutation-trans (flat_map g (range_with_len 0 MAX_HEAPS)) (chunk_memory chunk ∷ all) (segs.ranges ++ chunk_memory chunk ∷ [])
      (memory_more f g at (chunk_memory chunk) g_at (λ k apart. ap (λ (n : Naming). map chunk_memory n.chunks) (naming_else at naming namings k apart)) 0 MAX_HEAPS (omega arith) (omega (arith, below)))
      (IsPermutation-trans (chunk_memory chunk ∷ all) (chunk_memory chunk ∷ segs.ranges) (segs.ranges ++ chunk_memory chunk ∷ [])
      (IsPermutation-cons (chunk_memory chunk) all segs.ranges agreed.claims)
      (IsPermutation-sym (segs.ranges ++ chunk_memory chunk ∷ []) (chunk_memory chunk ∷ segs.ranges) (IsPermutation-to_front segs.ranges (chunk_memory chunk)))) in
      agree_one at naming namings named claimed.ranges
      (record {
        name = same_heaps at ∙ (was.name ∙ sym (λ i. name_of (one.name i) (one.socket i)));
        ranges = subst (λ (l : List HeapRange). IsPermutation l (map (directory_range at) naming.chunks)) (sym own_range)
            (subst (λ (c : List Chunk). IsPermutation (ranges_at at names.heaps.plain.ranges ++ range ∷ []) (map (directory_range at) c)) (sym one.chunks)
            (IsPermutation-append_left (range ∷ []) (ranges_at at names.heaps.plain.ranges) [] was_ranges));
        zones = subst (λ (z : List Span). IsPermutation (places at named.zones.zones) (map data_address z)) (sym one.zones) (same_places at (naming_of heap.plain) was);
      })
      (λ other apart low. record {
        name = same_heaps other ∙ (agreed.each other low).name;
        ranges = subst (λ (l : List HeapRange). IsPermutation l (map (directory_range other) (namings other).chunks)) (sym (other_ranges other apart)) (agreed.each other low).ranges;
        zones = same_places other (namings other) (agreed.each other low);
      })
      (subst (λ (z : ZonesView). All (λ (zone : Zone). zone.heap < MAX_HEAPS) z.zones) (sym adds.zones) agreed.zones)
      (subst (All (λ (r : HeapRange). r.index < MAX_HEAPS)) (sym more_ranges)
      (All-push (λ (r : HeapRange). r.index < MAX_HEAPS) names.heaps.plain.ranges range agreed.ranges below))
      (subst (IsPermutation (flat_map g (range_with_len 0 MAX_HEAPS))) (sym more_claims) memory)

-- ONE AFTER THE OTHER

-- room for calls was made first
pub still_room : (heap room given : HeapView) (names named : NamesView) (claims claimed : List ExternalRange) → SameButSpare heap room
    → AgreeStill room given names named claims claimed → AgreeStill heap given names named claims claimed
still_room heap room given names named claims claimed same still =
    subst (λ (h : PlainHeap). (namings : ℕ → Naming) → namings h.index ≡ naming_of h → AreAgreedNames names namings claims
    → AreAgreedNames named (with_naming h.index (naming_of given.plain) namings) claimed) same.plain still

pub still_then : (heap mid given : HeapView) (names between named : NamesView) (claims also claimed : List ExternalRange) → mid.plain.index ≡ heap.plain.index
    → AgreeStill heap mid names between claims also → AgreeStill mid given between named also claimed → AgreeStill heap given names named claims claimed
still_then heap mid given names between named claims also claimed same first next namings is agreed =
    let at = heap.plain.index in
    let last = naming_of given.plain in
    let now : ℕ → Naming = with_naming at (naming_of mid.plain) namings in
    let left : AreAgreedNames named (with_naming mid.plain.index last now) claimed =
    next now (ap now same ∙ naming_here at (naming_of mid.plain) namings) (first namings is agreed) in
    agree_alike named (with_naming at last now) (with_naming at last namings) claimed
    (λ index below.
    dite (ℕ_discrete index at)
    (λ here. ap (with_naming at last namings) here ∙ (naming_here at last namings ∙ sym (ap (with_naming at last now) here ∙ naming_here at last now)))
    (λ apart. naming_else at last namings index apart ∙ sym (naming_else at last now index apart ∙ naming_else at (naming_of mid.plain) namings index apart)))
    (subst (λ (k : ℕ). AreAgreedNames named (with_naming k last now) claimed) same left)
