-- Names that agree with heaps agree with them still where one heap gets a name or loses it, and where memory comes to it or goes.
use Rattle.std.proofs.Common.{◌++◌, ◌+◌, ◌<◌, ◌∙◌, ◌∷◌, ◌≡◌, ◌≢◌, ◌≤◌, Bool, Contains, List, Option, [], ap, ap₂, arith, cond, count_by, eq-eqb, eqb, filter, flat_map, get_or, length, map, ne_eqb, not, refl, subst, sym, true, ℕ}
use Rattle.std.proofs.lemmas.Bool.{and_from, and_parts, cond-false, cond-true, eqb-true}
use Rattle.std.proofs.lemmas.List.Elements.{All-push, All-tail, filter-append}
use Rattle.std.proofs.lemmas.List.Sorted.{All-permutation, Contains-permutation, IsPermutation-cons, IsPermutation-map, IsPermutation-remove, IsPermutation-sym, IsPermutation-to_front, IsPermutation-trans, sum_by-IsPermutation}
use Rattle.std.proofs.lemmas.List.{append-nil, get_or_default}
use Rattle.std.specs.List.Sorted.{IsPermutation}
use Rattle.std.specs.List.{All, position_or_len, range_with_len}
use Rattle.std.specs.Option.{option_map}
use mathlib.Core.Logic.{dite}
use native.Mathlib.Decide.{ℕ_discrete}
use Rattle.hp_base.specs.declared.chunk.Chunk.{Chunk}
use Rattle.hp_base.specs.declared.limits.TheConstants.{MAX_HEAPS}
use Rattle.hp_base.specs.declared.span.Span.{Span}
use Rattle.hp_events.proofs.ListFacts.{map_filter}
use Rattle.hp_external.proofs.ListLemmas.{first_passes, first_within}
use Rattle.hp_hall.specs.AgreedNames.{AreAgreedNames, IsNamedBy, chunk_memory, directory_name, directory_range}
use Rattle.hp_hall.specs.Naming.{Naming}
use Rattle.hp_heap.proofs.AllocFacts.ChoiceLaw.{Contains-filter}
use Rattle.hp_heap.proofs.HistoryFacts.Counting.{count_by-cons}
use Rattle.hp_heap.proofs.Members.{AllByRecursion-each, Contains-image, Contains-imaged, count_alike, count_map, filter_alike, filter_whole}
use Rattle.hp_heap.specs.PlainHeap.{data_address}
use Rattle.hp_proc.proofs.Permuted.{filter_permuted, left_out, none_passes, pieces_filtered, pieces_more}
use Rattle.hp_proc.proofs.ReleasedMemory.{one_heap}
use Rattle.hp_segs.specs.declared.external_range.ExternalRange.{ExternalRange}
use Rattle.hp_zone.specs.Directory.{heap_at, is_range, without_range}
use Rattle.hp_zone.specs.Zones.{ZonesView}
use Rattle.hp_zone.specs.declared.heap_name.HeapName.{HeapName}
use Rattle.hp_zone.specs.declared.heap_name.HeapRange.{HeapRange}
use Rattle.hp_zone.specs.declared.names.Names.{Names as NamesView}
use Rattle.hp_zone.specs.declared.zone.Zone.{Zone}

-- another naming at one index
abbrev pub renamed : ℕ → Naming → (ℕ → Naming) → ℕ → Naming
renamed at naming namings index = cond (eqb index at) naming (namings index)

-- where the zones of an index lie, and the ranges of an index
abbrev pub places : ℕ → List Zone → List ℕ
places index zones = map (λ (zone : Zone). zone.addr) (filter (λ (zone : Zone). eqb zone.heap index) zones)

abbrev pub ranges_at : ℕ → List HeapRange → List HeapRange
ranges_at index ranges = filter (λ (range : HeapRange). eqb range.index index) ranges

abbrev pub name_of : Option (List ℕ) → ℕ → Option HeapName
name_of name socket = option_map (λ (text : List ℕ). record { name = text; socket = socket }) name

module _ (at : ℕ) (naming : Naming) (namings : ℕ → Naming) where
  pub renamed_here : renamed at naming namings at ≡ naming
  renamed_here = cond-true (eqb at at) naming (namings at) (eq-eqb at at refl)

  pub renamed_else : (index : ℕ) → index ≢ at → renamed at naming namings index ≡ namings index
  renamed_else index apart = cond-false (eqb index at) naming (namings index) (ne_eqb index at apart)

  -- names agree with this where they agree with it at that index, and with what there was at all others
  pub agree_one : (names : NamesView) (claims : List ExternalRange) → IsNamedBy names at naming
      → ((index : ℕ) → index ≢ at → index < MAX_HEAPS → IsNamedBy names index (namings index))
      → All (λ (zone : Zone). zone.heap < MAX_HEAPS) names.zones.zones
      → All (λ (range : HeapRange). range.index < MAX_HEAPS) names.heaps.plain.ranges
      → IsPermutation (flat_map (λ (index : ℕ). map chunk_memory (renamed at naming namings index).chunks) (range_with_len 0 MAX_HEAPS)) claims
      → AreAgreedNames names (renamed at naming namings) claims
  agree_one names claims one others zones ranges memory = record {
    each = λ index below.
        dite (ℕ_discrete index at)
        (λ same.
        subst (IsNamedBy names index) (sym (ap (renamed at naming namings) same ∙ renamed_here))
        (subst (λ (k : ℕ). IsNamedBy names k naming) (sym same) one))
        (λ apart. subst (IsNamedBy names index) (sym (renamed_else index apart)) (others index apart below));
    zones = zones;
    ranges = ranges;
    claims = memory;
  }

  memory_at : (index : ℕ) → naming.chunks ≡ (namings at).chunks
      → map chunk_memory (renamed at naming namings index).chunks ≡ map chunk_memory (namings index).chunks
  memory_at index same =
      dite (ℕ_discrete index at)
      (λ here.
      ap (λ (k : ℕ). map chunk_memory (renamed at naming namings k).chunks) here ∙ ap (λ (n : Naming). map chunk_memory n.chunks) renamed_here
      ∙ ap (map chunk_memory) same ∙ ap (λ (k : ℕ). map chunk_memory (namings k).chunks) (sym here))
      (λ apart. ap (λ (n : Naming). map chunk_memory n.chunks) (renamed_else index apart))

  -- the memory of the heaps is as it was where the chunks are
  pub memory_stays : naming.chunks ≡ (namings at).chunks
      → flat_map (λ (index : ℕ). map chunk_memory (renamed at naming namings index).chunks) (range_with_len 0 MAX_HEAPS)
      ≡ flat_map (λ (index : ℕ). map chunk_memory (namings index).chunks) (range_with_len 0 MAX_HEAPS)
  memory_stays same = λ i. flat_map (λ (index : ℕ). memory_at index same i) (range_with_len 0 MAX_HEAPS)

-- THE DIRECTORY HAS ANOTHER NAME FOR IT, OR NONE

-- the names are others at one index, and the heap there is to them as it was but for that
pub record HasOtherName (at : ℕ) (names given : NamesView) (old new : Naming) : Type 0 where
  pub here : heap_at given.heaps.plain at ≡ directory_name new
  pub else_same : (index : ℕ) → index ≢ at → heap_at given.heaps.plain index ≡ heap_at names.heaps.plain index
  pub ranges : given.heaps.plain.ranges ≡ names.heaps.plain.ranges
  pub zones : given.zones ≡ names.zones
  pub chunks : new.chunks ≡ old.chunks
  pub its_zones : new.zones ≡ old.zones

module _ (at : ℕ) (names given : NamesView) (namings : ℕ → Naming) (claims : List ExternalRange) (agreed : AreAgreedNames names namings claims)
    (below : at < MAX_HEAPS) (naming : Naming) (other : HasOtherName at names given (namings at) naming) where
  kept_of : (index : ℕ) (one : Naming) → IsNamedBy names index one
      → IsPermutation (ranges_at index given.heaps.plain.ranges) (map (directory_range index) one.chunks)
  kept_of index one was =
      subst (λ (l : List HeapRange). IsPermutation (ranges_at index l) (map (directory_range index) one.chunks)) (sym other.ranges) was.ranges

  zones_of : (index : ℕ) (one : Naming) → IsNamedBy names index one → IsPermutation (places index given.zones.zones) (map data_address one.zones)
  zones_of index one was =
      subst (λ (z : ZonesView). IsPermutation (places index z.zones) (map data_address one.zones)) (sym other.zones) was.zones

  pub other_agrees : AreAgreedNames given (renamed at naming namings) claims
  other_agrees =
      let was = agreed.each at below in
      agree_one at naming namings given claims
      (record {
        name = other.here;
        ranges = subst (λ (c : List Chunk). IsPermutation (ranges_at at given.heaps.plain.ranges) (map (directory_range at) c)) (sym other.chunks)
            (kept_of at (namings at) was);
        zones = subst (λ (z : List Span). IsPermutation (places at given.zones.zones) (map data_address z)) (sym other.its_zones)
            (zones_of at (namings at) was);
      })
      (λ index apart low. record {
        name = other.else_same index apart ∙ (agreed.each index low).name;
        ranges = kept_of index (namings index) (agreed.each index low);
        zones = zones_of index (namings index) (agreed.each index low);
      })
      (subst (λ (z : ZonesView). All (λ (zone : Zone). zone.heap < MAX_HEAPS) z.zones) (sym other.zones) agreed.zones)
      (subst (All (λ (range : HeapRange). range.index < MAX_HEAPS)) (sym other.ranges) agreed.ranges)
      (subst (λ (l : List ExternalRange). IsPermutation l claims) (sym (memory_stays at naming namings other.chunks)) agreed.claims)

-- MEMORY COMES TO IT, OR GOES

-- the directory has other ranges, and the heap is to the names as it was but for its chunks
pub record HasOtherMemory (names given : NamesView) (old new : Naming) : Type 0 where
  pub heaps : (index : ℕ) → heap_at given.heaps.plain index ≡ heap_at names.heaps.plain index
  pub zones : given.zones ≡ names.zones
  pub name : new.name ≡ old.name
  pub socket : new.socket ≡ old.socket
  pub its_zones : new.zones ≡ old.zones

module _ (at : ℕ) (names given : NamesView) (namings : ℕ → Naming) (claims : List ExternalRange) (agreed : AreAgreedNames names namings claims)
    (below : at < MAX_HEAPS) (naming : Naming) (other : HasOtherMemory names given (namings at) naming) (chunk : Chunk) where
  abbrev range : HeapRange
  range = directory_range at chunk

  same_places : (index : ℕ) (one : Naming) → IsNamedBy names index one → IsPermutation (places index given.zones.zones) (map data_address one.zones)
  same_places index one was =
      subst (λ (z : ZonesView). IsPermutation (places index z.zones) (map data_address one.zones)) (sym other.zones) was.zones

  abbrev memory_before : ℕ → List ExternalRange
  memory_before index = map chunk_memory (namings index).chunks

  abbrev memory_after : ℕ → List ExternalRange
  memory_after index = map chunk_memory (renamed at naming namings index).chunks

  memory_here : memory_after at ≡ map chunk_memory naming.chunks
  memory_here = ap (λ (n : Naming). map chunk_memory n.chunks) (renamed_here at naming namings)

  memory_else : (index : ℕ) → index ≢ at → memory_after index ≡ memory_before index
  memory_else index apart = ap (λ (n : Naming). map chunk_memory n.chunks) (renamed_else at naming namings index apart)

  agrees_by : (claims_then : List ExternalRange) → IsPermutation (ranges_at at given.heaps.plain.ranges) (map (directory_range at) naming.chunks)
      → ((index : ℕ) → index ≢ at → ranges_at index given.heaps.plain.ranges ≡ ranges_at index names.heaps.plain.ranges)
      → All (λ (r : HeapRange). r.index < MAX_HEAPS) given.heaps.plain.ranges
      → IsPermutation (flat_map memory_after (range_with_len 0 MAX_HEAPS)) claims_then
      → AreAgreedNames given (renamed at naming namings) claims_then
  agrees_by claims_then here apart few memory =
      let was = agreed.each at below in
      agree_one at naming namings given claims_then
      (record {
        name = other.heaps at ∙ (was.name ∙ sym (ap₂ name_of other.name other.socket));
        ranges = here;
        zones = subst (λ (z : List Span). IsPermutation (places at given.zones.zones) (map data_address z)) (sym other.its_zones)
            (same_places at (namings at) was);
      })
      (λ index away low. record {
        name = other.heaps index ∙ (agreed.each index low).name;
        ranges = subst (λ (l : List HeapRange). IsPermutation l (map (directory_range index) (namings index).chunks)) (sym (apart index away))
            (agreed.each index low).ranges;
        zones = same_places index (namings index) (agreed.each index low);
      })
      (subst (λ (z : ZonesView). All (λ (zone : Zone). zone.heap < MAX_HEAPS) z.zones) (sym other.zones) agreed.zones) few memory

  -- IT COMES

  module _ (came : given.heaps.plain.ranges ≡ names.heaps.plain.ranges ++ range ∷ []) (more : IsPermutation naming.chunks (chunk ∷ (namings at).chunks)) where
    own_range : ranges_at at given.heaps.plain.ranges ≡ ranges_at at names.heaps.plain.ranges ++ range ∷ []
    own_range =
        ap (ranges_at at) came ∙ (filter-append (λ (r : HeapRange). eqb r.index at) names.heaps.plain.ranges (range ∷ [])
        ∙ ap (λ (l : List HeapRange). ranges_at at names.heaps.plain.ranges ++ l) (cond-true (eqb at at) (range ∷ []) [] (eq-eqb at at refl)))

    other_ranges : (index : ℕ) → index ≢ at → ranges_at index given.heaps.plain.ranges ≡ ranges_at index names.heaps.plain.ranges
    other_ranges index apart =
        ap (ranges_at index) came ∙ (filter-append (λ (r : HeapRange). eqb r.index index) names.heaps.plain.ranges (range ∷ [])
        ∙ (ap (λ (l : List HeapRange). ranges_at index names.heaps.plain.ranges ++ l)
        (cond-false (eqb at index) (range ∷ []) [] (ne_eqb at index (λ same. apart (sym same))))
        ∙ append-nil (ranges_at index names.heaps.plain.ranges)))

    its_ranges : IsPermutation (ranges_at at names.heaps.plain.ranges ++ range ∷ []) (map (directory_range at) naming.chunks)
    its_ranges =
        IsPermutation-trans (ranges_at at names.heaps.plain.ranges ++ range ∷ []) (range ∷ ranges_at at names.heaps.plain.ranges)
        (map (directory_range at) naming.chunks) (IsPermutation-to_front (ranges_at at names.heaps.plain.ranges) range)
        (IsPermutation-trans (range ∷ ranges_at at names.heaps.plain.ranges) (range ∷ map (directory_range at) (namings at).chunks)
        (map (directory_range at) naming.chunks)
        (IsPermutation-cons range (ranges_at at names.heaps.plain.ranges) (map (directory_range at) (namings at).chunks) (agreed.each at below).ranges)
        (IsPermutation-sym (map (directory_range at) naming.chunks) (range ∷ map (directory_range at) (namings at).chunks)
        (IsPermutation-map (directory_range at) naming.chunks (chunk ∷ (namings at).chunks) more)))

    all_memory : IsPermutation (flat_map memory_after (range_with_len 0 MAX_HEAPS)) (claims ++ chunk_memory chunk ∷ [])
    all_memory =
        let all = flat_map memory_before (range_with_len 0 MAX_HEAPS) in
        IsPermutation-trans (flat_map memory_after (range_with_len 0 MAX_HEAPS)) (chunk_memory chunk ∷ all) (claims ++ chunk_memory chunk ∷ [])
        (pieces_more memory_before memory_after at (chunk_memory chunk)
        (subst (λ (l : List ExternalRange). IsPermutation l (chunk_memory chunk ∷ memory_before at)) (sym memory_here)
        (IsPermutation-map chunk_memory naming.chunks (chunk ∷ (namings at).chunks) more))
        memory_else 0 MAX_HEAPS (omega arith) (omega (arith, below)))
        (IsPermutation-trans (chunk_memory chunk ∷ all) (chunk_memory chunk ∷ claims) (claims ++ chunk_memory chunk ∷ [])
        (IsPermutation-cons (chunk_memory chunk) all claims agreed.claims)
        (IsPermutation-sym (claims ++ chunk_memory chunk ∷ []) (chunk_memory chunk ∷ claims) (IsPermutation-to_front claims (chunk_memory chunk))))

    pub came_agrees : AreAgreedNames given (renamed at naming namings) (claims ++ chunk_memory chunk ∷ [])
    came_agrees =
        agrees_by (claims ++ chunk_memory chunk ∷ [])
        (subst (λ (l : List HeapRange). IsPermutation l (map (directory_range at) naming.chunks)) (sym own_range) its_ranges) other_ranges
        (subst (All (λ (r : HeapRange). r.index < MAX_HEAPS)) (sym came)
        (All-push (λ (r : HeapRange). r.index < MAX_HEAPS) names.heaps.plain.ranges range agreed.ranges below))
        all_memory

  -- IT GOES

  module _ (went : given.heaps.plain.ranges ≡ without_range at chunk.addr names.heaps.plain.ranges) (its : Contains (namings at).chunks chunk)
      (fewer : naming.chunks ≡ filter (λ (c : Chunk). not (eqb c.list chunk.list)) (namings at).chunks)
      (own : count_by (λ (c : Chunk). eqb c.list chunk.list) (namings at).chunks ≤ 1)
      (by_address : (c : Chunk) → Contains (namings at).chunks c → eqb c.addr chunk.addr ≡ eqb c.list chunk.list)
      (distinct : (list : ℕ) → count_by (λ (r : ExternalRange). eqb r.list list) claims ≤ 1) where
    abbrev old_ranges : List HeapRange
    old_ranges = names.heaps.plain.ranges

    abbrev its_address : HeapRange → Bool
    its_address r = eqb r.addr chunk.addr

    was_ranges : IsPermutation (ranges_at at old_ranges) (map (directory_range at) (namings at).chunks)
    was_ranges = (agreed.each at below).ranges

    -- its range is there
    its_range : Contains (ranges_at at old_ranges) range
    its_range =
        Contains-permutation (map (directory_range at) (namings at).chunks) (ranges_at at old_ranges) range
        (IsPermutation-sym (ranges_at at old_ranges) (map (directory_range at) (namings at).chunks) was_ranges)
        (Contains-image (directory_range at) (namings at).chunks chunk its)

    among : Contains old_ranges range
    among = (Contains-filter (λ (r : HeapRange). eqb r.index at) old_ranges range its_range).1

    abbrev place : ℕ
    place = position_or_len (is_range at chunk.addr) old_ranges

    within : place < length old_ranges
    within =
        first_within (is_range at chunk.addr) old_ranges range among
        (and_from (eqb at at) (eqb chunk.addr chunk.addr) (eq-eqb at at refl) (eq-eqb chunk.addr chunk.addr refl))

    abbrev gone : HeapRange
    gone = get_or old_ranges place range

    its_parts : (eqb gone.index at ≡ true) × (its_address gone ≡ true)
    its_parts = and_parts (eqb gone.index at) (its_address gone) (first_passes (is_range at chunk.addr) old_ranges range within)

    moved : IsPermutation old_ranges (gone ∷ without_range at chunk.addr old_ranges)
    moved = IsPermutation-remove old_ranges place gone within (get_or_default old_ranges place range gone within)

    abbrev left : List HeapRange
    left = without_range at chunk.addr old_ranges

    -- filtered by index, the range goes too
    here_moved : IsPermutation (ranges_at at old_ranges) (gone ∷ ranges_at at left)
    here_moved =
        subst (IsPermutation (ranges_at at old_ranges)) (cond-true (eqb gone.index at) (gone ∷ ranges_at at left) (ranges_at at left) its_parts.0)
        (filter_permuted (λ (r : HeapRange). eqb r.index at) old_ranges (gone ∷ left) moved)

    else_moved : (index : ℕ) → index ≢ at → ranges_at index left ≡ ranges_at index old_ranges
    else_moved index apart =
        left_out (λ (r : HeapRange). eqb r.index index) old_ranges place range within
        (ne_eqb gone.index index (λ same. apart (sym same ∙ eqb-true gone.index at its_parts.0)))

    counted : count_by its_address (ranges_at at left) ≡ 0
    counted =
        let all : count_by its_address (map (directory_range at) (namings at).chunks) ≡ count_by its_address (ranges_at at old_ranges) =
        sum_by-IsPermutation (λ (r : HeapRange). cond (its_address r) 1 0) (ranges_at at old_ranges) (map (directory_range at) (namings at).chunks)
        was_ranges in
        let split : count_by its_address (gone ∷ ranges_at at left) ≡ count_by its_address (ranges_at at old_ranges) =
        sum_by-IsPermutation (λ (r : HeapRange). cond (its_address r) 1 0) (ranges_at at old_ranges) (gone ∷ ranges_at at left) here_moved in
        let first : count_by its_address (gone ∷ ranges_at at left) ≡ cond {A = ℕ} (its_address gone) 1 0 + count_by its_address (ranges_at at left) =
        count_by-cons its_address gone (ranges_at at left) in
        let one : cond {A = ℕ} (its_address gone) 1 0 ≡ 1 = ap (λ (b : Bool). cond {A = ℕ} b 1 0) its_parts.1 in
        let mapped = count_map (directory_range at) its_address (namings at).chunks in
        let alike =
        count_alike (λ (c : Chunk). eqb c.addr chunk.addr) (λ (c : Chunk). eqb c.list chunk.list) (namings at).chunks
        (AllByRecursion-each (λ (c : Chunk). eqb c.addr chunk.addr ≡ eqb c.list chunk.list) (namings at).chunks by_address) in
        omega (arith, own, all, split, first, one, mapped, alike)

    abbrev keep : HeapRange → Bool
    keep r = not (its_address r)

    its_left : IsPermutation (ranges_at at left) (map (directory_range at) naming.chunks)
    its_left =
        let dropped : filter keep (gone ∷ ranges_at at left) ≡ ranges_at at left =
        cond-false (keep gone) (gone ∷ filter keep (ranges_at at left)) (filter keep (ranges_at at left)) (ap not its_parts.1)
        ∙ none_passes its_address (ranges_at at left) counted in
        let kept : filter keep (map (directory_range at) (namings at).chunks) ≡ map (directory_range at) naming.chunks =
        sym (map_filter (directory_range at) keep (namings at).chunks)
        ∙ (ap (map (directory_range at))
        (filter_alike (λ (c : Chunk). not (eqb c.addr chunk.addr)) (λ (c : Chunk). not (eqb c.list chunk.list)) (namings at).chunks
        (AllByRecursion-each (λ (c : Chunk). not (eqb c.addr chunk.addr) ≡ not (eqb c.list chunk.list)) (namings at).chunks
        (λ c has. ap not (by_address c has))))
        ∙ ap (map (directory_range at)) (sym fewer)) in
        IsPermutation-trans (ranges_at at left) (filter keep (ranges_at at old_ranges)) (map (directory_range at) naming.chunks)
        (IsPermutation-sym (filter keep (ranges_at at old_ranges)) (ranges_at at left)
        (subst (IsPermutation (filter keep (ranges_at at old_ranges))) dropped
        (filter_permuted keep (ranges_at at old_ranges) (gone ∷ ranges_at at left) here_moved)))
        (subst (IsPermutation (filter keep (ranges_at at old_ranges))) kept
        (filter_permuted keep (ranges_at at old_ranges) (map (directory_range at) (namings at).chunks) was_ranges))

    -- of other heaps no chunk has its list
    abbrev others : ExternalRange → Bool
    others r = not (eqb r.list chunk.list)

    memory_left : (index : ℕ) → index < MAX_HEAPS → memory_after index ≡ filter others (memory_before index)
    memory_left index low =
        dite (ℕ_discrete index at)
        (λ here.
        ap memory_after here
        ∙ (memory_here
        ∙ (ap (map chunk_memory) fewer
        ∙ (map_filter chunk_memory others (namings at).chunks ∙ ap (λ (k : ℕ). filter others (memory_before k)) (sym here)))))
        (λ apart.
        memory_else index apart
        ∙ sym (filter_whole others (memory_before index)
        (AllByRecursion-each (λ (r : ExternalRange). others r ≡ true) (memory_before index)
        (λ r has.
        (let from = Contains-imaged chunk_memory (namings index).chunks r has in
        ap not (ne_eqb r.list chunk.list
        (λ same.
        apart
        (one_heap names namings claims agreed distinct index at from.0 chunk low below from.1 its
        (ap (λ (m : ExternalRange). m.list) from.2 ∙ same)))))))))

    pub went_agrees : AreAgreedNames given (renamed at naming namings) (filter others claims)
    went_agrees =
        agrees_by (filter others claims)
        (subst (λ (l : List HeapRange). IsPermutation (ranges_at at l) (map (directory_range at) naming.chunks)) (sym went) its_left)
        (λ index apart. ap (ranges_at index) went ∙ else_moved index apart)
        (subst (All (λ (r : HeapRange). r.index < MAX_HEAPS)) (sym went)
        (All-tail (λ (r : HeapRange). r.index < MAX_HEAPS) gone left
        (All-permutation (λ (r : HeapRange). r.index < MAX_HEAPS) old_ranges (gone ∷ left) moved agreed.ranges)))
        (subst (λ (l : List ExternalRange). IsPermutation l (filter others claims))
        (sym (pieces_filtered memory_before memory_after others 0 MAX_HEAPS (λ index low high. memory_left index (omega (arith, high)))))
        (filter_permuted others (flat_map memory_before (range_with_len 0 MAX_HEAPS)) claims agreed.claims))
