-- Names that agree with heaps agree with them still where a memzone comes or goes.
use Rattle.std.proofs.Common.{◌≡◌, ◌≢◌, ◌∙◌, ℕ, ◌<◌, cond, eqb, eq-eqb, ne_eqb, List, [], ◌∷◌, ◌++◌, map, flat_map, Option, Some, None, refl, sym, ap, ap₂, subst, if◌then◌else◌, ◌==◌}
use Rattle.std.specs.List.{All, filter, range_with_len}
use Rattle.std.specs.List.Sorted.{IsPermutation}
use Rattle.std.specs.Option.{option_map}
use Rattle.std.proofs.lemmas.Bool.{cond-false, cond-true}
use Rattle.std.proofs.lemmas.List.{append-nil, map-append}
use Rattle.std.proofs.lemmas.List.Elements.{All-push, All-tail, filter-append}
use Rattle.std.proofs.lemmas.List.Sorted.{All-permutation, IsPermutation-cons, IsPermutation-middle, IsPermutation-sym, IsPermutation-to_front, IsPermutation-trans}
use mathlib.Core.Logic.{dite}
use native.Mathlib.Decide.{ℕ_discrete}
use Rattle.hp_base.specs.declared.chunk.Chunk.{Chunk}
use Rattle.hp_base.specs.declared.limits.TheConstants.{MAX_HEAPS}
use Rattle.hp_heap.specs.PlainHeap.{data_address}
use Rattle.hp_segs.specs.declared.external_range.ExternalRange.{ExternalRange}
use Rattle.hp_zone.specs.Directory.{DirectoryView, heap_at}
use Rattle.hp_zone.specs.declared.heap_name.HeapName.{HeapName}
use Rattle.hp_zone.specs.declared.heap_name.HeapRange.{HeapRange}
use Rattle.hp_zone.specs.declared.names.Names.{Names as NamesView}
use Rattle.hp_zone.specs.declared.zone.Zone.{Zone}
use Rattle.hp_hall.specs.AgreedNames.{AreAgreedNames, IsNamedBy, chunk_memory, directory_range}
use Rattle.hp_hall.specs.Naming.{Naming}
use Rattle.hp_proc.proofs.ZoneElements.{without_one}

-- what the names speak of, of each heap, with another of these for the heap of one index
abbrev pub naming_with : ℕ → Naming → (ℕ → Naming) → ℕ → Naming
naming_with at naming namings index = if index == at then naming else namings index

-- to the names a heap has one more element of a memzone, with its data at that address; all else that they speak of is as it was
pub record HasOneMore (addr : ℕ) (fewer more : Naming) : Type 0 where
  pub name : more.name ≡ fewer.name
  pub socket : more.socket ≡ fewer.socket
  pub chunks : more.chunks ≡ fewer.chunks
  pub zones : IsPermutation (map data_address more.zones) (addr ∷ map data_address fewer.zones)

-- a memzone of that heap at that address was put, or went, and nothing else of the names has changed
pub record HasPut (at addr : ℕ) (taken given : NamesView) : Type 0 where
  pub zone : Zone
  pub at_is : zone.addr ≡ addr
  pub heap : zone.heap ≡ at
  pub zones : given.zones.zones ≡ taken.zones.zones ++ zone ∷ []
  pub heaps : given.heaps ≡ taken.heaps

pub record HasGone (at addr : ℕ) (taken given : NamesView) : Type 0 where
  pub zone : Zone
  pub at_is : zone.addr ≡ addr
  pub heap : zone.heap ≡ at
  pub front : List Zone
  pub back : List Zone
  pub were : taken.zones.zones ≡ front ++ zone ∷ back
  pub are : given.zones.zones ≡ front ++ back
  pub heaps : given.heaps ≡ taken.heaps

-- ANOTHER NAMING AT ONE INDEX

module _ (at : ℕ) (naming : Naming) (namings : ℕ → Naming) where
  pub naming_here : naming_with at naming namings at ≡ naming
  naming_here = cond-true (eqb at at) naming (namings at) (eq-eqb at at refl)

  pub naming_else : (index : ℕ) → index ≢ at → naming_with at naming namings index ≡ namings index
  naming_else index apart = cond-false (eqb index at) naming (namings index) (ne_eqb index at apart)

  -- names agree with this where they agree with it at that index, and with what there was at all others
  pub agree_one : (names : NamesView) (claims : List ExternalRange) → IsNamedBy names at naming
      → ((index : ℕ) → index ≢ at → index < MAX_HEAPS → IsNamedBy names index (namings index)) → All (λ (zone : Zone). zone.heap < MAX_HEAPS) names.zones.zones
      → All (λ (range : HeapRange). range.index < MAX_HEAPS) names.heaps.plain.ranges
      → IsPermutation (flat_map (λ (index : ℕ). map chunk_memory (naming_with at naming namings index).chunks) (range_with_len 0 MAX_HEAPS)) claims
      → AreAgreedNames names (naming_with at naming namings) claims
  agree_one names claims one others zones ranges memory = record {
    each = λ index below.
        dite (ℕ_discrete index at)
        (λ same. subst (IsNamedBy names index) (sym (ap (naming_with at naming namings) same ∙ naming_here)) (subst (λ (k : ℕ). IsNamedBy names k naming) (sym same) one))
        (λ apart. subst (IsNamedBy names index) (sym (naming_else index apart)) (others index apart below));
    zones = zones;
    ranges = ranges;
    claims = memory;
  }

  memory_at : (index : ℕ) → naming.chunks ≡ (namings at).chunks → map chunk_memory (naming_with at naming namings index).chunks ≡ map chunk_memory (namings index).chunks
  memory_at index same =
      dite (ℕ_discrete index at)
      (λ here.
      ap (λ (k : ℕ). map chunk_memory (naming_with at naming namings k).chunks) here ∙ ap (λ (n : Naming). map chunk_memory n.chunks) naming_here
      ∙ ap (map chunk_memory) same ∙ ap (λ (k : ℕ). map chunk_memory (namings k).chunks) (sym here))
      (λ apart. ap (λ (n : Naming). map chunk_memory n.chunks) (naming_else index apart))

  -- the memory of the heaps is as it was where the chunks are
  pub memory_stays : naming.chunks ≡ (namings at).chunks → flat_map (λ (index : ℕ). map chunk_memory (naming_with at naming namings index).chunks) (range_with_len 0 MAX_HEAPS)
      ≡ flat_map (λ (index : ℕ). map chunk_memory (namings index).chunks) (range_with_len 0 MAX_HEAPS)
  memory_stays same = λ i. flat_map (λ (index : ℕ). memory_at index same i) (range_with_len 0 MAX_HEAPS)

-- WHAT NAMES SAY OF ONE HEAP

-- where the zones of an index lie
abbrev pub places : ℕ → List Zone → List ℕ
places index zones = map (λ (zone : Zone). zone.addr) (filter (λ (zone : Zone). eqb zone.heap index) zones)

pub places_parts : (index : ℕ) (front back : List Zone) → places index (front ++ back) ≡ places index front ++ places index back
places_parts index front back =
    ap (map (λ (zone : Zone). zone.addr)) (filter-append (λ (zone : Zone). eqb zone.heap index) front back)
    ∙ map-append (λ (zone : Zone). zone.addr) (filter (λ (zone : Zone). eqb zone.heap index) front) (filter (λ (zone : Zone). eqb zone.heap index) back)

places_own : (index : ℕ) (zone : Zone) (zones : List Zone) → zone.heap ≡ index → places index (zone ∷ zones) ≡ zone.addr ∷ places index zones
places_own index zone zones same =
    ap (map (λ (z : Zone). z.addr)) (cond-true (eqb zone.heap index) (zone ∷ filter (λ (z : Zone). eqb z.heap index) zones) (filter (λ (z : Zone). eqb z.heap index) zones)
    (eq-eqb zone.heap index same))

places_other : (index : ℕ) (zone : Zone) (zones : List Zone) → zone.heap ≢ index → places index (zone ∷ zones) ≡ places index zones
places_other index zone zones apart =
    ap (map (λ (z : Zone). z.addr)) (cond-false (eqb zone.heap index) (zone ∷ filter (λ (z : Zone). eqb z.heap index) zones) (filter (λ (z : Zone). eqb z.heap index) zones)
    (ne_eqb zone.heap index apart))

abbrev pub name_of : Option (List ℕ) → ℕ → Option HeapName
name_of name socket = option_map (λ (text : List ℕ). record { name = text; socket = socket }) name

-- names say the same of a heap that is as it was to them, but for its memzones, where the directory has not changed
pub named_still : (names given : NamesView) (index : ℕ) (old new : Naming) → given.heaps ≡ names.heaps → new.name ≡ old.name → new.socket ≡ old.socket
    → new.chunks ≡ old.chunks → IsNamedBy names index old → IsPermutation (places index given.zones.zones) (map data_address new.zones) → IsNamedBy given index new
named_still names given index old new heaps name socket chunks was zones = record {
  name = ap (λ (d : DirectoryView). heap_at d.plain index) heaps ∙ (was.name ∙ sym (ap₂ name_of name socket));
  ranges = subst (λ (d : DirectoryView). IsPermutation (filter (λ (range : HeapRange). eqb range.index index) d.plain.ranges) (map (directory_range index) new.chunks)) (sym heaps)
      (subst (λ (c : List Chunk). IsPermutation (filter (λ (range : HeapRange). eqb range.index index) names.heaps.plain.ranges) (map (directory_range index) c)) (sym chunks)
      was.ranges);
  zones = zones;
}

-- A ZONE IS PUT

module _ (at addr : ℕ) (names given : NamesView) (namings : ℕ → Naming) (claims : List ExternalRange) (agreed : AreAgreedNames names namings claims) (naming : Naming)
    (one_below : at < MAX_HEAPS) where
  -- where a zone was put, and the heap has an element of a memzone more at its address
  pub put_agrees : HasPut at addr names given → HasOneMore addr (namings at) naming → AreAgreedNames given (naming_with at naming namings) claims
  put_agrees put more =
      let was = agreed.each at one_below in
      let zone = put.zone in
      let old = names.zones.zones in
      let here : places at given.zones.zones ≡ places at old ++ addr ∷ [] =
      ap (places at) put.zones ∙ (places_parts at old (zone ∷ []) ∙ ap (λ (l : List ℕ). places at old ++ l) (places_own at zone [] put.heap ∙ ap (λ (a : ℕ). a ∷ []) put.at_is)) in
      let moved : IsPermutation (places at old ++ addr ∷ []) (map data_address naming.zones) =
      IsPermutation-trans _ _ _ (IsPermutation-to_front (places at old) addr)
      (IsPermutation-trans _ _ _ (IsPermutation-cons addr (places at old) (map data_address (namings at).zones) was.zones)
      (IsPermutation-sym (map data_address naming.zones) (addr ∷ map data_address (namings at).zones) more.zones)) in
      agree_one at naming namings given claims
      (named_still names given at (namings at) naming put.heaps more.name more.socket more.chunks was
      (subst (λ (l : List ℕ). IsPermutation l (map data_address naming.zones)) (sym here) moved))
      (λ index apart below.
      let same : places index given.zones.zones ≡ places index old =
      ap (places index) put.zones ∙ (places_parts index old (zone ∷ [])
      ∙ (ap (λ (l : List ℕ). places index old ++ l) (places_other index zone [] (λ is. apart (sym (sym put.heap ∙ is)))) ∙ append-nil (places index old))) in
      named_still names given index (namings index) (namings index) put.heaps refl refl refl (agreed.each index below)
      (subst (λ (l : List ℕ). IsPermutation l (map data_address (namings index).zones)) (sym same) (agreed.each index below).zones))
      (subst (All (λ (z : Zone). z.heap < MAX_HEAPS)) (sym put.zones)
      (All-push (λ (z : Zone). z.heap < MAX_HEAPS) old zone agreed.zones (subst (λ (h : ℕ). h < MAX_HEAPS) (sym put.heap) one_below)))
      (subst (λ (d : DirectoryView). All (λ (range : HeapRange). range.index < MAX_HEAPS) d.plain.ranges) (sym put.heaps) agreed.ranges)
      (subst (λ (l : List ExternalRange). IsPermutation l claims) (sym (memory_stays at naming namings more.chunks)) agreed.claims)

  -- where a zone went, and the heap has an element of a memzone less at its address
  pub gone_agrees : HasGone at addr names given → HasOneMore addr naming (namings at) → AreAgreedNames given (naming_with at naming namings) claims
  gone_agrees gone more =
      let was = agreed.each at one_below in
      let zone = gone.zone in
      let both = gone.front ++ gone.back in
      let here : places at names.zones.zones ≡ places at gone.front ++ addr ∷ places at gone.back =
      ap (places at) gone.were ∙ (places_parts at gone.front (zone ∷ gone.back)
      ∙ ap (λ (l : List ℕ). places at gone.front ++ l) (places_own at zone gone.back gone.heap ∙ ap (λ (a : ℕ). a ∷ places at gone.back) gone.at_is)) in
      let left : places at given.zones.zones ≡ places at gone.front ++ places at gone.back = ap (places at) gone.are ∙ places_parts at gone.front gone.back in
      let apart : IsPermutation (addr ∷ (places at gone.front ++ places at gone.back)) (places at gone.front ++ addr ∷ places at gone.back) =
      IsPermutation-sym (places at gone.front ++ addr ∷ places at gone.back) (addr ∷ (places at gone.front ++ places at gone.back)) (IsPermutation-middle (places at gone.front) addr (places at gone.back)) in
      let moved : IsPermutation (addr ∷ (places at gone.front ++ places at gone.back)) (addr ∷ map data_address naming.zones) =
      IsPermutation-trans _ _ _ apart
      (IsPermutation-trans _ _ _ (subst (λ (l : List ℕ). IsPermutation l (map data_address (namings at).zones)) here was.zones) more.zones) in
      agree_one at naming namings given claims
      (named_still names given at (namings at) naming gone.heaps (sym more.name) (sym more.socket) (sym more.chunks) was
      (subst (λ (l : List ℕ). IsPermutation l (map data_address naming.zones)) (sym left)
      (without_one addr (places at gone.front ++ places at gone.back) (map data_address naming.zones) moved)))
      (λ index other below.
      let same : places index names.zones.zones ≡ places index given.zones.zones =
      ap (places index) gone.were ∙ (places_parts index gone.front (zone ∷ gone.back)
      ∙ (ap (λ (l : List ℕ). places index gone.front ++ l) (places_other index zone gone.back (λ is. other (sym (sym gone.heap ∙ is))))
      ∙ (sym (places_parts index gone.front gone.back) ∙ ap (places index) (sym gone.are)))) in
      named_still names given index (namings index) (namings index) gone.heaps refl refl refl (agreed.each index below)
      (subst (λ (l : List ℕ). IsPermutation l (map data_address (namings index).zones)) same (agreed.each index below).zones))
      (subst (All (λ (z : Zone). z.heap < MAX_HEAPS)) (sym gone.are)
      (All-tail (λ (z : Zone). z.heap < MAX_HEAPS) zone both
      (All-permutation (λ (z : Zone). z.heap < MAX_HEAPS) (gone.front ++ zone ∷ gone.back) (zone ∷ both) (IsPermutation-middle gone.front zone gone.back)
      (subst (All (λ (z : Zone). z.heap < MAX_HEAPS)) gone.were agreed.zones))))
      (subst (λ (d : DirectoryView). All (λ (range : HeapRange). range.index < MAX_HEAPS) d.plain.ranges) (sym gone.heaps) agreed.ranges)
      (subst (λ (l : List ExternalRange). IsPermutation l claims) (sym (memory_stays at naming namings (sym more.chunks))) agreed.claims)
