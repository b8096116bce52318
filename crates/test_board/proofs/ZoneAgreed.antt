-- Names that agree with heaps agree with them still where a memzone comes or goes, where a heap gets a name, and where memory comes to it.
use Rattle.std.proofs.Common.{◌≡◌, ◌≢◌, ◌∙◌, ℕ, zero, suc, ◌+◌, ◌<◌, ◌≤◌, cond, eqb, eq-eqb, ne_eqb, List, [], ◌∷◌, ◌++◌, map, flat_map, Option, Some, None, refl, sym, ap, ap₂, subst, arith, lit<}
use Rattle.std.specs.List.{All, filter, range_with_len}
use Rattle.std.specs.List.Sorted.{IsPermutation}
use Rattle.std.specs.Option.{option_map}
use Rattle.std.proofs.lemmas.Bool.{cond-false, cond-true}
use Rattle.std.proofs.lemmas.List.{append_assoc, append-nil, map-append}
use Rattle.std.proofs.lemmas.List.Elements.{All-push, All-tail, filter-append}
use Rattle.std.proofs.lemmas.List.Sorted.{All-permutation, IsPermutation-append, IsPermutation-append_right, IsPermutation-cons, IsPermutation-middle, IsPermutation-refl, IsPermutation-sym, IsPermutation-to_front, IsPermutation-trans}
use mathlib.Core.Logic.{dite}
use native.Mathlib.Decide.{ℕ_discrete}
use Rattle.hp_base.specs.declared.chunk.Chunk.{Chunk}
use Rattle.hp_base.specs.declared.limits.TheConstants.{MAX_HEAPS}
use Rattle.hp_base.specs.declared.span.Span.{Span}
use Rattle.hp_heap.specs.PlainHeap.{data_address}
use Rattle.hp_segs.specs.declared.external_range.ExternalRange.{ExternalRange}
use Rattle.hp_zone.specs.Directory.{DirectoryView, heap_at}
use Rattle.hp_zone.specs.declared.heap_name.HeapName.{HeapName}
use Rattle.hp_zone.specs.declared.heap_name.HeapRange.{HeapRange}
use Rattle.hp_zone.specs.declared.names.Names.{Names as NamesView}
use Rattle.hp_zone.specs.declared.zone.Zone.{Zone}
use Rattle.hp_hall.specs.AgreedNames.{AreAgreedNames, IsNamedBy, chunk_memory, directory_name, directory_range}
use Rattle.hp_hall.specs.Naming.{Naming}
use Rattle.test_board.specs.Zoned.{HasGone, HasOneMore, HasPut, with_naming}
use Rattle.test_board.proofs.ZoneElements.{without_one}

-- ANOTHER NAMING AT ONE INDEX

module _ (at : ℕ) (naming : Naming) (namings : ℕ → Naming) where
  pub naming_here : with_naming at naming namings at ≡ naming
  naming_here = cond-true (eqb at at) naming (namings at) (eq-eqb at at refl)

  pub naming_else : (index : ℕ) → index ≢ at → with_naming at naming namings index ≡ namings index
  naming_else index apart = cond-false (eqb index at) naming (namings index) (ne_eqb index at apart)

  -- names agree with this where they agree with it at that index, and with what there was at all others
  pub agree_one : (names : NamesView) (claims : List ExternalRange) → IsNamedBy names at naming
      → ((index : ℕ) → index ≢ at → index < MAX_HEAPS → IsNamedBy names index (namings index)) → All (λ (zone : Zone). zone.heap < MAX_HEAPS) names.zones.zones
      → All (λ (range : HeapRange). range.index < MAX_HEAPS) names.heaps.plain.ranges
      → IsPermutation (flat_map (λ (index : ℕ). map chunk_memory (with_naming at naming namings index).chunks) (range_with_len 0 MAX_HEAPS)) claims
      → AreAgreedNames names (with_naming at naming namings) claims
  agree_one names claims one others zones ranges memory = record {
    each = λ index below.
        dite (ℕ_discrete index at)
        (λ same. subst (IsNamedBy names index) (sym (ap (with_naming at naming namings) same ∙ naming_here)) (subst (λ (k : ℕ). IsNamedBy names k naming) (sym same) one))
        (λ apart. subst (IsNamedBy names index) (sym (naming_else index apart)) (others index apart below));
    zones = zones;
    ranges = ranges;
    claims = memory;
  }

  memory_at : (index : ℕ) → naming.chunks ≡ (namings at).chunks → map chunk_memory (with_naming at naming namings index).chunks ≡ map chunk_memory (namings index).chunks
  memory_at index same =
      dite (ℕ_discrete index at)
      (λ here.
      ap (λ (k : ℕ). map chunk_memory (with_naming at naming namings k).chunks) here ∙ ap (λ (n : Naming). map chunk_memory n.chunks) naming_here
      ∙ ap (map chunk_memory) same ∙ ap (λ (k : ℕ). map chunk_memory (namings k).chunks) (sym here))
      (λ apart. ap (λ (n : Naming). map chunk_memory n.chunks) (naming_else index apart))

  -- the memory of the heaps is as it was where the chunks are
  pub memory_stays : naming.chunks ≡ (namings at).chunks → flat_map (λ (index : ℕ). map chunk_memory (with_naming at naming namings index).chunks) (range_with_len 0 MAX_HEAPS)
      ≡ flat_map (λ (index : ℕ). map chunk_memory (namings index).chunks) (range_with_len 0 MAX_HEAPS)
  memory_stays same = λ i. flat_map (λ (index : ℕ). memory_at index same i) (range_with_len 0 MAX_HEAPS)

-- lists one after another, of which one has one more
module _ {X : Type 0} (f g : ℕ → List X) (at : ℕ) (x : X) (more : g at ≡ x ∷ f at) (same : (index : ℕ) → index ≢ at → g index ≡ f index) where
  past_it : (from count : ℕ) → at < from → flat_map g (range_with_len from count) ≡ flat_map f (range_with_len from count)
  past_it from zero past = refl
  past_it from (suc count) past =
      ap₂ (λ (l r : List X). l ++ r) (same from (λ here. omega (arith, here, past))) (past_it (from + 1) count (omega (arith, past)))

  pub memory_more : (from count : ℕ) → from ≤ at → at < from + count → IsPermutation (flat_map g (range_with_len from count)) (x ∷ flat_map f (range_with_len from count))
  memory_more from zero low high = absurd (omega (arith, low, high))
  memory_more from (suc count) low high =
      let others = flat_map g (range_with_len (from + 1) count) in
      let left = flat_map f (range_with_len (from + 1) count) in
      dite (ℕ_discrete from at)
      (λ here.
      let both : g from ++ others ≡ x ∷ (f from ++ left) =
      ap₂ (λ (l r : List X). l ++ r) (ap g here ∙ (more ∙ ap (λ (k : ℕ). x ∷ f k) (sym here))) (past_it (from + 1) count (omega (arith, here))) in
      subst (IsPermutation (g from ++ others)) both (IsPermutation-refl (g from ++ others)))
      (λ apart.
      subst (λ (l : List X). IsPermutation (l ++ others) (x ∷ (f from ++ left))) (sym (same from apart))
      (IsPermutation-trans (f from ++ others) (f from ++ x ∷ left) (x ∷ (f from ++ left))
      (IsPermutation-append_right (f from) others (x ∷ left) (memory_more (from + 1) count (omega (arith, low, apart)) (omega (arith, high))))
      (IsPermutation-middle (f from) x left)))

-- WHAT NAMES SAY OF ONE HEAP

-- where the zones of an index lie
abbrev pub places : ℕ → List Zone → List ℕ
places index zones = map (λ (zone : Zone). zone.addr) (filter (λ (zone : Zone). eqb zone.heap index) zones)

pub places_parts : (index : ℕ) (front back : List Zone) → places index (front ++ back) ≡ places index front ++ places index back
places_parts index front back =
    ap (map (λ (zone : Zone). zone.addr)) (filter-append (λ (zone : Zone). eqb zone.heap index) front back)
    ∙ map-append (λ (zone : Zone). zone.addr) (filter (λ (zone : Zone). eqb zone.heap index) front) (filter (λ (zone : Zone). eqb zone.heap index) back)

places_own : (index : ℕ) (zone : Zone) (zones : List Zone) → zone.heap ≡ index → places index (zone ∷ zones) ≡ zone.addr ∷ places index zones
places_own index zone zones same =
    ap (map (λ (z : Zone). z.addr)) (cond-true (eqb zone.heap index) (zone ∷ filter (λ (z : Zone). eqb z.heap index) zones) (filter (λ (z : Zone). eqb z.heap index) zones)
    (eq-eqb zone.heap index same))

places_other : (index : ℕ) (zone : Zone) (zones : List Zone) → zone.heap ≢ index → places index (zone ∷ zones) ≡ places index zones
places_other index zone zones apart =
    ap (map (λ (z : Zone). z.addr)) (cond-false (eqb zone.heap index) (zone ∷ filter (λ (z : Zone). eqb z.heap index) zones) (filter (λ (z : Zone). eqb z.heap index) zones)
    (ne_eqb zone.heap index apart))

abbrev pub name_of : Option (List ℕ) → ℕ → Option HeapName
name_of name socket = option_map (λ (text : List ℕ). record { name = text; socket = socket }) name

-- names say the same of a heap that is as it was to them, but for its memzones, where the directory has not changed
pub named_still : (names given : NamesView) (index : ℕ) (old new : Naming) → given.heaps ≡ names.heaps → new.name ≡ old.name → new.socket ≡ old.socket
    → new.chunks ≡ old.chunks → IsNamedBy names index old → IsPermutation (places index given.zones.zones) (map data_address new.zones) → IsNamedBy given index new
named_still names given index old new heaps name socket chunks was zones = record {
  name = ap (λ (d : DirectoryView). heap_at d.plain index) heaps ∙ (was.name ∙ sym (ap₂ name_of name socket));
  ranges = subst (λ (d : DirectoryView). IsPermutation (filter (λ (range : HeapRange). eqb range.index index) d.plain.ranges) (map (directory_range index) new.chunks)) (sym heaps)
      (subst (λ (c : List Chunk). IsPermutation (filter (λ (range : HeapRange). eqb range.index index) names.heaps.plain.ranges) (map (directory_range index) c)) (sym chunks)
      was.ranges);
  zones = zones;
}

-- A ZONE IS PUT

module _ (addr : ℕ) (names given : NamesView) (namings : ℕ → Naming) (claims : List ExternalRange) (agreed : AreAgreedNames names namings claims) (naming : Naming) where
  one_below : 1 < MAX_HEAPS
  one_below = lit< tt

  -- where a zone was put, and the heap has an element of a memzone more at its address
  pub put_agrees : HasPut addr names given → HasOneMore addr (namings 1) naming → AreAgreedNames given (with_naming 1 naming namings) claims
  put_agrees put more =
      let was = agreed.each 1 one_below in
      let zone = put.zone in
      let old = names.zones.zones in
      let here : places 1 given.zones.zones ≡ places 1 old ++ addr ∷ [] =
      ap (places 1) put.zones ∙ (places_parts 1 old (zone ∷ []) ∙ ap (λ (l : List ℕ). places 1 old ++ l) (places_own 1 zone [] put.heap ∙ ap (λ (a : ℕ). a ∷ []) put.at)) in
      let moved : IsPermutation (places 1 old ++ addr ∷ []) (map data_address naming.zones) =
      IsPermutation-trans _ _ _ (IsPermutation-to_front (places 1 old) addr)
      (IsPermutation-trans _ _ _ (IsPermutation-cons addr (places 1 old) (map data_address (namings 1).zones) was.zones)
      (IsPermutation-sym (map data_address naming.zones) (addr ∷ map data_address (namings 1).zones) more.zones)) in
      agree_one 1 naming namings given claims
      (named_still names given 1 (namings 1) naming put.heaps more.name more.socket more.chunks was
      (subst (λ (l : List ℕ). IsPermutation l (map data_address naming.zones)) (sym here) moved))
      (λ index apart below.
      let same : places index given.zones.zones ≡ places index old =
      ap (places index) put.zones ∙ (places_parts index old (zone ∷ [])
      ∙ (ap (λ (l : List ℕ). places index old ++ l) (places_other index zone [] (λ is. apart (sym (sym put.heap ∙ is)))) ∙ append-nil (places index old))) in
      named_still names given index (namings index) (namings index) put.heaps refl refl refl (agreed.each index below)
      (subst (λ (l : List ℕ). IsPermutation l (map data_address (namings index).zones)) (sym same) (agreed.each index below).zones))
      (subst (All (λ (z : Zone). z.heap < MAX_HEAPS)) (sym put.zones)
      (All-push (λ (z : Zone). z.heap < MAX_HEAPS) old zone agreed.zones (subst (λ (h : ℕ). h < MAX_HEAPS) (sym put.heap) one_below)))
      (subst (λ (d : DirectoryView). All (λ (range : HeapRange). range.index < MAX_HEAPS) d.plain.ranges) (sym put.heaps) agreed.ranges)
      (subst (λ (l : List ExternalRange). IsPermutation l claims) (sym (memory_stays 1 naming namings more.chunks)) agreed.claims)

  -- where a zone went, and the heap has an element of a memzone less at its address
  pub gone_agrees : HasGone addr names given → HasOneMore addr naming (namings 1) → AreAgreedNames given (with_naming 1 naming namings) claims
  gone_agrees gone more =
      let was = agreed.each 1 one_below in
      let zone = gone.zone in
      let both = gone.front ++ gone.back in
      let here : places 1 names.zones.zones ≡ places 1 gone.front ++ addr ∷ places 1 gone.back =
      ap (places 1) gone.were ∙ (places_parts 1 gone.front (zone ∷ gone.back)
      ∙ ap (λ (l : List ℕ). places 1 gone.front ++ l) (places_own 1 zone gone.back gone.heap ∙ ap (λ (a : ℕ). a ∷ places 1 gone.back) gone.at)) in
      let left : places 1 given.zones.zones ≡ places 1 gone.front ++ places 1 gone.back = ap (places 1) gone.are ∙ places_parts 1 gone.front gone.back in
      let apart : IsPermutation (addr ∷ (places 1 gone.front ++ places 1 gone.back)) (places 1 gone.front ++ addr ∷ places 1 gone.back) =
      IsPermutation-sym (places 1 gone.front ++ addr ∷ places 1 gone.back) (addr ∷ (places 1 gone.front ++ places 1 gone.back)) (IsPermutation-middle (places 1 gone.front) addr (places 1 gone.back)) in
      let moved : IsPermutation (addr ∷ (places 1 gone.front ++ places 1 gone.back)) (addr ∷ map data_address naming.zones) =
      IsPermutation-trans _ _ _ apart
      (IsPermutation-trans _ _ _ (subst (λ (l : List ℕ). IsPermutation l (map data_address (namings 1).zones)) here was.zones) more.zones) in
      agree_one 1 naming namings given claims
      (named_still names given 1 (namings 1) naming gone.heaps (sym more.name) (sym more.socket) (sym more.chunks) was
      (subst (λ (l : List ℕ). IsPermutation l (map data_address naming.zones)) (sym left)
      (without_one addr (places 1 gone.front ++ places 1 gone.back) (map data_address naming.zones) moved)))
      (λ index other below.
      let same : places index names.zones.zones ≡ places index given.zones.zones =
      ap (places index) gone.were ∙ (places_parts index gone.front (zone ∷ gone.back)
      ∙ (ap (λ (l : List ℕ). places index gone.front ++ l) (places_other index zone gone.back (λ is. other (sym (sym gone.heap ∙ is))))
      ∙ (sym (places_parts index gone.front gone.back) ∙ ap (places index) (sym gone.are)))) in
      named_still names given index (namings index) (namings index) gone.heaps refl refl refl (agreed.each index below)
      (subst (λ (l : List ℕ). IsPermutation l (map data_address (namings index).zones)) same (agreed.each index below).zones))
      (subst (All (λ (z : Zone). z.heap < MAX_HEAPS)) (sym gone.are)
      (All-tail (λ (z : Zone). z.heap < MAX_HEAPS) zone both
      (All-permutation (λ (z : Zone). z.heap < MAX_HEAPS) (gone.front ++ zone ∷ gone.back) (zone ∷ both) (IsPermutation-middle gone.front zone gone.back)
      (subst (All (λ (z : Zone). z.heap < MAX_HEAPS)) gone.were agreed.zones))))
      (subst (λ (d : DirectoryView). All (λ (range : HeapRange). range.index < MAX_HEAPS) d.plain.ranges) (sym gone.heaps) agreed.ranges)
      (subst (λ (l : List ExternalRange). IsPermutation l claims) (sym (memory_stays 1 naming namings (sym more.chunks))) agreed.claims)
