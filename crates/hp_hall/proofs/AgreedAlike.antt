-- Names agree with heaps of which they say the same; and names as they open agree with heaps as these open.
use Rattle.std.proofs.Common.{◌≡◌, ℕ, zero, suc, ◌+◌, ◌<◌, eqb, ◌++◌, List, [], map, flat_map, refl, sym, ap, ap₂, subst, ◌∙◌, arith}
use Rattle.std.specs.List.{All, filter, range_with_len}
use Rattle.std.specs.List.Sorted.{IsPermutation}
use Rattle.std.proofs.lemmas.List.Elements.{All-nil}
use Rattle.std.proofs.lemmas.List.Sorted.{IsPermutation-refl}
use Rattle.hp_base.specs.declared.chunk.Chunk.{Chunk}
use Rattle.hp_base.specs.declared.limits.TheConstants.{MAX_HEAPS}
use Rattle.hp_base.specs.declared.span.Span.{Span}
use Rattle.hp_heap.specs.PlainHeap.{data_address}
use Rattle.hp_segs.specs.declared.external_range.ExternalRange.{ExternalRange}
use Rattle.hp_zone.specs.Directory.{heap_at}
use Rattle.hp_zone.specs.declared.heap_name.HeapRange.{HeapRange}
use Rattle.hp_zone.specs.declared.names.Names.{Names as NamesView}
use Rattle.hp_zone.specs.declared.zone.Zone.{Zone}
use Rattle.hp_hall.specs.AgreedNames.{AreAgreedNames, IsNamedBy, chunk_memory, directory_name, directory_range}
use Rattle.hp_hall.specs.Naming.{Naming}

-- the memory of the chunks of heaps, from an index on
abbrev memory_from : (ℕ → Naming) → ℕ → ℕ → List ExternalRange
memory_from namings from count = flat_map (λ (index : ℕ). map chunk_memory (namings index).chunks) (range_with_len from count)

memory_alike : (f g : ℕ → Naming) (from count : ℕ) → ((index : ℕ) → index < from + count → g index ≡ f index)
    → memory_from g from count ≡ memory_from f from count
memory_alike f g from zero same = refl
memory_alike f g from (suc count) same =
    ap₂ (λ (here rest : List ExternalRange). here ++ rest) (ap (λ (naming : Naming). map chunk_memory naming.chunks) (same from (omega arith)))
    (memory_alike f g (from + 1) count (λ index below. same index (omega (arith, below))))

-- what holds of names and heaps holds where the names speak of the same
pub agree_alike : (names : NamesView) (f g : ℕ → Naming) (claims : List ExternalRange) → ((index : ℕ) → index < MAX_HEAPS → g index ≡ f index)
    → AreAgreedNames names f claims → AreAgreedNames names g claims
agree_alike names f g claims same are = record {
  each = λ index below. subst (IsNamedBy names index) (sym (same index below)) (are.each index below);
  zones = are.zones;
  ranges = are.ranges;
  claims = subst (λ (l : List ExternalRange). IsPermutation l claims) (sym (memory_alike f g 0 MAX_HEAPS (λ index below. same index (omega (arith, below)))))
      are.claims;
}

-- a heap without a chunk and without an element of a memzone
pub record IsBare (naming : Naming) : Type 0 where
  pub chunks : naming.chunks ≡ []
  pub zones : naming.zones ≡ []

no_memory : (namings : ℕ → Naming) (from count : ℕ) → ((index : ℕ) → index < from + count → IsBare (namings index)) → memory_from namings from count ≡ []
no_memory namings from zero bare = refl
no_memory namings from (suc count) bare =
    ap₂ (λ (here rest : List ExternalRange). here ++ rest) (ap (map chunk_memory) (bare from (omega arith)).chunks)
    (no_memory namings (from + 1) count (λ index below. bare index (omega (arith, below))))

-- names without a memzone and a range agree with heaps that have none, where the directory has their names
pub bare_agree : (names : NamesView) (namings : ℕ → Naming) → names.zones.zones ≡ [] → names.heaps.plain.ranges ≡ []
    → ((index : ℕ) → index < MAX_HEAPS → heap_at names.heaps.plain index ≡ directory_name (namings index))
    → ((index : ℕ) → index < MAX_HEAPS → IsBare (namings index)) → AreAgreedNames names namings []
bare_agree names namings zones ranges named bare = record {
  each = λ index below. record {
    name = named index below;
    ranges = alike (ap (filter (λ (range : HeapRange). eqb range.index index)) ranges) (ap (map (directory_range index)) (bare index below).chunks);
    zones = alike (ap (λ (l : List Zone). map (λ (zone : Zone). zone.addr) (filter (λ (zone : Zone). eqb zone.heap index) l)) zones)
        (ap (map data_address) (bare index below).zones);
  };
  zones = subst (All (λ (zone : Zone). zone.heap < MAX_HEAPS)) (sym zones) (All-nil (λ (zone : Zone). zone.heap < MAX_HEAPS));
  ranges = subst (All (λ (range : HeapRange). range.index < MAX_HEAPS)) (sym ranges) (All-nil (λ (range : HeapRange). range.index < MAX_HEAPS));
  claims = alike (no_memory namings 0 MAX_HEAPS (λ index below. bare index (omega (arith, below)))) refl;
}
  where
    alike : {X : Type 0} {xs ys : List X} → xs ≡ [] → ys ≡ [] → IsPermutation xs ys
    alike {X} {xs} {ys} none also = subst (λ (l : List X). IsPermutation xs l) (none ∙ sym also) (IsPermutation-refl xs)
