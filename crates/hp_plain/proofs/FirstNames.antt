-- Names that were just opened agree with heaps that were: those of the sockets have the first indexes, the others have no name.
use Rattle.std.proofs.Common.{◌≡◌, ◌∙◌, ℕ, ◌<◌, List, [], get_or, length, Option, Some, None, refl, sym, ap, subst, arith}
use Rattle.std.specs.List.{slice_get}
use Rattle.std.specs.Option.{option_map_or}
use Rattle.std.proofs.lemmas.Option.{slice_get-get_or}
use Rattle.hp_base.specs.declared.limits.TheConstants.{MAX_HEAPS}
use Rattle.hp_heap.specs.History.{HeapView}
use Rattle.hp_heap.specs.Joining.{zone_ranges}
use Rattle.hp_heap.specs.PlainHeap.{opening_heap}
use Rattle.hp_zone.specs.Directory.{DirectoryView, heap_at, opened}
use Rattle.hp_zone.specs.Zones.{ZonesView, no_zones}
use Rattle.hp_zone.specs.declared.names.Names.{Names as NamesView}
use Rattle.hp_hall.specs.AgreedNames.{AreAgreedNames, directory_name}
use Rattle.hp_hall.specs.Naming.{Naming, naming_of}
use Rattle.hp_hall.proofs.AgreedAlike.{IsBare, bare_agree}
use Rattle.hp_hall.proofs.FirstNames.{first_name}
use Rattle.hp_plain.specs.Opening.{namings_of}

bare_heap : (index : ℕ) (serves : Option ℕ) → IsBare (naming_of (opening_heap index serves))
unfolding naming_of zone_ranges
bare_heap index serves = record { chunks = refl; zones = refl }

first_agree : (sockets : List ℕ) (names : NamesView) (namings : ℕ → Naming) → names.heaps ≡ opened sockets → names.zones ≡ no_zones
    → ((index : ℕ) → index < MAX_HEAPS → namings index ≡ naming_of (opening_heap index (slice_get sockets index))) → AreAgreedNames names namings []
first_agree sockets names namings directory zones each =
    bare_agree names namings (ap (λ (z : ZonesView). z.zones) zones) (ap (λ (d : DirectoryView). d.plain.ranges) directory)
    (λ index below.
    ap (λ (d : DirectoryView). heap_at d.plain index) directory ∙ first_name sockets index ∙ ap directory_name (sym (each index below)))
    (λ index below. subst IsBare (sym (each index below)) (bare_heap index (slice_get sockets index)))

-- a heap that stands at no place
no_heap : HeapView
no_heap = record { plain = opening_heap 0 None; lists = []; history = []; spare = 0 }

pub heaps_agree : (sockets : List ℕ) (heaps : List HeapView) (names : NamesView) → length heaps ≡ MAX_HEAPS
    → ((index : ℕ) (heap : HeapView) → slice_get heaps index ≡ Some heap → heap.plain ≡ opening_heap index (slice_get sockets index))
    → names.heaps ≡ opened sockets → names.zones ≡ no_zones → AreAgreedNames names (namings_of heaps) []
heaps_agree sockets heaps names count opening directory zones =
    first_agree sockets names (namings_of heaps) directory zones (λ index below.
    let there = slice_get-get_or heaps index no_heap (omega (arith, below, count)) in
    ap (λ (o : Option HeapView). option_map_or (λ (h : HeapView). naming_of h.plain) o (naming_of (opening_heap index None))) there
    ∙ ap naming_of (opening index (get_or heaps index no_heap) there))
