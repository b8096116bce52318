-- Names as a board opens agree with its heaps.
use Rattle.std.proofs.Common.{◌≡◌, ◌∙◌, ℕ, ◌<◌, List, [], Some, refl, sym, ap, subst}
use Rattle.std.specs.List.{slice_get}
use Rattle.hp_base.specs.declared.limits.TheConstants.{MAX_HEAPS}
use Rattle.hp_heap.specs.History.{HeapView, IsSound, opening_of, replay}
use Rattle.hp_heap.specs.Joining.{zone_ranges}
use Rattle.hp_heap.specs.PlainHeap.{PlainHeap}
use Rattle.hp_heap.specs.declared.entry.Entry.{Entry}
use Rattle.hp_segs.specs.declared.external_range.ExternalRange.{ExternalRange}
use Rattle.hp_hall.specs.AgreedNames.{AreAgreedNames, directory_name}
use Rattle.hp_hall.specs.Naming.{Naming, naming_of}
use Rattle.hp_hall.proofs.AgreedAlike.{IsBare, bare_agree}
use Rattle.hp_zone.specs.Directory.{IsDirectory, directory_after, opening}
use Rattle.hp_zone.specs.Zones.{IsZones, zones_after}
use Rattle.hp_zone.specs.declared.name_change.NameChange.{NameChange}
use Rattle.hp_zone.specs.declared.names.Names.{Names as NamesView}
use Rattle.hp_zone.specs.declared.zone.ZoneChange.{ZoneChange}
use Rattle.hp_board.specs.Served.{AreOpeningNames, name_of}

-- a heap without an entry has neither a chunk nor an element of a memzone
pub bare_naming : (heap : HeapView) → IsSound heap → heap.history ≡ [] → IsBare (naming_of heap.plain)
unfolding naming_of zone_ranges
bare_naming heap sound unused =
    let plain : heap.plain ≡ replay (opening_of heap.plain) [] =
    sound.stands.left ∙ ap (λ (history : List Entry). replay (opening_of heap.plain) history) unused in
    record { chunks = ap (λ (h : PlainHeap). (naming_of h).chunks) plain; zones = ap (λ (h : PlainHeap). (naming_of h).zones) plain }

-- the heap of an index, and what the names speak of, of it
pub record OpensAs (heaps : List HeapView) (index : ℕ) (naming : Naming) : Type 0 where
  pub heap : HeapView
  pub there : slice_get heaps index ≡ Some heap
  pub is : naming ≡ naming_of heap.plain
  pub bare : IsBare (naming_of heap.plain)

name_is : (heap : HeapView) → name_of heap ≡ directory_name (naming_of heap.plain)
unfolding naming_of
name_is heap = refl

pub opening_agrees : (heaps : List HeapView) (names : NamesView) (claims : List ExternalRange) → AreOpeningNames heaps names
    → IsZones names.zones × IsDirectory names.heaps → claims ≡ [] → (namings : ℕ → Naming)
    → ((index : ℕ) → index < MAX_HEAPS → OpensAs heaps index (namings index)) → AreAgreedNames names namings claims
opening_agrees heaps names claims opens sound none namings each =
    subst (AreAgreedNames names namings) (sym none)
    (bare_agree names namings (sound.0.replayed ∙ ap (λ (log : List ZoneChange). zones_after [] log) opens.zones)
    (ap (λ d. d.ranges) (sound.1.replayed ∙ ap (λ (log : List NameChange). directory_after (opening names.heaps.sockets) log) opens.changes))
    (λ index below.
    let one = each index below in
    opens.named index one.heap one.there ∙ (name_is one.heap ∙ ap directory_name (sym one.is)))
    (λ index below.
    let one = each index below in
    subst IsBare (sym one.is) one.bare))
