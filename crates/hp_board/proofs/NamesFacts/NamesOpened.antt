-- The names with which a board may open: the directory of the sockets whose heaps have the first indexes.
use Rattle.std.proofs.Common.{◌≡◌, ◌∙◌, ℕ, List, sym, ap}
use Rattle.std.specs.List.{slice_get}
use Rattle.hp_heap.specs.History.{HeapView}
use Rattle.hp_heap.specs.PlainHeap.{PlainHeap, opening_heap}
use Rattle.hp_hall.specs.AgreedNames.{directory_name}
use Rattle.hp_hall.specs.Naming.{naming_of}
use Rattle.hp_hall.proofs.FirstNames.{first_name}
use Rattle.hp_zone.specs.Directory.{heap_at, opened, opening}
use Rattle.hp_zone.specs.Zones.{no_zones}
use Rattle.hp_zone.specs.declared.names.Names.{Names as NamesView}
use Rattle.hp_board.specs.Served.{AreOpeningNames, HasNamesOf, IsNamedIn}

-- a heap that opens for the socket of its index has the name of the directory
pub opening_named : (sockets : List ℕ) (index : ℕ) (heap : HeapView) → heap.plain ≡ opening_heap index (slice_get sockets index) → IsNamedIn (opening sockets) index heap
unfolding naming_of
opening_named sockets index heap is = first_name sockets index ∙ sym (ap (λ (plain : PlainHeap). directory_name (naming_of plain)) is)

-- names that were just opened are those with which a board of such heaps may open
pub names_open : (sockets : List ℕ) (all : List HeapView) (names : NamesView) → names.heaps ≡ opened sockets → names.zones ≡ no_zones → HasNamesOf (opening sockets) all
    → AreOpeningNames all names
names_open sockets all names heaps_are zones_are named = record {
  zones = ap (λ z. z.log) zones_are;
  changes = ap (λ d. d.log) heaps_are;
  named = λ slot heap there. ap (λ d. heap_at d.plain slot) heaps_are ∙ named slot heap there;
}
