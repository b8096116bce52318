-- What a board opens with: the rule "Opening and closing" of docs/BOARD.md.
use Rattle.std.specs.Prelude.{◌≡◌, ℕ, List, [], Option, Some, None, length, map}
use Rattle.std.specs.List.{slice_get}
use Rattle.std.specs.Option.{option_map}
use Rattle.hp_base.specs.declared.limits.TheConstants.{MAX_HEAPS}
use Rattle.hp_heap.specs.History.{HeapView}
use Rattle.hp_segs.specs.LaterSteps.{armed_ask}
use Rattle.hp_segs.specs.SegsView.{SegsView}
use Rattle.hp_zone.specs.Directory.{PlainDirectory, heap_at}
use Rattle.hp_zone.specs.declared.heap_name.HeapName.{HeapName}
use Rattle.hp_zone.specs.declared.names.Names.{Names as NamesView}
use Rattle.hp_stats.specs.StatViews.{PenView, new_pen}
use Rattle.atomic_table.specs.Seated.{TableId}
use Rattle.hp_board.specs.Agreement.{IsDeclaredRoster}

-- the socket whose pages a heap takes, or none
abbrev pub serves_of : HeapView → Option ℕ
serves_of heap = heap.plain.serves

-- the heaps of a board before its first step: one for each slot, each with its place for index, and without an entry
pub record AreOpeningHeaps (heaps : List HeapView) : Type 0 where
  pub count : length heaps ≡ MAX_HEAPS
  pub index : (slot : ℕ) (heap : HeapView) → slice_get heaps slot ≡ Some heap → heap.plain.index ≡ slot
  pub empty : (slot : ℕ) (heap : HeapView) → slice_get heaps slot ≡ Some heap → heap.history ≡ []

-- the pens of a board before its first step: one for each heap, in order, each that of its cell, and by none was anything published
pub record AreOpeningPens (cells : List TableId) (pens : List PenView) : Type 0 where
  pub count : length cells ≡ MAX_HEAPS
  pub unused : pens ≡ map new_pen cells

-- the name of a heap and its socket number, where it has a name
abbrev pub name_of : HeapView → Option HeapName
name_of heap = option_map (λ name. record { name = name; socket = heap.plain.socket }) heap.plain.name

-- a directory has the name and the socket number of the heap of an index, or none where that has none
abbrev pub IsNamedIn : PlainDirectory → ℕ → HeapView → Type 0
IsNamedIn plain index heap = heap_at plain index ≡ name_of heap

-- it has exactly those of the heaps that have one
abbrev pub HasNamesOf : PlainDirectory → List HeapView → Type 0
HasNamesOf plain heaps = (slot : ℕ) (heap : HeapView) → slice_get heaps slot ≡ Some heap → IsNamedIn plain slot heap

-- the names of a board before its first step: nothing of them has changed, so that there is no memzone, no name of an external heap and no
-- range; and the directory has exactly the names and the socket numbers of the heaps that have one
pub record AreOpeningNames (heaps : List HeapView) (names : NamesView) : Type 0 where
  pub zones : names.zones.log ≡ []
  pub changes : names.heaps.log ≡ []
  pub named : HasNamesOf names.heaps.plain heaps

-- the segment value of a board before its first step: it has no record, no outcome and no list for external memory, nobody is armed, and
-- its roster names participants of the board alone
pub record AreOpeningSegs (participants : ℕ) (segs : SegsView) : Type 0 where
  pub log : segs.log ≡ []
  pub asks : segs.asks ≡ []
  pub ranges : segs.ranges ≡ []
  pub armed : (who : ℕ) → armed_ask segs who ≡ None
  pub roster : IsDeclaredRoster participants segs
