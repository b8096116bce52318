-- Worked values: which heaps are laid out, a stretch of five, a cut with both rests, and elements by tag, zone and participant.
use Rattle.std.proofs.Common.{◌≡◌, ℕ, ◌^◌, true, false, [], ◌∷◌, Some, None, refl, arith}
use Rattle.hp_base.specs.Class.{class_number}
use Rattle.hp_base.specs.Place.{place_of}
use Rattle.hp_base.specs.Requests.{IsAccepted}
use Rattle.hp_base.specs.declared.row.Run.{Run}
use Rattle.hp_base.specs.declared.tag.Tag.{Tag}
use Rattle.hp_base.specs.declared.chunk.Chunk.{Chunk}
use Rattle.hp_base.specs.declared.span.Span.{Span}
use Rattle.hp_heap.specs.declared.entry.Entry.{Entry}
use Rattle.hp_heap.specs.declared.entry.HeapCall.{HeapCall}
use Rattle.hp_heap.specs.declared.entry.HeapCall.TheVariants as call
use Rattle.hp_heap.specs.declared.entry.HeapAnswer.TheVariants as answer
use Rattle.hp_heap.specs.PlainHeap.{PlainHeap, HeapPage, opening_heap, free_range, busy_range}
use Rattle.hp_heap.specs.Tiling.{IsTiled, range_at}
use Rattle.hp_heap.specs.Lists.{free_list}
use Rattle.hp_base.specs.Flags.{is_fitting_page, is_hint}
use Rattle.hp_heap.specs.Choice.{is_attached, eligible, precedes, chosen}
use Rattle.hp_heap.specs.Placing.{pieces_of, insertions_of, placed, after_alloc}
use Rattle.hp_heap.specs.Joining.{with_stretch, after_insertion, busy_at, after_free, tag_at, busy_ranges, zone_ranges}
use Rattle.hp_heap.specs.Tagged.{HasTaggedAt}
use Rattle.hp_heap.specs.Cut.{cut_at, after_cut}
use Rattle.hp_heap.specs.Growing.{run_pages, after_grow}
use Rattle.hp_heap.specs.Chunks.{chunk_of, after_chunk}
use Rattle.hp_heap.specs.Step.{after, answer_of}
use Rattle.hp_heap.specs.Allowed.{IsAllowed}
use Rattle.hp_heap.specs.History.{entries_of}
use Rattle.hp_heap.proofs.AllocFacts.ChoiceLaw.{Contains-here, Contains-there}
use Rattle.hp_heap.proofs.HistoryFacts.Worked.{heap_after, tag_of, request}

abbrev tag : Tag
tag = record { who = 0; zone = false; number = 2 }

-- a list with pages of two sizes: a free page of 2M, and a busy one of 256K right behind it
abbrev large : HeapPage
large = record { addr = 4294967296; page = 2097152; list = 0; slot = 0; socket = 0 }

abbrev small : HeapPage
small = record { addr = 4297064448; page = 262144; list = 0; slot = 1; socket = 0 }

abbrev mixed_heap : PlainHeap
mixed_heap = record (opening_heap 0 (Some 0)) {
  pages = large ∷ small ∷ [];
  ranges = free_range 4294967296 2097152 0 2097152 1 ∷ busy_range 4297064448 262144 0 262144 0 262016 tag ∷ [];
  insertions = 1;
}

-- it is not tiled
not_tiled : IsTiled mixed_heap → ⊥
not_tiled tiled =
    let alike = tiled.laid.alike large small (Contains-here large (small ∷ [])) (Contains-there large small (small ∷ []) (Contains-here small [])) refl in
    absurd (omega (arith, alike.size))

-- a free element with two free ones on each side is one with all of them, with what the first has besides
stretch_of_five : with_stretch (free_range 512 256 3 4096 9) (free_range 0 256 3 4096 1 ∷ free_range 256 256 3 4096 4 ∷ free_range 768 256 3 4096 2 ∷ free_range 1024 256 3 4096 3 ∷ [])
    ≡ free_range 0 1280 3 4096 9 ∷ []
unfolding with_stretch
stretch_of_five = refl

-- a gap, another list and a busy element end it
stretch_of_three : with_stretch (free_range 512 256 3 4096 9) (free_range 0 192 3 4096 1 ∷ free_range 256 256 3 4096 4 ∷ free_range 768 256 3 4096 2 ∷ free_range 1024 256 4 4096 3 ∷ [])
    ≡ free_range 0 192 3 4096 1 ∷ free_range 256 768 3 4096 9 ∷ free_range 1024 256 4 4096 3 ∷ []
unfolding with_stretch
stretch_of_three = refl

module _ (accepted_1024 : IsAccepted 1024 64 0) (accepted_pages : IsAccepted 4194240 64 0) (accepted_megabyte : IsAccepted 64 (2 ^ 20) 0) (accepted_two_million : IsAccepted 2000000 64 0) where
  abbrev alloc_1024 : ℕ → HeapCall
  alloc_1024 line = call.Alloc (request 1024 64 0 accepted_1024) (tag_of line)

  abbrev run_from : ℕ → ℕ → ℕ → Run
  run_from first count addr = record { list = 0; first = first; count = count; addr = addr; page = 2 ^ 21; socket = 0 }

  abbrev opened : PlainHeap
  opened = opening_heap 0 (Some 0)

  abbrev free_at : ℕ → ℕ → ℕ → Span
  free_at addr whole stamp = free_range addr whole 0 (2 ^ 21) stamp

  abbrev busy_of : ℕ → ℕ → ℕ → ℕ → Span
  busy_of addr whole size line = busy_range addr whole 0 (2 ^ 21) 0 size (tag_of line)

  -- three pages, of which an element between two busy ones was freed
  abbrev freed_between : PlainHeap
  freed_between = heap_after opened (call.Grow (run_from 0 3 0x100000000) ∷ alloc_1024 2 ∷ call.Alloc (request 4194240 64 0 accepted_pages) (tag_of 3) ∷ alloc_1024 4 ∷ call.Free 0x1001ffbc0 false ∷ [])

  -- its cut leaves a rest on both sides: the one behind is inserted first
  cut_with_both_rests : answer_of 0 (call.Cut 0x100300000) freed_between ≡ answer.Pages (record { list = 0; first = 1; count = 1; addr = 0x100200000; page = 2 ^ 21; socket = 0 })
  unfolding after after_grow after_insertion with_stretch after_alloc chosen eligible precedes is_fitting_page is_hint is_attached place_of class_number placed pieces_of insertions_of after_free busy_at answer_of cut_at range_at run_pages
  cut_with_both_rests = refl

  both_rests : (heap_after freed_between (call.Cut 0x100300000 ∷ [])).ranges
      ≡ free_at 0x100000000 2094784 4 ∷ busy_of 0x1001ff6c0 1152 1024 4 ∷ free_at 0x1001ffb40 1216 7 ∷ free_at 0x100400000 2096000 6 ∷ busy_of 0x1005ffb80 1152 1024 2 ∷ []
  unfolding after after_grow after_insertion with_stretch after_alloc chosen eligible precedes is_fitting_page is_hint is_attached place_of class_number placed pieces_of insertions_of after_free busy_at after_cut cut_at range_at run_pages
  both_rests = refl

  -- a page that comes after a free element is one with it, whatever call brought that one
  joined_growth : PlainHeap
  joined_growth = heap_after opened (
      call.Grow (run_from 0 1 0x100000000) ∷ call.Alloc (request 64 (2 ^ 20) 0 accepted_megabyte) (tag_of 2) ∷ call.Grow (run_from 1 1 0x100200000) ∷ call.Alloc (request 2000000 64 0 accepted_two_million) (tag_of 3) ∷ [])

  joined_growth_ranges : joined_growth.ranges
      ≡ free_at 0x100000000 1048448 3 ∷ busy_of 0x1000fff80 192 64 2 ∷ free_at 0x100100040 1145536 5 ∷ busy_of 0x100217b00 2000128 2000000 3 ∷ []
  unfolding joined_growth after after_grow after_insertion with_stretch after_alloc chosen eligible precedes is_fitting_page is_hint is_attached place_of class_number placed pieces_of insertions_of
  joined_growth_ranges = refl

  joined_growth_list : free_list joined_growth.ranges 7 ≡ 0x100100040 ∷ []
  unfolding joined_growth after after_grow after_insertion with_stretch after_alloc chosen eligible precedes is_fitting_page is_hint is_attached place_of class_number placed pieces_of insertions_of
  joined_growth_list = refl

  -- a zone's element is named by its tag, and is among the zones
  abbrev zone_tag : Tag
  zone_tag = record { who = 3; zone = true; number = 5 }

  abbrev with_zone : PlainHeap
  with_zone = heap_after opened (call.Grow (run_from 0 1 0x100000000) ∷ alloc_1024 2 ∷ call.Alloc (request 1024 64 0 accepted_1024) zone_tag ∷ [])

  tag_of_zone : tag_at 0x1001ff780 with_zone ≡ Some zone_tag
  unfolding after after_grow after_insertion with_stretch after_alloc chosen eligible precedes is_fitting_page is_hint is_attached place_of class_number placed pieces_of insertions_of busy_at tag_at
  tag_of_zone = refl

  -- a search by its tag finds it there, whoever asked for it
  tagged_there : HasTaggedAt (record { who = 0; zone = true; number = 5 }) 0x1001ff780 with_zone
  unfolding after after_grow after_insertion with_stretch after_alloc chosen eligible precedes is_fitting_page is_hint is_attached place_of class_number placed pieces_of insertions_of busy_at
  tagged_there = refl

  no_tag_there : tag_at 0x1001ff700 with_zone ≡ None
  unfolding after after_grow after_insertion with_stretch after_alloc chosen eligible precedes is_fitting_page is_hint is_attached place_of class_number placed pieces_of insertions_of busy_at tag_at
  no_tag_there = refl

  zones_are : zone_ranges with_zone ≡ busy_range 0x1001ff700 1152 0 (2 ^ 21) 0 1024 zone_tag ∷ []
  unfolding after after_grow after_insertion with_stretch after_alloc chosen eligible precedes is_fitting_page is_hint is_attached place_of class_number placed pieces_of insertions_of zone_ranges
  zones_are = refl

  busy_are : busy_ranges with_zone ≡ busy_range 0x1001ff700 1152 0 (2 ^ 21) 0 1024 zone_tag ∷ busy_of 0x1001ffb80 1152 1024 2 ∷ []
  unfolding after after_grow after_insertion with_stretch after_alloc chosen eligible precedes is_fitting_page is_hint is_attached place_of class_number placed pieces_of insertions_of busy_ranges
  busy_are = refl

  -- a run that the heap has may not come again
  comes_once : IsAllowed 0 (call.Grow (run_from 0 1 0x100000000)) (heap_after opened (call.Grow (run_from 0 1 0x100000000) ∷ [])) → ⊥
  unfolding after after_grow after_insertion with_stretch run_pages
  comes_once can = absurd (omega (arith, can.fresh 0x100000000 (omega arith) (omega arith)))

-- the chunk of a list, and the entries of a participant
abbrev chunk_of_five : Chunk
chunk_of_five = record { list = 5; addr = 0x7000000000; len = 2 ^ 22; page = 2 ^ 21; socket = 256; attached = 0 }

chunk_is_of_five : chunk_of 5 (heap_after (opening_heap 1 None) (call.Chunk chunk_of_five ∷ [])) ≡ Some chunk_of_five
unfolding after after_chunk chunk_of
chunk_is_of_five = refl

no_chunk_of_six : chunk_of 6 (heap_after (opening_heap 1 None) (call.Chunk chunk_of_five ∷ [])) ≡ None
unfolding after after_chunk chunk_of
no_chunk_of_six = refl

abbrev entry : ℕ → ℕ → Entry
entry participant number = record { caller = record { participant = participant; number = number }; call = call.Stats; answer = answer.Done }

entries_of_two : entries_of 2 (entry 2 1 ∷ entry 0 1 ∷ entry 2 2 ∷ []) ≡ entry 2 1 ∷ entry 2 2 ∷ []
unfolding entries_of
entries_of_two = refl
