-- Worked values: what the steps of a heap make of known heaps.
use Rattle.std.proofs.Common.{◌≡◌, ℕ, true, ◌^◌, false, List, [], ◌∷◌, Some, None, refl}
use Rattle.std.specs.Fmt.{digits}
use Rattle.hp_base.specs.Class.{class_number}
use Rattle.hp_base.specs.Place.{place_of}
use Rattle.hp_base.specs.Requests.{IsAccepted}
use Rattle.hp_base.specs.declared.request.Request.{Request}
use Rattle.hp_base.specs.declared.row.Run.{Run}
use Rattle.hp_base.specs.declared.tag.Tag.{Tag}
use Rattle.hp_base.specs.declared.chunk.Chunk.{Chunk}
use Rattle.hp_base.specs.declared.span.Span.{Span}
use Rattle.hp_heap.specs.declared.entry.HeapCall.{HeapCall}
use Rattle.hp_heap.specs.declared.entry.HeapCall.TheVariants as call
use Rattle.hp_heap.specs.declared.entry.HeapAnswer.TheVariants as answer
use Rattle.hp_heap.specs.PlainHeap.{PlainHeap, opening_heap, socket_name, free_range, busy_range}
use Rattle.hp_heap.specs.Tiling.{range_at}
use Rattle.hp_heap.specs.Lists.{free_list}
use Rattle.hp_base.specs.Flags.{is_fitting_page, is_hint}
use Rattle.hp_heap.specs.Choice.{is_attached, eligible, precedes, chosen}
use Rattle.hp_heap.specs.Placing.{pieces_of, insertions_of, placed, allocated, after_alloc}
use Rattle.hp_heap.specs.Joining.{with_stretch, after_insertion, busy_at, after_free}
use Rattle.hp_heap.specs.Resizing.{after_resize, can_resize}
use Rattle.hp_heap.specs.Cut.{cut_at, after_cut}
use Rattle.hp_heap.specs.Growing.{run_pages, after_grow}
use Rattle.hp_heap.specs.Chunks.{after_chunk, after_unchunk, chunk_at, after_share, after_unshare}
use Rattle.hp_heap.specs.Statistics.{statistics_of}
use Rattle.hp_heap.specs.Step.{after, answer_of, after_name, found}

-- the heap after calls of participant 0, and what the last of them answers
abbrev pub heap_after : PlainHeap → List HeapCall → PlainHeap
heap_after heap [] = heap
heap_after heap (first ∷ calls) = heap_after (after 0 first heap) calls

abbrev pub tag_of : ℕ → Tag
tag_of line = record { who = 0; zone = false; number = line }

abbrev pub request : (size align bound : ℕ) → IsAccepted size align bound → Request
request size align bound accepted = record { size = size; align = align; bound = bound; flags = 0; accepted = accepted }

-- a heap opens with its socket's name
opening_name_of_seven : (opening_heap 3 (Some 7)).name ≡ Some (115 ∷ 111 ∷ 99 ∷ 107 ∷ 101 ∷ 116 ∷ 95 ∷ 55 ∷ [])
unfolding socket_name digits
opening_name_of_seven = refl

-- requests of these numbers, with what makes them accepted
module _ (accepted_1024 : IsAccepted 1024 64 0) (accepted_bounded : IsAccepted 1024 64 1024) (accepted_64 : IsAccepted 64 64 0)
    (accepted_megabyte : IsAccepted 64 (2 ^ 20) 0) (accepted_page : IsAccepted 2096960 64 0) (accepted_pages : IsAccepted 4194240 64 0)
    (accepted_256 : IsAccepted 64 256 0) (accepted_before : IsAccepted 2096832 64 0) where
  -- allocations of 1,024 bytes, the same in one block of 1,024, and others
  abbrev alloc_1024 : ℕ → HeapCall
  alloc_1024 line = call.Alloc (request 1024 64 0 accepted_1024) (tag_of line)

  abbrev alloc_bounded : ℕ → HeapCall
  alloc_bounded line = call.Alloc (request 1024 64 1024 accepted_bounded) (tag_of line)

  abbrev alloc_64 : ℕ → HeapCall
  alloc_64 line = call.Alloc (request 64 64 0 accepted_64) (tag_of line)

  abbrev alloc_megabyte : ℕ → HeapCall
  alloc_megabyte line = call.Alloc (request 64 (2 ^ 20) 0 accepted_megabyte) (tag_of line)

  abbrev alloc_page : ℕ → HeapCall
  alloc_page line = call.Alloc (request 2096960 64 0 accepted_page) (tag_of line)

  abbrev alloc_pages : ℕ → HeapCall
  alloc_pages line = call.Alloc (request 4194240 64 0 accepted_pages) (tag_of line)

  -- a run of 2M pages of list 0 from slot 0 on
  abbrev run_of_pages : ℕ → Run
  run_of_pages count = record { list = 0; first = 0; count = count; addr = 0x100000000; page = 2 ^ 21; socket = 0 }

  -- the heap of socket 0 with such a run
  abbrev grown : ℕ → PlainHeap
  grown count = heap_after (opening_heap 0 (Some 0)) (call.Grow (run_of_pages count) ∷ [])

  abbrev free_at : ℕ → ℕ → ℕ → Span
  free_at addr whole stamp = free_range addr whole 0 (2 ^ 21) stamp

  abbrev busy_of : ℕ → ℕ → ℕ → ℕ → ℕ → Span
  busy_of addr whole pad size line = busy_range addr whole 0 (2 ^ 21) pad size (tag_of line)

  -- a run of one page is one free element
  grown_ranges : (grown 1).ranges ≡ free_at 0x100000000 2097152 1 ∷ []
  unfolding after after_grow after_insertion with_stretch
  grown_ranges = refl

  grown_pages : (grown 1).pages ≡ record { addr = 0x100000000; page = 2 ^ 21; list = 0; slot = 0; socket = 0 } ∷ []
  unfolding after after_grow after_insertion with_stretch run_pages
  grown_pages = refl

  -- one allocation of 1,000 bytes in a page: at its end, the rest before it stays free
  one_allocation : answer_of 0 (alloc_1024 2) (grown 1) ≡ answer.Address 0x1001ffc00
  unfolding after after_grow after_insertion with_stretch answer_of allocated chosen eligible precedes is_fitting_page is_hint is_attached place_of class_number
  one_allocation = refl

  after_one_allocation : (heap_after (grown 1) (alloc_1024 2 ∷ [])).ranges ≡ free_at 0x100000000 2096000 2 ∷ busy_of 0x1001ffb80 1152 0 1024 2 ∷ []
  unfolding after after_grow after_insertion with_stretch after_alloc chosen eligible precedes is_fitting_page is_hint is_attached place_of class_number placed pieces_of insertions_of
  after_one_allocation = refl

  -- an allocation that leaves 64 bytes before its header takes them as its pad
  padded_allocation : (heap_after (grown 1) (alloc_page 2 ∷ [])).ranges ≡ busy_of 0x100000000 2097152 64 2096960 2 ∷ []
  unfolding after after_grow after_insertion with_stretch after_alloc chosen eligible precedes is_fitting_page is_hint is_attached place_of class_number placed pieces_of insertions_of
  padded_allocation = refl

  -- freed again, the whole page is free
  padded_and_freed : (heap_after (grown 1) (alloc_page 2 ∷ call.Free 0x1000000c0 false ∷ [])).ranges ≡ free_at 0x100000000 2097152 2 ∷ []
  unfolding after after_grow after_insertion with_stretch after_alloc chosen eligible precedes is_fitting_page is_hint is_attached place_of class_number placed pieces_of insertions_of after_free busy_at
  padded_and_freed = refl

  -- an alignment of a megabyte leaves a rest behind and one before, of one class; the one before was inserted last
  two_rests : (heap_after (grown 1) (alloc_megabyte 2 ∷ [])).ranges ≡ free_at 0x100000000 1048448 3 ∷ busy_of 0x1000fff80 192 0 64 2 ∷ free_at 0x100100040 1048512 2 ∷ []
  unfolding after after_grow after_insertion with_stretch after_alloc chosen eligible precedes is_fitting_page is_hint is_attached place_of class_number placed pieces_of insertions_of
  two_rests = refl

  two_rests_listed : free_list (heap_after (grown 1) (alloc_megabyte 2 ∷ [])).ranges 6 ≡ 0x100000000 ∷ 0x100100040 ∷ []
  unfolding after after_grow after_insertion with_stretch after_alloc chosen eligible precedes is_fitting_page is_hint is_attached place_of class_number placed pieces_of insertions_of
  two_rests_listed = refl

  newest_of_two_rests : answer_of 0 (alloc_64 3) (heap_after (grown 1) (alloc_megabyte 2 ∷ [])) ≡ answer.Address 0x1000fff40
  unfolding after after_grow after_insertion with_stretch after_alloc chosen eligible precedes is_fitting_page is_hint is_attached place_of class_number placed pieces_of insertions_of answer_of allocated
  newest_of_two_rests = refl

  -- of two free elements of one class the one that was freed last is taken
  abbrev five_of_which_two_freed : PlainHeap
  five_of_which_two_freed = heap_after (grown 1) (alloc_1024 2 ∷ alloc_1024 3 ∷ alloc_1024 4 ∷ alloc_1024 5 ∷ alloc_1024 6 ∷ call.Free 0x1001ff780 false ∷ call.Free 0x1001fee80 false ∷ [])

  freed_last_is_taken : answer_of 0 (alloc_1024 9) five_of_which_two_freed ≡ answer.Address 0x1001fee80
  unfolding after after_grow after_insertion with_stretch after_alloc chosen eligible precedes is_fitting_page is_hint is_attached place_of class_number placed pieces_of insertions_of answer_of allocated after_free busy_at
  freed_last_is_taken = refl

  -- in blocks of 1,024 bytes
  bounded_allocations : (heap_after (grown 1) (alloc_bounded 2 ∷ alloc_bounded 3 ∷ [])).ranges
      ≡ free_at 0x100000000 2093952 4 ∷ busy_of 0x1001ff380 1152 0 1024 3 ∷ free_at 0x1001ff800 896 3 ∷ busy_of 0x1001ffb80 1152 0 1024 2 ∷ []
  unfolding after after_grow after_insertion with_stretch after_alloc chosen eligible precedes is_fitting_page is_hint is_attached place_of class_number placed pieces_of insertions_of
  bounded_allocations = refl

  -- a resize takes the free element behind, and leaves a rest of at least 192 bytes of it
  abbrev one_freed : PlainHeap
  one_freed = heap_after (grown 1) (alloc_1024 2 ∷ alloc_1024 3 ∷ call.Free 0x1001ffc00 false ∷ [])

  abbrev resized_to : ℕ → HeapCall
  resized_to size = call.Resize 0x1001ff780 size

  resized_once : (heap_after one_freed (resized_to 1536 ∷ [])).ranges ≡ free_at 0x100000000 2094848 3 ∷ busy_of 0x1001ff700 1664 0 1536 3 ∷ free_at 0x1001ffd80 640 5 ∷ []
  unfolding after after_grow after_insertion with_stretch after_alloc chosen eligible precedes is_fitting_page is_hint is_attached place_of class_number placed pieces_of insertions_of after_free busy_at after_resize
  resized_once = refl

  resized_twice : (heap_after one_freed (resized_to 1536 ∷ resized_to 1856 ∷ [])).ranges ≡ free_at 0x100000000 2094848 3 ∷ busy_of 0x1001ff700 1984 0 1856 3 ∷ free_at 0x1001ffec0 320 6 ∷ []
  unfolding after after_grow after_insertion with_stretch after_alloc chosen eligible precedes is_fitting_page is_hint is_attached place_of class_number placed pieces_of insertions_of after_free busy_at after_resize
  resized_twice = refl

  abbrev resized_wholly : PlainHeap
  resized_wholly = heap_after one_freed (resized_to 1536 ∷ resized_to 1856 ∷ resized_to 2112 ∷ resized_to 2176 ∷ [])

  resized_wholly_ranges : resized_wholly.ranges ≡ free_at 0x100000000 2094848 3 ∷ busy_of 0x1001ff700 2304 0 2176 3 ∷ []
  unfolding after after_grow after_insertion with_stretch after_alloc chosen eligible precedes is_fitting_page is_hint is_attached place_of class_number placed pieces_of insertions_of after_free busy_at after_resize
  resized_wholly_ranges = refl

  refused_size : answer_of 0 (resized_to 2240) resized_wholly ≡ answer.No
  unfolding after after_grow after_insertion with_stretch after_alloc chosen eligible precedes is_fitting_page is_hint is_attached place_of class_number placed pieces_of insertions_of after_free busy_at after_resize can_resize answer_of
  refused_size = refl

  -- of three pages the middle one stays where 64 bytes would be left before it
  abbrev three_pages_freed : PlainHeap
  three_pages_freed = heap_after (grown 3) (alloc_pages 2 ∷ alloc_page 3 ∷ call.Free 0x100200040 false ∷ [])

  cut_page : answer_of 0 (call.Cut 0x100200040) three_pages_freed ≡ answer.Pages (record { list = 0; first = 2; count = 1; addr = 0x100400000; page = 2 ^ 21; socket = 0 })
  unfolding after after_grow after_insertion with_stretch after_alloc chosen eligible precedes is_fitting_page is_hint is_attached place_of class_number placed pieces_of insertions_of after_free busy_at answer_of cut_at range_at run_pages
  cut_page = refl

  after_cut_page : (heap_after three_pages_freed (call.Cut 0x100200040 ∷ [])).ranges ≡ busy_of 0x100000000 2097088 0 2096960 3 ∷ free_at 0x1001fffc0 2097216 4 ∷ []
  unfolding after after_grow after_insertion with_stretch after_alloc chosen eligible precedes is_fitting_page is_hint is_attached place_of class_number placed pieces_of insertions_of after_free busy_at after_cut cut_at range_at run_pages
  after_cut_page = refl

  -- external memory: only a participant that has attached a chunk is given elements of it
  abbrev chunk_of_4M : Chunk
  chunk_of_4M = record { list = 5; addr = 0x7000000000; len = 2 ^ 22; page = 2 ^ 21; socket = 256; attached = 0 }

  abbrev external_heap : PlainHeap
  external_heap = heap_after (opening_heap 1 None) (call.Name (101 ∷ 120 ∷ 116 ∷ []) 256 ∷ call.Chunk chunk_of_4M ∷ call.Share 0x7000000000 (2 ^ 22) ∷ [])

  attached_chunk : answer_of 0 (alloc_1024 9) external_heap ≡ answer.Address 0x70003ffc00
  unfolding after after_name after_chunk after_share answer_of allocated chosen eligible precedes is_fitting_page is_hint is_attached place_of class_number
  attached_chunk = refl

  other_participant : answer_of 1 (alloc_1024 10) external_heap ≡ answer.Nothing
  unfolding after after_name after_chunk after_share answer_of allocated chosen eligible precedes is_fitting_page is_hint is_attached place_of class_number
  other_participant = refl

  chunk_gone : (heap_after external_heap (call.Unshare 0x7000000000 (2 ^ 22) ∷ call.Unchunk 0x7000000000 (2 ^ 22) ∷ [])).ranges ≡ []
  unfolding after after_name after_chunk after_share after_unshare after_unchunk chunk_at
  chunk_gone = refl

  -- the statistics of one allocation in a page
  statistics_of_one : statistics_of (heap_after (grown 1) (alloc_1024 2 ∷ [])) ≡ record { total = 2097152; free = 2096000; used = 1152; greatest = 2096000; busy = 1; frees = 1 }
  unfolding after after_grow after_insertion with_stretch after_alloc chosen eligible precedes is_fitting_page is_hint is_attached place_of class_number placed pieces_of insertions_of statistics_of
  statistics_of_one = refl

  -- with flags
  abbrev alloc_with : ℕ → ℕ → HeapCall
  alloc_with flags line = call.Alloc (record { size = 1024; align = 64; bound = 0; flags = flags; accepted = accepted_1024 }) (tag_of line)

  -- a second list, with a page of 256K, right behind the first
  abbrev second_run : Run
  second_run = record { list = 1; first = 0; count = 1; addr = 0x100200000; page = 2 ^ 18; socket = 0 }

  abbrev two_lists : PlainHeap
  two_lists = heap_after (grown 1) (call.Grow second_run ∷ alloc_with 0x1 3 ∷ alloc_with 0x1 4 ∷ alloc_with 0x10000 5 ∷ call.Free 0x1001ffc00 false ∷ [])

  -- elements of two lists that touch stay two
  two_lists_stay_apart : two_lists.ranges ≡ free_at 0x100000000 2094848 4 ∷ busy_of 0x1001ff700 1152 0 1024 4 ∷ free_at 0x1001ffb80 1152 6
      ∷ free_range 0x100200000 260992 1 (2 ^ 18) 5 ∷ busy_range 0x10023fb80 1152 1 (2 ^ 18) 0 1024 (tag_of 5) ∷ []
  unfolding after after_grow after_insertion with_stretch after_alloc chosen eligible precedes is_fitting_page is_hint is_attached place_of class_number placed pieces_of insertions_of after_free busy_at
  two_lists_stay_apart = refl

  statistics_of_two_lists : statistics_of two_lists ≡ record { total = 2359296; free = 2356992; used = 2304; greatest = 2094848; busy = 2; frees = 3 }
  unfolding after after_grow after_insertion with_stretch after_alloc chosen eligible precedes is_fitting_page is_hint is_attached place_of class_number placed pieces_of insertions_of after_free busy_at statistics_of
  statistics_of_two_lists = refl

  -- a page size that no page has: nothing, but by the hint
  no_such_page : answer_of 0 (alloc_with 0x10000 2) (grown 1) ≡ answer.Nothing
  unfolding after after_grow after_insertion with_stretch answer_of allocated chosen eligible precedes is_fitting_page is_hint is_attached place_of class_number
  no_such_page = refl

  no_such_page_by_hint : answer_of 0 (alloc_with 0x10004 2) (grown 1) ≡ answer.Address 0x1001ffc00
  unfolding after after_grow after_insertion with_stretch answer_of allocated chosen eligible precedes is_fitting_page is_hint is_attached place_of class_number
  no_such_page_by_hint = refl

  -- the hint yields to a page that fits
  fitting_before_hint : answer_of 0 (alloc_with 0x10004 3) (heap_after (grown 1) (call.Grow second_run ∷ [])) ≡ answer.Address 0x10023fc00
  unfolding after after_grow after_insertion with_stretch answer_of allocated chosen eligible precedes is_fitting_page is_hint is_attached place_of class_number
  fitting_before_hint = refl

  -- a page of another size than the hugepages fits no flag, and comes by the hint alone
  small_pages : PlainHeap
  small_pages = heap_after (opening_heap 1 None) (call.Chunk (record { list = 5; addr = 0x7000000000; len = 2 ^ 22; page = 4096; socket = 256; attached = 0 }) ∷ call.Share 0x7000000000 (2 ^ 22) ∷ [])

  no_hugepage : answer_of 0 (alloc_with 0x1 2) small_pages ≡ answer.Nothing
  unfolding small_pages after after_chunk after_share answer_of allocated chosen eligible precedes is_fitting_page is_hint is_attached place_of class_number
  no_hugepage = refl

  no_hugepage_by_hint : answer_of 0 (alloc_with 0x5 2) small_pages ≡ answer.Address 0x70003ffc00
  unfolding small_pages after after_chunk after_share answer_of allocated chosen eligible precedes is_fitting_page is_hint is_attached place_of class_number
  no_hugepage_by_hint = refl

  -- exactly 192 bytes: behind the data they stay in the busy element, before the header they are an element
  rest_of_192_behind : (heap_after (grown 1) (call.Alloc (request 64 256 0 accepted_256) (tag_of 2) ∷ [])).ranges ≡ free_at 0x100000000 2096768 2 ∷ busy_of 0x1001ffe80 384 0 64 2 ∷ []
  unfolding after after_grow after_insertion with_stretch after_alloc chosen eligible precedes is_fitting_page is_hint is_attached place_of class_number placed pieces_of insertions_of
  rest_of_192_behind = refl

  rest_of_192_before : (heap_after (grown 1) (call.Alloc (request 2096832 64 0 accepted_before) (tag_of 2) ∷ [])).ranges ≡ free_at 0x100000000 192 2 ∷ busy_of 0x1000000c0 2096960 0 2096832 2 ∷ []
  unfolding after after_grow after_insertion with_stretch after_alloc chosen eligible precedes is_fitting_page is_hint is_attached place_of class_number placed pieces_of insertions_of
  rest_of_192_before = refl

  -- and behind a resize they are an element
  rest_of_192_resized : (heap_after one_freed (resized_to 1984 ∷ [])).ranges ≡ free_at 0x100000000 2094848 3 ∷ busy_of 0x1001ff700 2112 0 1984 3 ∷ free_at 0x1001fff40 192 5 ∷ []
  unfolding after after_grow after_insertion with_stretch after_alloc chosen eligible precedes is_fitting_page is_hint is_attached place_of class_number placed pieces_of insertions_of after_free busy_at after_resize
  rest_of_192_resized = refl

  -- of three pages the second stays where 64 bytes would be left after the cut
  abbrev free_up_to_64 : PlainHeap
  free_up_to_64 = heap_after (grown 3) (alloc_page 2 ∷ [])

  cut_before_a_rest : answer_of 0 (call.Cut 0x100000000) free_up_to_64 ≡ answer.Pages (record { list = 0; first = 0; count = 1; addr = 0x100000000; page = 2 ^ 21; socket = 0 })
  unfolding after after_grow after_insertion with_stretch after_alloc chosen eligible precedes is_fitting_page is_hint is_attached place_of class_number placed pieces_of insertions_of answer_of cut_at range_at run_pages
  cut_before_a_rest = refl

  after_cut_before_a_rest : (heap_after free_up_to_64 (call.Cut 0x100000000 ∷ [])).ranges ≡ free_at 0x100200000 2097216 3 ∷ busy_of 0x100400040 2097088 0 2096960 2 ∷ []
  unfolding after after_grow after_insertion with_stretch after_alloc chosen eligible precedes is_fitting_page is_hint is_attached place_of class_number placed pieces_of insertions_of after_cut cut_at range_at run_pages
  after_cut_before_a_rest = refl

  -- a memzone's element is freed by the call for memzones alone
  abbrev one_zone : PlainHeap
  one_zone = heap_after (grown 1) (call.Alloc (request 1024 64 0 accepted_1024) (record { who = 0; zone = true; number = 2 }) ∷ [])

  zone_refused : answer_of 0 (call.Free 0x1001ffc00 false) one_zone ≡ answer.IsZone
  unfolding after after_grow after_insertion with_stretch after_alloc chosen eligible precedes is_fitting_page is_hint is_attached place_of class_number placed pieces_of insertions_of answer_of busy_at
  zone_refused = refl

  zone_freed : (heap_after one_zone (call.Free 0x1001ffc00 true ∷ [])).ranges ≡ free_at 0x100000000 2097152 3 ∷ []
  unfolding after after_grow after_insertion with_stretch after_alloc chosen eligible precedes is_fitting_page is_hint is_attached place_of class_number placed pieces_of insertions_of after_free busy_at
  zone_freed = refl

  zone_found : answer_of 0 (call.Find (record { who = 3; zone = true; number = 2 })) one_zone ≡ answer.Address 0x1001ffc00
  unfolding after after_grow after_insertion with_stretch after_alloc chosen eligible precedes is_fitting_page is_hint is_attached place_of class_number placed pieces_of insertions_of answer_of found
  zone_found = refl
