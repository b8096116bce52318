-- Worked values: the heap of a program with a pool of objects and a ring, which another program shares for its table; and a growth that a
-- validator allows.
use Rattle.std.proofs.Common.{◌≡◌, refl, ℕ, ◌+◌, ◌*◌, ◌^◌, Bool, true, false, List, [], ◌∷◌, Some, None}
use Rattle.std.specs.Prelude.{codes}
use Rattle.hp_base.specs.Class.{class_number}
use Rattle.hp_base.specs.Flags.{is_fitting_page, is_hint}
use Rattle.hp_base.specs.Place.{place_of}
use Rattle.hp_base.specs.Requests.{IsAccepted}
use Rattle.hp_base.specs.declared.request.Request.{Request}
use Rattle.hp_base.specs.declared.row.Run.{Run}
use Rattle.hp_base.specs.declared.tag.Tag.{Tag}
use Rattle.hp_heap.specs.Choice.{chosen, eligible, is_attached, precedes}
use Rattle.hp_heap.specs.Growing.{after_grow}
use Rattle.hp_heap.specs.Joining.{after_insertion, with_stretch}
use Rattle.hp_heap.specs.Placing.{after_alloc, allocated, insertions_of, pieces_of, placed}
use Rattle.hp_heap.specs.PlainHeap.{PlainHeap, opening_heap}
use Rattle.hp_heap.specs.Statistics.{statistics_of}
use Rattle.hp_heap.specs.Step.{after, answer_of}
use Rattle.hp_heap.specs.declared.entry.HeapAnswer.TheVariants as gives
use Rattle.hp_heap.specs.declared.entry.HeapCall.{HeapCall}
use Rattle.hp_heap.specs.declared.entry.HeapCall.TheVariants as call
use Rattle.hp_script.specs.declared.answer.Answer.TheVariants as answer
use Rattle.hp_script.specs.declared.line.Act.TheVariants as act
use Rattle.hp_script.specs.declared.line.Line.{Line}
use Rattle.hp_script.specs.declared.options.SocketChoice.TheVariants as choose
use Rattle.hp_proc.specs.LineTrees.{doing_of}
use Rattle.hp_proc.specs.Lines.{Facts}
use Rattle.hp_proc.specs.Doing.{Doing, Goes, Leads}
use Rattle.hp_proc.specs.Doing.Done.{Asked, Called}
use Rattle.hp_proc.proofs.WorkedLines.WorkedWatching.{cap, part}

abbrev tag_of : ℕ → Bool → ℕ → Tag
tag_of who zone line = record { who = who; zone = zone; number = line }

-- so many pages of 2M from a slot on, and the heap of socket 0 before any call
abbrev pub run : ℕ → ℕ → Run
run first count = record { list = 0; first = first; count = count; addr = 2 ^ 32 + first * 2 ^ 21; page = 2 ^ 21; socket = 0 }

abbrev opened : PlainHeap
opened = opening_heap 0 (Some 0)

-- a heap after calls of participant 0
abbrev heap_after : PlainHeap → List HeapCall → PlainHeap
heap_after heap [] = heap
heap_after heap (first ∷ calls) = heap_after (after 0 first heap) calls

abbrev pub request : (size align : ℕ) → IsAccepted size align 0 → Request
request size align accepted = record { size = size; align = align; bound = 0; flags = 0; accepted = accepted }

-- the pool takes nine pages, the ring a tenth one, in which the table of another participant has a place too
module _ (of_pool : IsAccepted 18872064 64 0) (of_ring : IsAccepted 65920 64 0) (of_table : IsAccepted 1048576 4096 0) where
  abbrev pub pool : HeapCall
  pool = call.Alloc (request 18872064 64 of_pool) (tag_of 0 true 4)

  abbrev pub ring : HeapCall
  ring = call.Alloc (request 65920 64 of_ring) (tag_of 0 true 5)

  abbrev pub table : HeapCall
  table = call.Alloc (request 1048576 4096 of_table) (tag_of 2 false 9)

  abbrev with_pool : PlainHeap
  with_pool = heap_after opened (call.Grow (run 0 9) ∷ pool ∷ [])

  abbrev with_ring : PlainHeap
  with_ring = heap_after with_pool (call.Grow (run 9 1) ∷ ring ∷ [])

  no_place_for_pool : answer_of 0 pool opened ≡ gives.Nothing
  unfolding after after_grow after_insertion with_stretch after_alloc chosen eligible precedes is_fitting_page is_hint is_attached place_of class_number placed pieces_of insertions_of answer_of allocated
  no_place_for_pool = refl

  a_pool : answer_of 0 pool (heap_after opened (call.Grow (run 0 9) ∷ [])) ≡ gives.Address 0x100000900
  unfolding after after_grow after_insertion with_stretch after_alloc chosen eligible precedes is_fitting_page is_hint is_attached place_of class_number placed pieces_of insertions_of answer_of allocated
  a_pool = refl

  no_place_for_ring : answer_of 0 ring with_pool ≡ gives.Nothing
  unfolding after after_grow after_insertion with_stretch after_alloc chosen eligible precedes is_fitting_page is_hint is_attached place_of class_number placed pieces_of insertions_of answer_of allocated
  no_place_for_ring = refl

  a_ring : answer_of 0 ring (heap_after with_pool (call.Grow (run 9 1) ∷ [])) ≡ gives.Address 0x1013efe80
  unfolding after after_grow after_insertion with_stretch after_alloc chosen eligible precedes is_fitting_page is_hint is_attached place_of class_number placed pieces_of insertions_of answer_of allocated
  a_ring = refl

  a_table : answer_of 2 table with_ring ≡ gives.Address 0x1012ef000
  unfolding after after_grow after_insertion with_stretch after_alloc chosen eligible precedes is_fitting_page is_hint is_attached place_of class_number placed pieces_of insertions_of answer_of allocated
  a_table = refl

  -- what is left of the heap: three busy elements and three free ones
  three_in_ten_pages : statistics_of (after 2 table with_ring)
      ≡ record { total = 20971520; free = 984576; used = 19986944; greatest = 978816; busy = 3; frees = 3 }
  unfolding statistics_of after after_grow after_insertion with_stretch after_alloc chosen eligible precedes is_fitting_page is_hint is_attached place_of class_number placed pieces_of insertions_of answer_of allocated
  three_in_ten_pages = refl

-- two elements of 2,000,000 bytes, each of which takes a page of its own, where a validator with the limit of one page allows the second
abbrev second_line : Line
second_line = record {
  line = 4;
  participant = 0;
  act = act.Alloc (part (codes "b")) 2000000 (record { socket = choose.Any; heap = None; align = 0; bound = 0; flags = 0 });
}

abbrev facts : Request → Facts
facts request = record {
  attached = true;
  own_socket = 0;
  pools = record { socket = 0; page = 2 ^ 21; pages = 4; slots = 4 } ∷ [];
  request = Some request;
  maker = None;
  own_heap = None;
  watchers = [];
  validators = cap true ∷ [];
  chunks = [];
}

module _ (accepted : IsAccepted 2000000 64 0) where
  abbrev pub large : ℕ → HeapCall
  large line = call.Alloc (request 2000000 64 accepted) (tag_of 0 false line)

  abbrev with_first : PlainHeap
  with_first = heap_after opened (call.Grow (run 0 1) ∷ large 3 ∷ [])

  the_first : answer_of 0 (large 3) (heap_after opened (call.Grow (run 0 1) ∷ [])) ≡ gives.Address 0x100017b80
  unfolding after after_grow after_insertion with_stretch after_alloc chosen eligible precedes is_fitting_page is_hint is_attached place_of class_number placed pieces_of insertions_of answer_of allocated
  the_first = refl

  no_place_beside_it : answer_of 0 (large 4) with_first ≡ gives.Nothing
  unfolding after after_grow after_insertion with_stretch after_alloc chosen eligible precedes is_fitting_page is_hint is_attached place_of class_number placed pieces_of insertions_of answer_of allocated
  no_place_beside_it = refl

  the_second : answer_of 0 (large 4) (heap_after with_first (call.Grow (run 1 1) ∷ [])) ≡ gives.Address 0x100217b80
  unfolding after after_grow after_insertion with_stretch after_alloc chosen eligible precedes is_fitting_page is_hint is_attached place_of class_number placed pieces_of insertions_of answer_of allocated
  the_second = refl

  an_allowed_growth : Leads (doing_of second_line second_line.act (facts (request 2000000 64 accepted)))
      (Called 0 (large 4) gives.Nothing
      ∷ Asked (record { heap = 0; socket = 0; page = 2 ^ 21; request = request 2000000 64 accepted }) (Some (run 1 1))
      ∷ Called 0 (call.Grow (run 1 1)) gives.Done ∷ Called 0 (large 4) (gives.Address 0x100217b80) ∷ [])
      (Doing.Ended (answer.Address 0x100217b80))
  unfolding Goes Leads doing_of is_hint
  an_allowed_growth = (gives.Nothing, refl, (Some (run 1 1), refl, (gives.Done, refl, (gives.Address 0x100217b80, refl, refl))))
