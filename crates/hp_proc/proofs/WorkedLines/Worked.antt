-- Worked values: what lines do, and what they leave in histories and in the log.
use Rattle.std.proofs.Common.{◌≡◌, refl, ℕ, ◌^◌, true, false, List, [], ◌∷◌, Option, Some, None}
use Rattle.std.specs.List.{list_any}
use Rattle.hp_base.specs.Requests.{IsAccepted}
use Rattle.hp_base.specs.declared.pool_line.PoolLine.{PoolLine}
use Rattle.hp_base.specs.declared.request.Request.{Request}
use Rattle.hp_base.specs.declared.row.Run.{Run}
use Rattle.hp_base.specs.declared.tag.Tag.{Tag}
use Rattle.hp_base.specs.Flags as flags
use Rattle.hp_heap.specs.declared.entry.HeapCall.TheVariants as call
use Rattle.hp_heap.specs.declared.entry.HeapAnswer.TheVariants as gives
use Rattle.hp_log.specs.declared.log_record.LogRecord.TheVariants.{Add, Drop}
use Rattle.hp_script.specs.declared.answer.Answer.TheVariants as answer
use Rattle.hp_script.specs.declared.line.Act.TheVariants as act
use Rattle.hp_script.specs.declared.options.SocketChoice.TheVariants as choose
use Rattle.hp_segs.specs.declared.outcome.AskLog.{AskLog}
use Rattle.hp_segs.specs.declared.outcome.Outcome.TheVariants.{Granted}
use Rattle.hp_proc.specs.Doing.{Doing, Done, Goes, Leads}
use Rattle.hp_serve.specs.declared.pages_asked.PagesAsked.{PagesAsked}
use Rattle.hp_proc.specs.Doing.Done.{Called, Asked, GaveUp}
use Rattle.hp_proc.specs.Heaps.{NamedHeap, heaps_for, own_first, page_sizes_for}
use Rattle.hp_proc.specs.Allocating.{with_hint, without_hint, serving}
use Rattle.hp_proc.specs.Freeing.{looking, freeing}
use Rattle.hp_proc.specs.declared.searched_heap.SearchedHeap.{SearchedHeap}
use Rattle.hp_proc.specs.Courses.{OwnCall}
use Rattle.hp_segs.specs.Returned.{returned_runs}
use Rattle.hp_segs.specs.GrantedRuns.{granted_runs}
use Rattle.hp_proc.specs.Histories.{entries_for, entry_for}
use Rattle.hp_proc.specs.Outcomes.{registers}
use Rattle.hp_proc.specs.LinesDone.{is_grant}
use Rattle.hp_segs.specs.SegsView.{closed_number}

abbrev pool : ℕ → ℕ → PoolLine
pool socket page = record { socket = socket; page = page; pages = 4; slots = 4 }

-- a socket with pages of 256K, 2M and 1G
abbrev pools : List PoolLine
pools = pool 0 (2 ^ 30) ∷ pool 0 (2 ^ 18) ∷ pool 1 (2 ^ 21) ∷ pool 0 (2 ^ 21) ∷ []

all_sizes : page_sizes_for pools 0 0 ≡ 2 ^ 18 ∷ 2 ^ 21 ∷ 2 ^ 30 ∷ []
unfolding flags.is_hint
all_sizes = refl

-- 2M is named; so it is as a hint alone; 16M is named, which the socket has no list of
named_size : page_sizes_for pools 0 1 ≡ 2 ^ 21 ∷ []
unfolding flags.is_hint
named_size = refl

hinted_size : page_sizes_for pools 0 5 ≡ 2 ^ 21 ∷ 2 ^ 18 ∷ 2 ^ 30 ∷ []
unfolding flags.is_hint
hinted_size = refl

size_without_list : page_sizes_for pools 0 257 ≡ 2 ^ 21 ∷ 2 ^ 24 ∷ []
unfolding flags.is_hint
size_without_list = refl

hint_taken : without_hint 5 ≡ 1
unfolding flags.is_hint
hint_taken = refl

hint_given : with_hint 1 ≡ 5
unfolding flags.is_hint
hint_given = refl

hint_kept : with_hint 5 ≡ 5
unfolding flags.is_hint
hint_kept = refl

abbrev heap_of : ℕ → Option ℕ → NamedHeap
heap_of index serves = record { index = index; name = []; serves = serves }

-- participant 1's own socket comes first, and external memory is in no search by socket
own_heap_first : own_first 1 (heap_of 0 (Some 0) ∷ heap_of 1 (Some 1) ∷ heap_of 2 None ∷ [])
    ≡ heap_of 1 (Some 1) ∷ heap_of 0 (Some 0) ∷ []
own_heap_first = refl

-- sockets 2 and 5: a participant of neither begins with the lowest, a socket that is named has its heap alone, or none
abbrev heaps_of_two : List NamedHeap
heaps_of_two = heap_of 0 (Some 2) ∷ heap_of 1 (Some 5) ∷ []

of_any_socket : heaps_for 5 heaps_of_two None choose.Any ≡ heap_of 1 (Some 5) ∷ heap_of 0 (Some 2) ∷ []
of_any_socket = refl

of_another_socket : heaps_for 7 heaps_of_two None choose.Any ≡ heaps_of_two
of_another_socket = refl

of_a_named_socket : heaps_for 5 heaps_of_two None (choose.Number 2) ≡ heap_of 0 (Some 2) ∷ []
of_a_named_socket = refl

of_no_socket : heaps_for 5 heaps_of_two None (choose.Number 3) ≡ []
of_no_socket = refl

abbrev tag : Tag
tag = record { who = 0; zone = false; number = 2 }

abbrev run : Run
run = record { list = 0; first = 0; count = 1; addr = 2 ^ 32; page = 2 ^ 21; socket = 0 }

abbrev request : IsAccepted 1024 64 0 → Request
request accepted = record { size = 1024; align = 64; bound = 0; flags = 0; accepted = accepted }

abbrev asked : IsAccepted 1024 64 0 → PagesAsked
asked accepted = record { heap = 0; socket = 0; page = 2 ^ 21; request = request accepted }

-- an allocation that finds nothing, is granted a page, and then finds its address
abbrev grown : IsAccepted 1024 64 0 → List Done
grown accepted =
    Called 0 (call.Alloc (request accepted) tag) gives.Nothing
    ∷ Asked (asked accepted) (Some run)
    ∷ Called 0 (call.Grow run) gives.Done
    ∷ Called 0 (call.Alloc (request accepted) tag) (gives.Address 4297063424)
    ∷ []

a_grown_line : (accepted : IsAccepted 1024 64 0)
    → Leads (serving (pool 0 (2 ^ 21) ∷ []) (request accepted) tag (heap_of 0 (Some 0) ∷ [])) (grown accepted)
    (Doing.Ended (answer.Address 4297063424))
unfolding Goes Leads flags.is_hint
a_grown_line accepted =
    (gives.Nothing, refl, (Some run, refl, (gives.Done, refl, (gives.Address 4297063424, refl, refl))))

-- the one ask is refused, and no heap is left
a_refused_line : (accepted : IsAccepted 1024 64 0)
    → Leads (serving (pool 0 (2 ^ 21) ∷ []) (request accepted) tag (heap_of 0 (Some 0) ∷ []))
    (Called 0 (call.Alloc (request accepted) tag) gives.Nothing ∷ Asked (asked accepted) None ∷ []) (Doing.Ended answer.None)
unfolding Goes Leads flags.is_hint
a_refused_line accepted = (gives.Nothing, refl, (None, refl, refl))

-- no heap is there for the request
no_heap : (accepted : IsAccepted 1024 64 0) → serving pools (request accepted) tag [] ≡ Doing.Ended answer.NoHeap
no_heap accepted = refl

abbrev place : ℕ → Option ℕ → SearchedHeap
place index serves = record { index = index; serves = serves }

-- an element is found in the second heap, freed, and its page given up
a_freed_line : Leads (looking tag freeing (place 0 (Some 0) ∷ place 1 (Some 1) ∷ []))
    (Called 0 (call.Find tag) gives.Nothing ∷ Called 1 (call.Find tag) (gives.Address 100)
    ∷ Called 1 (call.Free 100 false) gives.Done ∷ Called 1 (call.Cut 100) (gives.Pages run) ∷ GaveUp 1 run ∷ [])
    (Doing.Ended answer.Done)
unfolding Goes Leads flags.is_hint
a_freed_line =
    (gives.Nothing, refl, (gives.Address 100, refl, (gives.Done, refl, (gives.Pages run, refl, (tt, refl, refl)))))

-- external memory is not cut
freed_outside : Leads (looking tag freeing (place 2 None ∷ []))
    (Called 2 (call.Find tag) (gives.Address 100) ∷ Called 2 (call.Free 100 false) gives.Done ∷ []) (Doing.Ended answer.Done)
unfolding Goes Leads flags.is_hint
freed_outside = (gives.Address 100, refl, (gives.Done, refl, refl))

-- an element that no heap has
nothing_found : Leads (looking tag freeing (place 0 (Some 0) ∷ [])) (Called 0 (call.Find tag) gives.Nothing ∷ [])
    (Doing.Ended answer.NoElement)
unfolding Goes Leads flags.is_hint
nothing_found = (gives.Nothing, refl, refl)

abbrev call_on : ℕ → OwnCall
call_on heap = record { heap = heap; call = call.Stats; answer = gives.Nothing }

-- calls are numbered over all heaps
numbers : entries_for 3 1 5 (call_on 1 ∷ call_on 0 ∷ call_on 1 ∷ []) ≡ entry_for 3 5 (call_on 1) ∷ entry_for 3 7 (call_on 1) ∷ []
numbers = refl

abbrev grant : ℕ → AskLog
grant generation = record { from = 0; number = generation; outcome = Granted generation; at = generation; ask = None }

-- the first run is granted and goes back, the second growth fails
came : granted_runs 0 (grant 1 ∷ []) 1 (Add run 0 ∷ Drop run ∷ Add run 0 ∷ Drop run ∷ []) ≡ run ∷ []
came = refl

went : returned_runs (grant 1 ∷ []) false 1 (Add run 0 ∷ Drop run ∷ Add run 0 ∷ Drop run ∷ []) ≡ run ∷ []
went = refl

-- the first line was granted pages, so it has an address; the second was granted none
granted_line : (accepted : IsAccepted 1024 64 0) → list_any is_grant (grown accepted) ≡ true
granted_line accepted = refl

ungranted_line : (accepted : IsAccepted 1024 64 0) → list_any is_grant (Asked (asked accepted) None ∷ []) ≡ false
ungranted_line accepted = refl

-- after the outcome of ask 2 none of ask 1 comes but a stale one
closed_by_the_second : closed_number (grant 2 ∷ []) 0 ≡ 2
closed_by_the_second = refl

-- a validator with the limit 100 on socket 0 denies, unless it allows
denies : registers (116 ∷ []) 0 100 (act.Limit (record { base = (0, 0); start = 0; text = 116 ∷ [] }) 0 100 false) ≡ true
denies = refl

allows : registers (116 ∷ []) 0 100 (act.Limit (record { base = (0, 0); start = 0; text = 116 ∷ [] }) 0 100 true) ≡ false
allows = refl
