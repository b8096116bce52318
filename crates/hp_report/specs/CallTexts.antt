-- The calls of a heap and what they answer, as the report shows them.
use Rattle.std.specs.Prelude.{ℕ, ◌*◌, List, [], ◌++◌, codes}
use Rattle.hp_base.specs.declared.request.Request.{Request}
use Rattle.hp_base.specs.declared.row.Run.{Run}
use Rattle.hp_base.specs.declared.stats.Stats.{Stats}
use Rattle.hp_heap.specs.declared.entry.HeapCall.{HeapCall}
use Rattle.hp_heap.specs.declared.entry.HeapCall.TheVariants as call
use Rattle.hp_heap.specs.declared.entry.HeapAnswer.{HeapAnswer}
use Rattle.hp_heap.specs.declared.entry.HeapAnswer.TheVariants as answer
use Rattle.hp_script.specs.Answers.{address_text, number_text}

-- a range of bytes: its address and its length
abbrev pub range_text : ℕ → ℕ → List ℕ
range_text addr len = address_text addr ++ number_text len

-- the range that a run of pages lies at
abbrev pub run_text : Run → List ℕ
run_text run = range_text run.addr (run.count * run.page)

-- what a request asks for: its size, its alignment, its bound and its flags, these as an address
abbrev pub request_text : Request → List ℕ
request_text request = number_text request.size ++ number_text request.align ++ number_text request.bound ++ address_text request.flags

-- a call: its word and what it is about
abbrev pub call_text : (ℕ → List ℕ) → HeapCall → List ℕ
call_text names (call.Alloc request tag) = codes " alloc" ++ request_text request ++ codes " " ++ names tag.number
call_text names (call.Find tag) = codes " find " ++ names tag.number
call_text names (call.Free addr zone) = codes " free" ++ address_text addr
call_text names (call.Resize addr size) = codes " resize" ++ range_text addr size
call_text names (call.Grow run) = codes " grow" ++ run_text run
call_text names (call.Cut addr) = codes " cut" ++ address_text addr
call_text names call.Stats = codes " stats"
call_text names (call.Name name socket) = codes " name " ++ name ++ number_text socket
call_text names call.Unname = codes " unname"
call_text names (call.Chunk chunk) = codes " chunk" ++ range_text chunk.addr chunk.len
call_text names (call.Unchunk addr len) = codes " unchunk" ++ range_text addr len
call_text names (call.Share addr len) = codes " share" ++ range_text addr len
call_text names (call.Unshare addr len) = codes " unshare" ++ range_text addr len

-- the six numbers of statistics
abbrev pub numbers_text : Stats → List ℕ
numbers_text stats =
    number_text stats.total ++ number_text stats.free ++ number_text stats.used ++ number_text stats.greatest ++ number_text stats.busy ++ number_text stats.frees

-- what a call answered
abbrev pub outcome_text : HeapAnswer → List ℕ
outcome_text (answer.Address addr) = address_text addr
outcome_text answer.Nothing = codes " none"
outcome_text answer.Done = codes " ok"
outcome_text answer.NotAnElement = codes " notelem"
outcome_text answer.IsZone = codes " iszone"
outcome_text answer.Yes = codes " yes"
outcome_text answer.No = codes " no"
outcome_text (answer.Pages run) = run_text run
outcome_text (answer.Statistics stats) = numbers_text stats
