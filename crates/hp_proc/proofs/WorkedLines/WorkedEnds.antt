-- Worked values: what participants see of the log, mappings that are refused, the numbers of calls, and what an await puts in order.
use Rattle.std.proofs.Common.{◌≡◌, refl, arith, ℕ, ◌^◌, true, false, List, [], ◌∷◌, Some, None}
use Rattle.hp_base.specs.declared.caught.Caught.TheVariants as caught
use Rattle.hp_base.specs.declared.row.Row.{Row}
use Rattle.hp_base.specs.declared.row.Run.{Run}
use Rattle.hp_base.specs.declared.tag.Tag.{Tag}
use Rattle.hp_heap.specs.declared.entry.HeapCall.TheVariants as call
use Rattle.hp_heap.specs.declared.entry.HeapAnswer.{HeapAnswer}
use Rattle.hp_heap.specs.declared.entry.HeapAnswer.TheVariants as gives
use Rattle.hp_heap.specs.declared.entry.Entry.{Entry}
use Rattle.hp_log.specs.declared.log_record.LogRecord.TheVariants.{Add, Drop}
use Rattle.hp_script.specs.declared.answer.Answer.{Answer}
use Rattle.hp_script.specs.declared.answer.Answer.TheVariants as answer
use Rattle.hp_script.specs.declared.line.Line.{Line}
use Rattle.hp_script.specs.declared.line.Act.{Act}
use Rattle.hp_script.specs.declared.line.Act.TheVariants as act
use Rattle.hp_segs.specs.declared.outcome.AskLog.{AskLog}
use Rattle.hp_segs.specs.declared.outcome.Cause.TheVariants as why
use Rattle.hp_segs.specs.declared.outcome.Outcome.{Outcome}
use Rattle.hp_segs.specs.declared.outcome.Outcome.TheVariants.{Granted, Refused}
use Rattle.hp_proc.specs.LineTrees.{doing_of}
use Rattle.hp_proc.specs.Doing.{Doing, Done, Goes, Leads}
use Rattle.hp_serve.specs.declared.pages_asked.PagesAsked.{PagesAsked}
use Rattle.hp_proc.specs.Doing.Done.{Called, Asked, GaveUp, Looked, CaughtUp}
use Rattle.hp_proc.specs.Lines.{Facts, attaching}
use Rattle.hp_proc.specs.Courses.{Standing, OwnCall, calls_in, refusals_in, after_line}
use Rattle.hp_proc.specs.LinesDone.{Course, trace_of}
use Rattle.hp_proc.specs.Histories.{entries_for, entry_for}
use Rattle.hp_proc.specs.Seen.{AreSeen, AreRefusals, HasTakenIn, seen_in, seen_by_lines}
use Rattle.hp_proc.specs.Ends.{none_made}
use Rattle.hp_proc.specs.Awaits.{StandBefore, calls_within}

abbrev run : Run
run = record { list = 0; first = 0; count = 1; addr = 2 ^ 32; page = 2 ^ 21; socket = 0 }

abbrev row : Row
row = record { addr = 2 ^ 32; page = 2 ^ 21; socket = 0; list = 0; slot = 0; generation = 1 }

-- an outcome of the first ask of a participant that was logged with one record there
abbrev outcome : ℕ → Outcome → AskLog
outcome who what = record { from = who; number = 1; outcome = what; at = 1; ask = None }

abbrev granted : ℕ → AskLog
granted who = outcome who (Granted 1)

abbrev taken_back : ℕ → AskLog
taken_back who = outcome who (Refused (why.Withdrawn 0 600))

-- participant 1 is granted a run; it attaches again later, and looks
own_growth : (asked : PagesAsked) → seen_in (Add run asked.heap ∷ []) (granted 1 ∷ []) 1 1 (Asked asked (Some run) ∷ Looked 1 ∷ [])
    ≡ 0 ∷ 1 ∷ 1 ∷ []
own_growth asked = refl

-- a look that lacks this record is none
forgets_own_growth : AreSeen 1 (0 ∷ 1 ∷ 0 ∷ []) → ⊥
forgets_own_growth seen = let falls = seen.rising 1 2 0 in grind (arith, falls)

-- its growth was open when it took the ask back, so it has seen the Drop too
own_failure : (asked : PagesAsked) → asked.heap ≡ 0
    → seen_in (Add run 0 ∷ Drop run ∷ []) (taken_back 1 ∷ []) 1 1 (Asked asked None ∷ Looked 2 ∷ []) ≡ 0 ∷ 2 ∷ 2 ∷ []
own_failure asked heap = rw heap refl

-- a growth for another heap was open then, whose failure it need not have seen
other_failure : (asked : PagesAsked) → asked.heap ≡ 1
    → seen_in (Add run 0 ∷ Drop run ∷ []) (taken_back 1 ∷ []) 1 1 (Asked asked None ∷ Looked 1 ∷ []) ≡ 1 ∷ 1 ∷ 1 ∷ []
other_failure asked heap = rw heap refl

-- a run that is given up takes the number 1, so the ask after it has the number 2, and no outcome yet
asked_second : (asked : PagesAsked) → seen_in [] (granted 1 ∷ []) 1 1 (GaveUp 0 run ∷ Asked asked None ∷ []) ≡ []
asked_second asked = refl

abbrev line_of : ℕ → Act → Line
line_of who act = record { line = 5; participant = who; act = act }

abbrev course_of : ℕ → Act → Answer → List Done → Course
course_of who act given trace = record { line = line_of who act; answer = given; trace = trace }

-- where lines are done one after another, participant 1 sees when it attaches what participant 0 was granted before
others_growth : (asked : PagesAsked)
    → seen_by_lines (Add run asked.heap ∷ []) (granted 0 ∷ []) none_made
    (course_of 0 act.Detach answer.Done (Asked asked (Some run) ∷ [])
    ∷ course_of 1 act.Attach (answer.Records 1) (Looked 1 ∷ CaughtUp 1 caught.Done ∷ []) ∷ []) ≡ 0 ∷ 1 ∷ 1 ∷ []
others_growth asked = refl

abbrev out : Standing
out = record { attached = false; records = 3; elements = []; chunks = []; watchers = []; validators = [] }

-- a participant that attached with 4 records has taken in these; one whose attaching is refused stays as it was
attached_with_4 : after_line (line_of 1 act.Attach) (answer.Records 4) (Looked 4 ∷ CaughtUp 4 caught.Done ∷ []) out
    ≡ record { attached = true; records = 4; elements = []; chunks = []; watchers = []; validators = [] }
attached_with_4 = refl

not_attached : after_line (line_of 1 act.Attach) (answer.Refused 2) (Looked 4 ∷ CaughtUp 4 (caught.Refused row 2) ∷ []) out ≡ out
not_attached = refl

-- what one was granted its table has taken in; of what another was granted this says nothing
own_grant : HasTakenIn 1 0 (granted 1) → ⊥
own_grant taken = let reached = taken refl in grind (arith, reached)

others_grant : HasTakenIn 1 0 (granted 0)
others_grant own = grind (arith, own)

-- an attaching that the second mapping call refuses is answered its number
a_refused_attach : Leads (attaching false) (Looked 2 ∷ CaughtUp 2 (caught.Refused row 2) ∷ []) (Doing.Ended (answer.Refused 2))
unfolding Goes Leads
a_refused_attach = (2, refl, (caught.Refused row 2, refl, refl))

-- the next try makes further calls; no number comes twice
refused_twice : refusals_in (Looked 1 ∷ CaughtUp 1 (caught.Refused row 1) ∷ Looked 1 ∷ CaughtUp 1 (caught.Refused row 2) ∷ []) ≡ 1 ∷ 2 ∷ []
refused_twice = refl

same_call_twice : AreRefusals (Add run 0 ∷ [])
    (Looked 1 ∷ CaughtUp 1 (caught.Refused row 2) ∷ Looked 1 ∷ CaughtUp 1 (caught.Refused row 2) ∷ []) → ⊥
same_call_twice refusals = let higher = refusals.rising 0 in grind (arith, higher)

-- nothing is refused where there is nothing to map
nothing_to_map : AreRefusals [] (Looked 0 ∷ CaughtUp 0 (caught.Refused row 1) ∷ []) → ⊥
nothing_to_map refusals = grind (arith, refusals.rows)

abbrev tag : Tag
tag = record { who = 3; zone = false; number = 2 }

-- three lines: one that is refused before any call, which takes no number; one that is refused by its calls, which takes one for each; and
-- one that is served
abbrev three_lines : List Course
three_lines =
    course_of 3 act.Detach answer.Detached []
    ∷ course_of 3 act.Detach answer.NoElement (Called 0 (call.Find tag) gives.Nothing ∷ Called 1 (call.Find tag) gives.Nothing ∷ [])
    ∷ course_of 3 act.Detach answer.Done (Called 1 (call.Find tag) (gives.Address 128) ∷ [])
    ∷ []

abbrev found : HeapAnswer → OwnCall
found given = record { heap = 1; call = call.Find tag; answer = given }

numbered_on : entries_for 3 1 1 (calls_in (trace_of three_lines))
    ≡ entry_for 3 2 (found gives.Nothing) ∷ entry_for 3 3 (found (gives.Address 128)) ∷ []
numbered_on = refl

-- the first two of them made two calls, all three made three
first_two : calls_within 3 2 three_lines ≡ 2
first_two = refl

all_three : calls_within 3 3 three_lines ≡ 3
all_three = refl

-- an await makes no call and is answered ok, also that of a participant that is not attached
await_is_ok : (facts : Facts) → doing_of (line_of 1 (act.Await 0 2)) (act.Await 0 2) facts ≡ Doing.Ended answer.Done
unfolding doing_of
await_is_ok facts = refl

abbrev entry_of : ℕ → Entry
entry_of who = entry_for who 1 (found gives.Nothing)

-- participant 1 awaited a line of participant 0 that made a call: its own first call stands after that one
awaited_first : StandBefore (entry_of 0 ∷ entry_of 1 ∷ []) 0 1 1 0
awaited_first early late entry next here whose within there others behind = grind (arith, here, whose, within, there, others, behind)

not_awaited : StandBefore (entry_of 1 ∷ entry_of 0 ∷ []) 0 1 1 0 → ⊥
not_awaited before = let first = before 1 0 (entry_of 0) (entry_of 1) refl refl in grind (arith, first)
