-- Why a line that allocates is answered that there is no memory: its heaps found nothing, and its asks were refused, where the plan loses
-- no message and no mapping failed, for want of a list, of pages, of slots or of a place, or as a validator denied them. The rule "Reasons" of
-- docs/RUNS.md.
use Rattle.std.specs.Prelude.{◌≡◌, ℕ, ◌<◌, ⊤, List, Contains, None}
use Rattle.std.specs.List.{All}
use Rattle.hp_heap.specs.History.{HeapView}
use Rattle.hp_heap.specs.declared.entry.HeapAnswer.{HeapAnswer}
use Rattle.hp_heap.specs.declared.entry.HeapAnswer.TheVariants as gives
use Rattle.hp_heap.specs.declared.entry.HeapCall.TheVariants as call
use Rattle.hp_maps.specs.declared.table.Table.{Table}
use Rattle.hp_script.specs.declared.answer.Answer.{Answer}
use Rattle.hp_script.specs.declared.answer.Answer.TheVariants as answer
use Rattle.hp_script.specs.declared.workload.Workload.{Workload}
use Rattle.hp_segs.specs.SegsView.{SegsView}
use Rattle.hp_segs.specs.declared.outcome.AskLog.{AskLog}
use Rattle.hp_segs.specs.declared.outcome.Cause.{Cause}
use Rattle.hp_segs.specs.declared.outcome.Cause.TheVariants.{CannotHold, Denied, ListFull, NoList, TooFew}
use Rattle.hp_segs.specs.declared.outcome.Outcome.TheVariants.{Refused}
use Rattle.hp_proc.specs.Courses.{Allocates}
use Rattle.hp_proc.specs.Doing.{Done}
use Rattle.hp_proc.specs.Doing.Done.{Asked, Called, NamesRead}
use Rattle.hp_proc.specs.Ends.{IsEnd}
use Rattle.hp_proc.specs.LinesDone.{Course, courses_of}
use Rattle.thm_run.specs.EndLaws.{IsFailedMapping}
use Rattle.thm_causes.specs.Counting.{LosesNothing}
use Rattle.thm_causes.specs.Threads.{TimeoutsArePlanned}

-- the answer of a heap is no address
abbrev pub IsNoAddress : HeapAnswer → Type 0
IsNoAddress found = (address : ℕ) → found ≡ gives.Address address → ⊥

-- what was done came to nothing: the names were read, a heap had no choice for an allocation, or an ask was granted nothing
abbrev pub CameToNothing : Done → Type 0
CameToNothing (Called heap (call.Alloc request tag) found) = IsNoAddress found
CameToNothing (Asked asked run) = run ≡ None
CameToNothing (NamesRead names) = ⊤
CameToNothing _ = ⊥

-- a line that allocates, an element or a memzone, and is answered that there is no memory did nothing that came to anything
abbrev pub NothingWasFound : Course → Type 0
NothingWasFound course = Allocates course.line.act → course.answer ≡ answer.None → All CameToNothing course.trace

-- the cause is a want: there is no list, the pool has too few pages, no free stretch of slots is long enough, or the first run has no place
-- for the request; or a validator denied what the socket would have, which at each end is one that a line registers (`IsCauseIn`)
abbrev pub IsExhaustion : Cause → Type 0
IsExhaustion NoList = ⊤
IsExhaustion (TooFew have need) = ⊤
IsExhaustion (ListFull longest need) = ⊤
IsExhaustion (CannotHold addr len) = ⊤
IsExhaustion (Denied validator limit total) = ⊤
IsExhaustion _ = ⊥

-- an outcome that is a refusal is one for such a want
abbrev pub OnlyExhaustion : AskLog → Type 0
OnlyExhaustion entry = (cause : Cause) → entry.outcome ≡ Refused cause → IsExhaustion cause

-- no growth failed as a mapping did
abbrev pub NoMappingFailed : List AskLog → Type 0
NoMappingFailed asks = (entry : AskLog) (participant call : ℕ) → Contains asks entry → IsFailedMapping participant call entry → ⊥

-- at each end of a workload the lines of its participants that allocate and are answered `none` found no address and were granted nothing
abbrev pub NonesFoundNothing : Type 0
NonesFoundNothing = (workload : Workload) (answers : List Answer) (heaps : List HeapView) (segs : SegsView) (tables : List Table)
    (end : IsEnd workload answers heaps segs tables) (who : ℕ) → who < workload.participants → All NothingWasFound (courses_of who end.courses)

-- where late and taken-back outcomes have their reasons in the plan, the plan loses no message and no mapping failed, asks were refused
-- for want alone
abbrev pub RefusalsAreExhaustion : Type 0
RefusalsAreExhaustion = (workload : Workload) (answers : List Answer) (heaps : List HeapView) (segs : SegsView) (tables : List Table)
    → IsEnd workload answers heaps segs tables → TimeoutsArePlanned workload segs.asks → LosesNothing workload.plan.items
    → NoMappingFailed segs.asks → All OnlyExhaustion segs.asks
