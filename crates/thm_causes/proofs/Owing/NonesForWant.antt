-- Where the plan loses no message and no mapping failed, asks were refused for want of a list, of pages, of slots or of a place, or by a
-- validator, alone.
use Rattle.std.proofs.Common.{All, ◌≡◌, ◌==◌, ◌&&◌, ◌∙◌, ◌++◌, ℕ, ◌≤◌, Bool, true, List, [], ◌∷◌, Contains, Some, count_by, refl, ap, subst, arith}
use Rattle.std.proofs.lemmas.Bool.{and_from, eq-eqb}
use Rattle.std.proofs.lemmas.List.Elements.{All-cons, All-contains, All-contains_itself, All-nil, All-weaker}
use Rattle.std.proofs.lemmas.List.Folds.{list_any_at}
use Rattle.hp_base.specs.declared.plan_entry.MsgKind.TheVariants as message
use Rattle.hp_base.specs.declared.pool_line.PoolLine.{PoolLine}
use Rattle.hp_heap.specs.History.{HeapView}
use Rattle.hp_log.proofs.Counts.{any_counts}
use Rattle.hp_log.specs.declared.log_record.LogRecord.{LogRecord}
use Rattle.hp_maps.specs.declared.table.Table.{Table}
use Rattle.hp_script.specs.declared.answer.Answer.{Answer}
use Rattle.hp_script.specs.declared.workload.Workload.{Workload}
use Rattle.hp_segs.specs.Causes.{AllCaused, HasCause}
use Rattle.hp_segs.specs.SegsView.{SegsView}
use Rattle.hp_segs.specs.declared.ask.Ask.{Ask}
use Rattle.hp_segs.specs.declared.outcome.AskLog.{AskLog}
use Rattle.hp_segs.specs.declared.outcome.Cause.{Cause}
use Rattle.hp_segs.specs.declared.outcome.Cause.TheVariants.{CannotHold, Denied, Late, ListFull, MapFailed, NoList, TooFew, Withdrawn}
use Rattle.hp_segs.specs.declared.outcome.Outcome.TheVariants.{Refused}
use Rattle.hp_proc.specs.Ends.{IsEnd}
use Rattle.thm_causes.specs.Counting.{LosesNothing}
use Rattle.thm_causes.specs.Nones.{IsExhaustion, OnlyExhaustion, NoMappingFailed, RefusalsAreExhaustion}
use Rattle.thm_causes.specs.Outcomes.{is_late, is_withdrawn, late_outcomes, refuses, withdrawn_outcomes}
use Rattle.thm_causes.specs.Threads.{TimeoutsArePlanned}

-- what is among others and passes a test is counted
counted : {X : Type 0} (p : X → Bool) (xs : List X) (x : X) → Contains xs x → p x ≡ true → 1 ≤ count_by p xs
counted p xs x (k, below, is) passes = any_counts p xs (list_any_at p xs k x below (ap p is ∙ passes))

-- who was refused kept its ask
abbrev KeepsAsk : AskLog → Type 0
KeepsAsk entry = (cause : Cause) → entry.outcome ≡ Refused cause → (ask : Ask) × (entry.ask ≡ Some ask)

keeps_ask : (pools : List PoolLine) (log : List LogRecord) (before : List AskLog) (entry : AskLog)
    → HasCause pools log before entry entry.outcome → KeepsAsk entry
keeps_ask pools log before entry caused cause is =
    let its : HasCause pools log before entry (Refused cause) = subst (HasCause pools log before entry) is caused in
    (its.0, its.1.kept)

keep_asks : (pools : List PoolLine) (log : List LogRecord) (before asks : List AskLog) → AllCaused pools log before asks → All KeepsAsk asks
keep_asks pools log before [] caused = All-nil KeepsAsk
keep_asks pools log before (entry ∷ asks) caused =
    All-cons KeepsAsk entry asks (keeps_ask pools log before entry caused.0.cause) (keep_asks pools log (before ++ entry ∷ []) asks caused.1)

module _ (workload : Workload) (answers : List Answer) (heaps : List HeapView) (segs : SegsView) (tables : List Table)
    (end : IsEnd workload answers heaps segs tables) (reasons : TimeoutsArePlanned workload segs.asks)
    (nothing : LosesNothing workload.plan.items) (mapped : NoMappingFailed segs.asks) where
  -- a refusal is for want, since all other causes cannot be
  for_want : (entry : AskLog) (ask : Ask) (cause : Cause) → Contains segs.asks entry → entry.ask ≡ Some ask → entry.outcome ≡ Refused cause
      → IsExhaustion cause
  for_want entry ask NoList among kept is = tt
  for_want entry ask (TooFew have need) among kept is = tt
  for_want entry ask (ListFull longest need) among kept is = tt
  for_want entry ask (CannotHold addr len) among kept is = tt
  for_want entry ask (Denied validator limit total) among kept is = tt
  for_want entry ask (MapFailed participant call addr got) among kept is =
      absurd (mapped entry participant call among (record { addr = addr; got = got; its = is }))
  for_want entry ask (Late participant from to) among kept is =
      let passes : refuses (is_late participant) entry.outcome ≡ true =
      ap (refuses (is_late participant)) is ∙ eq-eqb participant participant refl in
      let one : 1 ≤ late_outcomes participant segs.asks =
      counted (λ (entry : AskLog). refuses (is_late participant) entry.outcome) segs.asks entry among passes in
      omega (arith, one, reasons.late participant, nothing message.Sync participant)
  for_want entry ask (Withdrawn from to) among kept is =
      let passes : ((entry.from == entry.from) && refuses is_withdrawn entry.outcome) ≡ true =
      and_from (entry.from == entry.from) _ (eq-eqb entry.from entry.from refl) (ap (refuses is_withdrawn) is) in
      let one : 1 ≤ withdrawn_outcomes entry.from segs.asks =
      counted (λ (other : AskLog). (other.from == entry.from) && refuses is_withdrawn other.outcome) segs.asks entry among passes in
      omega (arith, one, reasons.withdrawn entry.from, nothing message.Alloc entry.from)

pub refusals_are_for_want : RefusalsAreExhaustion
refusals_are_for_want workload answers heaps segs tables end reasons nothing mapped =
    let keep = keep_asks segs.pools segs.log [] segs.asks end.segs_sound.asks.caused in
    All-weaker (Contains segs.asks) OnlyExhaustion
    (λ entry among cause is.
    let kept = All-contains KeepsAsk segs.asks entry keep among cause is in
    for_want workload answers heaps segs tables end reasons nothing mapped entry kept.0 cause among kept.1 is) segs.asks
    (All-contains_itself segs.asks)
