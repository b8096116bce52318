-- When an Add comes, and that a growth is cancelled as Late for a late member alone.
use Rattle.std.proofs.Common.{◌≡◌, ℕ, List, [], ◌∷◌, ◌++◌, length, Option, Some, None, Result, Ok, Err, refl, ap, ◌∙◌, sym, subst, arith, length-append, if◌then◌else◌}
use Rattle.std.specs.Prelude.{IfSome}
use Rattle.std.specs.Option.{option_and_then}
use Rattle.hp_base.specs.declared.row.Run.{Run}
use Rattle.hp_log.specs.declared.log_record.LogRecord.TheVariants.{Add}
use Rattle.hp_segs.specs.LaterSteps.{after_stale}
use Rattle.hp_segs.specs.Plan.{plan_of}
use Rattle.hp_segs.specs.Refusals.{IsNoted, IsNotedCause}
use Rattle.hp_segs.specs.SegsView.{SegsView}
use Rattle.hp_segs.specs.Steps.{after_drop}
use Rattle.hp_segs.specs.declared.ask.Ask.{Ask}
use Rattle.hp_segs.specs.declared.growth.Growth.{Growth}
use Rattle.hp_segs.specs.declared.outcome.AskLog.{AskLog}
use Rattle.hp_segs.specs.declared.outcome.Cause.{Cause}
use Rattle.hp_segs.specs.declared.outcome.Cause.TheVariants.{Denied, Late}
use Rattle.hp_segs.specs.declared.outcome.Outcome.TheVariants.{Refused}
use Rattle.hp_segs.specs.declared.plan_refusal.PlanRefusal.{PlanRefusal}
use Rattle.hp_segs.specs.declared.plan_refusal.PlanRefusal.TheVariants as fault
use Rattle.hp_core.specs.Asks.{asker, number_of}
use Rattle.hp_core.specs.Core.{Done, idle}
use Rattle.hp_core.specs.Laws.{AddsExactly, DenialsAreJudged, IsJudged, IsPlanned, IsStarted, LatesAreLate}
use Rattle.hp_core.specs.Moves.{IsLate, failed, is_late}
use Rattle.hp_core.specs.Starting.{cause_of, grown, judged, planned, refused, started, started_by, total_with}
use Rattle.hp_core.specs.declared.asked.Asked.TheVariants.{Grow}
use Rattle.hp_core.specs.declared.out.Out.TheVariants.{Nothing}
use Rattle.hp_core.specs.declared.times.Times.{Times}

-- a list with an element more is another one
longer : {X : Type 0} (xs : List X) (x : X) → xs ≡ xs ++ x ∷ [] → ⊥
longer xs x same = absurd (omega (arith, ap length same, length-append xs (x ∷ [])))

-- the last elements of equal lists are equal
same_last : {X : Type 0} (xs : List X) (x y : X) → xs ++ x ∷ [] ≡ xs ++ y ∷ [] → x ≡ y
same_last [] x y same = cc
same_last (z ∷ xs) x y same = same_last xs x y (cc)

module _ (denial : ℕ → ℕ → Option (List ℕ × ℕ)) (ask : Ask) (behind : SegsView) (run : Run) where
  -- the Add of the run stands after the drops
  abbrev HasAdd : Done → Type 0
  HasAdd done = done.segs.log ≡ behind.log ++ Add run ask.heap ∷ []

  add_comes : IsPlanned denial ask behind run → HasAdd (grown denial ask behind)
  add_comes plan =
      ap (λ plan. (planned denial ask behind plan).segs.log) plan.plan ∙ ap (λ denied. (judged ask run behind denied).segs.log) plan.allowed

  add_judged : (other : Run) (denied : Option (List ℕ × ℕ)) → denial ask.socket (total_with ask other behind) ≡ denied → plan_of ask behind ≡ Ok other
      → HasAdd (judged ask other behind denied) → IsPlanned denial ask behind run
  add_judged other None allowed plan has =
      let entry : Add other ask.heap ≡ Add run ask.heap = same_last behind.log (Add other ask.heap) (Add run ask.heap) has in
      let same : other ≡ run = cc in
      record {
        plan = plan ∙ ap Ok same;
        allowed = subst (λ run. denial ask.socket (total_with ask run behind) ≡ None) same allowed;
      }
  add_judged other (Some denied) allowed plan has = absurd (longer behind.log (Add run ask.heap) has)

  add_planned : (plan : Result Run PlanRefusal) → plan_of ask behind ≡ plan → HasAdd (planned denial ask behind plan)
      → IsPlanned denial ask behind run
  add_planned (Ok other) is has = add_judged other (denial ask.socket (total_with ask other behind)) refl is has
  add_planned (Err refusal) is has = absurd (longer behind.log (Add run ask.heap) has)

start_is : (denial : ℕ → ℕ → Option (List ℕ × ℕ)) (ask : Ask) (segs : SegsView) → IsStarted ask segs
    → started denial (Grow ask) segs ≡ grown denial ask (after_drop segs)
start_is denial ask segs is =
    ap (λ done. if done then idle (after_stale (asker (Grow ask)) (number_of (Grow ask)) segs) Nothing else started_by denial segs (Grow ask)) is.fresh
    ∙ ap (λ armed. if armed then grown denial ask (after_drop segs) else idle segs Nothing) is.armed

-- an Add comes exactly where a run is planned and not denied
pub adds_exactly : AddsExactly
adds_exactly denial ask segs run is =
    let behind = after_drop segs in
    let log = ap (λ done. done.segs.log) (start_is denial ask segs is) in
    (λ has. add_planned denial ask behind run (plan_of ask behind) refl (sym log ∙ has), λ plan. log ∙ add_comes denial ask behind run plan)

-- the outcomes of equal entries are equal
outcome_is : (before : List AskLog) (one entry : AskLog) (cause : Cause) → before ++ one ∷ [] ≡ before ++ entry ∷ [] → entry.outcome ≡ Refused cause
    → one.outcome ≡ Refused cause
outcome_is before one entry cause same is = ap (λ entry. entry.outcome) (same_last before one entry same) ∙ is

module _ (denial : ℕ → ℕ → Option (List ℕ × ℕ)) (ask : Ask) (behind : SegsView) (entry : AskLog) (validator : List ℕ) (limit total : ℕ)
    (is_denied : entry.outcome ≡ Refused (Denied validator limit total)) where
  -- the entry stands after the outcomes of the drops
  abbrev HasEntry : Done → Type 0
  HasEntry done = done.segs.asks ≡ behind.asks ++ entry ∷ []

  its_refusal : (cause : Cause) → HasEntry (refused ask cause behind) → Refused cause ≡ Refused (Denied validator limit total)
  its_refusal cause has =
      outcome_is behind.asks
      (record { from = ask.from; number = ask.number; outcome = Refused cause; at = length behind.log; ask = Some ask }) entry
      (Denied validator limit total) has is_denied

  never_denied : (refusal : PlanRefusal) → Refused (cause_of refusal) ≡ Refused (Denied validator limit total) → ⊥
  never_denied (fault.StaleAsk number done) same = cc
  never_denied (fault.GrowthOpen generation) same = cc
  never_denied fault.NoList same = cc
  never_denied (fault.TooFew have need) same = cc
  never_denied (fault.ListFull longest need) same = cc
  never_denied (fault.CannotHold addr len) same = cc

  denial_is : (socket sum : ℕ) (denied : List ℕ × ℕ) → denial socket sum ≡ Some denied
      → Refused (Denied denied.0 denied.1 sum) ≡ Refused (Denied validator limit total) → denial socket total ≡ Some (validator, limit)
  denial_is socket sum denied is same =
      let its_name : denied.0 ≡ validator = cc in
      let its_limit : denied.1 ≡ limit = cc in
      let its_sum : sum ≡ total = cc in
      subst (λ sum. denial socket sum ≡ Some (validator, limit)) its_sum
      (is ∙ (ap (λ name. Some (name, denied.1)) its_name ∙ ap (λ limit. Some (validator, limit)) its_limit))

  judged_so : (run : Run) (denied : Option (List ℕ × ℕ)) → plan_of ask behind ≡ Ok run → denial ask.socket (total_with ask run behind) ≡ denied
      → HasEntry (judged ask run behind denied) → IsJudged denial ask behind validator limit total
  judged_so run None plan is has = absurd (longer behind.asks entry has)
  judged_so run (Some denied) plan is has =
      let same = its_refusal (Denied denied.0 denied.1 (total_with ask run behind)) has in
      let sum : total ≡ total_with ask run behind = cc in
      record { run = run; plan = plan; sum = sum; denied = denial_is ask.socket (total_with ask run behind) denied is same }

  planned_so : (plan : Result Run PlanRefusal) → plan_of ask behind ≡ plan → HasEntry (planned denial ask behind plan)
      → IsJudged denial ask behind validator limit total
  planned_so (Ok run) is has = judged_so run (denial ask.socket (total_with ask run behind)) is refl has
  planned_so (Err refusal) is has = absurd (never_denied refusal (its_refusal (cause_of refusal) has))

-- a refusal as Denied is the judge's
pub denials_are_judged : DenialsAreJudged
denials_are_judged denial ask segs entry validator limit total is has is_denied =
    let behind = after_drop segs in
    let asks = ap (λ done. done.segs.asks) (start_is denial ask segs is) in
    planned_so denial ask behind entry validator limit total is_denied (plan_of ask behind) refl (sym asks ∙ has)

never_noted : (asks : List AskLog) (open_now : Option Growth) (participant from to : ℕ) → IsNoted asks open_now
    → option_and_then (λ growth. growth.noted) open_now ≡ Some (Late participant from to) → ⊥
never_noted asks None participant from to is noted = cc
never_noted asks (Some growth) participant from to is noted = subst (λ cause. IfSome cause (IsNotedCause asks growth)) noted is

late_as : (times : Times) (acks : List ℕ) (segs : SegsView) (participant from to who since at : ℕ) → Late participant from to ≡ Late who since at
    → IsLate times acks segs who since at → IsLate times acks segs participant from to
late_as times acks segs participant from to who since at same late =
    let its_who : participant ≡ who = cc in
    let its_since : from ≡ since = cc in
    let its_at : to ≡ at = cc in
    subst (λ participant. IsLate times acks segs participant from to) (sym its_who)
    (subst (λ from. IsLate times acks segs who from to) (sym its_since) (subst (λ to. IsLate times acks segs who since to) (sym its_at) late))

-- a growth of a sound value is cancelled as Late for a late member alone
pub lates_are_late : LatesAreLate
lates_are_late times acks segs participant from to sound (failed noted) =
    absurd (never_noted segs.asks segs.growth participant from to sound.asks.noted noted)
lates_are_late times acks segs participant from to sound (is_late who since at same late) =
    late_as times acks segs participant from to who since at same late
