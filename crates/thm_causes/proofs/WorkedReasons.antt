-- Worked values: lines that lose nothing, as there is no such message; readings of refusals that are a deadline apart, or three; and a notice
-- whose outcome never came, with values that are none of these.
use Rattle.std.proofs.Common.{◌≡◌, ℕ, ◌+◌, ◌≤◌, ◌==◌, ◌&&◌, Bool, true, false, not, cond, List, [], ◌∷◌, None, refl, ap, subst, arith}
use Rattle.hp_base.specs.declared.plan_entry.MsgKind.TheVariants as kinds
use Rattle.hp_base.specs.declared.plan_entry.PlanEntry.{PlanEntry}
use Rattle.hp_base.specs.declared.plan_entry.PlanEntry.TheVariants.{Message}
use Rattle.hp_base.specs.declared.row.Run.{Run}
use Rattle.hp_script.specs.declared.answer.Answer.TheVariants as answer
use Rattle.hp_script.specs.declared.line.Act.{Act}
use Rattle.hp_script.specs.declared.workload.Workload.{Workload}
use Rattle.hp_segs.specs.declared.outcome.AskLog.{AskLog}
use Rattle.hp_segs.specs.declared.outcome.Cause.{Cause}
use Rattle.hp_segs.specs.declared.outcome.Cause.TheVariants.{Late, Withdrawn}
use Rattle.hp_segs.specs.declared.outcome.Outcome.TheVariants.{Refused}
use Rattle.hp_proc.specs.Doing.Done.{GaveUp}
use Rattle.hp_proc.specs.LinesDone.{Course, courses_of, trace_of}
use Rattle.thm_causes.specs.Counting.{LosesNothing, planned_losses}
use Rattle.thm_causes.specs.Notices.{NoticesAreHeard, unfreed_in}
use Rattle.thm_causes.specs.Outcomes.{IsApart, IsCauseApart, late_outcomes}
use Rattle.thm_causes.specs.Threads.{TimeoutsArePlanned}

-- LINES WITHOUT EFFECT: nobody sends participant 0 a SYNC, and it sends no reply

abbrev sync_line : List PlanEntry
sync_line = Message kinds.Sync 0 1 false 1 ∷ []

abbrev both_lines : List PlanEntry
both_lines = Message kinds.Reply 0 1 false 2 ∷ sync_line

-- how many of the two lines lose a SYNC, or a reply, of a participant of which it is known whether it is 0
abbrev syncs_by : Bool → ℕ
syncs_by primary = 0 + cond (not primary && (false && (primary && true))) 1 0 + cond (not primary && (true && (primary && true))) 1 0

abbrev replies_by : Bool → ℕ
replies_by primary = 0 + cond (not primary && (true && (primary && true))) 1 0 + cond (not primary && (false && (primary && true))) 1 0

no_syncs : (primary : Bool) → syncs_by primary ≡ 0
no_syncs true = refl
no_syncs false = refl

no_replies : (primary : Bool) → replies_by primary ≡ 0
no_replies true = refl
no_replies false = refl

lose_nothing : LosesNothing both_lines
lose_nothing kinds.Alloc party = refl
lose_nothing kinds.Free party = refl
lose_nothing kinds.Sync party = no_syncs (party == 0)
lose_nothing kinds.Reply party = no_replies (party == 0)
lose_nothing kinds.Answer party = refl

-- a line that loses a SYNC of participant 1 does lose one
loses_one : LosesNothing (Message kinds.Sync 1 1 false 1 ∷ []) → ⊥
loses_one nothing = let one : 1 ≡ 0 = nothing kinds.Sync 1 in omega (arith, one)

abbrev refused : ℕ → Cause → AskLog
refused who cause = record { from = who; number = 1; outcome = Refused cause; at = 0; ask = None }

-- so participant 0 is never late, whatever SYNC of it a line names
never_late : (workload : Workload) → workload.plan.items ≡ sync_line → TimeoutsArePlanned workload (refused 1 (Late 0 0 200) ∷ []) → ⊥
never_late workload lines reasons =
    let once : late_outcomes 0 (refused 1 (Late 0 0 200) ∷ []) ≡ 1 = refl in
    let none : planned_losses workload.plan.items kinds.Sync 0 ≡ 0 = ap (λ (plan : List PlanEntry). planned_losses plan kinds.Sync 0) lines in
    omega (arith, once, none, reasons.late 0)

-- READINGS

late_in_time : IsApart 200 (refused 0 (Late 1 0 200))
late_in_time cause is = let same : Late 1 0 200 ≡ cause = cc in subst (IsCauseApart 200) same refl

-- one reading early, and one late
late_too_soon : IsApart 200 (refused 0 (Late 1 0 199)) → ⊥
late_too_soon apart = let wrong : 199 ≡ 200 = apart (Late 1 0 199) refl in omega (arith, wrong)

late_too_late : IsApart 200 (refused 0 (Late 1 0 201)) → ⊥
late_too_late apart = let wrong : 201 ≡ 200 = apart (Late 1 0 201) refl in omega (arith, wrong)

back_in_time : IsApart 200 (refused 0 (Withdrawn 0 600))
back_in_time cause is = let same : Withdrawn 0 600 ≡ cause = cc in subst (IsCauseApart 200) same refl

-- after half of the three deadlines
back_too_soon : IsApart 200 (refused 0 (Withdrawn 0 300)) → ⊥
back_too_soon apart = let wrong : 300 ≡ 600 = apart (Withdrawn 0 300) refl in omega (arith, wrong)

-- A NOTICE THAT HAS NO OUTCOME

module _ (free : Act) (run : Run) where
  -- participant 0 gave a run up, and told of it by its first number
  abbrev lines : List Course
  lines =
      record { line = record { line = 2; participant = 0; act = free }; answer = answer.Done; trace = GaveUp 0 run ∷ [] } ∷ []

  unheard : unfreed_in [] 0 1 (trace_of (courses_of 0 lines)) ≡ 1
  unheard = refl

  -- by an empty plan that may not be
  never_unheard : NoticesAreHeard [] lines [] → ⊥
  never_unheard heard =
      let none : planned_losses [] kinds.Free 0 ≡ 0 = refl in
      omega (arith, heard 0, unheard, none)

  -- nor where the plan loses an ask of it, and a notice of another participant
  abbrev other_lines : List PlanEntry
  other_lines = Message kinds.Alloc 0 1 false 1 ∷ Message kinds.Free 1 1 false 2 ∷ []

  never_by_others : NoticesAreHeard other_lines lines [] → ⊥
  never_by_others heard =
      let none : planned_losses other_lines kinds.Free 0 ≡ 0 = refl in
      omega (arith, heard 0, unheard, none)

  -- where a line loses it there is room for it
  abbrev own_line : List PlanEntry
  own_line = Message kinds.Free 0 1 false 1 ∷ []

  has_room : unfreed_in [] 0 1 (trace_of (courses_of 0 lines)) ≤ planned_losses own_line kinds.Free 0
  has_room = let one : planned_losses own_line kinds.Free 0 ≡ 1 = refl in omega (arith, unheard, one)
