-- Each refusal has its cause in the workload: who denies is registered by a line of it, declared participants alone fail and are late, and
-- no deadline is shorter.
use Rattle.std.proofs.Common.{◌≡◌, ℕ, List, [], ◌∷◌, ◌++◌, Option, Some, refl, sym, subst, ◌∙◌}
use Rattle.std.specs.List.{All}
use Rattle.std.proofs.lemmas.List.Elements.{All-push}
use Rattle.std.proofs.lemmas.Option.{same_Some}
use Rattle.hp_base.specs.Mapping.{FailingCall}
use Rattle.hp_core.specs.Starting.{cause_of}
use Rattle.hp_script.specs.declared.workload.Workload.{Workload}
use Rattle.hp_segs.specs.SegsView.{SegsView}
use Rattle.hp_segs.specs.declared.ask.Ask.{Ask}
use Rattle.hp_segs.specs.declared.growth.Growth.{Growth}
use Rattle.hp_segs.specs.declared.outcome.AskLog.{AskLog}
use Rattle.hp_segs.specs.declared.outcome.Cause.{Cause}
use Rattle.hp_segs.specs.declared.outcome.Cause.TheVariants.{CannotHold, Denied, Late, ListFull, MapFailed, NoList, TooFew, Withdrawn}
use Rattle.hp_segs.specs.declared.outcome.Outcome.{Outcome}
use Rattle.hp_segs.specs.declared.outcome.Outcome.TheVariants.{Refused}
use Rattle.hp_segs.specs.declared.plan_refusal.PlanRefusal.{PlanRefusal}
use Rattle.hp_segs.specs.declared.plan_refusal.PlanRefusal.TheVariants as plan
use Rattle.hp_proc.specs.Outcomes.{IsCauseIn, IsRefusedIn}
use Rattle.thm_run.proofs.DenialsKnown.{denies_in}
use Rattle.thm_run.proofs.Members.{AreDeclared, moves_declared}
use Rattle.thm_run.proofs.FailuresNamed.OwnFailures.{AreOwnFailures, IsOwnFailure, alters_own, growth_own}
use Rattle.thm_run.proofs.RunFacts.Changes.{Changes, IsOwed, Logs, MovesRoster, alters, by_failure, by_grant, by_judge, by_lateness, by_notice, by_number, by_plan, by_withdrawal, drops, ends, failures, goes_on, nothing, opens, outcomes, stays}

-- each refusal has its cause, failed mappings are of declared participants, and nobody else is in the roster
pub record AreCaused (workload : Workload) (may_fail : ℕ → Option (List FailingCall)) (segs : SegsView) : Type 0 where
  pub causes : All (IsRefusedIn workload) segs.asks
  pub own : AreOwnFailures workload.participants may_fail segs
  pub declared : AreDeclared workload.participants segs.roster

plan_caused : (workload : Workload) (ask : Ask) (refusal : PlanRefusal) → IsCauseIn workload ask (cause_of refusal)
plan_caused workload ask (plan.StaleAsk number done) = tt
plan_caused workload ask (plan.GrowthOpen generation) = tt
plan_caused workload ask plan.NoList = tt
plan_caused workload ask (plan.TooFew have need) = tt
plan_caused workload ask (plan.ListFull longest need) = tt
plan_caused workload ask (plan.CannotHold addr len) = tt

failure_caused : (workload : Workload) (may_fail : ℕ → Option (List FailingCall)) (growth : Growth) (ask : Ask) (cause : Cause)
    → IsOwnFailure workload.participants may_fail growth cause → IsCauseIn workload ask cause
failure_caused workload may_fail growth ask NoList own = tt
failure_caused workload may_fail growth ask (TooFew have need) own = tt
failure_caused workload may_fail growth ask (ListFull longest need) own = tt
failure_caused workload may_fail growth ask (CannotHold addr len) own = tt
failure_caused workload may_fail growth ask (Denied validator limit total) own = absurd own
failure_caused workload may_fail growth ask (MapFailed participant call addr got) own = own.declared
failure_caused workload may_fail growth ask (Late participant from to) own = absurd own
failure_caused workload may_fail growth ask (Withdrawn from to) own = absurd own

-- a cause that holds of the ask that is kept
refused_for : (workload : Workload) (kept : Option Ask) (cause : Cause)
    → ((ask : Ask) → kept ≡ Some ask → IsCauseIn workload ask cause)
    → (ask : Ask) (other : Cause) → kept ≡ Some ask → Refused cause ≡ Refused other → IsCauseIn workload ask other
refused_for workload kept cause has ask other its is =
    let same : cause ≡ other = cc in subst (IsCauseIn workload ask) same (has ask its)

module _ (workload : Workload) (may_fail : ℕ → Option (List FailingCall)) (segs : SegsView)
    (before : AreCaused workload may_fail segs) (kept : Option Ask) where
  owed_caused : (outcome : Outcome) → IsOwed workload.deadline (denies_in workload) segs kept outcome → (ask : Ask) (cause : Cause)
      → kept ≡ Some ask → outcome ≡ Refused cause → IsCauseIn workload ask cause
  owed_caused _ (by_grant generation) ask cause its is = cc
  owed_caused _ (by_number done) ask cause its is = cc
  owed_caused _ (by_notice generation) ask cause its is = cc
  owed_caused _ (by_plan refusal) ask cause its is =
      refused_for workload kept (cause_of refusal) (λ ask its. plan_caused workload ask refusal) ask cause its is
  owed_caused _ (by_judge asked denial total own may) ask cause its is =
      refused_for workload kept (Denied denial.0 denial.1 total)
      (λ ask its.
      let same : Some asked ≡ Some ask = sym own ∙ its in
      subst (λ (ask : Ask). IsCauseIn workload ask (Denied denial.0 denial.1 total)) (same_Some asked ask same) may) ask cause its is
  owed_caused _ (by_failure failure noted) ask cause its is =
      refused_for workload kept failure
      (λ ask its.
      let found = growth_own workload.participants may_fail segs failure segs.growth before.own.noted refl noted in
      failure_caused workload may_fail found.growth ask failure found.own) ask
      cause its is
  owed_caused _ (by_lateness participant from to member passed) ask cause its is =
      refused_for workload kept (Late participant from to)
      (λ ask its. (before.declared participant member, passed)) ask cause its is
  owed_caused _ (by_withdrawal since now passed) ask cause its is =
      refused_for workload kept (Withdrawn since now) (λ ask its. passed) ask cause its is

module _ (workload : Workload) (may_fail : ℕ → Option (List FailingCall)) (segs : SegsView)
    (before : AreCaused workload may_fail segs) where
  pushed : (asks : List AskLog) (entry : AskLog) → asks ≡ segs.asks ++ entry ∷ []
      → IsOwed workload.deadline (denies_in workload) segs entry.ask entry.outcome → All (IsRefusedIn workload) asks
  pushed asks entry is owed =
      subst (All (IsRefusedIn workload)) (sym is)
      (All-push (IsRefusedIn workload) segs.asks entry before.causes
      (λ ask cause kept logged. owed_caused workload may_fail segs before entry.ask entry.outcome owed ask cause kept logged))

module _ (workload : Workload) (may_fail : ℕ → Option (List FailingCall)) where
  alters_caused : (old new : SegsView) → AreCaused workload may_fail old → MovesRoster workload.participants old.roster new.roster
      → Logs workload.participants workload.deadline may_fail (denies_in workload) old new → AreCaused workload may_fail new
  alters_caused old new before roster logs = record {
    causes = causes logs;
    own = alters_own workload.participants may_fail workload.deadline (denies_in workload) old new before.own logs;
    declared = moves_declared workload.participants old.roster new.roster roster before.declared;
  }
    where
      causes : Logs workload.participants workload.deadline may_fail (denies_in workload) old new → All (IsRefusedIn workload) new.asks
      causes (nothing log asks growth) = subst (All (IsRefusedIn workload)) (sym asks) before.causes
      causes (failures participant call row got within may its log asks growth) = subst (All (IsRefusedIn workload)) (sym asks) before.causes
      causes (drops runs log asks growth) = subst (All (IsRefusedIn workload)) (sym asks) before.causes
      causes (outcomes entry log asks growth beside none owed) = pushed workload may_fail old before new.asks entry asks owed
      causes (opens ask run growth alone log asks is stamp unnoted its allowed) = subst (All (IsRefusedIn workload)) (sym asks) before.causes
      causes (ends growth entry end) = pushed workload may_fail old before new.asks entry end.asks end.owed

  -- so it stays through all changes by the workload's deadline
  pub changes_caused : (old new : SegsView) → Changes workload.participants workload.deadline may_fail (denies_in workload) old new
      → AreCaused workload may_fail old
      → AreCaused workload may_fail new
  changes_caused _ _ (stays segs) before = before
  changes_caused _ _ (alters old new one) before = alters_caused old new before one.roster one.logs
  changes_caused _ _ (goes_on old mid new here there) before = changes_caused mid new there (changes_caused old mid here before)
