-- Through all changes by judges that deny so, growths that open and are granted were allowed by them, and where one is denied they deny it.
use Rattle.std.proofs.Common.{◌≡◌, ◌∙◌, ℕ, ◌+◌, ◌≤◌, List, [], ◌∷◌, ◌++◌, append-nil, append_assoc, length, length-append, map, Option, Some, None, IfSome, refl, ap, sym, subst, arith}
use Rattle.std.specs.List.{All}
use Rattle.std.proofs.lemmas.List.{take_all}
use Rattle.std.proofs.lemmas.List.Elements.{All-nil, All-push, All-weaker}
use Rattle.std.proofs.lemmas.Option.{same_Some}
use Rattle.hp_base.specs.Mapping.{FailingCall}
use Rattle.hp_base.specs.declared.row.Row.{Row}
use Rattle.hp_base.specs.declared.row.Run.{Run}
use Rattle.hp_core.specs.Starting.{cause_of}
use Rattle.hp_log.specs.Log.{table_at, table_of}
use Rattle.hp_log.specs.declared.log_record.LogRecord.{LogRecord}
use Rattle.hp_log.specs.declared.log_record.LogRecord.TheVariants.{Add, Drop}
use Rattle.hp_segs.specs.LaterSteps.{noted_failure, noting}
use Rattle.hp_segs.specs.Refusals.{bytes_on}
use Rattle.hp_segs.specs.SegsView.{SegsView, granted_by}
use Rattle.hp_segs.specs.declared.ask.Ask.{Ask}
use Rattle.hp_segs.specs.declared.growth.Growth.{Growth}
use Rattle.hp_segs.specs.declared.outcome.AskLog.{AskLog}
use Rattle.hp_segs.specs.declared.outcome.Cause.{Cause}
use Rattle.hp_segs.specs.declared.outcome.Cause.TheVariants.{CannotHold, Denied, ListFull, MapFailed, NoList, TooFew}
use Rattle.hp_segs.specs.declared.outcome.Outcome.{Outcome}
use Rattle.hp_segs.specs.declared.outcome.Outcome.TheVariants.{Granted, Refused}
use Rattle.hp_segs.specs.declared.plan_refusal.PlanRefusal.{PlanRefusal}
use Rattle.hp_segs.specs.declared.plan_refusal.PlanRefusal.TheVariants as plan
use Rattle.hp_serve.specs.Denials.{Denials}
use Rattle.thm_run.proofs.JudgedGrowths.Moments.{table_stays}
use Rattle.thm_run.proofs.RunFacts.Changes.{Changes, Ends, IsOwed, Logs, alters, by_failure, by_grant, by_judge, by_lateness, by_notice, by_number, by_plan, by_withdrawal, drops, ends, failures, goes_on, nothing, opens, outcomes, stays}

-- the judges allow the ask's socket the bytes that it has by the first records, so many
pub record IsAllowedAt (denies : Denials) (log : List LogRecord) (ask : Ask) (generation : ℕ) : Type 0 where
  pub within : generation ≤ length log
  pub allowed : denies ask.socket (bytes_on (table_at log generation) ask.socket) None

-- what is noted of a growth is a failed mapping
abbrev pub IsMappingNote : Option Cause → Type 0
IsMappingNote None = Unit {0}
IsMappingNote (Some (MapFailed participant call addr got)) = Unit {0}
IsMappingNote (Some cause) = ⊥

-- a growth was allowed, and what is noted of it is a failed mapping
pub record IsJudgedGrowth (denies : Denials) (log : List LogRecord) (growth : Growth) : Type 0 where
  pub allowed : IsAllowedAt denies log growth.ask growth.generation
  pub noted : IsMappingNote growth.noted

-- an outcome for an ask: a grant was allowed, and a denial is one of the judges'
pub record IsJudged (denies : Denials) (log : List LogRecord) (entry : AskLog) : Type 0 where
  pub allowed : (ask : Ask) (generation : ℕ) → entry.ask ≡ Some ask → entry.outcome ≡ Granted generation
      → IsAllowedAt denies log ask generation
  pub denied : (ask : Ask) (name : List ℕ) (limit total : ℕ) → entry.ask ≡ Some ask → entry.outcome ≡ Refused (Denied name limit total)
      → denies ask.socket total (Some (name, limit))

-- since these outcomes each one was so, and so is the open growth
pub record AreJudgedSince (denies : Denials) (first : List AskLog) (segs : SegsView) : Type 0 where
  pub others : List AskLog
  pub asks : segs.asks ≡ first ++ others
  pub each : All (IsJudged denies segs.log) others
  pub growth : IfSome segs.growth (IsJudgedGrowth denies segs.log)

module _ (denies : Denials) where
  -- where no growth is open, it is so since now
  pub judged_first : (segs : SegsView) → segs.growth ≡ None → AreJudgedSince denies segs.asks segs
  judged_first segs none = record {
    others = [];
    asks = sym (append-nil segs.asks);
    each = All-nil (IsJudged denies segs.log);
    growth = subst (λ (growth : Option Growth). IfSome growth (IsJudgedGrowth denies segs.log)) (sym none) tt;
  }

  -- by more records it stays so
  allowed_stays : (log more : List LogRecord) (ask : Ask) (generation : ℕ) → IsAllowedAt denies log ask generation
      → IsAllowedAt denies (log ++ more) ask generation
  allowed_stays log more ask generation was = record {
    within = omega (arith, was.within, length-append log more);
    allowed = subst (λ (table : List Row). denies ask.socket (bytes_on table ask.socket) None)
        (sym (table_stays log more generation was.within)) was.allowed;
  }

  judged_stays : (log more : List LogRecord) (entry : AskLog) → IsJudged denies log entry → IsJudged denies (log ++ more) entry
  judged_stays log more entry was = record {
    allowed = λ ask generation kept granted. allowed_stays log more ask generation (was.allowed ask generation kept granted);
    denied = was.denied;
  }

  growth_stays : (log more : List LogRecord) (growth : Option Growth) → IfSome growth (IsJudgedGrowth denies log)
      → IfSome growth (IsJudgedGrowth denies (log ++ more))
  growth_stays log more None was = tt
  growth_stays log more (Some growth) was = record {
    allowed = allowed_stays log more growth.ask growth.generation was.allowed;
    noted = was.noted;
  }

  -- what is noted of a growth is allowed as before
  noting_judged : (log : List LogRecord) (growth : Option Growth) (participant call addr : ℕ) (got : _)
      → IfSome growth (IsJudgedGrowth denies log)
      → IfSome (noting (MapFailed participant call addr got) growth) (IsJudgedGrowth denies log)
  noting_judged log None participant call addr got was = tt
  noting_judged log (Some growth) participant call addr got was = record {
    allowed = record { within = was.allowed.within; allowed = was.allowed.allowed };
    noted = tt;
  }

  -- by records that come, and where the growth is as it was or so
  kept : (first : List AskLog) (old new : SegsView) (more : List LogRecord) → AreJudgedSince denies first old → new.log ≡ old.log ++ more
      → new.asks ≡ old.asks → IfSome new.growth (IsJudgedGrowth denies (old.log ++ more)) → AreJudgedSince denies first new
  kept first old new more was log asks growth = record {
    others = was.others;
    asks = asks ∙ was.asks;
    each = subst (λ (log : List LogRecord). All (IsJudged denies log) was.others) (sym log)
        (All-weaker (IsJudged denies old.log) (IsJudged denies (old.log ++ more)) (λ entry its. judged_stays old.log more entry its) was.others was.each);
    growth = subst (λ (log : List LogRecord). IfSome new.growth (IsJudgedGrowth denies log)) (sym log) growth;
  }

  -- and with one outcome more that is so
  pushed : (first : List AskLog) (old new : SegsView) (more : List LogRecord) (entry : AskLog) → AreJudgedSince denies first old
      → new.log ≡ old.log ++ more → new.asks ≡ old.asks ++ entry ∷ [] → IsJudged denies (old.log ++ more) entry
      → IfSome new.growth (IsJudgedGrowth denies (old.log ++ more)) → AreJudgedSince denies first new
  pushed first old new more entry was log asks its growth = record {
    others = was.others ++ entry ∷ [];
    asks = asks ∙ ap (λ (asks : List AskLog). asks ++ entry ∷ []) was.asks ∙ append_assoc first was.others (entry ∷ []);
    each = subst (λ (log : List LogRecord). All (IsJudged denies log) (was.others ++ entry ∷ [])) (sym log)
        (All-push (IsJudged denies (old.log ++ more)) was.others entry
        (All-weaker (IsJudged denies old.log) (IsJudged denies (old.log ++ more)) (λ entry its. judged_stays old.log more entry its) was.others
        was.each) its);
    growth = subst (λ (log : List LogRecord). IfSome new.growth (IsJudgedGrowth denies log)) (sym log) growth;
  }

  -- DENIALS

  -- a denial that was logged is one of the judges'
  same_denial : (cause : Cause) (name : List ℕ) (limit total : ℕ) → Refused cause ≡ Refused (Denied name limit total)
      → cause ≡ Denied name limit total
  same_denial cause name limit total is = cc

  denial_is : (ask asked : Ask) (denial : List ℕ × ℕ) (own : ℕ) (name : List ℕ) (limit total : ℕ) → Some asked ≡ Some ask
      → denies asked.socket own (Some denial) → Refused (Denied denial.0 denial.1 own) ≡ Refused (Denied name limit total)
      → denies ask.socket total (Some (name, limit))
  denial_is ask asked (given, bound) own name limit total same may is =
      let names : given ≡ name = cc in
      let limits : bound ≡ limit = cc in
      let totals : own ≡ total = cc in
      subst (λ (ask : Ask). denies ask.socket total (Some (name, limit))) (same_Some asked ask same)
      (subst (λ (total : ℕ). denies asked.socket total (Some (name, limit))) totals
      (subst (λ (limit : ℕ). denies asked.socket own (Some (name, limit))) limits
      (subst (λ (name : List ℕ). denies asked.socket own (Some (name, bound))) names may)))

  plan_denies_none : (refusal : PlanRefusal) (name : List ℕ) (limit total : ℕ) → cause_of refusal ≡ Denied name limit total → ⊥
  plan_denies_none (plan.StaleAsk number done) name limit total is = cc
  plan_denies_none (plan.GrowthOpen generation) name limit total is = cc
  plan_denies_none plan.NoList name limit total is = cc
  plan_denies_none (plan.TooFew have need) name limit total is = cc
  plan_denies_none (plan.ListFull longest need) name limit total is = cc
  plan_denies_none (plan.CannotHold addr len) name limit total is = cc

  note_denies_none : (noted : Option Cause) (name : List ℕ) (limit total : ℕ) → IsMappingNote noted → noted ≡ Some (Denied name limit total) → ⊥
  note_denies_none None name limit total its is = cc
  note_denies_none (Some (MapFailed participant call addr got)) name limit total its is = cc
  note_denies_none (Some _) name limit total its is = its

  noted_by : (log : List LogRecord) (segs : SegsView) (growth : Option Growth) (name : List ℕ) (limit total : ℕ) → segs.growth ≡ growth
      → IfSome growth (IsJudgedGrowth denies log) → noted_failure segs ≡ Some (Denied name limit total) → ⊥
  noted_by log segs None name limit total its was noted =
      let none : noted_failure segs ≡ None = ap (λ (growth : Option Growth). noted_failure (record segs { growth = growth })) its in
      let wrong : None ≡ Some (Denied name limit total) = sym none ∙ noted in
      cc
  noted_by log segs (Some growth) name limit total its was noted =
      let own : noted_failure segs ≡ growth.noted = ap (λ (growth : Option Growth). noted_failure (record segs { growth = growth })) its in
      note_denies_none growth.noted name limit total was.noted (sym own ∙ noted)

  module _ (deadline : ℕ) (first : List AskLog) (old : SegsView) (was : AreJudgedSince denies first old) (kept_ask : Option Ask) where
    owed_denied : (outcome : Outcome) → IsOwed deadline denies old kept_ask outcome → (ask : Ask) (name : List ℕ) (limit total : ℕ)
        → kept_ask ≡ Some ask → outcome ≡ Refused (Denied name limit total) → denies ask.socket total (Some (name, limit))
    owed_denied _ (by_grant generation) ask name limit total its is = cc
    owed_denied _ (by_number done) ask name limit total its is = cc
    owed_denied _ (by_notice generation) ask name limit total its is = cc
    owed_denied _ (by_plan refusal) ask name limit total its is =
        absurd (plan_denies_none refusal name limit total (same_denial (cause_of refusal) name limit total is))
    owed_denied _ (by_judge asked denial own same may) ask name limit total its is =
        denial_is ask asked denial own name limit total (sym same ∙ its) may is
    owed_denied _ (by_failure cause noted) ask name limit total its is =
        absurd (noted_by old.log old old.growth name limit total refl was.growth
        (noted ∙ ap Some (same_denial cause name limit total is)))
    owed_denied _ (by_lateness participant from to member passed) ask name limit total its is = cc
    owed_denied _ (by_withdrawal since now passed) ask name limit total its is = cc

  -- an outcome that grants nothing
  granted_none : (outcome : Outcome) (generation : ℕ) → granted_by outcome ≡ None → outcome ≡ Granted generation → ⊥
  granted_none outcome generation none is =
      let wrong : None ≡ Some generation = sym none ∙ ap granted_by is in
      cc

  -- THE CHANGES

  module _ (count deadline : ℕ) (may_fail : ℕ → Option (List FailingCall)) (first : List AskLog) where
    no_more : (old new : SegsView) → new.log ≡ old.log → new.log ≡ old.log ++ []
    no_more old new same = same ∙ sym (append-nil old.log)

    growth_same : (old new : SegsView) (more : List LogRecord) → AreJudgedSince denies first old → new.growth ≡ old.growth
        → IfSome new.growth (IsJudgedGrowth denies (old.log ++ more))
    growth_same old new more was same =
        subst (λ (growth : Option Growth). IfSome growth (IsJudgedGrowth denies (old.log ++ more))) (sym same)
        (growth_stays old.log more old.growth was.growth)

    -- a growth ends
    ended : (old new : SegsView) (growth : Growth) (entry : AskLog) → AreJudgedSince denies first old
        → Ends deadline denies old new growth entry → AreJudgedSince denies first new
    ended old new growth entry was end =
        let more : List LogRecord = map (λ (run : Run). Drop run) end.runs in
        let open_then : IsJudgedGrowth denies old.log growth =
        subst (λ (growth : Option Growth). IfSome growth (IsJudgedGrowth denies old.log)) end.was_open was.growth in
        pushed first old new more entry was end.log end.asks
        (record {
          allowed = λ ask generation its granted.
              let own : growth.ask ≡ ask = same_Some growth.ask ask (sym end.kept ∙ its) in
              let its_own : generation ≡ growth.generation = end.grants generation (ap granted_by granted) in
              allowed_stays old.log more ask generation
              (subst (IsAllowedAt denies old.log ask) (sym its_own)
              (subst (λ (ask : Ask). IsAllowedAt denies old.log ask growth.generation) own open_then.allowed));
          denied = λ ask name limit total its refused.
              owed_denied deadline first old was entry.ask entry.outcome end.owed ask name limit total its refused;
        })
        (subst (λ (growth : Option Growth). IfSome growth (IsJudgedGrowth denies (old.log ++ more))) (sym end.gone) tt)

    -- one change
    logs_judged : (old new : SegsView) → AreJudgedSince denies first old → Logs count deadline may_fail denies old new
        → AreJudgedSince denies first new
    logs_judged old new was (nothing log asks growth) =
        kept first old new [] was (no_more old new log) asks (growth_same old new [] was growth)
    logs_judged old new was (failures participant call row got within may its log asks growth) =
        kept first old new [] was (no_more old new log) asks
        (subst (λ (growth : Option Growth). IfSome growth (IsJudgedGrowth denies (old.log ++ []))) (sym growth)
        (noting_judged (old.log ++ []) old.growth participant call row.addr got (growth_stays old.log [] old.growth was.growth)))
    logs_judged old new was (drops runs log asks growth) =
        kept first old new (map (λ (run : Run). Drop run) runs) was log asks (growth_same old new (map (λ (run : Run). Drop run) runs) was growth)
    logs_judged old new was (outcomes entry log asks growth beside none owed) =
        pushed first old new [] entry was (no_more old new log) asks
        (record {
          allowed = λ ask generation its granted. absurd (granted_none entry.outcome generation none granted);
          denied = λ ask name limit total its refused.
              owed_denied deadline first old was entry.ask entry.outcome owed ask name limit total its refused;
        })
        (growth_same old new [] was growth)
    logs_judged old new was (opens ask run growth alone log asks is stamp unnoted own allowed) =
        let more : List LogRecord = Add run ask.heap ∷ [] in
        let long : growth.generation ≡ length (old.log ++ more) = omega (arith, stamp, length-append old.log more) in
        let whole : table_at (old.log ++ more) growth.generation ≡ table_of (old.log ++ more) =
        ap table_of (take_all growth.generation (old.log ++ more) (omega (arith, long))) in
        let of_ask : IsAllowedAt denies (old.log ++ more) ask growth.generation =
        record {
          within = omega (arith, long);
          allowed = subst (λ (table : List Row). denies ask.socket (bytes_on table ask.socket) None)
              (ap table_of log ∙ sym whole) allowed;
        } in
        kept first old new more was log asks
        (subst (λ (growth : Option Growth). IfSome growth (IsJudgedGrowth denies (old.log ++ more))) (sym is)
        (record {
          allowed = subst (λ (ask : Ask). IsAllowedAt denies (old.log ++ more) ask growth.generation) (sym own) of_ask;
          noted = subst IsMappingNote (sym unnoted) tt;
        }))
    logs_judged old new was (ends growth entry end) = ended old new growth entry was end

    -- so it stays through all changes
    pub changes_judged : (old new : SegsView) → Changes count deadline may_fail denies old new → AreJudgedSince denies first old
        → AreJudgedSince denies first new
    changes_judged _ _ (stays segs) was = was
    changes_judged _ _ (alters old new one) was = logs_judged old new was one.logs
    changes_judged _ _ (goes_on old mid new here there) was = changes_judged mid new there (changes_judged old mid here was)
