-- What a step logs as Denied, and what it opens, is the judge's.
use Rattle.std.proofs.Common.{◌≡◌, ℕ, ◌+◌, ◌<◌, Bool, true, false, cond, List, [], ◌∷◌, ◌++◌, length, drop, replicate, Contains, Option, Some, None, Result, Ok, Err, IfSome, refl, ap, ◌∙◌, sym, subst, append-nil, arith, if◌then◌else◌}
use Rattle.std.specs.Prelude.{slice_index_or}
use Rattle.std.proofs.lemmas.Bool.{cond_both}
use Rattle.std.proofs.lemmas.List.{drop_at}
use Rattle.hp_base.specs.declared.caught.Caught.{Caught}
use Rattle.hp_base.specs.declared.row.Run.{Run}
use Rattle.hp_segs.specs.LaterSteps.{after_stale, is_noted, noted_failure, noting}
use Rattle.hp_segs.specs.Plan.{plan_of}
use Rattle.hp_segs.specs.Refusals.{IsNoted, IsNotedCause}
use Rattle.hp_segs.specs.SegsView.{SegsView, closed_number}
use Rattle.hp_segs.specs.Sound.{IsSound}
use Rattle.hp_segs.specs.Steps.{after_agree, after_cancel, after_close, after_drop, after_freed, after_open, agreed_growth, cancelled_growth, granted_unless, lowest_member_below}
use Rattle.hp_segs.specs.declared.ask.Ask.{Ask}
use Rattle.hp_segs.specs.declared.fault.NotAll.{NotAll}
use Rattle.hp_segs.specs.declared.growth.Growth.{Growth}
use Rattle.hp_segs.specs.declared.outcome.AskLog.{AskLog}
use Rattle.hp_segs.specs.declared.outcome.Cause.{Cause}
use Rattle.hp_segs.specs.declared.outcome.Cause.TheVariants.{Denied, Late, MapFailed}
use Rattle.hp_segs.specs.declared.outcome.Outcome.{Outcome}
use Rattle.hp_segs.specs.declared.outcome.Outcome.TheVariants.{Freed, Granted, Refused, Stale}
use Rattle.hp_segs.specs.declared.plan_refusal.PlanRefusal.{PlanRefusal}
use Rattle.hp_segs.specs.declared.plan_refusal.PlanRefusal.TheVariants as fault
use Rattle.hp_core.specs.Asks.{asker, is_armed, is_closed, is_unarmed, number_of}
use Rattle.hp_core.specs.Core.{Core, Done, Stepped, going_on, idle, is_foreign, is_idle, unchanged}
use Rattle.hp_core.specs.Following.{after_catching, failure_of, noted}
use Rattle.hp_core.specs.Judging.{IsSteppedBy, MayAnswer, ask_judged, fresh_judged, grow_judged, held_ask_judged, held_judged, judged_at, plan_judged, poll_judged, start_judged}
use Rattle.hp_core.specs.Laws.{IsAllowed, IsByJudge, IsDenied, IsJudgedSo, IsStarted}
use Rattle.hp_core.specs.Outs.{IsTaken, IsTaken.comes, IsTaken.is_served}
use Rattle.hp_core.specs.Starting.{cause_of, grown, judged, planned, refused, started, started_by, total_with}
use Rattle.hp_core.specs.Stepping.{came, caught_in, holding, lowest_held, polled_in, released, served, served_ask, stepped, taken}
use Rattle.hp_core.specs.declared.asked.Asked.{Asked}
use Rattle.hp_core.specs.declared.asked.Asked.TheVariants as want
use Rattle.hp_core.specs.declared.event.CoreEvent.{CoreEvent}
use Rattle.hp_core.specs.declared.event.CoreEvent.TheVariants.{Grow, Shrink, SelfMapped, Poll}
use Rattle.hp_core.specs.declared.following.Failure.{Failure}
use Rattle.hp_core.specs.declared.out.Out.{Out}
use Rattle.hp_core.specs.declared.out.Out.TheVariants.{Nothing}
use Rattle.hp_core.specs.declared.phase.Phase.{Phase}
use Rattle.hp_core.specs.declared.phase.Phase.TheVariants.{Idle, Mapping, Waiting}
use Rattle.hp_core.proofs.GivingLemmas.{only_one}
use Rattle.hp_core.proofs.StepWalk.{HoldsAlone, HoldsInRound, IsRoundCause, IsRoundCause.was_late, IsRoundCause.was_noted, caught_holds, polled_holds}

-- two choices by one test
both : {A B : Type 0} (b : Bool) (x y : A) (v w : B) (Q : A → B → Type 0) → (b ≡ true → Q x v) → (b ≡ false → Q y w) → Q (cond b x y) (cond b v w)
both true x y v w Q first second = first refl
both false x y v w Q first second = second refl

-- of outcomes that did not change none came, and after others one came alone
none_came : (old new : List AskLog) (entry : AskLog) → new ≡ old → Contains (drop (length old) new) entry → ⊥
none_came old new entry same has =
    let behind : drop (length old) new ≡ [] =
    ap (drop (length old)) (same ∙ sym (append-nil old)) ∙ drop_at old [] (length old) refl in
    let kept : Contains [] entry = subst (λ outcomes. Contains outcomes entry) behind has in
    absurd (omega (arith, kept.1))

one_came : (old new : List AskLog) (one entry : AskLog) → new ≡ old ++ one ∷ [] → Contains (drop (length old) new) entry → one ≡ entry
one_came old new one entry asks has =
    let behind : drop (length old) new ≡ one ∷ [] = ap (drop (length old)) asks ∙ drop_at old (one ∷ []) (length old) refl in
    only_one one entry (subst (λ outcomes. Contains outcomes entry) behind has)

-- a plan's refusal is no denial
no_denial : (refusal : PlanRefusal) (validator : List ℕ) (limit total : ℕ) → Refused (cause_of refusal) ≡ Refused (Denied validator limit total) → ⊥
no_denial (fault.StaleAsk number done) validator limit total same = cc
no_denial (fault.GrowthOpen generation) validator limit total same = cc
no_denial fault.NoList validator limit total same = cc
no_denial (fault.TooFew have need) validator limit total same = cc
no_denial (fault.ListFull longest need) validator limit total same = cc
no_denial (fault.CannotHold addr len) validator limit total same = cc

module _ (denies : ℕ → ℕ → Option (List ℕ × ℕ) → Type 0)
    (limits : (socket total : ℕ) (answer : Option (List ℕ × ℕ)) → denies socket total answer → IfSome answer (λ denied. denied.1 < total))
    (event : CoreEvent) (core : Core) (segs : SegsView) where
  abbrev ByJudge : SegsView → Type 0
  ByJudge new = IsByJudge denies event core segs new

  -- nothing is logged, and nothing opened
  by_none : (new : SegsView) → new.asks ≡ segs.asks → (segs.growth ≡ None → new.growth ≡ None) → ByJudge new
  by_none new asks growth = record {
    denied = λ entry validator limit total has is. absurd (none_came segs.asks new.asks entry asks has);
    opened = λ its none is. absurd (never its (sym (growth none) ∙ is));
  }
    where
      never : (its : Growth) → None ≡ Some its → ⊥
      never its same = cc

  -- an outcome is logged that is no denial, and nothing is opened
  by_one : (new : SegsView) (one : AskLog) → new.asks ≡ segs.asks ++ one ∷ []
      → ((validator : List ℕ) (limit total : ℕ) → one.outcome ≡ Refused (Denied validator limit total)
      → IsDenied denies event core segs one validator limit total)
      → (segs.growth ≡ None → new.growth ≡ None) → ByJudge new
  by_one new one asks its_denial growth = record {
    denied = λ entry validator limit total has is.
        let same = one_came segs.asks new.asks one entry asks has in
        subst (λ entry. IsDenied denies event core segs entry validator limit total) same
        (its_denial validator limit total (ap (λ entry. entry.outcome) same ∙ is));
    opened = λ its none is. absurd (never its (sym (growth none) ∙ is));
  }
    where
      never : (its : Growth) → None ≡ Some its → ⊥
      never its same = cc

  module _ (answer : Option (List ℕ × ℕ)) where
    abbrev denial : ℕ → ℕ → Option (List ℕ × ℕ)
    denial socket total = answer

    -- by what the judge may answer of what it is asked
    abbrev Q : Option (ℕ × ℕ) → Done → Type 0
    Q judged done = MayAnswer denies judged answer → ByJudge done.segs

    abbrev QStep : Option (ℕ × ℕ) → Stepped → Type 0
    QStep judged after = MayAnswer denies judged answer → ByJudge after.segs

    module _ (idle_now : is_idle core.phase ≡ true) (alone : is_foreign core.phase segs.growth ≡ false) where
      module _ (ask : Ask) (run : Run) (its : IsTaken event core (want.Grow ask)) (is_started : IsStarted ask segs)
          (plan : plan_of ask (after_drop segs) ≡ Ok run) where
        abbrev its_total : ℕ
        its_total = total_with ask run (after_drop segs)

        its_judged : (given : Option (List ℕ × ℕ)) → denies ask.socket its_total given
            → IsJudgedSo denies event core segs ask run its_total given
        its_judged given may = record {
          judged = record {
            ask = ask;
            run = run;
            taken = its;
            idle = idle_now;
            alone = alone;
            started = is_started;
            plan = plan;
            judged_is = refl;
          };
          its_ask = refl;
          its_run = refl;
          given = may;
        }

        abbrev opened_growth : Growth
        opened_growth = record { generation = length (after_drop segs).log + 1; ask = ask; run = run; noted = None }

        by_open : denies ask.socket its_total None → ByJudge (after_open ask run (after_drop segs))
        by_open may = record {
          denied = λ entry validator limit total has is.
              absurd (none_came segs.asks (after_open ask run (after_drop segs)).asks entry refl has);
          opened = λ growth none is. by_growth growth is;
        }
          where
            by_growth : (growth : Growth) → Some opened_growth ≡ Some growth → IsAllowed denies event core segs growth
            by_growth growth is =
                let same : opened_growth ≡ growth = cc in
                subst (λ growth. IsAllowed denies event core segs growth) same (record { total = its_total; judged = its_judged None may })

        abbrev denied_entry : List ℕ × ℕ → AskLog
        denied_entry denied = record {
          from = ask.from;
          number = ask.number;
          outcome = Refused (Denied denied.0 denied.1 its_total);
          at = length (after_drop segs).log;
          ask = Some ask;
        }

        its_denial : (denied : List ℕ × ℕ) → denies ask.socket its_total (Some denied) → (validator : List ℕ) (limit total : ℕ)
            → Refused (Denied denied.0 denied.1 its_total) ≡ Refused (Denied validator limit total)
            → IsDenied denies event core segs (denied_entry denied) validator limit total
        its_denial denied may validator limit total same =
            let name_is : denied.0 ≡ validator = cc in
            let limit_is : denied.1 ≡ limit = cc in
            let total_is : its_total ≡ total = cc in
            subst (λ (name : List ℕ). IsDenied denies event core segs (denied_entry denied) name limit total) name_is
            (subst (λ (limit : ℕ). IsDenied denies event core segs (denied_entry denied) denied.0 limit total) limit_is
            (subst (λ (total : ℕ). IsDenied denies event core segs (denied_entry denied) denied.0 denied.1 total) total_is
            (record {
              ask = ask;
              run = run;
              kept = refl;
              judged = its_judged (Some denied) may;
              below = limits ask.socket its_total (Some denied) may;
            })))

        by_denied : (denied : List ℕ × ℕ) → denies ask.socket its_total (Some denied) → segs.growth ≡ None
            → ByJudge (after_close ask (Denied denied.0 denied.1 its_total) (after_drop segs))
        by_denied denied may none =
            by_one (after_close ask (Denied denied.0 denied.1 its_total) (after_drop segs)) (denied_entry denied) refl (its_denial denied may)
            (λ before. before)

        by_judged : (given : Option (List ℕ × ℕ)) → denies ask.socket its_total given → segs.growth ≡ None
            → ByJudge (judged ask run (after_drop segs) given).segs
        by_judged None may none = by_open may
        by_judged (Some denied) may none = by_denied denied may none

      by_planned : (ask : Ask) → IsTaken event core (want.Grow ask) → IsStarted ask segs → segs.growth ≡ None → (plan : Result Run PlanRefusal)
          → plan_of ask (after_drop segs) ≡ plan → Q (plan_judged ask (after_drop segs) plan) (planned denial ask (after_drop segs) plan)
      by_planned ask its is_started none (Ok run) is may = by_judged ask run its is_started is answer may none
      by_planned ask its is_started none (Err refusal) is may =
          by_one (after_close ask (cause_of refusal) (after_drop segs))
          (record {
            from = ask.from;
            number = ask.number;
            outcome = Refused (cause_of refusal);
            at = length (after_drop segs).log;
            ask = Some ask;
          })
          refl
          (λ validator limit total same. absurd (no_denial refusal validator limit total same))
          (λ before. before)

      by_fresh : (one : Asked) → IsTaken event core one → segs.growth ≡ None → is_closed one segs ≡ false
          → Q (fresh_judged segs one) (started_by denial segs one)
      by_fresh (want.Grow ask) its none fresh =
          both (is_armed ask segs) (grow_judged ask (after_drop segs)) None (grown denial ask (after_drop segs)) (idle segs Nothing) Q
          (λ armed. by_planned ask its (record { fresh = fresh; armed = armed }) none (plan_of ask (after_drop segs)) refl)
          (λ unarmed may. by_none segs refl (λ before. before))
      by_fresh (want.Shrink from number) its none fresh = λ may.
          by_one (after_freed from number (after_drop segs))
          (record {
            from = from;
            number = number;
            outcome = Freed (length (after_drop segs).log);
            at = length (after_drop segs).log;
            ask = None;
          })
          refl
          (λ validator limit total same. absurd (no_freed validator limit total same))
          (λ before. before)
        where
          no_freed : (validator : List ℕ) (limit total : ℕ) → Freed (length (after_drop segs).log) ≡ Refused (Denied validator limit total) → ⊥
          no_freed validator limit total same = cc

      by_started : (one : Asked) → IsTaken event core one → segs.growth ≡ None → Q (start_judged one segs) (started denial one segs)
      by_started one its none =
          both (is_closed one segs) None (fresh_judged segs one) (idle (after_stale (asker one) (number_of one) segs) Nothing)
          (started_by denial segs one) Q
          (λ closed may.
          by_one (after_stale (asker one) (number_of one) segs)
          (record {
            from = asker one;
            number = number_of one;
            outcome = Stale (closed_number segs.asks (asker one));
            at = length segs.log;
            ask = None;
          })
          refl
          (λ validator limit total same. absurd (no_stale validator limit total same))
          (λ before. before))
          (λ fresh. by_fresh one its none fresh)
        where
          no_stale : (validator : List ℕ) (limit total : ℕ)
              → Stale (closed_number segs.asks (asker one)) ≡ Refused (Denied validator limit total) → ⊥
          no_stale validator limit total same = cc

    -- while nothing is under way, a growth that is open is another's
    none_open : (phase : Phase) (growth : Option Growth) → is_foreign phase growth ≡ false → is_idle phase ≡ true → growth ≡ None
    none_open Idle None own is = refl
    none_open Idle (Some growth) own is = cc
    none_open (Mapping round) growth own is = cc
    none_open (Waiting round since) growth own is = cc

    -- an ask that comes, to a coordinator with the phase
    by_came : (holder : Core) → holder.phase ≡ core.phase → (one : Asked) → IsTaken event core one
        → QStep (ask_judged one holder segs) (came denial one holder segs)
    by_came holder same one its =
        both (is_foreign holder.phase segs.growth) None (if is_idle holder.phase then start_judged one segs else None) (unchanged holder segs)
        (taken denial one holder segs) QStep
        (λ foreign may. by_none segs refl (λ before. before))
        (λ alone.
        both (is_idle holder.phase) (start_judged one segs) None (going_on holder (started denial one segs))
        (if is_unarmed one segs then unchanged holder segs else unchanged (holding one holder) segs) QStep
        (λ idle_now.
        by_started (subst (λ phase. is_idle phase ≡ true) same idle_now) (subst (λ phase. is_foreign phase segs.growth ≡ false) same alone) one its
        (none_open holder.phase segs.growth alone idle_now))
        (λ busy may.
        cond_both (is_unarmed one segs) (unchanged holder segs) (unchanged (holding one holder) segs) (λ after. ByJudge after.segs)
        (λ unarmed. by_none segs refl (λ before. before))
        (λ armed. by_none segs refl (λ before. before))))

-- no outcome that came is a denial, and no growth is opened
record IsNoNews (old new : SegsView) : Type 0 where
  pub logged : (entry : AskLog) (validator : List ℕ) (limit total : ℕ) → Contains (drop (length old.asks) new.asks) entry
      → entry.outcome ≡ Refused (Denied validator limit total) → ⊥
  pub opened : old.growth ≡ None → new.growth ≡ None

news_none : (old new : SegsView) → new.asks ≡ old.asks → (old.growth ≡ None → new.growth ≡ None) → IsNoNews old new
news_none old new asks growth =
    record { logged = λ entry validator limit total has is. none_came old.asks new.asks entry asks has; opened = growth }

news_one : (old new : SegsView) (one : AskLog) → new.asks ≡ old.asks ++ one ∷ []
    → ((validator : List ℕ) (limit total : ℕ) → one.outcome ≡ Refused (Denied validator limit total) → ⊥)
    → (old.growth ≡ None → new.growth ≡ None) → IsNoNews old new
news_one old new one asks never growth = record {
  logged = λ entry validator limit total has is.
      never validator limit total (ap (λ entry. entry.outcome) (one_came old.asks new.asks one entry asks has) ∙ is);
  opened = growth;
}

-- what is noted is no denial
abbrev IsClean : SegsView → Type 0
IsClean segs = (validator : List ℕ) (limit total : ℕ) → noted_failure segs ≡ Some (Denied validator limit total) → ⊥

clean_by : (asks : List AskLog) (open_now : Option Growth) (segs : SegsView) → segs.growth ≡ open_now → IsNoted asks open_now → IsClean segs
clean_by asks None segs growth is validator limit total noted_is = never (sym (ap failure growth) ∙ noted_is)
  where
    failure : Option Growth → Option Cause
    failure growth = noted_failure (record segs { growth = growth })

    never : None ≡ Some (Denied validator limit total) → ⊥
    never same = cc
clean_by asks (Some growth) segs growth_is is validator limit total noted_is =
    subst (λ cause. IfSome cause (IsNotedCause asks growth)) (sym (ap failure growth_is) ∙ noted_is) is
  where
    failure : Option Growth → Option Cause
    failure growth = noted_failure (record segs { growth = growth })

clean_sound : (segs : SegsView) → IsSound segs → IsClean segs
clean_sound segs sound = clean_by segs.asks segs.growth segs refl sound.asks.noted

-- and stays so where a failed mapping is noted
clean_noting : (segs : SegsView) (open_now : Option Growth) (participant call addr : ℕ) (got : _)
    → IsClean (record segs { growth = noting (MapFailed participant call addr got) open_now })
clean_noting segs None participant call addr got validator limit total is = never is
  where
    never : None ≡ Some (Denied validator limit total) → ⊥
    never same = cc
clean_noting segs (Some growth) participant call addr got validator limit total is = never is
  where
    never : Some (MapFailed participant call addr got) ≡ Some (Denied validator limit total) → ⊥
    never same = cc

clean_after : (segs : SegsView) (failure : Option Failure) → IsClean segs → IsClean (noted 0 segs failure)
clean_after segs None clean = clean
clean_after segs (Some one) clean =
    cond_both (is_noted segs 0 one.call one.row segs.growth)
    (record segs { growth = noting (MapFailed 0 one.call one.row.addr one.got) segs.growth }) segs IsClean
    (λ noted_now. clean_noting segs segs.growth 0 one.call one.row.addr one.got) (λ other. clean)

-- a growth's cause is no denial
cause_clean : (segs : SegsView) (cause : Cause) → IsClean segs → IsRoundCause segs cause → (validator : List ℕ) (limit total : ℕ)
    → Refused cause ≡ Refused (Denied validator limit total) → ⊥
cause_clean segs cause clean (was_noted is) validator limit total same =
    let its : cause ≡ Denied validator limit total = cc in
    clean validator limit total (is ∙ ap Some its)
cause_clean segs cause clean (was_late participant from to is) validator limit total same = never (sym (ap Refused is) ∙ same)
  where
    never : Refused (Late participant from to) ≡ Refused (Denied validator limit total) → ⊥
    never same = cc

module _ (old segs : SegsView) (asks : segs.asks ≡ old.asks) where
  news_same : (old.growth ≡ None → segs.growth ≡ None) → IsNoNews old segs
  news_same growth = news_none old segs asks growth

  abbrev growth_entry : Growth → Outcome → AskLog
  growth_entry growth outcome = record {
    from = growth.ask.from;
    number = growth.ask.number;
    outcome = outcome;
    at = length segs.log;
    ask = Some growth.ask;
  }

  news_cancel : (cause : Cause) → IsClean segs → IsRoundCause segs cause → (open_now : Option Growth) → segs.growth ≡ open_now
      → IsNoNews old (cancelled_growth cause segs open_now)
  news_cancel cause clean why None none = news_none old segs asks (λ before. none)
  news_cancel cause clean why (Some growth) is =
      news_one old (cancelled_growth cause segs (Some growth)) (growth_entry growth (Refused cause))
      (ap (λ (l : List AskLog). l ++ growth_entry growth (Refused cause) ∷ []) asks) (cause_clean segs cause clean why) (λ before. refl)

  news_granted : (growth : Growth) (below : Option NotAll) → (old.growth ≡ None → segs.growth ≡ None)
      → IsNoNews old (granted_unless growth segs below)
  news_granted growth None same =
      news_one old (granted_unless growth segs None) (growth_entry growth (Granted growth.generation))
      (ap (λ (l : List AskLog). l ++ growth_entry growth (Granted growth.generation) ∷ []) asks) never (λ before. refl)
    where
      never : (validator : List ℕ) (limit total : ℕ) → Granted growth.generation ≡ Refused (Denied validator limit total) → ⊥
      never validator limit total is = cc
  news_granted growth (Some member) same = news_none old segs asks same

  news_agree : (acks : List ℕ) (open_now : Option Growth) → (old.growth ≡ None → segs.growth ≡ None) → IsNoNews old (agreed_growth acks segs open_now)
  news_agree acks None same = news_none old segs asks same
  news_agree acks (Some growth) same = news_granted growth (lowest_member_below segs.roster acks growth.generation) same

round_news : (acks : List ℕ) (segs : SegsView) → IsClean segs → HoldsInRound (IsNoNews segs) acks segs
round_news acks segs clean = record {
  cancelled = λ cause why. news_cancel segs segs refl cause clean why segs.growth refl;
  agreed = news_agree segs segs refl acks segs.growth (λ before. before);
}

-- a failure that is noted leaves the outcomes, and opens nothing
record IsLike (old mid : SegsView) : Type 0 where
  pub asks : mid.asks ≡ old.asks
  pub growth : old.growth ≡ None → mid.growth ≡ None

like_noting : (segs : SegsView) (cause : Cause) (open_now : Option Growth) → open_now ≡ None → noting cause open_now ≡ None
like_noting segs cause None none = refl
like_noting segs cause (Some growth) none = cc

like_after : (segs : SegsView) (failure : Option Failure) → IsLike segs (noted 0 segs failure)
like_after segs None = record { asks = refl; growth = λ before. before }
like_after segs (Some one) =
    cond_both (is_noted segs 0 one.call one.row segs.growth)
    (record segs { growth = noting (MapFailed 0 one.call one.row.addr one.got) segs.growth }) segs (IsLike segs)
    (λ noted_now.
    record { asks = refl; growth = like_noting segs (MapFailed 0 one.call one.row.addr one.got) segs.growth })
    (λ other. record { asks = refl; growth = λ before. before })

alone_news : (caught : Caught) (segs mid : SegsView) → IsLike segs mid → IsClean mid → HoldsAlone (IsNoNews segs) caught mid
alone_news caught segs mid like clean = record {
  cancelled = λ cause why. news_cancel segs mid like.asks cause clean why mid.growth refl;
  agreed = λ generation none mapped. news_agree segs mid like.asks (replicate 16 generation) mid.growth like.growth;
}

caught_news : (core : Core) (segs : SegsView) (caught : Caught) (now : ℕ) → IsSound segs
    → IsNoNews segs (caught_in core segs caught now core.phase).segs
caught_news core segs caught now sound =
    let mid = after_catching 0 caught segs in
    let like : IsLike segs mid = like_after segs (failure_of caught) in
    let clean : IsClean mid = clean_after segs (failure_of caught) (clean_sound segs sound) in
    caught_holds (IsNoNews segs) core segs caught now core.phase (news_none segs segs refl (λ before. before))
    (news_none segs mid like.asks like.growth) (alone_news caught segs mid like clean)

module _ (denies : ℕ → ℕ → Option (List ℕ × ℕ) → Type 0)
    (limits : (socket total : ℕ) (answer : Option (List ℕ × ℕ)) → denies socket total answer → IfSome answer (λ denied. denied.1 < total)) where
  by_no_news : (event : CoreEvent) (core : Core) (segs new : SegsView) → IsNoNews segs new → IsByJudge denies event core segs new
  by_no_news event core segs new news = record {
    denied = λ entry validator limit total has is. absurd (news.logged entry validator limit total has is);
    opened = λ growth none is. absurd (never growth (sym (news.opened none) ∙ is));
  }
    where
      never : (growth : Growth) → None ≡ Some growth → ⊥
      never growth same = cc

  module _ (core : Core) (segs : SegsView) (sound : IsSound segs) (answer : Option (List ℕ × ℕ)) where
    abbrev it : ℕ → ℕ → Option (List ℕ × ℕ)
    it socket total = answer

    module _ (now : ℕ) (acks : List ℕ) where
      by_held : (place : ℕ) → lowest_held core.held ≡ Some place → is_idle core.phase ≡ true → (found : Option Asked)
          → slice_index_or core.held place None ≡ found → MayAnswer denies (held_ask_judged (released core place) segs found) answer
          → IsByJudge denies (Poll now acks) core segs (served_ask it (released core place) segs found).segs
      by_held place lowest idle_now None is may =
          by_none denies limits (Poll now acks) core segs segs refl (λ before. before)
      by_held place lowest idle_now (Some one) is may =
          by_came denies limits (Poll now acks) core segs answer (released core place) refl one
          (is_served (record { now = now; acks = acks; place = place; polled = refl; idle = idle_now; lowest = lowest; its_ask = is })) may

      by_served : (place : Option ℕ) → lowest_held core.held ≡ place → is_idle core.phase ≡ true
          → MayAnswer denies (held_judged core segs place) answer → IsByJudge denies (Poll now acks) core segs (served it core segs place).segs
      by_served None lowest idle_now may = by_none denies limits (Poll now acks) core segs segs refl (λ before. before)
      by_served (Some place) lowest idle_now may = by_held place lowest idle_now (slice_index_or core.held place None) refl may

      by_poll : (phase : Phase) → core.phase ≡ phase → MayAnswer denies (poll_judged core segs phase) answer
          → IsByJudge denies (Poll now acks) core segs (polled_in it core segs now acks phase).segs
      by_poll Idle is may = by_served (lowest_held core.held) refl (ap is_idle is) may
      by_poll (Mapping round) is may = by_none denies limits (Poll now acks) core segs segs refl (λ before. before)
      by_poll (Waiting round since) is may =
          by_no_news (Poll now acks) core segs (polled_in it core segs now acks (Waiting round since)).segs
          (polled_holds (IsNoNews segs) round segs (news_none segs segs refl (λ before. before))
          (record { deadline = core.deadline; since = since; present = now }) acks (round_news acks segs (clean_sound segs sound)) round.kind)

    by_step : (event : CoreEvent) → MayAnswer denies (judged_at event core segs) answer
        → IsByJudge denies event core segs (stepped it event core segs).segs
    by_step (Grow ask) may = by_came denies limits (Grow ask) core segs answer core refl (want.Grow ask) (comes refl) may
    by_step (Shrink from number) may =
        by_came denies limits (Shrink from number) core segs answer core refl (want.Shrink from number) (comes refl) may
    by_step (SelfMapped caught now) may =
        by_no_news (SelfMapped caught now) core segs (caught_in core segs caught now core.phase).segs (caught_news core segs caught now sound)
    by_step (Poll now acks) may = by_poll now acks core.phase refl may

  -- each step denies and opens by the judge
  pub steps_by_judge : (event : CoreEvent) (core new : Core) (segs after : SegsView) (out : Out) → IsSound segs
      → IsSteppedBy denies (judged_at event core segs) new after out (λ denial. stepped denial event core segs)
      → IsByJudge denies event core segs after
  steps_by_judge event core new segs after out sound is =
      subst (λ after. IsByJudge denies event core segs after) (sym is.2.segs_is) (by_step core segs sound is.0 event is.1)
