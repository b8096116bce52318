-- Each call leaves the pools, and appends records and outcomes.
use Rattle.std.proofs.Common.{◌≡◌, ◌∙◌, ℕ, Bool, true, false, List, [], ◌∷◌, ◌++◌, map, Option, Some, None, refl, ap, sym, subst, append_assoc, append-nil, if◌then◌else◌}
use Rattle.hp_log.specs.declared.log_record.LogRecord.TheVariants.{Add, Drop}
use Rattle.hp_segs.specs.LaterSteps.{armed_ask, grows_for, is_noted, noting, withdrawn_growth, withdrawn_unless}
use Rattle.hp_segs.specs.Laws.{CallsAppend, MovesAppend}
use Rattle.hp_segs.specs.Moved.{SegsCall, Reserve, OpenRun, CloseAsk, LogStale, NoteFailed, Agree, Cancel, Claim, Arm, Withdraw, Retire, DropRetiring, LogFreed, JoinRoster, LeaveRoster, ClaimRange, ReleaseRange, Appends, Leads, after}
use Rattle.hp_segs.specs.SegsView.{SegsView, grant_of, grant_or_refusal_of}
use Rattle.hp_segs.specs.Steps.{after_failure, after_grant, agreed_growth, cancelled_growth, claimed_grant, granted_unless, lowest_member_below, with_outcome}
use Rattle.hp_segs.specs.declared.ask.Ask.{Ask}
use Rattle.hp_segs.specs.declared.fault.NotAll.{NotAll}
use Rattle.hp_segs.specs.declared.growth.Growth.{Growth}
use Rattle.hp_segs.specs.declared.outcome.AskLog.{AskLog}
use Rattle.hp_segs.specs.declared.outcome.Cause.{Cause}
use Rattle.hp_segs.specs.declared.outcome.Cause.TheVariants.{MapFailed, Withdrawn}
use Rattle.hp_segs.specs.declared.outcome.Outcome.{Outcome}
use Rattle.hp_segs.specs.declared.outcome.Outcome.TheVariants.{Refused}

-- nothing is appended
nothing : (old new : SegsView) → new.pools ≡ old.pools → new.log ≡ old.log → new.asks ≡ old.asks → Appends old new
nothing old new pools log asks = record {
  pools = pools;
  records = [];
  log = log ∙ sym (append-nil old.log);
  outcomes = [];
  asks = asks ∙ sym (append-nil old.asks);
}

-- one outcome is
one_outcome : (old new : SegsView) (entry : AskLog) → new.pools ≡ old.pools → new.log ≡ old.log → new.asks ≡ old.asks ++ entry ∷ [] → Appends old new
one_outcome old new entry pools log asks = record {
  pools = pools;
  records = [];
  log = log ∙ sym (append-nil old.log);
  outcomes = entry ∷ [];
  asks = asks;
}

failed : (growth : Growth) (cause : Cause) (ask : Option Ask) (places : ℕ) (segs : SegsView) → Appends segs (after_failure growth cause ask places segs)
failed growth cause ask places segs =
    record { pools = refl; records = Drop growth.run ∷ []; log = refl; outcomes = _ ∷ []; asks = refl }

noted : (segs : SegsView) (growth : Option Growth) (taken : Bool) → Appends segs (if taken then record segs { growth = growth } else segs)
noted segs growth true = nothing segs (record segs { growth = growth }) refl refl refl
noted segs growth false = nothing segs segs refl refl refl

granted : (segs : SegsView) (growth : Growth) (member : Option NotAll) → Appends segs (granted_unless growth segs member)
granted segs growth None = one_outcome segs (after_grant growth segs) _ refl refl refl
granted segs growth (Some member) = nothing segs segs refl refl refl

agreed : (acks : List ℕ) (segs : SegsView) (growth : Option Growth) → Appends segs (agreed_growth acks segs growth)
agreed acks segs None = nothing segs segs refl refl refl
agreed acks segs (Some growth) = granted segs growth (lowest_member_below segs.roster acks growth.generation)

cancelled : (cause : Cause) (segs : SegsView) (growth : Option Growth) → Appends segs (cancelled_growth cause segs growth)
cancelled cause segs None = nothing segs segs refl refl refl
cancelled cause segs (Some growth) = failed growth cause (Some growth.ask) 2 segs

claimed : (segs : SegsView) (generation : Option ℕ) → Appends segs (claimed_grant segs generation)
claimed segs None = nothing segs segs refl refl refl
claimed segs (Some generation) = nothing segs (claimed_grant segs (Some generation)) refl refl refl

module _ (from number : ℕ) (cause : Cause) (segs : SegsView) where
  abbrev logged : SegsView
  logged = record segs { asks = with_outcome segs from number (Refused cause) (armed_ask segs from) }

  withdrawn_by : (growth : Growth) (own : Bool) → Appends segs (if own then after_failure growth cause (armed_ask segs from) 0 segs else logged)
  withdrawn_by growth true = failed growth cause (armed_ask segs from) 0 segs
  withdrawn_by growth false = one_outcome segs logged _ refl refl refl

  withdrawn : (growth : Option Growth) → Appends segs (withdrawn_growth from number cause segs growth)
  withdrawn None = one_outcome segs logged _ refl refl refl
  withdrawn (Some growth) = withdrawn_by growth (grows_for from number growth)

  withdrawn_where : (standing : Option Outcome) → Appends segs (withdrawn_unless from number cause segs standing)
  withdrawn_where (Some outcome) = nothing segs segs refl refl refl
  withdrawn_where None = withdrawn segs.growth

pub calls_append : CallsAppend
calls_append (Reserve n) segs = nothing segs (after (Reserve n) segs) refl refl refl
calls_append (OpenRun ask run) segs =
    record { pools = refl; records = Add run ask.heap ∷ []; log = refl; outcomes = []; asks = sym (append-nil segs.asks) }
calls_append (CloseAsk ask cause) segs = one_outcome segs (after (CloseAsk ask cause) segs) _ refl refl refl
calls_append (LogStale from number) segs = one_outcome segs (after (LogStale from number) segs) _ refl refl refl
calls_append (NoteFailed participant call row got) segs =
    noted segs (noting (MapFailed participant call row.addr got) segs.growth) (is_noted segs participant call row segs.growth)
calls_append (Agree acks) segs = agreed acks segs segs.growth
calls_append (Cancel cause) segs = cancelled cause segs segs.growth
calls_append (Claim from number) segs = claimed segs (grant_of segs.asks from number)
calls_append (Arm ask) segs = nothing segs (after (Arm ask) segs) refl refl refl
calls_append (Withdraw from number since now) segs =
    withdrawn_where from number (Withdrawn since now) segs (grant_or_refusal_of segs.asks from number)
calls_append (Retire heap run) segs = nothing segs (after (Retire heap run) segs) refl refl refl
calls_append DropRetiring segs =
    record { pools = refl; records = map (λ run. Drop run) segs.retiring; log = refl; outcomes = []; asks = sym (append-nil segs.asks) }
calls_append (LogFreed from number) segs = one_outcome segs (after (LogFreed from number) segs) _ refl refl refl
calls_append (JoinRoster participant acked) segs = nothing segs (after (JoinRoster participant acked) segs) refl refl refl
calls_append (LeaveRoster participant) segs = nothing segs (after (LeaveRoster participant) segs) refl refl refl
calls_append (ClaimRange list addr len page socket) segs =
    nothing segs (after (ClaimRange list addr len page socket) segs) refl refl refl
calls_append (ReleaseRange list) segs = nothing segs (after (ReleaseRange list) segs) refl refl refl

appends_on : (first second third : SegsView) → Appends first second → Appends second third → Appends first third
appends_on first second third here there = record {
  pools = there.pools ∙ here.pools;
  records = here.records ++ there.records;
  log = there.log ∙ (ap (λ log. log ++ there.records) here.log ∙ append_assoc first.log here.records there.records);
  outcomes = here.outcomes ++ there.outcomes;
  asks = there.asks ∙ (ap (λ asks. asks ++ there.outcomes) here.asks ∙ append_assoc first.asks here.outcomes there.outcomes);
}

leads_append : (calls : List SegsCall) (old new : SegsView) → Leads calls old new → Appends old new
leads_append [] old new leads = subst (Appends old) (sym leads) (nothing old old refl refl refl)
leads_append (call ∷ calls) old new leads =
    appends_on old (after call old) new (calls_append call old) (leads_append calls (after call old) new leads.1)

pub moves_append : MovesAppend
moves_append allowed steps old new moved = leads_append moved.calls old new moved.leads
