-- The open growth stays one of the ask with which its participant is armed.
use Rattle.std.proofs.Common.{◌≡◌, ◌≢◌, ◌==◌, ◌∙◌, ℕ, ◌<◌, max, Bool, true, false, not, ◌&&◌, List, [], ◌∷◌, ◌++◌, length, Option, Some, None, IfSome, refl, ap, sym, subst, if◌then◌else◌}
use Rattle.std.specs.Prelude.{IsSomeAnd, slice_index_or, slice_set}
use Rattle.std.proofs.lemmas.Bool.{and_from, and_left, eq-eqb, ne_eqb}
use Rattle.std.proofs.lemmas.List.{get_or-set_other}
use Rattle.hp_segs.specs.Calls.{HasNoGrowth, MayWithdraw}
use Rattle.hp_segs.specs.GrowthLaws.{CallsLeaveArmed, HasArmedGrowth, IsOfArmed}
use Rattle.hp_segs.specs.LaterSteps.{armed_ask, grows_for, is_noted, noting, withdrawn_growth, withdrawn_unless}
use Rattle.hp_segs.specs.Moved.{Reserve, OpenRun, CloseAsk, LogStale, NoteFailed, Agree, Cancel, Claim, Arm, Withdraw, Retire, DropRetiring, LogFreed, JoinRoster, LeaveRoster, ClaimRange, ReleaseRange, after}
use Rattle.hp_segs.specs.SegsView.{SegsView, closed_number, grant_of, grant_or_refusal_of, is_stale}
use Rattle.hp_segs.specs.Steps.{after_failure, agreed_growth, cancelled_growth, claimed_grant, granted_unless, lowest_member_below}
use Rattle.hp_segs.specs.declared.ask.Ask.{Ask}
use Rattle.hp_segs.specs.declared.fault.NotAll.{NotAll}
use Rattle.hp_segs.specs.declared.growth.Growth.{Growth}
use Rattle.hp_segs.specs.declared.outcome.AskLog.{AskLog}
use Rattle.hp_segs.specs.declared.outcome.Cause.{Cause}
use Rattle.hp_segs.specs.declared.outcome.Cause.TheVariants.{MapFailed, Withdrawn}
use Rattle.hp_segs.specs.declared.outcome.Outcome.{Outcome}
use Rattle.hp_segs.specs.declared.outcome.Outcome.TheVariants.{Refused}
use Rattle.hp_segs.proofs.AskFacts.ClosedLemmas.{and_false, closed_push}
use Rattle.hp_segs.proofs.SlotFacts.PlannedLemmas.{open_plan}

-- an outcome that doesn't close the asker's numbers leaves it so
beside_one : (asks : List AskLog) (armed : List (Option Ask)) (entry : AskLog) (growth : Growth)
    → ((entry.from == growth.ask.from) && not (is_stale entry.outcome)) ≡ false → IsOfArmed asks armed growth
    → IsOfArmed (asks ++ entry ∷ []) armed growth
beside_one asks armed entry growth none old =
    let done : ℕ = closed_number asks growth.ask.from in
    let same : closed_number (asks ++ entry ∷ []) growth.ask.from ≡ done =
    closed_push asks entry growth.ask.from ∙ ap (λ b. if b then max done entry.number else done) none in
    record { its_ask = old.its_ask; above = subst (λ n. n < growth.ask.number) (sym same) old.above }

-- nor does one that closes those of another
beside_other : (asks : List AskLog) (armed : List (Option Ask)) (entry : AskLog) (growth : Growth) → entry.from ≢ growth.ask.from
    → IsOfArmed asks armed growth → IsOfArmed (asks ++ entry ∷ []) armed growth
beside_other asks armed entry growth other old =
    beside_one asks armed entry growth
    (and_left (entry.from == growth.ask.from) (not (is_stale entry.outcome)) (ne_eqb entry.from growth.ask.from other)) old

beside_stale : (asks : List AskLog) (armed : List (Option Ask)) (entry : AskLog) (growth : Option Growth) → is_stale entry.outcome ≡ true
    → IfSome growth (IsOfArmed asks armed) → IfSome growth (IsOfArmed (asks ++ entry ∷ []) armed)
beside_stale asks armed entry None stale old = tt
beside_stale asks armed entry (Some growth) stale old =
    beside_one asks armed entry growth
    (ap (λ b. (entry.from == growth.ask.from) && not b) stale ∙ and_false (entry.from == growth.ask.from)) old

beside_freed : (asks : List AskLog) (armed : List (Option Ask)) (entry : AskLog) (growth : Option Growth) → HasNoGrowth entry.from growth
    → IfSome growth (IsOfArmed asks armed) → IfSome growth (IsOfArmed (asks ++ entry ∷ []) armed)
beside_freed asks armed entry None apart old = tt
beside_freed asks armed entry (Some growth) apart old = beside_other asks armed entry growth (λ same. apart (sym same)) old

-- another is armed
armed_by : (asks : List AskLog) (armed : List (Option Ask)) (ask : Ask) (growth : Option Growth) → HasNoGrowth ask.from growth
    → IfSome growth (IsOfArmed asks armed) → IfSome growth (IsOfArmed asks (slice_set armed ask.from (Some ask)))
armed_by asks armed ask None apart old = tt
armed_by asks armed ask (Some growth) apart old = record {
  its_ask = get_or-set_other armed ask.from growth.ask.from (Some ask) None apart ∙ old.its_ask;
  above = old.above;
}

noting_by : (asks : List AskLog) (armed : List (Option Ask)) (cause : Cause) (growth : Option Growth) → IfSome growth (IsOfArmed asks armed)
    → IfSome (noting cause growth) (IsOfArmed asks armed)
noting_by asks armed cause None old = tt
noting_by asks armed cause (Some growth) old = record { its_ask = old.its_ask; above = old.above }

module _ (segs : SegsView) (old : HasArmedGrowth segs) where
  noted : (cause : Cause) (taken : Bool) → HasArmedGrowth (if taken then record segs { growth = noting cause segs.growth } else segs)
  noted cause true = noting_by segs.asks segs.armed cause segs.growth old
  noted cause false = old

  granted : (growth : Growth) (member : Option NotAll) → HasArmedGrowth (granted_unless growth segs member)
  granted growth None = tt
  granted growth (Some member) = old

  agreed : (acks : List ℕ) (growth : Option Growth) → HasArmedGrowth (agreed_growth acks segs growth)
  agreed acks None = old
  agreed acks (Some growth) = granted growth (lowest_member_below segs.roster acks growth.generation)

  cancelled : (cause : Cause) (growth : Option Growth) → HasArmedGrowth (cancelled_growth cause segs growth)
  cancelled cause None = old
  cancelled cause (Some growth) = tt

  claimed : (generation : Option ℕ) → HasArmedGrowth (claimed_grant segs generation)
  claimed None = old
  claimed (Some generation) = old

  module _ (from number : ℕ) (cause : Cause) (may : MayWithdraw from number segs) where
    abbrev refusal : AskLog
    refusal = record { from = from; number = number; outcome = Refused cause; at = length segs.log; ask = armed_ask segs from }

    -- an armed ask whose growth is not the open one is of another participant
    of_other : (growth : Growth) → IsOfArmed segs.asks segs.armed growth → grows_for from number growth ≡ false → from ≢ growth.ask.from
    of_other growth its off same =
        let here : armed_ask segs from ≡ Some growth.ask = ap (λ who. slice_index_or segs.armed who None) same ∙ its.its_ask in
        let which : growth.ask.number ≡ number = subst (λ ask. IsSomeAnd ask (λ ask. ask.number ≡ number)) here may.armed in
        let own : grows_for from number growth ≡ true =
        and_from (growth.ask.from == from) (growth.ask.number == number) (eq-eqb growth.ask.from from (sym same))
        (eq-eqb growth.ask.number number which) in
        let wrong : true ≡ false = sym own ∙ off in
        cc

    withdrawn_by : (growth : Growth) (own : Bool) → segs.growth ≡ Some growth → grows_for from number growth ≡ own
        → HasArmedGrowth (if own then after_failure growth cause (armed_ask segs from) 0 segs else record segs { asks = segs.asks ++ refusal ∷ [] })
    withdrawn_by growth true is own = tt
    withdrawn_by growth false is off =
        let its : IsOfArmed segs.asks segs.armed growth = subst (λ growth. IfSome growth (IsOfArmed segs.asks segs.armed)) is old in
        subst (λ growth. IfSome growth (IsOfArmed (segs.asks ++ refusal ∷ []) segs.armed)) (sym is)
        (beside_other segs.asks segs.armed refusal growth (of_other growth its off) its)

    withdrawn : (growth : Option Growth) → segs.growth ≡ growth → HasArmedGrowth (withdrawn_growth from number cause segs growth)
    withdrawn None is = subst (λ growth. IfSome growth (IsOfArmed (segs.asks ++ refusal ∷ []) segs.armed)) (sym is) tt
    withdrawn (Some growth) is = withdrawn_by growth (grows_for from number growth) is refl

    withdrawn_where : (standing : Option Outcome) → HasArmedGrowth (withdrawn_unless from number cause segs standing)
    withdrawn_where (Some outcome) = old
    withdrawn_where None = withdrawn segs.growth refl

pub calls_leave_armed : CallsLeaveArmed
calls_leave_armed (Reserve n) segs sound old may leaves = old
calls_leave_armed (OpenRun ask run) segs sound old may leaves =
    record { its_ask = leaves; above = (open_plan segs ask run sound.rows.table.limits may.planned).above }
calls_leave_armed (CloseAsk ask cause) segs sound old may leaves =
    subst (λ growth. IfSome growth (IsOfArmed (after (CloseAsk ask cause) segs).asks segs.armed)) (sym may.alone) tt
calls_leave_armed (LogStale from number) segs sound old may leaves = beside_stale segs.asks segs.armed _ segs.growth refl old
calls_leave_armed (NoteFailed participant call row got) segs sound old may leaves =
    noted segs old (MapFailed participant call row.addr got) (is_noted segs participant call row segs.growth)
calls_leave_armed (Agree acks) segs sound old may leaves = agreed segs old acks segs.growth
calls_leave_armed (Cancel cause) segs sound old may leaves = cancelled segs old cause segs.growth
calls_leave_armed (Claim from number) segs sound old may leaves = claimed segs old (grant_of segs.asks from number)
calls_leave_armed (Arm ask) segs sound old may leaves = armed_by segs.asks segs.armed ask segs.growth may.alone old
calls_leave_armed (Withdraw from number since now) segs sound old may leaves =
    withdrawn_where segs old from number (Withdrawn since now) may (grant_or_refusal_of segs.asks from number)
calls_leave_armed (Retire heap run) segs sound old may leaves = old
calls_leave_armed DropRetiring segs sound old may leaves = old
calls_leave_armed (LogFreed from number) segs sound old may leaves = beside_freed segs.asks segs.armed _ segs.growth leaves old
calls_leave_armed (JoinRoster participant acked) segs sound old may leaves = old
calls_leave_armed (LeaveRoster participant) segs sound old may leaves = old
calls_leave_armed (ClaimRange list addr len page socket) segs sound old may leaves = old
calls_leave_armed (ReleaseRange list) segs sound old may leaves = old
