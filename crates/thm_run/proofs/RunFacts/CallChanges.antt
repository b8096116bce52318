-- Each call of a segment value that a participant makes is a change, or several one after another.
use Rattle.std.proofs.Common.{subst, ◌≡◌, ◌≢◌, ◌∙◌, ℕ, ◌+◌, ◌*◌, ◌<◌, ◌≤◌, ◌==◌, ◌&&◌, true, false, not, is_some, List, [], ◌∷◌, append-nil, length, Option, Some, None, IfSome, refl, sym, ap}
use Rattle.std.proofs.lemmas.Bool.{and_parts, eqb-true}
use Rattle.std.proofs.lemmas.Option.{same_Some}
use Rattle.hp_base.specs.Mapping.{FailingCall, FailsSo}
use Rattle.hp_base.specs.declared.caught.Caught.{Caught}
use Rattle.hp_base.specs.declared.caught.Caught.TheVariants as caught
use Rattle.hp_base.specs.declared.map_answer.MapAnswer.{MapAnswer}
use Rattle.hp_base.specs.declared.map_answer.MapAnswer.TheVariants as answer
use Rattle.hp_base.specs.declared.row.Row.{Row}
use Rattle.hp_base.specs.declared.row.Run.{Run}
use Rattle.hp_core.specs.Following.{after_catching}
use Rattle.hp_core.specs.Starting.{cause_of}
use Rattle.hp_log.specs.Log.{table_of}
use Rattle.hp_segs.specs.GrowthLaws.{HasArmedGrowth, IsOfArmed}
use Rattle.hp_segs.specs.LaterSteps.{after_arm, after_join, after_leave, after_stale, after_withdraw, armed_ask, grows_for, has_failed_from, is_failure, is_growth_row, is_noted, noting}
use Rattle.hp_segs.specs.Refusals.{bytes_on}
use Rattle.hp_segs.specs.SegsView.{SegsView, closed_number}
use Rattle.hp_segs.specs.Sound.{IsSound}
use Rattle.hp_segs.specs.Steps.{after_agree, after_cancel, after_claim, after_close, after_drop, after_failure, after_freed, after_grant, after_open, after_reserve, after_retire, claimed_grant}
use Rattle.hp_segs.specs.declared.ask.Ask.{Ask}
use Rattle.hp_segs.specs.declared.external_range.ExternalRange.{ExternalRange}
use Rattle.hp_segs.specs.declared.growth.Growth.{Growth}
use Rattle.hp_segs.specs.declared.outcome.Cause.{Cause}
use Rattle.hp_segs.specs.declared.outcome.Cause.TheVariants.{Denied, MapFailed, Withdrawn}
use Rattle.hp_segs.specs.declared.outcome.Outcome.TheVariants.{Granted, Refused}
use Rattle.hp_segs.specs.declared.plan_refusal.PlanRefusal.{PlanRefusal}
use Rattle.hp_segs.specs.declared.plan_refusal.PlanRefusal.TheVariants as plan
use Rattle.hp_maps.specs.Catching.{HasReason}
use Rattle.hp_serve.specs.Denials.{Denials}
use Rattle.thm_run.specs.Seats.{with_ranges}
use Rattle.thm_run.proofs.RunFacts.Changes.{Changes, IsOwed, Logs, MovesRoster, alters, by_grant, by_judge, by_notice, by_number, by_plan, by_withdrawal, fails_mapping, outcome_for, stays}
use Rattle.thm_run.proofs.RunFacts.Changes as log
use Rattle.thm_run.proofs.RunFacts.CallCases.{agree_holds, cancel_holds, claim_holds, withdraw_holds}
use Rattle.thm_run.proofs.Following.{elsewhere_by, note_by}
use Rattle.hp_serve.specs.Attaching.{after_attaching}

-- a failed mapping that is taken is of a row of the open growth
noted_row : (segs : SegsView) (who call : ℕ) (row : Row) (growth : Option Growth) → is_noted segs who call row growth ≡ true
    → IfSome growth (λ growth. is_growth_row growth row ≡ true)
noted_row segs who call row None taken = tt
noted_row segs who call row (Some growth) taken =
    (and_parts (is_growth_row growth row) (not (is_some growth.noted) && not (has_failed_from segs.asks who call)) taken).0

none_granted : {x : ℕ} (generation : ℕ) → None ≡ Some generation → generation ≡ x
none_granted generation is = cc

-- a plan's refusal is no failed mapping
plan_fails_none : (refusal : PlanRefusal) → fails_mapping (Refused (cause_of refusal)) ≡ false
plan_fails_none (plan.StaleAsk number done) = refl
plan_fails_none (plan.GrowthOpen generation) = refl
plan_fails_none plan.NoList = refl
plan_fails_none (plan.TooFew have need) = refl
plan_fails_none (plan.ListFull longest need) = refl
plan_fails_none (plan.CannotHold addr len) = refl

module _ (count deadline : ℕ) (may_fail : ℕ → Option (List FailingCall)) (denies : Denials) where
  -- one change of what logs, notes and grows alone
  one : (old new : SegsView) → new.pools ≡ old.pools → MovesRoster count old.roster new.roster
      → Logs count deadline may_fail denies old new
      → Changes count deadline may_fail denies old new
  one old new pools roster logs = alters old new (record { pools = pools; roster = roster; logs = logs })

  module _ (segs : SegsView) where
    pub reserves : (places : ℕ) → Changes count deadline may_fail denies segs (after_reserve places segs)
    reserves places = one segs (after_reserve places segs) refl (log.same refl) (log.nothing refl refl refl)

    -- external memory comes or goes
    pub ranges_move : (ranges : List ExternalRange) → Changes count deadline may_fail denies segs (with_ranges ranges segs)
    ranges_move ranges = one segs (with_ranges ranges segs) refl (log.same refl) (log.nothing refl refl refl)

    pub arms : (ask : Ask) → Changes count deadline may_fail denies segs (after_arm ask segs)
    arms ask = one segs (after_arm ask segs) refl (log.same refl) (log.nothing refl refl refl)

    pub retires : (heap : ℕ) (run : Run) → Changes count deadline may_fail denies segs (after_retire heap run segs)
    retires heap run = one segs (after_retire heap run segs) refl (log.same refl) (log.nothing refl refl refl)

    pub claims : (from number : ℕ) → Changes count deadline may_fail denies segs (after_claim from number segs)
    claims from number =
        claim_holds (Changes count deadline may_fail denies segs) segs (stays segs) from number
        (λ generation. one segs (claimed_grant segs (Some generation)) refl (log.same refl) (log.nothing refl refl refl))

    -- a participant's failed mapping is noted
    module _ (who : ℕ) (declared : who < count) where
      notes : (row : Row) (call : ℕ) (got : MapAnswer) → FailsSo (may_fail who) call row got
          → is_noted segs who call row segs.growth ≡ true
          → Changes count deadline may_fail denies segs (record segs { growth = noting (MapFailed who call row.addr got) segs.growth })
      notes row call got so taken =
          one segs (record segs { growth = noting (MapFailed who call row.addr got) segs.growth }) refl (log.same refl)
          (log.failures who call row got declared so (noted_row segs who call row segs.growth taken) refl refl refl)

      -- it has caught up, or failed to for a reason
      pub catches : (ended : Caught) → HasReason (may_fail who) ended
          → Changes count deadline may_fail denies segs (after_catching who ended segs)
      catches caught.Done may = stays segs
      catches (caught.Refused row call) may =
          note_by (Changes count deadline may_fail denies segs) segs (stays segs) who row call answer.Refused
          (notes row call answer.Refused may)
      catches (caught.Elsewhere row call got) may =
          elsewhere_by (Changes count deadline may_fail denies segs) segs (stays segs) who row call got (notes row call got may)
          (is_failure row got)

      -- it attaches, or tries to
      pub attaches : (ended : Caught) → Changes count deadline may_fail denies segs (after_attaching who ended segs)
      attaches caught.Done =
          one segs (after_join who segs) refl (log.joins who declared refl) (log.nothing refl refl refl)
      attaches (caught.Refused row call) = stays segs
      attaches (caught.Elsewhere row call got) = stays segs

    -- a participant other than the first detaches
    pub detaches : (who : ℕ) → who ≢ 0 → Changes count deadline may_fail denies segs (after_leave who segs)
    detaches who secondary =
        one segs (after_leave who segs) refl (log.leaves who secondary refl) (log.nothing refl refl refl)

    pub drops : Changes count deadline may_fail denies segs (after_drop segs)
    drops = one segs (after_drop segs) refl (log.same refl) (log.drops segs.retiring refl refl refl)

    pub opens : (ask : Ask) (run : Run) → segs.growth ≡ None
        → denies ask.socket (bytes_on (table_of (after_open ask run segs).log) ask.socket) None
        → Changes count deadline may_fail denies segs (after_open ask run segs)
    opens ask run alone allowed =
        one segs (after_open ask run segs) refl (log.same refl)
        (log.opens ask run (record { generation = length segs.log + 1; ask = ask; run = run; noted = None }) alone refl refl refl refl refl
        refl allowed)

    -- an outcome beside the open growth
    pub finds_stale : (from number : ℕ) → Changes count deadline may_fail denies segs (after_stale from number segs)
    finds_stale from number =
        one segs (after_stale from number segs) refl (log.same refl)
        (log.outcomes _ refl refl refl refl refl (by_number (closed_number segs.asks from)))

    pub frees : (from number : ℕ) → Changes count deadline may_fail denies segs (after_freed from number segs)
    frees from number =
        one segs (after_freed from number segs) refl (log.same refl) (log.outcomes _ refl refl refl refl refl (by_notice (length segs.log)))

    pub refuses : (ask : Ask) (refusal : PlanRefusal) → Changes count deadline may_fail denies segs
        (after_close ask (cause_of refusal) segs)
    refuses ask refusal = one segs (after_close ask (cause_of refusal) segs) refl (log.same refl)
        (log.outcomes _ refl refl refl (plan_fails_none refusal) refl (by_plan refusal))

    -- a judge denied a planned run
    pub denied_by : (ask : Ask) (denial : List ℕ × ℕ) (total : ℕ) → denies ask.socket total (Some denial)
        → Changes count deadline may_fail denies segs (after_close ask (Denied denial.0 denial.1 total) segs)
    denied_by ask denial total may =
        one segs (after_close ask (Denied denial.0 denial.1 total) segs) refl (log.same refl)
        (log.outcomes _ refl refl refl refl refl (by_judge ask denial total refl may))

    module _ (sound : IsSound segs) where
      granted_change : (growth : Growth) → segs.growth ≡ Some growth → Changes count deadline may_fail denies segs (after_grant growth segs)
      granted_change growth is =
          one segs (after_grant growth segs) refl (log.same refl)
          (log.ends growth
          (outcome_for growth (Granted growth.generation) (Some growth.ask) segs)
          (record {
            sound = sound;
            was_open = is;
            gone = refl;
            runs = [];
            log = sym (append-nil segs.log);
            asks = refl;
            at = refl;
            kept = refl;
            grants = λ generation granted. sym (same_Some growth.generation generation granted);
            owed = by_grant growth.generation;
          }))

      pub agrees : (acks : List ℕ) → Changes count deadline may_fail denies segs (after_agree acks segs)
      agrees acks = agree_holds (Changes count deadline may_fail denies segs) segs (stays segs) acks granted_change

      -- the open growth is undone
      failed_change : (growth : Growth) (cause : Cause) (kept : Option Ask) (places : ℕ) → segs.growth ≡ Some growth
          → kept ≡ Some growth.ask
          → IsOwed deadline denies segs kept (Refused cause)
          → Changes count deadline may_fail denies segs (after_failure growth cause kept places segs)
      failed_change growth cause kept places is its owed =
          one segs (after_failure growth cause kept places segs) refl (log.same refl)
          (log.ends growth
          (outcome_for growth (Refused cause) kept segs)
          (record {
            sound = sound;
            was_open = is;
            gone = refl;
            runs = growth.run ∷ [];
            log = refl;
            asks = refl;
            at = refl;
            kept = its;
            grants = λ generation granted. none_granted generation granted;
            owed = owed;
          }))

      pub cancels : (cause : Cause) → ((kept : Option Ask) → IsOwed deadline denies segs kept (Refused cause))
          → Changes count deadline may_fail denies segs (after_cancel cause segs)
      cancels cause owed =
          cancel_holds (Changes count deadline may_fail denies segs) segs (stays segs) cause
          (λ growth is. failed_change growth cause (Some growth.ask) 2 is refl (owed (Some growth.ask)))

      -- the participant is armed with the ask of the open growth, where that is its own
      own_ask : HasArmedGrowth segs → (from number : ℕ) (growth : Growth) → segs.growth ≡ Some growth → grows_for from number growth ≡ true
          → armed_ask segs from ≡ Some growth.ask
      own_ask armed from number growth is own =
          let its : IsOfArmed segs.asks segs.armed growth = subst (λ growth. IfSome growth (IsOfArmed segs.asks segs.armed)) is armed in
          let who : growth.ask.from ≡ from =
          eqb-true growth.ask.from from (and_parts (growth.ask.from == from) (growth.ask.number == number) own).0 in
          ap (armed_ask segs) (sym who) ∙ its.its_ask

      -- an ask is taken back after three deadlines
      pub withdraws : HasArmedGrowth segs → (from number since now : ℕ) → since + 3 * deadline ≤ now
          → Changes count deadline may_fail denies segs (after_withdraw from number since now segs)
      withdraws armed from number since now passed =
          withdraw_holds (Changes count deadline may_fail denies segs) segs (stays segs) from number since now
          (λ none other. one segs _ refl (log.same refl) (log.outcomes _ refl refl refl refl refl (by_withdrawal since now passed)))
          (λ none growth is own.
          failed_change growth (Withdrawn since now) (armed_ask segs from) 0 is (own_ask armed from number growth is own)
          (by_withdrawal since now passed))
