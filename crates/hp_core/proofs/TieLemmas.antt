-- The tie of a coordinator and its segment value is kept by each step, and by each call of the value.
use Rattle.std.proofs.Common.{◌≡◌, ℕ, Bool, true, false, cond, List, [], ◌∷◌, ◌++◌, length, Option, Some, None, Ok, Err, refl, ap, ◌∙◌, sym, subst, if◌then◌else◌}
use Rattle.std.specs.Prelude.{nat_le}
use Rattle.std.specs.List.{find}
use Rattle.std.specs.Option.{option_map}
use Rattle.std.proofs.lemmas.Bool.{cond_both}
use Rattle.std.proofs.lemmas.Option.{same_Some}
use Rattle.hp_base.specs.declared.row.Run.{Run}
use Rattle.hp_segs.specs.LaterSteps.{armed_ask, grows_for, withdrawn_growth, withdrawn_unless}
use Rattle.hp_segs.specs.Moved.{SegsCall, Reserve, OpenRun, CloseAsk, LogStale, NoteFailed, Agree, Cancel, Claim, Arm, Withdraw, Retire, DropRetiring, LogFreed, JoinRoster, LeaveRoster, ClaimRange, ReleaseRange, Leads, May, after}
use Rattle.hp_segs.specs.Plan.{planned_alone}
use Rattle.hp_segs.specs.SegsView.{SegsView, closed_number, grant_of, grant_or_refusal_of, is_outcome_for, is_stale, outcome_of}
use Rattle.hp_segs.specs.Steps.{after_failure, after_open, agreed_growth, cancelled_growth, claimed_grant, granted_unless, lowest_member_below, with_outcome}
use Rattle.hp_segs.specs.declared.ask.Ask.{Ask}
use Rattle.hp_segs.specs.declared.fault.NotAll.{NotAll}
use Rattle.hp_segs.specs.declared.growth.Growth.{Growth}
use Rattle.hp_segs.specs.declared.outcome.AskLog.{AskLog}
use Rattle.hp_segs.specs.declared.outcome.Cause.{Cause}
use Rattle.hp_segs.specs.declared.outcome.Cause.TheVariants as cause
use Rattle.hp_segs.specs.declared.outcome.Outcome.{Outcome}
use Rattle.hp_segs.specs.declared.outcome.Outcome.TheVariants.{Freed, Granted, Refused, Stale}
use Rattle.hp_segs.specs.declared.plan_refusal.PlanRefusal.TheVariants as plan
use Rattle.hp_core.specs.Core.{Core, is_open_for}
use Rattle.hp_core.specs.Tied.{IsAccounted, IsTied, IsTiedIn, MovesTie, NoneIsGone, has_ended, is_open}
use Rattle.hp_core.specs.Following.{noted}
use Rattle.hp_core.specs.declared.following.Failure.{Failure}
use Rattle.hp_core.specs.declared.phase.Phase.{Phase}
use Rattle.hp_core.specs.declared.phase.Phase.TheVariants.{Idle, Mapping, Waiting}
use Rattle.hp_core.specs.declared.phase.Round.{Round}
use Rattle.hp_core.proofs.RoundLemmas.{growth_of, has_outcome, is_its_outcome, kept_noted}

kept_by : {X : Type 0} (passes : Bool) (x y : X) (rest more : Option X) → cond passes (Some x) rest ≡ Some y → (rest ≡ Some y → more ≡ Some y)
    → cond passes (Some x) more ≡ Some y
kept_by true x y rest more found then_more = found
kept_by false x y rest more found then_more = then_more found

-- what is found is found among more
found_more : {X : Type 0} (p : X → Bool) (xs more : List X) (y : X) → find p xs ≡ Some y → find p (xs ++ more) ≡ Some y
found_more p [] more y found = cc
found_more p (x ∷ xs) more y found = kept_by (p x) x y (find p xs) (find p (xs ++ more)) found (found_more p xs more y)

outcome_by : (p : AskLog → Bool) (asks more : List AskLog) (found : Option AskLog) (outcome : Outcome) → find p asks ≡ found
    → option_map (λ entry. entry.outcome) found ≡ Some outcome → option_map (λ entry. entry.outcome) (find p (asks ++ more)) ≡ Some outcome
outcome_by p asks more None outcome found is = cc
outcome_by p asks more (Some entry) outcome found is = ap (option_map (λ entry. entry.outcome)) (found_more p asks more entry found) ∙ is

-- an outcome stays where others are logged after it
outcome_kept : (asks more : List AskLog) (from number : ℕ) (outcome : Outcome) → outcome_of asks from number ≡ Some outcome
    → outcome_of (asks ++ more) from number ≡ Some outcome
outcome_kept asks more from number outcome is = outcome_by (is_outcome_for from number) asks more (find (is_outcome_for from number) asks) outcome refl is

-- the ask of a growth that is open for a round has an outcome, once one is logged for the growth
ended_by : (round : Round) (growth : Growth) (asks : List AskLog) (entry : AskLog) → is_open_for round (Some growth) ≡ true
    → entry.from ≡ growth.ask.from → entry.number ≡ growth.ask.number → is_stale entry.outcome ≡ false
    → (outcome : Outcome) × (outcome_of (asks ++ entry ∷ []) round.from round.number ≡ Some outcome)
ended_by round growth asks entry opened from number fresh =
    let of = growth_of round (Some growth) opened in
    let same : growth ≡ of.growth = same_Some growth of.growth of.its_growth in
    let its_from : entry.from ≡ round.from = from ∙ (ap (λ growth. growth.ask.from) same ∙ of.from) in
    let its_number : entry.number ≡ round.number = number ∙ (ap (λ growth. growth.ask.number) same ∙ of.number) in
    has_outcome asks entry round.from round.number (is_its_outcome entry round.from round.number its_from its_number fresh)

module _ (round : Round) where
  -- other outcomes are logged
  logged : (growth : Option Growth) (asks more : List AskLog) → IsAccounted round growth asks → IsAccounted round growth (asks ++ more)
  logged growth asks more (is_open opened) = is_open opened
  logged growth asks more (has_ended outcome is) = has_ended outcome (outcome_kept asks more round.from round.number outcome is)

  -- the open growth ends with an outcome of its ask
  ends : (growth : Growth) (asks : List AskLog) (entry : AskLog) → entry.from ≡ growth.ask.from → entry.number ≡ growth.ask.number
      → is_stale entry.outcome ≡ false → IsAccounted round (Some growth) asks → IsAccounted round None (asks ++ entry ∷ [])
  ends growth asks entry from number fresh (is_open opened) =
      let found = ended_by round growth asks entry opened from number fresh in has_ended found.0 found.1
  ends growth asks entry from number fresh (has_ended outcome found) =
      has_ended outcome (outcome_kept asks (entry ∷ []) round.from round.number outcome found)

  module _ (segs : SegsView) where
    grants : (acks : List ℕ) (open_now : Option Growth) → segs.growth ≡ open_now → IsAccounted round segs.growth segs.asks
        → IsAccounted round (agreed_growth acks segs open_now).growth (agreed_growth acks segs open_now).asks
    grants acks None is tied = tied
    grants acks (Some growth) is tied = grants_by (lowest_member_below segs.roster acks growth.generation)
      where
        grants_by : (member : Option NotAll)
            → IsAccounted round (granted_unless growth segs member).growth (granted_unless growth segs member).asks
        grants_by None =
            ends growth segs.asks
            (record { from = growth.ask.from; number = growth.ask.number; outcome = Granted growth.generation; at = length segs.log; ask = Some growth.ask })
            refl refl refl (subst (λ growth. IsAccounted round growth segs.asks) is tied)
        grants_by (Some member) = tied

    fails : (growth : Growth) (cause : Cause) (ask : Option Ask) (places : ℕ) → segs.growth ≡ Some growth → IsAccounted round segs.growth segs.asks
        → IsAccounted round (after_failure growth cause ask places segs).growth (after_failure growth cause ask places segs).asks
    fails growth cause ask places is tied =
        ends growth segs.asks (record { from = growth.ask.from; number = growth.ask.number; outcome = Refused cause; at = length segs.log; ask = ask })
        refl refl refl (subst (λ growth. IsAccounted round growth segs.asks) is tied)

    cancels : (cause : Cause) (open_now : Option Growth) → segs.growth ≡ open_now → IsAccounted round segs.growth segs.asks
        → IsAccounted round (cancelled_growth cause segs open_now).growth (cancelled_growth cause segs open_now).asks
    cancels cause None is tied = tied
    cancels cause (Some growth) is tied = fails growth cause (Some growth.ask) 2 is tied

    claims : (generation : Option ℕ) → IsAccounted round segs.growth segs.asks
        → IsAccounted round (claimed_grant segs generation).growth (claimed_grant segs generation).asks
    claims None tied = tied
    claims (Some generation) tied = tied

    gives_up : (from number : ℕ) (cause : Cause) (open_now : Option Growth) → segs.growth ≡ open_now → IsAccounted round segs.growth segs.asks
        → IsAccounted round (withdrawn_growth from number cause segs open_now).growth (withdrawn_growth from number cause segs open_now).asks
    gives_up from number cause None is tied =
        logged segs.growth segs.asks
        (record { from = from; number = number; outcome = Refused cause; at = length segs.log; ask = armed_ask segs from } ∷ []) tied
    gives_up from number cause (Some growth) is tied =
        cond_both (grows_for from number growth) (after_failure growth cause (armed_ask segs from) 0 segs)
        (record segs { asks = with_outcome segs from number (Refused cause) (armed_ask segs from) }) (λ after. IsAccounted round after.growth after.asks)
        (λ own. fails growth cause (armed_ask segs from) 0 is tied)
        (λ other.
        logged segs.growth segs.asks
        (record { from = from; number = number; outcome = Refused cause; at = length segs.log; ask = armed_ask segs from } ∷ []) tied)

    takes_back : (from number : ℕ) (cause : Cause) (standing : Option Outcome) → IsAccounted round segs.growth segs.asks
        → IsAccounted round (withdrawn_unless from number cause segs standing).growth (withdrawn_unless from number cause segs standing).asks
    takes_back from number cause (Some outcome) tied = tied
    takes_back from number cause None tied = gives_up from number cause segs.growth refl tied

    planned_ok : (ask : Ask) (run : Run) (growth : Growth) (done : Bool)
        → (if done then Err (plan.StaleAsk ask.number (closed_number segs.asks ask.from)) else planned_alone ask segs (Some growth)) ≡ Ok run → ⊥
    planned_ok ask run growth true is = cc
    planned_ok ask run growth false is = cc

    opens : (ask : Ask) (run : Run) (open_now : Option Growth) → segs.growth ≡ open_now
        → (if nat_le ask.number (closed_number segs.asks ask.from) then Err (plan.StaleAsk ask.number (closed_number segs.asks ask.from))
        else planned_alone ask segs open_now) ≡ Ok run → IsAccounted round segs.growth segs.asks
        → IsAccounted round (after_open ask run segs).growth segs.asks
    opens ask run None is planned (is_open opened) =
        absurd (none_true (sym (ap (is_open_for round) is) ∙ opened))
      where
        none_true : false ≡ true → ⊥
        none_true same = cc
    opens ask run None is planned (has_ended outcome found) = has_ended outcome found
    opens ask run (Some growth) is planned tied = absurd (planned_ok ask run growth (nat_le ask.number (closed_number segs.asks ask.from)) planned)

    notes : (participant : ℕ) (failure : Failure) → IsAccounted round segs.growth segs.asks
        → IsAccounted round (noted participant segs (Some failure)).growth (noted participant segs (Some failure)).asks
    notes participant failure (is_open opened) = is_open ((kept_noted round participant segs (Some failure)).is_open ∙ opened)
    notes participant failure (has_ended outcome found) =
        has_ended outcome (ap (λ asks. outcome_of asks round.from round.number) (kept_noted round participant segs (Some failure)).asks ∙ found)

  -- each call of the value under its condition keeps the account of a round
  call_keeps : (call : SegsCall) (segs : SegsView) → May call segs → IsAccounted round segs.growth segs.asks
      → IsAccounted round (after call segs).growth (after call segs).asks
  call_keeps (Reserve n) segs may tied = tied
  call_keeps (OpenRun ask run) segs may tied = opens segs ask run segs.growth refl may.planned tied
  call_keeps (CloseAsk ask cause) segs may tied =
      logged segs.growth segs.asks
      (record { from = ask.from; number = ask.number; outcome = Refused cause; at = length segs.log; ask = Some ask } ∷ []) tied
  call_keeps (LogStale from number) segs may tied =
      logged segs.growth segs.asks
      (record { from = from; number = number; outcome = Stale (closed_number segs.asks from); at = length segs.log; ask = None } ∷ []) tied
  call_keeps (NoteFailed participant call row got) segs may tied = notes segs participant (record { row = row; call = call; got = got }) tied
  call_keeps (Agree acks) segs may tied = grants segs acks segs.growth refl tied
  call_keeps (Cancel cause) segs may tied = cancels segs cause segs.growth refl tied
  call_keeps (Claim from number) segs may tied = claims segs (grant_of segs.asks from number) tied
  call_keeps (Arm ask) segs may tied = tied
  call_keeps (Withdraw from number since now) segs may tied =
      takes_back segs from number (cause.Withdrawn since now) (grant_or_refusal_of segs.asks from number) tied
  call_keeps (Retire heap run) segs may tied = tied
  call_keeps DropRetiring segs may tied = tied
  call_keeps (LogFreed from number) segs may tied =
      logged segs.growth segs.asks
      (record { from = from; number = number; outcome = Freed (length segs.log); at = length segs.log; ask = None } ∷ []) tied
  call_keeps (JoinRoster participant acked) segs may tied = tied
  call_keeps (LeaveRoster participant) segs may tied = tied
  call_keeps (ClaimRange list addr len page socket) segs may tied = tied
  call_keeps (ReleaseRange list) segs may tied = tied

phase_keeps : (phase : Phase) (call : SegsCall) (segs : SegsView) → May call segs → IsTiedIn phase segs.growth segs.asks
    → IsTiedIn phase (after call segs).growth (after call segs).asks
phase_keeps Idle call segs may tied = tt
phase_keeps (Mapping round) call segs may tied = call_keeps round call segs may tied
phase_keeps (Waiting round since) call segs may tied = call_keeps round call segs may tied

calls_keep_tie : (calls : List SegsCall) (core : Core) (old new : SegsView) → Leads calls old new → IsTied core old → IsTied core new
calls_keep_tie [] core old new leads tied = subst (IsTied core) (sym leads) tied
calls_keep_tie (call ∷ calls) core old new leads tied =
    calls_keep_tie calls core (after call old) new leads.1 (phase_keeps core.phase call old leads.0 tied)

-- whatever others do to the value by its calls keeps the tie
pub moves_tie : MovesTie
moves_tie allowed steps core old new moved tied = calls_keep_tie moved.calls core old new moved.leads tied

gone_by : (round : Round) (growth : Option Growth) (asks : List AskLog) → IsAccounted round growth asks → is_open_for round growth ≡ false
    → outcome_of asks round.from round.number ≡ None → ⊥
gone_by round growth asks (is_open opened) gone none = cc
gone_by round growth asks (has_ended outcome found) gone none = cc

-- while they are tied no round ends without an answer
pub none_is_gone : NoneIsGone
none_is_gone core segs round since tied waiting gone none =
    gone_by round segs.growth segs.asks (subst (λ phase. IsTiedIn phase segs.growth segs.asks) waiting tied) gone none
