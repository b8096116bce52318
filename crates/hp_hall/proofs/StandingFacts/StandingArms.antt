-- Asks that are armed and withdrawn leave the open growth and the kept asks those of the armed.
use Rattle.std.proofs.Common.{◌≡◌, ◌==◌, ◌∙◌, ℕ, ◌<◌, ◌≤◌, Bool, true, false, [], ◌∷◌, ◌++◌, Option, Some, None, refl, ap, sym, arith, inl, inr, if◌then◌else◌}
use Rattle.std.specs.Prelude.{Contains, slice_index_or, slice_set}
use Rattle.std.proofs.lemmas.Bool.{and_parts, cases_eq, eqb-true}
use Rattle.std.proofs.lemmas.List.{get_or-set_other, get_or-set_same}
use Rattle.std.proofs.lemmas.List.Elements.{Contains-push_cases}
use Rattle.hp_segs.specs.LaterSteps.{after_arm, armed_ask, grows_for, withdrawn_growth, withdrawn_unless}
use Rattle.hp_segs.specs.Moved.{Arm, Withdraw}
use Rattle.hp_segs.specs.SegsView.{SegsView, closed_number, grant_or_refusal_of}
use Rattle.hp_segs.specs.Sound.{IsSound}
use Rattle.hp_segs.specs.Steps.{after_failure}
use Rattle.hp_segs.specs.declared.ask.Ask.{Ask}
use Rattle.hp_segs.specs.declared.growth.Growth.{Growth}
use Rattle.hp_segs.specs.declared.outcome.AskLog.{AskLog}
use Rattle.hp_segs.specs.declared.outcome.Cause.{Cause}
use Rattle.hp_segs.specs.declared.outcome.Cause.TheVariants.{Withdrawn}
use Rattle.hp_segs.specs.declared.outcome.Outcome.{Outcome}
use Rattle.hp_segs.proofs.GrowthSteps.ArmedGrowth.{calls_leave_armed}
use Rattle.hp_segs.specs.Standing.{KeepsArmed}
use Rattle.hp_hall.specs.Standings.{ArmKeeps, WithdrawKeeps}
use Rattle.hp_hall.proofs.StandingFacts.StandingAsks.{closed_above, told}

module _ (segs : SegsView) (ask : Ask) (sound : IsSound segs) (old : KeepsArmed segs) (participant : ask.from < 16)
    (above : closed_number segs.asks ask.from < ask.number) where
  -- a kept ask of the participant has another number than the ask that is armed above all
  own_apart : (entry : AskLog) (asked : Ask) → Contains segs.asks entry → entry.ask ≡ Some asked → entry.from ≡ ask.from
      → ask.number ≡ asked.number → ⊥
  own_apart entry asked among kept same number =
      let closes = (told segs entry sound among).closes asked kept in
      let below : entry.number ≤ closed_number segs.asks entry.from = closed_above segs.asks entry among closes.fresh in
      let closed : closed_number segs.asks entry.from ≡ closed_number segs.asks ask.from = ap (closed_number segs.asks) same in
      omega (arith, below, closed, closes.which, number, above)

  kept_armed : KeepsArmed (after_arm ask segs)
  kept_armed entry asked armed among kept is number =
      elim (cases_eq entry.from ask.from) [
        | inl same ↦
            let new : slice_index_or (slice_set segs.armed ask.from (Some ask)) ask.from None ≡ Some ask =
            get_or-set_same segs.armed ask.from (Some ask) None (omega (arith, participant, sound.places.armed_places)) in
            let here : Some ask ≡ Some armed =
            sym new ∙ (ap (λ who. slice_index_or (slice_set segs.armed ask.from (Some ask)) who None) (sym same) ∙ is) in
            let own : ask ≡ armed = cc in
            absurd (own_apart entry asked among kept same (ap (λ (ask : Ask). ask.number) own ∙ number))
        | inr other ↦
            old entry asked armed among kept (sym (get_or-set_other segs.armed ask.from entry.from (Some ask) None other) ∙ is) number
      ]

pub arm_keeps : ArmKeeps
arm_keeps segs ask sound old may above = record {
  growth = calls_leave_armed (Arm ask) segs sound old.growth may tt;
  kept = kept_armed segs ask sound old.kept may.participant above;
}

module _ (segs : SegsView) (old : KeepsArmed segs) where
  -- an outcome comes that keeps the ask with which its participant is armed
  pushed : (last : AskLog) → last.ask ≡ armed_ask segs last.from → (entry : AskLog) (asked armed : Ask)
      → Contains (segs.asks ++ last ∷ []) entry
      → entry.ask ≡ Some asked → armed_ask segs entry.from ≡ Some armed → armed.number ≡ asked.number → armed ≡ asked
  pushed last own entry asked armed among kept is number =
      elim (Contains-push_cases segs.asks last entry among) [
        | inl before ↦ old entry asked armed before kept is number
        | inr here ↦
            let its : armed_ask segs last.from ≡ Some asked = sym own ∙ (ap (λ (entry : AskLog). entry.ask) here ∙ kept) in
            let who : armed_ask segs last.from ≡ Some armed = ap (λ (entry : AskLog). armed_ask segs entry.from) here ∙ is in
            let same : Some armed ≡ Some asked = sym who ∙ its in
            cc
      ]

  module _ (from number : ℕ) (cause : Cause) where
    withdrawn_by : (growth : Growth) (own : Bool) → grows_for from number growth ≡ own
        → KeepsArmed (if own then after_failure growth cause (armed_ask segs from) 0 segs else withdrawn_growth from number cause segs None)
    withdrawn_by growth true is =
        let who : growth.ask.from ≡ from =
        eqb-true growth.ask.from from (and_parts (growth.ask.from == from) (growth.ask.number == number) is).0 in
        pushed _ (ap (armed_ask segs) (sym who))
    withdrawn_by growth false is = pushed _ refl

    withdrawn : (growth : Option Growth) → KeepsArmed (withdrawn_growth from number cause segs growth)
    withdrawn None = pushed _ refl
    withdrawn (Some growth) = withdrawn_by growth (grows_for from number growth) refl

    withdrawn_where : (standing : Option Outcome) → KeepsArmed (withdrawn_unless from number cause segs standing)
    withdrawn_where (Some outcome) = old
    withdrawn_where None = withdrawn segs.growth

pub withdraw_keeps : WithdrawKeeps
withdraw_keeps segs from number since now sound old may = record {
  growth = calls_leave_armed (Withdraw from number since now) segs sound old.growth may tt;
  kept = withdrawn_where segs old.kept from number (Withdrawn since now) (grant_or_refusal_of segs.asks from number);
}
