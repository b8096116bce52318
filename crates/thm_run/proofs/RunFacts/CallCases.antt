-- What holds of a segment value after a call, where it holds in each case that the call may come to.
use Rattle.std.proofs.Common.{◌≡◌, ℕ, Bool, true, false, List, subst, sym, Option, Some, None, IfSome, refl, if◌then◌else◌}
use Rattle.std.proofs.lemmas.Bool.{cond_both}
use Rattle.hp_base.specs.declared.caught.Caught.{Caught}
use Rattle.hp_base.specs.declared.caught.Caught.TheVariants as caught
use Rattle.hp_base.specs.declared.map_answer.MapAnswer.{MapAnswer}
use Rattle.hp_base.specs.declared.map_answer.MapAnswer.TheVariants as answer
use Rattle.hp_base.specs.declared.row.Row.{Row}
use Rattle.hp_core.specs.Following.{after_catching, noted}
use Rattle.hp_segs.specs.LaterSteps.{after_note, after_withdraw, armed_ask, grows_for, is_failure, is_noted, noting, withdrawn_growth, withdrawn_unless}
use Rattle.hp_segs.specs.SegsView.{SegsView, grant_of, grant_or_refusal_of}
use Rattle.hp_segs.specs.Steps.{after_agree, after_cancel, after_claim, after_failure, after_grant, agreed_growth, cancelled_growth, claimed_grant, granted_unless, lowest_member_below, with_outcome}
use Rattle.hp_segs.specs.declared.fault.NotAll.{NotAll}
use Rattle.hp_segs.specs.declared.growth.Growth.{Growth}
use Rattle.hp_segs.specs.declared.outcome.Cause.{Cause}
use Rattle.hp_segs.specs.declared.outcome.Cause.TheVariants.{MapFailed, Withdrawn}
use Rattle.hp_segs.specs.declared.outcome.Outcome.{Outcome}
use Rattle.hp_segs.specs.declared.outcome.Outcome.TheVariants.{Refused}

module _ (P : SegsView → Type 0) (segs : SegsView) (still : P segs) where
  -- a claim marks the segments of a grant, where there is one
  claimed_holds : (grant : Option ℕ) → ((generation : ℕ) → P (claimed_grant segs (Some generation))) → P (claimed_grant segs grant)
  claimed_holds None marks = still
  claimed_holds (Some generation) marks = marks generation

  pub claim_holds : (from number : ℕ) → ((generation : ℕ) → P (claimed_grant segs (Some generation))) → P (after_claim from number segs)
  claim_holds from number marks = claimed_holds (grant_of segs.asks from number) marks

  -- a failed mapping of participant 0 is noted, or not
  pub note_holds : (row : Row) (call : ℕ) (got : MapAnswer)
      → P (record segs { growth = noting (MapFailed 0 call row.addr got) segs.growth }) → P (after_note 0 call row got segs)
  note_holds row call got notes =
      cond_both (is_noted segs 0 call row segs.growth) (record segs { growth = noting (MapFailed 0 call row.addr got) segs.growth }) segs P
      (λ taken. notes)
      (λ other. still)

  pub elsewhere_holds : (row : Row) (call : ℕ) (got : MapAnswer)
      → P (record segs { growth = noting (MapFailed 0 call row.addr got) segs.growth }) → (failed : Bool)
      → P (noted 0 segs (if failed then Some (record { row = row; call = call; got = got }) else None))
  elsewhere_holds row call got notes true = note_holds row call got notes
  elsewhere_holds row call got notes false = still

  -- participant 0 has caught up, or its failed mapping is noted
  pub catching_holds : ((call addr : ℕ) (got : MapAnswer) → P (record segs { growth = noting (MapFailed 0 call addr got) segs.growth }))
      → (ended : Caught) → P (after_catching 0 ended segs)
  catching_holds notes caught.Done = still
  catching_holds notes (caught.Refused row call) = note_holds row call answer.Refused (notes call row.addr answer.Refused)
  catching_holds notes (caught.Elsewhere row call got) = elsewhere_holds row call got (notes call row.addr got) (is_failure row got)

  -- the open growth fails, where there is one
  cancelled_holds : (cause : Cause) (growth : Option Growth)
      → ((open_now : Growth) → growth ≡ Some open_now → P (after_failure open_now cause (Some open_now.ask) 2 segs))
      → P (cancelled_growth cause segs growth)
  cancelled_holds cause None fails = still
  cancelled_holds cause (Some growth) fails = fails growth refl

  pub cancel_holds : (cause : Cause)
      → ((growth : Growth) → segs.growth ≡ Some growth → P (after_failure growth cause (Some growth.ask) 2 segs))
      → P (after_cancel cause segs)
  cancel_holds cause fails = cancelled_holds cause segs.growth fails

  -- the open growth is granted, where there is one and no member is below it
  granted_holds : (growth : Growth) (below : Option NotAll) → P (after_grant growth segs) → P (granted_unless growth segs below)
  granted_holds growth None grants = grants
  granted_holds growth (Some member) grants = still

  agreed_holds : (acks : List ℕ) (growth : Option Growth) → ((open_now : Growth) → growth ≡ Some open_now → P (after_grant open_now segs))
      → P (agreed_growth acks segs growth)
  agreed_holds acks None grants = still
  agreed_holds acks (Some growth) grants =
      granted_holds growth (lowest_member_below segs.roster acks growth.generation) (grants growth refl)

  pub agree_holds : (acks : List ℕ) → ((growth : Growth) → segs.growth ≡ Some growth → P (after_grant growth segs))
      → P (after_agree acks segs)
  agree_holds acks grants = agreed_holds acks segs.growth grants

  -- an ask that is taken back has its answer, or is refused: with the open growth, where that is its own, or beside it
  module _ (from number since now : ℕ)
      (refuses : grant_or_refusal_of segs.asks from number ≡ None → IfSome segs.growth (λ growth. grows_for from number growth ≡ false)
      → P (record segs { asks = with_outcome segs from number (Refused (Withdrawn since now)) (armed_ask segs from) }))
      (fails : grant_or_refusal_of segs.asks from number ≡ None → (growth : Growth) → segs.growth ≡ Some growth
      → grows_for from number growth ≡ true → P (after_failure growth (Withdrawn since now) (armed_ask segs from) 0 segs)) where
    abbrev refused : SegsView
    refused = record segs { asks = with_outcome segs from number (Refused (Withdrawn since now)) (armed_ask segs from) }

    withdrawn_holds : grant_or_refusal_of segs.asks from number ≡ None → (growth : Option Growth) → segs.growth ≡ growth
        → P (withdrawn_growth from number (Withdrawn since now) segs growth)
    withdrawn_holds none None is =
        refuses none (subst (λ growth. IfSome growth (λ growth. grows_for from number growth ≡ false)) (sym is) tt)
    withdrawn_holds none (Some growth) is =
        cond_both (grows_for from number growth) (after_failure growth (Withdrawn since now) (armed_ask segs from) 0 segs) refused P
        (fails none growth is)
        (λ other. refuses none (subst (λ growth. IfSome growth (λ growth. grows_for from number growth ≡ false)) (sym is) other))

    unless_holds : (answered : Option Outcome) → grant_or_refusal_of segs.asks from number ≡ answered
        → P (withdrawn_unless from number (Withdrawn since now) segs answered)
    unless_holds (Some outcome) is = still
    unless_holds None none = withdrawn_holds none segs.growth refl

    pub withdraw_holds : P (after_withdraw from number since now segs)
    withdraw_holds = unless_holds (grant_or_refusal_of segs.asks from number) refl
