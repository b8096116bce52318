-- The calls that give nothing up and drop nothing leave what is given up.
use Rattle.std.proofs.Common.{◌≡◌, ℕ, Bool, true, false, List, Option, Some, None, refl, if◌then◌else◌}
use Rattle.hp_segs.specs.LaterSteps.{armed_ask, grows_for, withdrawn_growth, withdrawn_unless}
use Rattle.hp_segs.specs.SegsView.{SegsView}
use Rattle.hp_segs.specs.Steps.{after_failure, agreed_growth, cancelled_growth, claimed_grant, granted_unless, lowest_member_below, with_outcome}
use Rattle.hp_segs.specs.declared.fault.NotAll.{NotAll}
use Rattle.hp_segs.specs.declared.growth.Growth.{Growth}
use Rattle.hp_segs.specs.declared.outcome.Cause.{Cause}
use Rattle.hp_segs.specs.declared.outcome.Outcome.{Outcome}
use Rattle.hp_segs.specs.declared.outcome.Outcome.TheVariants.{Refused}
use Rattle.thm_alike.specs.Restored.{claim_steps, retiring_by}

pub retiring_noted : (segs : SegsView) (growth : Option Growth) (taken : Bool)
    → (if taken then record segs { growth = growth } else segs).retiring ≡ segs.retiring
retiring_noted segs growth true = refl
retiring_noted segs growth false = refl

retiring_granted : (segs : SegsView) (growth : Growth) (member : Option NotAll)
    → (granted_unless growth segs member).retiring ≡ segs.retiring
retiring_granted segs growth None = refl
retiring_granted segs growth (Some member) = refl

pub retiring_agreed : (acks : List ℕ) (segs : SegsView) (growth : Option Growth) → (agreed_growth acks segs growth).retiring ≡ segs.retiring
retiring_agreed acks segs None = refl
retiring_agreed acks segs (Some growth) = retiring_granted segs growth (lowest_member_below segs.roster acks growth.generation)

pub retiring_cancelled : (cause : Cause) (segs : SegsView) (growth : Option Growth)
    → (cancelled_growth cause segs growth).retiring ≡ segs.retiring
retiring_cancelled cause segs None = refl
retiring_cancelled cause segs (Some growth) = refl

pub retiring_claimed : (segs : SegsView) (grant : Option ℕ)
    → (claimed_grant segs grant).retiring ≡ retiring_by (claim_steps grant) segs.retiring
retiring_claimed segs None = refl
retiring_claimed segs (Some generation) = refl

module _ (from number : ℕ) (cause : Cause) (segs : SegsView) where
  retiring_failed : (growth : Growth) (own : Bool) → (if own then after_failure growth cause (armed_ask segs from) 0 segs
      else record segs { asks = with_outcome segs from number (Refused cause) (armed_ask segs from) }).retiring ≡ segs.retiring
  retiring_failed growth true = refl
  retiring_failed growth false = refl

  retiring_refused : (growth : Option Growth) → (withdrawn_growth from number cause segs growth).retiring ≡ segs.retiring
  retiring_refused None = refl
  retiring_refused (Some growth) = retiring_failed growth (grows_for from number growth)

  pub retiring_withdrawn : (standing : Option Outcome) → (withdrawn_unless from number cause segs standing).retiring ≡ segs.retiring
  retiring_withdrawn None = retiring_refused segs.growth
  retiring_withdrawn (Some outcome) = refl
