-- What has gone back or is Retiring: the calls of the segment value that come to several cases leave it as it is.
use Rattle.std.proofs.Common.{ℕ, List, Some, refl}
use Rattle.hp_segs.specs.LaterSteps.{after_withdraw, armed_ask}
use Rattle.hp_segs.specs.SegsView.{SegsView}
use Rattle.hp_segs.specs.Sound.{IsSound}
use Rattle.hp_segs.specs.Steps.{after_agree, after_cancel, after_claim}
use Rattle.hp_segs.specs.declared.outcome.Cause.{Cause}
use Rattle.hp_segs.specs.declared.outcome.Cause.TheVariants.{Withdrawn}
use Rattle.hp_segs.proofs.CallCases.{agree_holds, cancel_holds, claim_holds, withdraw_holds}
use Rattle.hp_segs.proofs.RetiredRuns.ReturnedBySteps.{IsGoneAlike, failure_gone, grant_gone, refused_gone}

module _ (segs : SegsView) where
  module _ (sound : IsSound segs) where
    pub cancel_gone : (cause : Cause) → IsGoneAlike segs (after_cancel cause segs)
    cancel_gone cause =
        cancel_holds (IsGoneAlike segs) segs refl cause (λ growth is. failure_gone segs sound growth is cause (Some growth.ask) 2)

    pub agree_gone : (acks : List ℕ) → IsGoneAlike segs (after_agree acks segs)
    agree_gone acks = agree_holds (IsGoneAlike segs) segs refl acks (grant_gone segs sound)

    -- what is taken back has no run that was given up
    pub withdraw_gone : (from number since now : ℕ) → IsGoneAlike segs (after_withdraw from number since now segs)
    withdraw_gone from number since now =
        withdraw_holds (IsGoneAlike segs) segs refl from number since now
        (λ none other. refused_gone segs from number (Withdrawn since now) (armed_ask segs from))
        (λ none growth is own. failure_gone segs sound growth is (Withdrawn since now) (armed_ask segs from) 0)

  pub claim_gone : (from number : ℕ) → IsGoneAlike segs (after_claim from number segs)
  claim_gone from number = claim_holds (IsGoneAlike segs) segs refl from number (λ generation. refl)
