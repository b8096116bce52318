-- What each call gives up.
use Rattle.std.proofs.Common.{◌≡◌, ◌∙◌, [], ◌++◌, refl, sym, append-nil}
use Rattle.hp_segs.specs.GivenUp.{CallsGiveUp}
use Rattle.hp_segs.specs.Moved.{Reserve, OpenRun, CloseAsk, LogStale, NoteFailed, Agree, Cancel, Claim, Arm, Withdraw, Retire, DropRetiring, LogFreed, JoinRoster, LeaveRoster, ClaimRange, ReleaseRange, after}
use Rattle.hp_segs.specs.SegsView.{SegsView}
use Rattle.hp_segs.proofs.CallCases.{agree_holds, cancel_holds, claim_holds, note_holds, withdraw_holds}

-- the runs that were given up are the same in two values
abbrev HasRetired : SegsView → SegsView → Type 0
HasRetired old new = new.retired ≡ old.retired

stays : (old new : SegsView) → HasRetired old new → new.retired ≡ old.retired ++ []
stays old new same = same ∙ sym (append-nil old.retired)

pub calls_give_up : CallsGiveUp
calls_give_up (Reserve n) segs = stays segs (after (Reserve n) segs) refl
calls_give_up (OpenRun ask run) segs = stays segs (after (OpenRun ask run) segs) refl
calls_give_up (CloseAsk ask cause) segs = stays segs (after (CloseAsk ask cause) segs) refl
calls_give_up (LogStale from number) segs = stays segs (after (LogStale from number) segs) refl
calls_give_up (NoteFailed participant call row got) segs =
    stays segs (after (NoteFailed participant call row got) segs) (note_holds (HasRetired segs) segs refl participant call row got refl)
calls_give_up (Agree acks) segs = stays segs (after (Agree acks) segs) (agree_holds (HasRetired segs) segs refl acks (λ growth is. refl))
calls_give_up (Cancel cause) segs = stays segs (after (Cancel cause) segs) (cancel_holds (HasRetired segs) segs refl cause (λ growth is. refl))
calls_give_up (Claim from number) segs =
    stays segs (after (Claim from number) segs) (claim_holds (HasRetired segs) segs refl from number (λ generation. refl))
calls_give_up (Arm ask) segs = stays segs (after (Arm ask) segs) refl
calls_give_up (Withdraw from number since now) segs =
    stays segs (after (Withdraw from number since now) segs)
    (withdraw_holds (HasRetired segs) segs refl from number since now (λ none other. refl) (λ none growth is own. refl))
calls_give_up (Retire heap run) segs = refl
calls_give_up DropRetiring segs = stays segs (after DropRetiring segs) refl
calls_give_up (LogFreed from number) segs = stays segs (after (LogFreed from number) segs) refl
calls_give_up (JoinRoster participant acked) segs = stays segs (after (JoinRoster participant acked) segs) refl
calls_give_up (LeaveRoster participant) segs = stays segs (after (LeaveRoster participant) segs) refl
calls_give_up (ClaimRange list addr len page socket) segs = stays segs (after (ClaimRange list addr len page socket) segs) refl
calls_give_up (ReleaseRange list) segs = stays segs (after (ReleaseRange list) segs) refl
