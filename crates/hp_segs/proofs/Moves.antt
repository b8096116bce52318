-- Moves by calls: that they keep a value sound, and that they compose.
use Rattle.std.proofs.Common.{◌≤◌, Bool, true, false, cond, List, [], ◌∷◌, ◌++◌, IsTrue, refl, sym, subst, arith, if◌then◌else◌}
use Rattle.std.proofs.lemmas.List.Elements.{All-append, All-cons, All-nil, All-weaker}
use Rattle.hp_log.proofs.Counts.{count_append, count_cons}
use Rattle.hp_segs.specs.Laws.{CallsKeep, CallsMove, MovesCompose, MovesKeep, MovesStay, MovesWiden}
use Rattle.hp_segs.specs.Moved.{SegsCall, Reserve, OpenRun, CloseAsk, LogStale, NoteFailed, Agree, Cancel, Claim, Arm, Withdraw, Retire, DropRetiring, LogFreed, JoinRoster, LeaveRoster, ClaimRange, ReleaseRange, Leads, after, is_growth_step}
use Rattle.hp_segs.specs.SegsView.{SegsView}
use Rattle.hp_segs.specs.Sound.{IsSound}
use Rattle.hp_segs.proofs.SoundSteps.{sound_agreed, sound_armed, sound_cancelled, sound_claimed, sound_closed, sound_dropped, sound_freed, sound_joined, sound_left, sound_noted, sound_opened, sound_ranged, sound_released, sound_reserved, sound_retired, sound_stale, sound_withdrawn}

pub calls_keep : CallsKeep
calls_keep (Reserve n) segs sound may = sound_reserved segs sound n
calls_keep (OpenRun ask run) segs sound may = sound_opened segs sound ask run may
calls_keep (CloseAsk ask cause) segs sound may = sound_closed segs sound ask cause may
calls_keep (LogStale from number) segs sound may = sound_stale segs sound from number may
calls_keep (NoteFailed participant call row got) segs sound may = sound_noted segs sound participant call row got may
calls_keep (Agree acks) segs sound may = sound_agreed segs sound acks
calls_keep (Cancel cause) segs sound may = sound_cancelled segs sound cause may
calls_keep (Claim from number) segs sound may = sound_claimed segs sound from number
calls_keep (Arm ask) segs sound may = sound_armed segs sound ask
calls_keep (Withdraw from number since now) segs sound may = sound_withdrawn segs sound from number since now may
calls_keep (Retire heap run) segs sound may = sound_retired segs sound heap run may
calls_keep DropRetiring segs sound may = sound_dropped segs sound may
calls_keep (LogFreed from number) segs sound may = sound_freed segs sound from number
calls_keep (JoinRoster participant acked) segs sound may = sound_joined segs sound participant acked may
calls_keep (LeaveRoster participant) segs sound may = sound_left segs sound participant may
calls_keep (ClaimRange list addr len page socket) segs sound may = sound_ranged segs sound list addr len page socket may
calls_keep (ReleaseRange list) segs sound may = sound_released segs sound list

one_step : (step : Bool) → cond step 1 0 ≤ (if step then 1 else 0)
one_step true = omega arith
one_step false = omega arith

pub calls_move : CallsMove
calls_move allowed call segs is may = record {
  calls = call ∷ [];
  leads = (may, refl);
  only = All-cons (λ call. IsTrue (allowed call)) call [] is (All-nil (λ call. IsTrue (allowed call)));
  few = omega (arith, count_cons is_growth_step call [], one_step (is_growth_step call));
}

pub moves_stay : MovesStay
moves_stay allowed segs = record {
  calls = [];
  leads = refl;
  only = All-nil (λ call. IsTrue (allowed call));
  few = omega arith;
}

leads_on : (calls more : List SegsCall) (first second third : SegsView) → Leads calls first second → Leads more second third
    → Leads (calls ++ more) first third
leads_on [] more first second third here there = subst (λ segs. Leads more segs third) here there
leads_on (call ∷ calls) more first second third here there = (here.0, leads_on calls more (after call first) second third here.1 there)

pub moves_compose : MovesCompose
moves_compose allowed steps more first second third here there = record {
  calls = here.calls ++ there.calls;
  leads = leads_on here.calls there.calls first second third here.leads there.leads;
  only = All-append (λ call. IsTrue (allowed call)) here.calls there.calls here.only there.only;
  few = omega (arith, count_append is_growth_step here.calls there.calls, here.few, there.few);
}

leads_keep : (calls : List SegsCall) (old new : SegsView) → IsSound old → Leads calls old new → IsSound new
leads_keep [] old new sound leads = subst IsSound (sym leads) sound
leads_keep (call ∷ calls) old new sound leads = leads_keep calls (after call old) new (calls_keep call old sound leads.0) leads.1

pub moves_keep : MovesKeep
moves_keep allowed steps old new sound moved = leads_keep moved.calls old new sound moved.leads

pub moves_widen : MovesWiden
moves_widen allowed wider steps more old new wide few moved = record {
  calls = moved.calls;
  leads = moved.leads;
  only = All-weaker (λ call. IsTrue (allowed call)) (λ call. IsTrue (wider call)) wide moved.calls moved.only;
  few = omega (arith, few, moved.few);
}
