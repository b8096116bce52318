-- A quiet world stays quiet where one participant changes nothing that others see but its own number and its own place in the roster.
use Rattle.std.proofs.Common.{◌≡◌, ◌≢◌, ◌∙◌, ℕ, ◌+◌, ◌≤◌, ◌<◌, true, false, List, length, Option, Some, None, inl, inr, refl, sym, ap, subst, arith}
use Rattle.std.specs.Prelude.{replicate, slice_get, slice_index_or}
use Rattle.std.proofs.lemmas.Bool.{cases_eq}
use Rattle.std.specs.Option.{option_and_then}
use Rattle.std.proofs.lemmas.Option.{slice_get_within}
use Rattle.hp_base.specs.declared.plan_entry.MsgKind.TheVariants as message
use Rattle.hp_core.specs.Core.{Core}
use Rattle.hp_core.specs.declared.phase.Phase.TheVariants.{Idle}
use Rattle.hp_frame.specs.declared.frame.Frame.{Frame}
use Rattle.hp_segs.specs.Standing.{IsArmed}
use Rattle.hp_plain.specs.Boxes.{box_of}
use Rattle.hp_maps.specs.MapsView.{calls_of}
use Rattle.hp_segs.specs.LaterSteps.{has_failed_from, noted_failure}
use Rattle.hp_segs.specs.SegsView.{closed_number, is_member}
use Rattle.hp_segs.specs.Sound.{IsSound}
use Rattle.hp_segs.specs.declared.growth.Growth.{Growth}
use Rattle.hp_segs.specs.declared.outcome.AskLog.{AskLog}
use Rattle.hp_segs.specs.declared.outcome.Cause.{Cause}
use Rattle.hp_serve.specs.Party.{Party}
use Rattle.hp_serve.specs.Posting.{times_sent}
use Rattle.hp_serve.specs.declared.sent.Sent.{Sent}
use Rattle.thm_causes.specs.Counting.{LosesNothing, doubled_among, lost_among}
use Rattle.thm_causes.specs.RoundTrip.{HaveCaughtUp, AreSaid, IsBase, IsExcused, IsInPlace, IsInTime, IsNotedCall, Setting, RunState, doubles, mail_of, number_of_party}
use Rattle.thm_causes.specs.Quiet.{IsQuietState}
use Rattle.thm_causes.specs.Failing.{AreGrantsWithin}
use Rattle.thm_causes.specs.Outcomes.{late_outcomes, stale_outcomes, withdrawn_outcomes, IsApart, unanswered_among}
use Rattle.thm_causes.specs.Shared.{Shared}
use Rattle.thm_causes.specs.Stages.{world_with}
use Rattle.thm_causes.proofs.CaughtUp.{none_later}
use Rattle.thm_causes.proofs.Said.{get_set, set_long}
use Rattle.thm_causes.proofs.Told.{notices_lost_same}
use Rattle.std.specs.List.{All}

-- a participant goes on as it was, but for its table, whether it has one, and what it knows
pub record IsAsBefore (old new : Party) : Type 0 where
  pub me : new.me ≡ old.me
  pub deadline : new.deadline ≡ old.deadline
  pub plan : new.plan ≡ old.plan
  pub core : new.core ≡ old.core
  pub asked : new.asked ≡ old.asked
  pub sent : new.sent ≡ old.sent
  pub calls : calls_of old.maps ≤ calls_of new.maps

-- of what is shared that participant changed its own number and its own place in the roster at most, and states of rows
pub record SharesAsBefore (me : ℕ) (old new : Shared) : Type 0 where
  pub boxes : new.boxes ≡ old.boxes
  pub numbers : length new.numbers ≡ length old.numbers
  pub log : new.segs.log ≡ old.segs.log
  pub asks : new.segs.asks ≡ old.segs.asks
  pub growth : new.segs.growth ≡ old.segs.growth
  pub others : (who : ℕ) → who ≢ me → slice_index_or new.numbers who 0 ≡ slice_index_or old.numbers who 0
  pub members : (who : ℕ) → who ≢ me → is_member new.segs.roster who ≡ is_member old.segs.roster who
  pub sound : IsSound new.segs
  pub armed : IsArmed new.segs

-- what is shared knows of that participant: it is in the roster where it has a table, which has taken in what was acknowledged, and where
-- no message is lost all records
pub record IsKnownTo (set : Setting) (me : ℕ) (at : Shared) (party : Party) : Type 0 where
  pub joined : is_member at.segs.roster me ≡ party.joined
  pub number : party.joined ≡ true → party.maps.number ≡ slice_index_or at.numbers me 0
  pub within : slice_index_or at.numbers me 0 ≤ length at.segs.log
  pub granted : party.joined ≡ true → AreGrantsWithin (slice_index_or at.numbers me 0) at.segs.asks
  pub level : LosesNothing set.plan → party.joined ≡ true → slice_index_or at.numbers me 0 ≡ length at.segs.log

-- who was there before, who has sent as much and has the same coordinator
record WasThere (world : RunState) (who : ℕ) (party : Party) : Type 0 where
  old : Party
  there : slice_get world.parties who ≡ Some old
  sent : party.sent ≡ old.sent
  core : party.core ≡ old.core
  asked : party.asked ≡ old.asked

no_noted : (growth : Option Growth) (cause : Cause) → growth ≡ None → option_and_then (λ growth. growth.noted) growth ≡ Some cause → ⊥
no_noted None cause none is = cc
no_noted (Some growth) cause none is = cc

module _ (set : Setting) (me : ℕ) (world : RunState) (shared : Shared) (party after : Party) (quiet : IsQuietState set world)
    (there : slice_get world.parties me ≡ Some party) (goes : IsAsBefore party after) (shares : SharesAsBefore me world.shared shared)
    (known : IsKnownTo set me shared after) where
  abbrev later : RunState
  later = world_with shared world.mail me after world

  was_there : (who : ℕ) (one : Party) → slice_get later.parties who ≡ Some one → WasThere world who one
  was_there who one found =
      elim (get_set world.parties me who after one found) [
        | inl own ↦
            record {
              old = party;
              there = ap (slice_get world.parties) own.0 ∙ there;
              sent = ap (λ (one : Party). one.sent) own.1 ∙ goes.sent;
              core = ap (λ (one : Party). one.core) own.1 ∙ goes.core;
              asked = ap (λ (one : Party). one.asked) own.1 ∙ goes.asked;
            }
        | inr other ↦ record { old = one; there = other.1; sent = refl; core = refl; asked = refl }
      ]

  own_place : IsInPlace set later me after
  own_place =
      let place = quiet.base.places me party there in
      record {
        me = goes.me ∙ place.me;
        deadline = goes.deadline ∙ place.deadline;
        plan = goes.plan ∙ place.plan;
        joined = known.joined;
        number = known.number;
        within = known.within;
        granted = known.granted;
        failed = none_later me (calls_of party.maps + 1) (calls_of after.maps + 1) (omega (arith, goes.calls)) shared.segs.asks
            (subst (λ (asks : List AskLog). has_failed_from asks me (calls_of party.maps + 1) ≡ false) (sym shares.asks) place.failed);
        closed = subst (λ (asks : List AskLog). closed_number asks me ≤ after.asked) (sym shares.asks)
            (subst (λ (asked : ℕ). closed_number world.shared.segs.asks me ≤ asked) (sym goes.asked) place.closed);
        follower = λ other. goes.core ∙ place.follower other;
        syncs = ap (λ (sent : Sent). length sent.syncs) goes.sent ∙ place.syncs;
      }

  other_place : (who : ℕ) (one : Party) → who ≢ me → slice_get world.parties who ≡ Some one → IsInPlace set later who one
  other_place who one other found =
      let place = quiet.base.places who one found in
      let stays : number_of_party later who ≡ number_of_party world who = shares.others who other in
      record {
        me = place.me;
        deadline = place.deadline;
        plan = place.plan;
        joined = shares.members who other ∙ place.joined;
        number = λ joined. place.number joined ∙ sym stays;
        within = omega (arith, stays, place.within, ap length shares.log);
        granted = λ joined.
            subst (λ (n : ℕ). AreGrantsWithin n shared.segs.asks) (sym stays)
            (subst (AreGrantsWithin (number_of_party world who)) (sym shares.asks) (place.granted joined));
        failed = subst (λ (asks : List AskLog). has_failed_from asks who (calls_of one.maps + 1) ≡ false) (sym shares.asks) place.failed;
        closed = subst (λ (asks : List AskLog). closed_number asks who ≤ one.asked) (sym shares.asks) place.closed;
        follower = place.follower;
        syncs = place.syncs;
      }

  its_place : (who : ℕ) (one : Party) → slice_get later.parties who ≡ Some one → IsInPlace set later who one
  its_place who one found =
      elim (get_set world.parties me who after one found) [
        | inl own ↦
            subst (λ (one : Party). IsInPlace set later who one) (sym own.1)
            (subst (λ (n : ℕ). IsInPlace set later n after) (sym own.0) own_place)
        | inr other ↦ other_place who one other.0 other.1
      ]

  excused_here : (who : ℕ) (first one : Party) → slice_get later.parties 0 ≡ Some first → slice_get later.parties who ≡ Some one
      → IsExcused set later who first one
  excused_here who first one top found =
      let before = was_there 0 first top in
      let its = was_there who one found in
      let was = quiet.base.excused who before.old its.old before.there its.there in
      let losses : ℕ → ℕ = lost_among set.plan message.Sync who in
      let lost_asks : ℕ → ℕ = lost_among set.plan message.Alloc who in
      record {
        late = subst (λ (asks : List AskLog). late_outcomes who asks ≤ losses (times_sent first.sent.syncs who)) (sym shares.asks)
            (subst (λ (sent : Sent). late_outcomes who world.shared.segs.asks ≤ losses (times_sent sent.syncs who)) (sym before.sent)
            was.late);
        withdrawn = subst (λ (asks : List AskLog). withdrawn_outcomes who asks ≤ lost_asks one.sent.allocs) (sym shares.asks)
            (subst (λ (sent : Sent). withdrawn_outcomes who world.shared.segs.asks ≤ lost_asks sent.allocs) (sym its.sent) was.withdrawn);
      }

  declared_here : (who : ℕ) → is_member shared.segs.roster who ≡ true → who < set.count
  declared_here who member =
      elim (cases_eq who me) [
        | inl same ↦ omega (arith, same, slice_get_within world.parties me party there, quiet.base.parties)
        | inr other ↦ quiet.base.declared who (sym (shares.members who other) ∙ member)
      ]

  none_noted : (cause : Cause) → noted_failure shared.segs ≡ Some cause → IsNotedCall later cause
  none_noted cause is = absurd (no_noted shared.segs.growth cause (shares.growth ∙ quiet.growth) is)

  -- what holds at every moment holds then
  pub base_stays : IsBase set later
  base_stays = record {
    boxes = ap length shares.boxes ∙ quiet.base.boxes;
    numbers = shares.numbers ∙ quiet.base.numbers;
    mail = quiet.base.mail;
    parties = set_long world.parties me after ∙ quiet.base.parties;
    said = λ who.
        subst (λ (boxes : List (List Frame)). AreSaid (box_of boxes who) (mail_of world who)) (sym shares.boxes) (quiet.base.said who);
    sound = shares.sound;
    armed = shares.armed;
    primary = shares.sound.places.primary;
    declared = declared_here;
    places = its_place;
    noted = none_noted;
    excused = excused_here;
    apart = subst (All (IsApart set.deadline)) (sym shares.asks) quiet.base.apart;
  }

  idle_here : (primary : Party) → slice_get later.parties 0 ≡ Some primary
      → (core : Core) × (primary.core ≡ Some core) × (core.deadline ≡ set.deadline) × (core.phase ≡ Idle) × (core.held ≡ replicate 16 None)
  idle_here primary found =
      let before = was_there 0 primary found in
      let was = quiet.idle before.old before.there in
      (was.0, before.core ∙ was.1, was.2, was.3, was.4)

  -- how many asks and notices of those sent came twice
  abbrev doubled_of : ℕ → Sent → ℕ
  doubled_of who sent = doubled_among set.plan message.Alloc who sent.allocs + doubled_among set.plan message.Free who sent.frees

  level_here : LosesNothing set.plan → HaveCaughtUp later
  level_here nothing who member =
      elim (cases_eq who me) [
        | inl same ↦
            let joined : after.joined ≡ true = sym known.joined ∙ ap (is_member shared.segs.roster) (sym same) ∙ member in
            ap (λ (n : ℕ). slice_index_or shared.numbers n 0) same ∙ known.level nothing joined
        | inr other ↦
            shares.others who other
            ∙ quiet.level nothing who (sym (shares.members who other) ∙ member)
            ∙ sym (ap length shares.log)
      ]

  -- and all is quiet
  pub quiet_stays : IsQuietState set later
  quiet_stays = record {
    base = base_stays;
    idle = idle_here;
    growth = shares.growth ∙ quiet.growth;
    empty = quiet.empty;
    doubled = λ who one found.
        (let its = was_there who one found in
        subst (λ (asks : List AskLog). stale_outcomes who asks ≤ doubles set who one) (sym shares.asks)
        (subst (λ (sent : Sent). stale_outcomes who world.shared.segs.asks ≤ doubled_of who sent) (sym its.sent)
        (quiet.doubled who its.old its.there)));
    told = λ who one found.
        (let its = was_there who one found in
        let lost = notices_lost_same set who its.old one (ap (λ (sent : Sent). sent.frees) its.sent) in
        let missed : unanswered_among shared.segs.asks who one.asked ≡ unanswered_among world.shared.segs.asks who its.old.asked =
        ap (λ (asks : List AskLog). unanswered_among asks who one.asked) shares.asks ∙ ap (unanswered_among world.shared.segs.asks who) its.asked in
        omega (arith, lost, missed, quiet.told who its.old its.there));
    in_time = λ who one found.
        (let its = was_there who one found in
        subst (λ (asks : List AskLog). IsInTime set asks who one.asked) (sym shares.asks)
        (subst (IsInTime set world.shared.segs.asks who) (sym its.asked) (quiet.in_time who its.old its.there)));
    level = level_here;
  }
