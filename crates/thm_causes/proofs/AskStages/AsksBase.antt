-- What holds at every moment holds where a participant has sent an ask or a notice, and where its ask was taken back.
use Rattle.std.proofs.Common.{◌≡◌, ◌∙◌, ℕ, ◌+◌, ◌≤◌, false, List, length, Some, inl, inr, refl, sym, ap, subst, arith}
use Rattle.std.specs.Prelude.{slice_get}
use Rattle.hp_base.specs.declared.plan_entry.MsgKind.TheVariants as message
use Rattle.hp_maps.specs.MapsView.{MapsView, calls_of}
use Rattle.hp_segs.specs.LaterSteps.{has_failed_from}
use Rattle.hp_segs.specs.SegsView.{closed_number}
use Rattle.hp_segs.specs.declared.outcome.Cause.{Cause}
use Rattle.hp_serve.specs.Party.{Party}
use Rattle.hp_serve.specs.Posting.{times_sent}
use Rattle.thm_causes.specs.Counting.{lost_among}
use Rattle.thm_causes.specs.RoundTrip.{IsBase, IsExcused, IsInPlace, IsNotedCall, Setting, RunState}
use Rattle.thm_causes.specs.Outcomes.{late_outcomes}
use Rattle.thm_causes.specs.Stages.{world_with}
use Rattle.thm_causes.proofs.Said.{get_set, set_long}

-- a participant has sent an ask or a notice of that number
pub record HasSent (set : Setting) (who number : ℕ) (old new : Party) : Type 0 where
  pub me : new.me ≡ old.me
  pub deadline : new.deadline ≡ old.deadline
  pub plan : new.plan ≡ old.plan
  pub joined : new.joined ≡ old.joined
  pub maps : new.maps ≡ old.maps
  pub core : new.core ≡ old.core
  pub syncs : new.sent.syncs ≡ old.sent.syncs
  pub asked : new.asked ≡ number
  pub answered : new.answered ≡ false
  pub lost : lost_among set.plan message.Alloc who old.sent.allocs ≤ lost_among set.plan message.Alloc who new.sent.allocs
  pub freed : lost_among set.plan message.Free who old.sent.frees ≤ lost_among set.plan message.Free who new.sent.frees

-- who was there before, who has the same table and coordinator
record WasThere (set : Setting) (world : RunState) (who : ℕ) (party : Party) : Type 0 where
  old : Party
  there : slice_get world.parties who ≡ Some old
  maps : party.maps ≡ old.maps
  syncs : party.sent.syncs ≡ old.sent.syncs
  lost : lost_among set.plan message.Alloc who old.sent.allocs ≤ lost_among set.plan message.Alloc who party.sent.allocs

module _ (set : Setting) (who number : ℕ) (world : RunState) (party after : Party) (base : IsBase set world)
    (there : slice_get world.parties who ≡ Some party) (sends : HasSent set who number party after)
    (above : closed_number world.shared.segs.asks who ≤ number) where
  abbrev later : RunState
  later = world_with world.shared world.mail who after world

  was_there : (other : ℕ) (one : Party) → slice_get later.parties other ≡ Some one → WasThere set world other one
  was_there other one found =
      let losses : ℕ → ℕ → ℕ = lost_among set.plan message.Alloc in
      elim (get_set world.parties who other after one found) [
        | inl own ↦
            record {
              old = party;
              there = ap (slice_get world.parties) own.0 ∙ there;
              maps = ap (λ (one : Party). one.maps) own.1 ∙ sends.maps;
              syncs = ap (λ (one : Party). one.sent.syncs) own.1 ∙ sends.syncs;
              lost = subst (λ (one : Party). losses other party.sent.allocs ≤ losses other one.sent.allocs) (sym own.1)
                  (subst (λ (n : ℕ). losses n party.sent.allocs ≤ losses n after.sent.allocs) (sym own.0) sends.lost);
            }
        | inr apart ↦ record { old = one; there = apart.1; maps = refl; syncs = refl; lost = omega arith }
      ]

  own_place : IsInPlace set later who after
  own_place =
      let place = base.places who party there in
      record {
        me = sends.me ∙ place.me;
        deadline = sends.deadline ∙ place.deadline;
        plan = sends.plan ∙ place.plan;
        joined = place.joined ∙ sym sends.joined;
        number = λ joined. ap (λ (maps : MapsView). maps.number) sends.maps ∙ place.number (sym sends.joined ∙ joined);
        within = place.within;
        granted = λ joined. place.granted (sym sends.joined ∙ joined);
        failed = ap (λ (maps : MapsView). has_failed_from world.shared.segs.asks who (calls_of maps + 1)) sends.maps ∙ place.failed;
        closed = omega (arith, sends.asked, above);
        follower = λ other. sends.core ∙ place.follower other;
        syncs = ap length sends.syncs ∙ place.syncs;
      }

  other_place : (other : ℕ) (one : Party) → slice_get world.parties other ≡ Some one → IsInPlace set later other one
  other_place other one found =
      let place = base.places other one found in
      record {
        me = place.me;
        deadline = place.deadline;
        plan = place.plan;
        joined = place.joined;
        number = place.number;
        within = place.within;
        granted = place.granted;
        failed = place.failed;
        closed = place.closed;
        follower = place.follower;
        syncs = place.syncs;
      }

  its_place : (other : ℕ) (one : Party) → slice_get later.parties other ≡ Some one → IsInPlace set later other one
  its_place other one found =
      elim (get_set world.parties who other after one found) [
        | inl own ↦
            subst (λ (one : Party). IsInPlace set later other one) (sym own.1)
            (subst (λ (n : ℕ). IsInPlace set later n after) (sym own.0) own_place)
        | inr apart ↦ other_place other one apart.1
      ]

  noted_here : (cause : Cause) → IsNotedCall world cause → IsNotedCall later cause
  noted_here cause noted = record {
    who = noted.who;
    call = noted.call;
    addr = noted.addr;
    got = noted.got;
    is = noted.is;
    made = λ one found.
        (let before = was_there noted.who one found in
        subst (λ (maps : MapsView). noted.call ≤ calls_of maps) (sym before.maps) (noted.made before.old before.there));
  }

  excused_here : (other : ℕ) (first one : Party) → slice_get later.parties 0 ≡ Some first → slice_get later.parties other ≡ Some one
      → IsExcused set later other first one
  excused_here other first one top found =
      let before = was_there 0 first top in
      let its = was_there other one found in
      let was = base.excused other before.old its.old before.there its.there in
      record {
        late = subst
            (λ (syncs : List ℕ).
            late_outcomes other world.shared.segs.asks ≤ lost_among set.plan message.Sync other (times_sent syncs other))
            (sym before.syncs) was.late;
        withdrawn = omega (arith, was.withdrawn, its.lost);
      }

  -- it is so as the participant has sent it
  pub base_sent : IsBase set later
  base_sent = record {
    boxes = base.boxes;
    numbers = base.numbers;
    mail = base.mail;
    parties = set_long world.parties who after ∙ base.parties;
    said = base.said;
    sound = base.sound;
    armed = base.armed;
    primary = base.primary;
    declared = base.declared;
    places = its_place;
    noted = λ cause is. noted_here cause (base.noted cause is);
    excused = excused_here;
    apart = base.apart;
  }
