-- Worlds after what participant 0 posted for its coordinator: what holds at every moment holds there.
use Rattle.std.proofs.Common.{◌≡◌, ℕ, ◌+◌, ◌≤◌, Bool, false, List, length, count_by, Some, inl, inr, refl, sym, ap, subst, ◌∙◌, arith, if◌then◌else◌}
use Rattle.std.specs.List.{list_any}
use Rattle.std.specs.Prelude.{slice_get}
use Rattle.hp_base.specs.declared.plan_entry.MsgKind.TheVariants as message
use Rattle.hp_core.specs.Asks.{asker}
use Rattle.hp_core.specs.declared.asked.Asked.{Asked}
use Rattle.hp_core.specs.declared.phase.Phase.{Phase}
use Rattle.hp_frame.specs.declared.frame.Frame.{Frame}
use Rattle.hp_frame.specs.declared.message.Body.{Body}
use Rattle.hp_maps.specs.MapsView.{calls_of}
use Rattle.hp_segs.specs.LaterSteps.{has_failed_from}
use Rattle.hp_segs.specs.SegsView.{closed_number}
use Rattle.hp_segs.specs.declared.outcome.Cause.{Cause}
use Rattle.hp_serve.specs.Party.{Party}
use Rattle.hp_serve.specs.Posting.{times_sent}
use Rattle.thm_causes.specs.Counting.{lost_among}
use Rattle.thm_causes.specs.RoundTrip.{AreDoubled, HasCoordinator, IsBase, IsCoordinator, IsExcused, IsInPlace, IsNotedCall, IsUnanswered, Setting, RunState, copies_left, is_call, is_result_of, mail_of}
use Rattle.thm_causes.specs.Outcomes.{late_outcomes, stale_outcomes, withdrawn_outcomes}
use Rattle.thm_causes.specs.Shared.{with_boxes}
use Rattle.thm_causes.specs.Stages.{world_with}
use Rattle.thm_causes.proofs.Said.{AreAllSaid, get_set, set_found, set_long}
use Rattle.thm_causes.proofs.StartSteps.StartingBase.{GoesOn, WasThere, doubles_on, was_there}
use Rattle.thm_causes.proofs.Told.{heard_same, told_on}

-- a participant has posted something as a coordinator: its counts of SYNCs and RESULTs alone may have changed
pub record HasPosted (set : Setting) (old new : Party) : Type 0 where
  pub me : new.me ≡ old.me
  pub joined : new.joined ≡ old.joined
  pub maps : new.maps ≡ old.maps
  pub plan : new.plan ≡ old.plan
  pub deadline : new.deadline ≡ old.deadline
  pub core : new.core ≡ old.core
  pub asked : new.asked ≡ old.asked
  pub answered : new.answered ≡ old.answered
  pub allocs : new.sent.allocs ≡ old.sent.allocs
  pub frees : new.sent.frees ≡ old.sent.frees
  pub long : length new.sent.syncs ≡ length old.sent.syncs
  -- no fewer of its SYNCs were lost
  pub lost : (who : ℕ) → lost_among set.plan message.Sync who (times_sent old.sent.syncs who)
      ≤ lost_among set.plan message.Sync who (times_sent new.sent.syncs who)

pub posted_on : (set : Setting) (old new : Party) → HasPosted set old new → GoesOn old new
posted_on set old new posted = record {
  me = posted.me;
  plan = posted.plan;
  deadline = posted.deadline;
  asked = posted.asked;
  answered = posted.answered;
  allocs = posted.allocs;
  frees = posted.frees;
  calls = omega (arith, ap calls_of posted.maps);
}

-- mailboxes have changed, and say this
pub record AreMailed (world : RunState) (boxes : List (List Frame)) (mail : List (List Body)) : Type 0 where
  pub said : AreAllSaid boxes mail
  pub wide : length boxes ≡ length world.shared.boxes
  pub long : length mail ≡ length world.mail

module _ (set : Setting) (world : RunState) (boxes : List (List Frame)) (mail : List (List Body)) (primary after : Party) (base : IsBase set world)
    (there : slice_get world.parties 0 ≡ Some primary) (posted : HasPosted set primary after) (mailed : AreMailed world boxes mail) where
  -- the world after the posts
  abbrev pub behind : RunState
  behind = world_with (with_boxes boxes world.shared) mail 0 after world

  pub found_behind : slice_get behind.parties 0 ≡ Some after
  found_behind = set_found world.parties 0 primary after there

  pub was_behind : (who : ℕ) (party : Party) → slice_get behind.parties who ≡ Some party → WasThere world who party
  was_behind who party found = was_there world.shared world primary after there (posted_on set primary after posted) who party found

  placed_own : IsInPlace set behind 0 after
  placed_own =
      let old = base.places 0 primary there in
      record {
        me = posted.me ∙ old.me;
        deadline = posted.deadline ∙ old.deadline;
        plan = posted.plan ∙ old.plan;
        joined = old.joined ∙ sym posted.joined;
        number = λ joined. ap (λ maps. maps.number) posted.maps ∙ old.number (sym posted.joined ∙ joined);
        within = old.within;
        granted = λ joined. old.granted (sym posted.joined ∙ joined);
        failed = subst (λ maps. has_failed_from world.shared.segs.asks 0 (calls_of maps + 1) ≡ false) (sym posted.maps) old.failed;
        closed = subst (λ (n : ℕ). closed_number world.shared.segs.asks 0 ≤ n) (sym posted.asked) old.closed;
        follower = λ other. absurd (other refl);
        syncs = posted.long ∙ old.syncs;
      }

  placed_other : (who : ℕ) (party : Party) → IsInPlace set world who party → IsInPlace set behind who party
  placed_other who party old = record {
    me = old.me;
    deadline = old.deadline;
    plan = old.plan;
    joined = old.joined;
    number = old.number;
    within = old.within;
    granted = old.granted;
    failed = old.failed;
    closed = old.closed;
    follower = old.follower;
    syncs = old.syncs;
  }

  placed : (who : ℕ) (party : Party) → slice_get behind.parties who ≡ Some party → IsInPlace set behind who party
  placed who party found =
      elim (get_set world.parties 0 who after party found) [
        | inl both ↦
            subst (λ (n : ℕ). IsInPlace set behind n party) (sym both.0)
            (subst (IsInPlace set behind 0) (sym both.1) placed_own)
        | inr other ↦ placed_other who party (base.places who party other.1)
      ]

  excuses : (who : ℕ) (first party : Party) → slice_get behind.parties 0 ≡ Some first → slice_get behind.parties who ≡ Some party
      → IsExcused set behind who first party
  excuses who first party at_first found =
      let was = was_behind who party found in
      let old = base.excused who primary was.before there was.there in
      let first_is : first ≡ after = cc (at_first, found_behind) in
      record {
        late = subst
            (λ (party : Party). late_outcomes who world.shared.segs.asks ≤ lost_among set.plan message.Sync who (times_sent party.sent.syncs who))
            (sym first_is) (omega (arith, old.late, posted.lost who));
        withdrawn = subst (λ (n : ℕ). withdrawn_outcomes who world.shared.segs.asks ≤ lost_among set.plan message.Alloc who n)
            (sym was.on.allocs) old.withdrawn;
      }

  -- a noted failure is of a call that was made
  noted_behind : (cause : Cause) → IsNotedCall world cause → IsNotedCall behind cause
  noted_behind cause noted = record {
    who = noted.who;
    call = noted.call;
    addr = noted.addr;
    got = noted.got;
    is = noted.is;
    made = λ party found.
        let was = was_behind noted.who party found in
        omega (arith, noted.made was.before was.there, was.on.calls);
  }

  -- what holds at every moment holds after posts
  pub base_behind : IsBase set behind
  base_behind = record {
    boxes = mailed.wide ∙ base.boxes;
    numbers = base.numbers;
    mail = mailed.long ∙ base.mail;
    parties = set_long world.parties 0 after ∙ base.parties;
    said = mailed.said;
    sound = base.sound;
    armed = base.armed;
    primary = base.primary;
    declared = base.declared;
    places = placed;
    noted = λ cause is. noted_behind cause (base.noted cause is);
    excused = excuses;
    apart = base.apart;
  }

  -- the coordinator is as it was
  pub coordinates_behind : (phase : Phase) (call : Asked) (holds : Bool) → HasCoordinator set world phase call holds
      → HasCoordinator set behind phase call holds
  coordinates_behind phase call holds has =
      let same : primary ≡ has.primary = cc (there, has.there) in
      record {
        primary = after;
        there = found_behind;
        is = subst (IsCoordinator set phase call holds) (sym (posted.core ∙ ap (λ (party : Party). party.core) same)) has.is;
      }

  -- no more copies of asks have come
  pub doubled_behind : (call : Asked) (holds fresh : Bool) → count_by is_call (mail_of behind 0) ≡ count_by is_call (mail_of world 0)
      → AreDoubled set world call holds fresh → AreDoubled set behind call holds fresh
  doubled_behind call holds fresh calls doubled = record {
    asker_is = λ party found.
        let was = was_behind (asker call) party found in
        let old = doubled.asker_is was.before was.there in
        subst (λ (n : ℕ). stale_outcomes (asker call) world.shared.segs.asks + copies_left behind holds ≤ n + (if fresh then 1 else 0))
        (sym (doubles_on set (asker call) was.before party was.on))
        (omega (arith, old, calls));
    others = λ who party apart found.
        let was = was_behind who party found in
        subst (λ (n : ℕ). stale_outcomes who world.shared.segs.asks ≤ n) (sym (doubles_on set who was.before party was.on))
        (doubled.others who was.before apart was.there);
    told = λ who party found.
        let was = was_behind who party found in
        told_on set world.shared.segs.asks world.shared.segs.asks call who was.before party
        (heard_same call who world.shared.segs.asks world.shared.segs.asks refl) was.on.asked was.on.frees
        (doubled.told who was.before was.there);
  }

  -- its asker has not heard of its answer, where that is in no mailbox
  pub unanswered_behind : (call : Asked) → ((who : ℕ) → list_any (is_result_of call) (mail_of behind who) ≡ false) → IsUnanswered call world
      → IsUnanswered call behind
  unanswered_behind call nowhere unanswered = record {
    asked = λ party found.
        let was = was_behind (asker call) party found in
        was.on.asked ∙ unanswered.asked was.before was.there;
    unheard = λ party found.
        let was = was_behind (asker call) party found in
        was.on.answered ∙ unanswered.unheard was.before was.there;
    nowhere = nowhere;
  }
