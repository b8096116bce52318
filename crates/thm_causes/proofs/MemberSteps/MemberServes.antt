-- A member that serves once keeps what holds between the servings of an ask, and the ask's stage.
use Rattle.std.proofs.Common.{◌≡◌, ◌≢◌, ◌∙◌, ℕ, ◌+◌, ◌<◌, ◌≤◌, Bool, true, false, ◌||◌, List, [], ◌∷◌, ◌++◌, drop, length, replicate, Some, is_some, refl, sym, ap, subst, arith, true≢false}
use Rattle.std.specs.Prelude.{slice_get, slice_index_or, slice_set, if◌then◌else◌}
use Rattle.hp_base.specs.Mapping.{is_done}
use Rattle.hp_base.specs.Plans.{action_of}
use Rattle.hp_base.specs.declared.caught.Caught.{Caught}
use Rattle.hp_base.specs.declared.caught.Caught.TheVariants as caught
use Rattle.hp_base.specs.declared.plan.Action.{Action}
use Rattle.hp_base.specs.declared.plan_entry.MsgKind.TheVariants as message
use Rattle.hp_core.specs.Following.{after_catching, failure_of, reply_of}
use Rattle.hp_core.specs.declared.asked.Asked.{Asked}
use Rattle.hp_frame.specs.declared.frame.Frame.{Frame}
use Rattle.hp_frame.specs.declared.message.Body.{Body}
use Rattle.hp_segs.specs.Standing.{IsArmed}
use Rattle.hp_plain.specs.Boxes.{box_after, box_of, copies, posted_as}
use Rattle.hp_mail.specs.declared.posted.Posted.{Posted}
use Rattle.hp_maps.specs.MapsView.{calls_of}
use Rattle.hp_segs.specs.SegsView.{is_member}
use Rattle.hp_segs.specs.Sound.{IsSound}
use Rattle.hp_serve.specs.Frames.{Says}
use Rattle.hp_serve.specs.Party.{Party, after_reply, one_more}
use Rattle.hp_serve.specs.Serving.{CatchesUp, after_catching_up}
use Rattle.thm_causes.specs.RoundTrip.{IsBase, IsInPlace, Setting, AskPhase, RunState, mail_of, number_of_party}
use Rattle.thm_causes.specs.Failing.{AreGrantsWithin, failing_call}
use Rattle.thm_causes.specs.Servings.{FollowsIn, caught_up, drops, hears, is_out, numbered, obeys, rests}
use Rattle.thm_causes.specs.Shared.{Shared, fetched_by, posted_to, with_number, with_segs}
use Rattle.thm_causes.specs.Stages.{ComesTo, MemberServesOnce}
use Rattle.thm_causes.proofs.CaughtUp.{Ends, fresh_rows, catching_may, ends_so, failed, none_later, whole}
use Rattle.thm_causes.proofs.FailingLemmas.{notes_a_failure}
use Rattle.thm_causes.proofs.MemberSteps.MemberMail as mails
use Rattle.thm_causes.proofs.MemberSteps.MemberMail.{Heeds, TakesMail}
use Rattle.thm_causes.proofs.MemberSteps.MemberWorlds.{IsStillParty, ServesAlone}
use Rattle.thm_causes.proofs.Said.{first_unsaid, index_set, index_unset, mail_posted, said_fetched, said_posted, set_long}
use Rattle.thm_causes.proofs.MemberSteps.MemberFetches.{body_front, comes, fetched_boxes, fetched_long, fetched_mail, fetched_other, fetched_own, fetched_wide, heard, mailed, out_of_it, rested, unheard_party}

module _ (set : Setting) (call : Asked) (sent : ℕ) (world : RunState) (who : ℕ) (party : Party) (base : IsBase set world)
    (stage : AskPhase set call sent false world) (member : who ≢ 0) (there : slice_get world.parties who ≡ Some party) where
  its : IsInPlace set world who party
  its = base.places who party there

  mailed_there : who < length world.mail
  mailed_there = mailed set world who party base there

  abbrev boxes_then : List (List Frame)
  boxes_then = fetched_boxes world who

  abbrev mail_then : List (List Body)
  mail_then = fetched_mail world who

  wide_then : length boxes_then ≡ set.count
  wide_then = fetched_wide set world who party base there

  long_then : length mail_then ≡ set.count
  long_then = fetched_long set world who party base there

  -- A SYNC IS OBEYED

  abbrev reply_for : Caught → Body
  reply_for ended = reply_of who ended world.shared.segs

  abbrev reply_code : Caught → ℕ
  reply_code ended = if is_some (failure_of ended) then 1 else 0

  -- what is shared after it, by the numbers and what became of the reply
  abbrev obeyed : Caught → Frame → Posted → List ℕ → Shared
  obeyed ended frame posted numbers = record {
    segs = after_catching who ended world.shared.segs;
    boxes = slice_set boxes_then 0 (box_after frame posted (box_of boxes_then 0));
    clock = world.shared.clock;
    numbers = numbers;
  }

  abbrev obeyed_mail : Caught → Posted → List (List Body)
  obeyed_mail ended posted = mail_posted 0 posted (reply_for ended) mail_then

  module _ (after : Party) (ended : Caught) (frame : Frame) (posted : Posted) (says : Says frame (reply_for ended))
      (joined : party.joined ≡ true) (after_is : after ≡ after_reply (after_catching_up world.shared.segs.log ended after.maps party))
      (catches : CatchesUp world.shared.segs.log party.maps after.maps ended)
      (sound : IsSound (after_catching who ended world.shared.segs)) (armed : IsArmed (after_catching who ended world.shared.segs)) where
    obeyed_still : IsStillParty party after
    obeyed_still = record {
      me = ap (λ (p : Party). p.me) after_is;
      deadline = ap (λ (p : Party). p.deadline) after_is;
      plan = ap (λ (p : Party). p.plan) after_is;
      joined = ap (λ (p : Party). p.joined) after_is ∙ ap (λ (b : Bool). b || is_done ended) joined ∙ sym joined;
      core = ap (λ (p : Party). p.core) after_is;
      asked = ap (λ (p : Party). p.asked) after_is;
      allocs = ap (λ (p : Party). p.sent.allocs) after_is;
      frees = ap (λ (p : Party). p.sent.frees) after_is;
      syncs = ap (λ (p : Party). p.sent.syncs) after_is;
    }

    module _ (numbers : List ℕ) (wide : length numbers ≡ set.count)
        (others : (other : ℕ) → other ≢ who → slice_index_or numbers other 0 ≡ number_of_party world other)
        (rises : number_of_party world who ≤ slice_index_or numbers who 0)
        (within : slice_index_or numbers who 0 ≤ length world.shared.segs.log)
        (table : after.maps.number ≡ slice_index_or numbers who 0) (calls : calls_of party.maps ≤ calls_of after.maps) where
      obeyed_alone : ServesAlone set world who party after (obeyed ended frame posted numbers) (obeyed_mail ended posted)
      obeyed_alone = record {
        clock = refl;
        segs = catching_may who ended (fresh_rows world.shared.segs.log party.maps) party.maps.answers after.maps.answers
            world.shared.segs catches.answered;
        sound = sound;
        armed = armed;
        boxes = set_long boxes_then 0 (box_after frame posted (box_of boxes_then 0)) ∙ wide_then;
        long = set_long mail_then 0 (slice_index_or mail_then 0 [] ++ replicate (copies posted) (reply_for ended)) ∙ long_then;
        said = said_posted boxes_then mail_then (long_then ∙ sym wide_then)
            (said_fetched world.shared.boxes world.mail (base.mail ∙ sym base.boxes) base.said who) 0 frame (reply_for ended) posted says;
        numbers = wide;
        others = others;
        rises = rises;
        within = within;
        still = obeyed_still;
        table = λ was. table;
        calls = calls;
      }

      obeyed_takes : (body : Body) → mail_of world who ≡ body ∷ drop 1 (mail_of world who)
          → Heeds world who (obeyed ended frame posted numbers) body
          → TakesMail world who after (obeyed ended frame posted numbers) (obeyed_mail ended posted)
      obeyed_takes body front heeds = record {
        body = body;
        front = front;
        own = index_unset mail_then 0 who (slice_index_or mail_then 0 [] ++ replicate (copies posted) (reply_for ended)) [] member
            ∙ (fetched_own set world who party base there);
        from = who;
        number = length world.shared.segs.log;
        code = reply_code ended;
        count = copies posted;
        first = index_set mail_then 0 (slice_index_or mail_then 0 [] ++ replicate (copies posted) (reply_for ended)) []
            (omega (arith, mailed_there, long_then, base.mail))
            ∙ ap (λ (bodies : List Body). bodies ++ replicate (copies posted) (reply_for ended))
            ((fetched_other set world who party base there) 0 (λ same. member (sym same)));
        others = λ other some apart.
            index_unset mail_then 0 other (slice_index_or mail_then 0 [] ++ replicate (copies posted) (reply_for ended)) [] some
            ∙ (fetched_other set world who party base there) other apart;
        heeds = heeds;
        unheard = λ call same un. ap (λ (p : Party). p.answered) after_is ∙ (unheard_party set world who party base there) call same un;
      }

      obeyed_comes : (body : Body) → mail_of world who ≡ body ∷ drop 1 (mail_of world who)
          → Heeds world who (obeyed ended frame posted numbers) body
          → ComesTo set call sent false world who (obeyed ended frame posted numbers) after
      obeyed_comes body front heeds =
          comes set call sent world who party base stage member there after (obeyed ended frame posted numbers)
          (obeyed_mail ended posted) obeyed_alone (obeyed_takes body front heeds)

    module _ (shared : Shared) (body : Body) (front : mail_of world who ≡ body ∷ drop 1 (mail_of world who)) where
      -- it has taken in the log
      whole_comes : ended ≡ caught.Done → after.maps.number ≡ length world.shared.segs.log → calls_of party.maps ≤ calls_of after.maps
          → shared ≡ obeyed ended frame posted (slice_set world.shared.numbers who (length world.shared.segs.log))
          → ComesTo set call sent false world who shared after
      whole_comes done number calls is =
          let numbers = slice_set world.shared.numbers who (length world.shared.segs.log) in
          let own : slice_index_or numbers who 0 ≡ length world.shared.segs.log =
          index_set world.shared.numbers who (length world.shared.segs.log) 0 (omega (arith, mailed_there, base.mail, base.numbers)) in
          subst (λ (s : Shared). ComesTo set call sent false world who s after) (sym is)
          (obeyed_comes numbers (set_long world.shared.numbers who (length world.shared.segs.log) ∙ base.numbers)
          (λ other apart. index_unset world.shared.numbers who other (length world.shared.segs.log) 0 apart)
          (omega (arith, own, its.within)) (omega (arith, own)) (number ∙ sym own) calls body front (mails.catches own))

      -- a mapping failed
      failed_comes : (failing : ℕ) → failing_call ended ≡ Some failing → calls_of party.maps + 1 ≤ failing → failing ≡ calls_of after.maps
          → after.maps.number ≡ party.maps.number → shared ≡ obeyed ended frame posted world.shared.numbers
          → ComesTo set call sent false world who shared after
      failed_comes failing fails later last number is =
          let granted : AreGrantsWithin party.maps.number world.shared.segs.asks =
          subst (λ (n : ℕ). AreGrantsWithin n world.shared.segs.asks) (sym (its.number joined)) (its.granted joined) in
          let noted = notes_a_failure world.shared.segs party.maps after.maps ended who failing base.sound granted catches fails
          (none_later who (calls_of party.maps + 1) failing later world.shared.segs.asks its.failed) in
          subst (λ (s : Shared). ComesTo set call sent false world who s after) (sym is)
          (obeyed_comes world.shared.numbers base.numbers (λ other apart. refl) (omega arith) its.within (number ∙ its.number joined)
          (omega (arith, later, last)) body front (mails.notes noted))

  -- the numbers after a catching up
  numbered_whole : (ended : Caught) (at : Shared) → ended ≡ caught.Done → numbered who ended at ≡ with_number who (length at.segs.log) at
  numbered_whole ended at is = ap (λ (e : Caught). numbered who e at) is

  numbered_failed : (ended : Caught) (at : Shared) → is_done ended ≡ false → numbered who ended at ≡ at
  numbered_failed caught.Done at isnt = absurd (true≢false isnt)
  numbered_failed (caught.Refused row number) at isnt = refl
  numbered_failed (caught.Elsewhere row number got) at isnt = refl

  module _ (shared : Shared) (after : Party) (frame : Frame) (more : List Frame) (body : Body)
      (box : box_of world.shared.boxes party.me ≡ frame ∷ more) (said : Says frame body)
      (joins : is_member world.shared.segs.roster party.me ≡ true)
      (did : FollowsIn (fetched_by party.me world.shared) shared party after) where
    abbrev reply_action : Action
    reply_action = action_of party.plan message.Reply party.me (one_more party.sent.replies)

    abbrev reply_posted : Posted
    reply_posted = posted_as reply_action (length (box_of boxes_then 0))

    shared_is : (at : Shared) → numbered who did.caught (fetched_by who world.shared) ≡ at
        → shared ≡ posted_to 0 did.frame reply_action (with_segs (after_catching who did.caught world.shared.segs) at)
    shared_is at is =
        did.shared
        ∙ ap (λ (n : ℕ). posted_to 0 did.frame reply_action (caught_up n did.caught (fetched_by n world.shared))) its.me
        ∙ ap (λ (s : Shared). posted_to 0 did.frame reply_action (with_segs (after_catching who did.caught world.shared.segs) s)) is

    segs_is : shared.segs ≡ after_catching who did.caught world.shared.segs
    segs_is = ap (λ (s : Shared). s.segs) (shared_is (numbered who did.caught (fetched_by who world.shared)) refl)

    says_who : Says did.frame (reply_for did.caught)
    says_who = subst (λ (n : ℕ). Says did.frame (reply_of n did.caught world.shared.segs)) its.me did.says

    joined_there : party.joined ≡ true
    joined_there = sym its.joined ∙ ap (is_member world.shared.segs.roster) (sym its.me) ∙ joins

    obeyed_so : ComesTo set call sent false world who shared after
    obeyed_so = by_end (ends_so world.shared.segs.log party.maps after.maps did.caught did.caught_up_is) where
      sound_then : IsSound (after_catching who did.caught world.shared.segs)
      sound_then = subst IsSound segs_is did.sound

      armed_then : IsArmed (after_catching who did.caught world.shared.segs)
      armed_then = subst IsArmed segs_is (did.armed base.armed)

      by_end : Ends world.shared.segs.log party.maps after.maps did.caught → ComesTo set call sent false world who shared after
      by_end (whole done number calls) =
          whole_comes after did.caught did.frame reply_posted says_who joined_there did.after_is did.caught_up_is sound_then armed_then
          shared body ((body_front set world who party base there) frame more body box said) done number calls
          (shared_is (with_number who (length world.shared.segs.log) (fetched_by who world.shared))
          (numbered_whole did.caught (fetched_by who world.shared) done))
      by_end (failed failing fails later last isnt number) =
          failed_comes after did.caught did.frame reply_posted says_who joined_there did.after_is did.caught_up_is sound_then armed_then
          shared body ((body_front set world who party base there) frame more body box said) failing fails later last number
          (shared_is (fetched_by who world.shared) (numbered_failed did.caught (fetched_by who world.shared) isnt))

-- a member serves once
pub member_serves_once : MemberServesOnce
member_serves_once set call sent world who shared party after moved is_sent base stage member there (rests box same unchanged) =
    rested set call sent world who party base stage member there shared after same unchanged
member_serves_once set call sent world who shared party after moved is_sent base stage member there
    (drops frame more box nothing same unchanged) =
    absurd (first_unsaid (box_of world.shared.boxes party.me) (mail_of world party.me) frame more (base.said party.me) box nothing)
member_serves_once set call sent world who shared party after moved is_sent base stage member there
    (hears frame more body box says isnt same changed) =
    heard set call sent world who party base stage member there shared after frame more body box says isnt same changed
member_serves_once set call sent world who shared party after moved is_sent base stage member there
    (is_out frame more body box says is outside same unchanged) =
    out_of_it set call sent world who party base stage member there shared after frame more body box says outside same unchanged
member_serves_once set call sent world who shared party after moved is_sent base stage member there
    (obeys frame more body box says is joins did) =
    obeyed_so set call sent world who party base stage member there shared after frame more body box says joins did
