-- What one serving makes of a participant without a coordinator and of what is shared.
use Rattle.std.proofs.Common.{◌≡◌, ◌∙◌, true, false, true≢false, List, [], ◌∷◌, drop, sym, ap, subst}
use Rattle.std.proofs.lemmas.Option.{none-some, same_Some}
use Rattle.hp_base.specs.Plans.{action_of}
use Rattle.hp_base.specs.declared.plan_entry.MsgKind.TheVariants as message
use Rattle.hp_core.specs.Following.{after_catching}
use Rattle.hp_frame.specs.declared.frame.Frame.{Frame}
use Rattle.hp_frame.specs.declared.message.Body.{Body}
use Rattle.hp_segs.specs.Standing.{IsArmed}
use Rattle.hp_hall.specs.Mail.{MailStep}
use Rattle.hp_plain.specs.Boxes.{box_of}
use Rattle.hp_segs.specs.SegsView.{SegsView, is_member}
use Rattle.hp_segs.specs.Sound.{IsSound}
use Rattle.hp_serve.specs.Frames.{Says}
use Rattle.hp_serve.specs.Party.{Party, one_more}
use Rattle.hp_serve.specs.Serving.{IsFollowed, IsDispatched, IsMemberServed, IsTold, FollowsAndReplies, gives_segments, is_sync}
use Rattle.thm_causes.specs.Servings.{MemberServes, MembersServeSo, FollowsIn, numbered}
use Rattle.thm_causes.specs.Shared.{MakesAll, Shared, fetched_by, posted_to, with_segs}
use Rattle.thm_causes.proofs.Sharing.{fetched_one, found_nothing, gave, numbered_segs, posted_one, told_behind, took}

-- a member obeys, with the value that is shared
obeyed : (old new : Shared) (party after : Party) (steps : List MailStep) → FollowsAndReplies party after old.segs steps
    → MakesAll party.me steps old new → FollowsIn old new party after
obeyed old new party after steps obeys makes =
    let caught = obeys.caught in
    let given = after_catching party.me caught old.segs in
    let mid = numbered party.me caught old in
    let back =
    gave party.me given (obeys.reply ∷ []) mid new
    (told_behind party.me caught (gives_segments given ∷ obeys.reply ∷ []) old new
    (subst (λ (steps : List MailStep). MakesAll party.me steps old new) obeys.done makes)) in
    let frame = obeys.replied.frame in
    let action = action_of party.plan message.Reply party.me (one_more party.sent.replies) in
    let is : new ≡ posted_to 0 frame action (with_segs given mid) =
    posted_one party.me 0 frame action obeys.replied.posted (with_segs given mid) new
    (subst (λ (step : MailStep). MakesAll party.me (step ∷ []) (with_segs given mid) new) obeys.replied.posts back.rest) in
    record {
      caught = caught;
      caught_up_is = obeys.caught_up;
      frame = frame;
      says = obeys.replied.says;
      shared = is;
      after_is = obeys.after_is;
      sound = subst (λ (at : Shared). IsSound at.segs) (sym is) back.sound;
      armed = λ armed.
          subst (λ (at : Shared). IsArmed at.segs) (sym is) (back.armed (subst IsArmed (sym (numbered_segs party.me caught old)) armed));
    }

module _ (old new : Shared) (party after : Party) (frame : Frame) (box : List Frame) (there : box_of old.boxes party.me ≡ frame ∷ box) where
  -- a SYNC, by the value that is taken
  followed : (body : Body) (taken : SegsView) (steps : List MailStep) → Says frame body → is_sync body ≡ true
      → IsFollowed party after taken steps true
      → taken ≡ old.segs → MakesAll party.me steps (fetched_by party.me old) new → MemberServes old new party after true
  followed body taken steps says sync (IsFollowed.obeys member obeys is) same makes =
      MemberServes.obeys frame box body there says sync
      (ap (λ (segs : SegsView). is_member segs.roster party.me) (sym same) ∙ member)
      (obeyed (fetched_by party.me old) new party after steps (subst (λ (segs : SegsView). FollowsAndReplies party after segs steps) same obeys) makes)
  followed body taken steps says sync (IsFollowed.is_out out did after_is is) same makes =
      let given =
      gave party.me taken [] (fetched_by party.me old) new
      (subst (λ (steps : List MailStep). MakesAll party.me steps (fetched_by party.me old) new) did makes) in
      MemberServes.is_out frame box body there says sync (ap (λ (segs : SegsView). is_member segs.roster party.me) (sym same) ∙ out)
      (given.rest ∙ ap (λ (segs : SegsView). with_segs segs (fetched_by party.me old)) same) after_is
  followed body taken steps says sync (IsFollowed.is_worn member worn did after_is is) same makes = absurd (true≢false is)

  -- a message to the handler
  told : (body : Body) (steps : List MailStep) → Says frame body → IsTold party after body steps true
      → MakesAll party.me steps (fetched_by party.me old) new → MemberServes old new party after true
  told body steps says (IsTold.hears reply did after_is is) makes =
      MemberServes.hears frame box body there says reply
      (subst (λ (steps : List MailStep). MakesAll party.me steps (fetched_by party.me old) new) did makes) after_is
  told body steps says (IsTold.follows taken more sync did is_followed) makes =
      let had =
      took party.me taken more (fetched_by party.me old) new
      (subst (λ (steps : List MailStep). MakesAll party.me steps (fetched_by party.me old) new) did makes) in
      followed body taken more says sync is_followed had.0 had.1

  -- a frame
  heeded : (steps : List MailStep) → IsDispatched party after frame steps true → MakesAll party.me steps (fetched_by party.me old) new
      → MemberServes old new party after true
  heeded steps (IsDispatched.drops says did after_is is) makes =
      MemberServes.drops frame box there says
      (subst (λ (steps : List MailStep). MakesAll party.me steps (fetched_by party.me old) new) did makes) after_is
  heeded steps (IsDispatched.tells body says is_told) makes = told body steps says is_told makes

pub members_serve : MembersServeSo
members_serve old new party after steps moved below (IsMemberServed.rests did after_is is) makes =
    let found = found_nothing party.me [] old new (subst (λ (steps : List MailStep). MakesAll party.me steps old new) did makes) in
    subst (MemberServes old new party after) (same_Some false moved (sym is)) (MemberServes.rests found.0 found.1 after_is)
members_serve old new party after steps moved below (IsMemberServed.heeds frame more true did is_heeded is) makes =
    let has = fetched_one party.me frame more old new (subst (λ (steps : List MailStep). MakesAll party.me steps old new) did makes) in
    subst (MemberServes old new party after) (same_Some true moved (sym is))
    (heeded old new party after frame (drop 1 (box_of old.boxes party.me)) has.0 more is_heeded has.1)
members_serve old new party after steps moved below (IsMemberServed.heeds frame more false did is_heeded is) makes =
    absurd (none-some moved (sym is))
