-- Participant 0 serves once: whatever lies in its mailbox, it comes to a stage of the ask.
use Rattle.std.proofs.Common.{◌≡◌, ◌∙◌, ◌⊎◌, ℕ, ◌+◌, ◌-◌, ◌^◌, ◌<◌, Bool, true, false, ◌||◌, ◌&&◌, List, [], ◌∷◌, drop, Option, Some, inl, inr, refl, ap, sym, subst, arith}
use Rattle.std.specs.Prelude.{is_some, min, slice_get, slice_set}
use Rattle.std.specs.List.{list_any}
use Rattle.std.proofs.lemmas.Option.{same_Some}
use Rattle.std.proofs.lemmas.Bool.{or_parts}
use Rattle.hp_core.specs.Asks.{asker}
use Rattle.hp_core.specs.Core.{Core, due_of, holds_ask, is_idle}
use Rattle.hp_core.specs.declared.asked.Asked.{Asked}
use Rattle.hp_core.specs.declared.event.CoreEvent.{CoreEvent}
use Rattle.hp_core.specs.declared.event.CoreEvent.TheVariants.{Poll}
use Rattle.hp_core.specs.declared.phase.Phase.{Phase}
use Rattle.hp_core.specs.declared.phase.Phase.TheVariants.{Waiting}
use Rattle.hp_frame.specs.declared.frame.Frame.{Frame}
use Rattle.hp_frame.specs.declared.message.Body.{Body}
use Rattle.hp_plain.specs.Boxes.{box_of}
use Rattle.hp_serve.specs.Denials.{Denials}
use Rattle.hp_serve.specs.Coordinating.{IsAskIn, IsNoAsk, is_sync_reply}
use Rattle.hp_serve.specs.Falling.{HasPassedAt, IsDue}
use Rattle.hp_serve.specs.Frames.{Says}
use Rattle.hp_serve.specs.Party.{Party}
use Rattle.hp_serve.specs.Serving.{hearing, is_answer_to}
use Rattle.thm_causes.specs.RoundTrip.{IsBase, IsCopy, IsUnanswered, Setting, AskPhase, RunState, is_result_of, mail_of}
use Rattle.thm_causes.specs.Servings.{CoreServes, Handles, Polls}
use Rattle.thm_causes.specs.Shared.{Shared, fetched_by}
use Rattle.thm_causes.specs.Stages.{ComesTo, IsSent, MayPoll, PollsOn, PrimaryServes, StartsFresh, world_with}
use Rattle.thm_causes.proofs.CopyStages.CopiesAlong.{IsSameBut}
use Rattle.thm_causes.proofs.CopyStages.CopiesBodies.{answer_is_no_ask, copy_is_ask, copy_is_asked, copy_is_no_reply, not_answered, reply_is_answer}
use Rattle.thm_causes.proofs.CopyStages.CopiesCarried.{IsUnheard}
use Rattle.thm_causes.proofs.CopyStages.CopiesFetched.{IsFetched, base_fetched, fetched, stage_fetched}
use Rattle.thm_causes.proofs.CopyStages.CopiesSet.{same_party, set_twice, unheard_set}
use Rattle.thm_causes.proofs.CopyStages.CopiesStages.{takes_a_copy}
use Rattle.thm_causes.proofs.CopyStages.CopiesTaken.{like_same}
use Rattle.thm_causes.proofs.Said.{first_said, first_unsaid, mail_fetched, set_found, set_same}

-- the deadline of a round has not passed at the reading at which it began
due_later : (since deadline due : ℕ) → due ≡ min (since + deadline) (2 ^ 64 - 1) → 0 < deadline → due < 2 ^ 64 - 1 → since < due
due_later since deadline due is waits early = omega (arith, is)

-- a world of these
abbrev world_of : Shared → List (List Body) → List Party → RunState
world_of shared mail parties = record { shared = shared; mail = mail; parties = parties }

module _ (set : Setting) (call : Asked) (sent : ℕ) (world : RunState) (primary : Party) (is_sent : IsSent set call sent)
    (base : IsBase set world) (there : slice_get world.parties 0 ≡ Some primary) where
  me_is : primary.me ≡ 0
  me_is = (base.places 0 primary there).me

  -- no SYNC of a settling round lies in a mailbox when the round's deadline has passed
  may_poll_due : (stage : AskPhase set call sent true world) → IsDue primary.core (Poll world.shared.clock [])
      → MayPoll set call sent true world stage
  may_poll_due (AskPhase.fresh clock unanswered coordinator alone to_do copies some empty doubled level) due = tt
  may_poll_due (AskPhase.lost clock unanswered coordinator alone to_do none empty doubled taken_back loses) due = tt
  may_poll_due
      (AskPhase.growing round holds kind from number unanswered coordinator its to_do clock bodies doubled follow awaited level) due = tt
  may_poll_due
      (AskPhase.settling round since holds kind from number unanswered coordinator alone closed early clock logged bodies doubled waits
      answered level) due =
      λ member told.
      absurd (too_early coordinator.is.its coordinator.is.deadline coordinator.is.phase_is (waits refl member told).stands
      (subst (λ (c : Option Core). IsDue c (Poll world.shared.clock []))
      (ap (λ (p : Party). p.core) (same_Some primary coordinator.primary (sym there ∙ coordinator.there)) ∙ coordinator.is.there) due))
    where
      too_early : (core : Core) → core.deadline ≡ set.deadline → core.phase ≡ Waiting round since → world.shared.clock ≡ since
          → (holds_ask core ≡ true) ⊎ HasPassedAt core world.shared.clock → ⊥
      too_early core deadline phase stands (inl holding) =
          let wrong : false ≡ true =
          sym (ap (λ (p : Phase). is_idle p && list_any is_some core.held) phase) ∙ holding in
          cc
      too_early core deadline phase stands (inr passed) =
          let due_is : Some passed.due ≡ Some (min (since + set.deadline) (2 ^ 64 - 1)) =
          sym passed.its_due
          ∙ (ap (λ (p : Phase). due_of core.deadline p) phase ∙ ap (λ (d : ℕ). due_of d (Waiting round since)) deadline) in
          let same : passed.due ≡ min (since + set.deadline) (2 ^ 64 - 1) =
          same_Some passed.due (min (since + set.deadline) (2 ^ 64 - 1)) due_is in
          let later : since < passed.due =
          due_later since set.deadline passed.due same is_sent.setting.waits passed.early in
          omega (arith, later, passed.passed, stands)
  may_poll_due (AskPhase.over holds coordinator alone closed bodies doubled told answered level) due = tt

  -- where participant 0 did nothing all is as it was
  still_is : world_with world.shared world.mail 0 primary world ≡ world
  still_is = ap (λ (parties : List Party). world_of world.shared world.mail parties) (set_same world.parties 0 primary there)

  -- it comes to the same stage
  rests_so : AskPhase set call sent true world → ComesTo set call sent true world 0 world.shared primary
  rests_so stage = record {
    mail = world.mail;
    base = subst (IsBase set) (sym still_is) base;
    stage = subst (AskPhase set call sent true) (sym still_is) stage;
  }

  -- what comes of a world in which participant 0 was set to what it was comes of this one
  comes_again : (shared : Shared) (after : Party) → ComesTo set call sent true (fetched primary world) 0 shared after
      → ComesTo set call sent true world 0 shared after
  comes_again shared after comes =
      let again : slice_set (slice_set world.parties 0 primary) 0 after ≡ slice_set world.parties 0 after =
      set_twice world.parties 0 primary after in
      let same : world_of shared comes.mail (slice_set (slice_set world.parties 0 primary) 0 after)
      ≡ world_of shared comes.mail (slice_set world.parties 0 after) =
      ap (λ (parties : List Party). world_of shared comes.mail parties) again in
      record {
        mail = comes.mail;
        base = subst (IsBase set) same comes.base;
        stage = subst (AskPhase set call sent true) same comes.stage;
      }

  -- the first body in mailbox 0, of which the frame was fetched
  head_is : (frame : Frame) (more : List Frame) (body : Body) → box_of world.shared.boxes primary.me ≡ frame ∷ more → Says frame body
      → mail_of world 0 ≡ body ∷ drop 1 (mail_of world 0)
  head_is frame more body box says =
      first_said (box_of world.shared.boxes 0) (mail_of world 0) frame more body (base.said 0)
      (subst (λ (n : ℕ). box_of world.shared.boxes n ≡ frame ∷ more) me_is box) says

  -- nobody has heard of an answer where participant 0 is as it was
  unheard_still : IsUnanswered call world → IsUnheard call (fetched primary world)
  unheard_still was =
      unheard_set set world world.shared.segs (slice_set world.shared.boxes 0 (drop 1 (box_of world.shared.boxes 0)))
      (mail_fetched 0 world.mail) primary primary there (same_party primary) (like_same world.shared.segs) call was.unheard
      (λ its. was.unheard primary (subst (λ (n : ℕ). slice_get world.parties n ≡ Some primary) (sym its) there))

  -- who has heard something has sent and asked the same
  same_hearing : (body : Body) → IsSameBut primary (hearing body primary)
  same_hearing body = record { me = refl; deadline = refl; plan = refl; joined = refl; maps = refl; sent = refl; asked = refl }

  -- nor where it has heard another
  unheard_hearing : (body : Body) → mail_of world 0 ≡ body ∷ drop 1 (mail_of world 0) → IsUnanswered call world
      → IsUnheard call (fetched (hearing body primary) world)
  unheard_hearing body head was =
      unheard_set set world world.shared.segs (slice_set world.shared.boxes 0 (drop 1 (box_of world.shared.boxes 0)))
      (mail_fetched 0 world.mail) primary (hearing body primary) there (same_hearing body) (like_same world.shared.segs) call was.unheard
      (λ its. (let here : slice_get world.parties (asker call) ≡ Some primary =
      subst (λ (n : ℕ). slice_get world.parties n ≡ Some primary) (sym its) there in
      let other : is_result_of call body ≡ false =
      (or_parts (is_result_of call body) (list_any (is_result_of call) (drop 1 (mail_of world 0)))
      (sym (ap (list_any (is_result_of call)) head) ∙ was.nowhere 0)).0 in
      ap (λ (answered : Bool). answered || is_answer_to primary body) (was.unheard primary here)
      ∙ not_answered primary call body (was.asked primary here) other))

  -- the stage after the fetch of a body, where participant 0 is as it was
  behind_fetch : (body : Body) → mail_of world 0 ≡ body ∷ drop 1 (mail_of world 0) → AskPhase set call sent true world
      → IsFetched set call sent body (fetched primary world)
  behind_fetch body head stage =
      stage_fetched set call sent world primary primary is_sent base there (same_party primary) refl body head unheard_still stage

  -- all that holds at each moment holds after it
  base_behind : IsBase set (fetched primary world)
  base_behind = base_fetched set call sent world primary primary is_sent base there (same_party primary) refl

  primary_behind : slice_get (fetched primary world).parties 0 ≡ Some primary
  primary_behind = set_found world.parties 0 primary primary there

  -- an ask comes
  asks_so : StartsFresh → (denies : Denials) (event : CoreEvent) (body : Body) (shared : Shared) (after : Party)
      → IsFetched set call sent body (fetched primary world) → IsAskIn set.count body event
      → Handles denies set.count event (fetched_by 0 world.shared) shared primary after → ComesTo set call sent true world 0 shared after
  asks_so starts_fresh denies event body shared after (IsFetched.starts copy starting) asked handles =
      comes_again shared after
      (starts_fresh denies set call sent event (fetched primary world) shared primary after is_sent base_behind starting primary_behind
      (copy_is_asked set.count call body event copy asked) handles)
  asks_so starts_fresh denies event body shared after (IsFetched.goes_on stage (inl answer) room poll) asked handles =
      absurd (answer_is_no_ask set.count body event answer asked)
  asks_so starts_fresh denies event body shared after (IsFetched.goes_on stage (inr copy) room poll) asked handles =
      comes_again shared after
      (takes_a_copy denies set call sent event (fetched primary world) shared primary after is_sent base_behind stage
      (room copy) primary_behind
      (copy_is_asked set.count call body event copy asked) handles)

  -- a reply is no copy
  no_reply : (body : Body) → is_sync_reply body ≡ true → IsCopy call body → ⊥
  no_reply body reply copy = let wrong : true ≡ false = sym reply ∙ copy_is_no_reply call body copy in cc

  -- a reply comes: it is a poll, or comes too late
  replied_so : PollsOn → (denies : Denials) (body : Body) (shared : Shared) (after : Party)
      → IsFetched set call sent body (fetched primary world)
      → is_sync_reply body ≡ true → Polls denies set.count (fetched_by 0 world.shared) shared primary after
      → ComesTo set call sent true world 0 shared after
  replied_so polls_on denies body shared after (IsFetched.starts copy starting) reply polls = absurd (no_reply body reply copy)
  replied_so polls_on denies body shared after (IsFetched.goes_on stage its room poll) reply polls =
      comes_again shared after
      (polls_on denies set call sent (fetched primary world) shared primary after is_sent base_behind stage
      (poll (reply_is_answer body reply))
      primary_behind polls)

  late_so : (body : Body) → IsFetched set call sent body (fetched primary world) → is_sync_reply body ≡ true
      → ComesTo set call sent true world 0 (fetched_by 0 world.shared) primary
  late_so body (IsFetched.starts copy starting) reply = absurd (no_reply body reply copy)
  late_so body (IsFetched.goes_on stage its room poll) reply =
      record { mail = mail_fetched 0 world.mail; base = base_behind; stage = stage }

  -- anything else comes
  hears_so : (body : Body) → IsFetched set call sent body (fetched (hearing body primary) world) → IsNoAsk set.count body
      → ComesTo set call sent true world 0 (fetched_by 0 world.shared) (hearing body primary)
  hears_so body (IsFetched.starts copy starting) none = absurd (copy_is_ask set.count call body is_sent.declared copy none)
  hears_so body (IsFetched.goes_on stage its room poll) none = record {
    mail = mail_fetched 0 world.mail;
    base =
        base_fetched set call sent world primary (hearing body primary) is_sent base there (same_hearing body) refl;
    stage = stage;
  }

  -- whatever it does
  serves_so : StartsFresh → PollsOn → (denies : Denials) (shared : Shared) (after : Party) (moved : Bool) → AskPhase set call sent true world
      → CoreServes denies set.count world.shared shared primary after moved → ComesTo set call sent true world 0 shared after
  serves_so starts_fresh polls_on denies shared after moved stage (CoreServes.rests empty holds comes same stays) =
      subst (λ (s : Shared). ComesTo set call sent true world 0 s after) (sym same)
      (subst (λ (p : Party). ComesTo set call sent true world 0 world.shared p) (sym stays) (rests_so stage))
  serves_so starts_fresh polls_on denies shared after moved stage (CoreServes.polls empty due polls) =
      polls_on denies set call sent world shared primary after is_sent base stage (may_poll_due stage due) there polls
  serves_so starts_fresh polls_on denies shared after moved stage (CoreServes.drops frame more box nothing same stays) =
      absurd (first_unsaid (box_of world.shared.boxes 0) (mail_of world 0) frame more (base.said 0)
      (subst (λ (n : ℕ). box_of world.shared.boxes n ≡ frame ∷ more) me_is box) nothing)
  serves_so starts_fresh polls_on denies shared after moved stage (CoreServes.asks frame more body event box says asked handles) =
      asks_so starts_fresh denies event body shared after (behind_fetch body (head_is frame more body box says) stage) asked
      (subst (λ (n : ℕ). Handles denies set.count event (fetched_by n world.shared) shared primary after) me_is handles)
  serves_so starts_fresh polls_on denies shared after moved stage (CoreServes.replied frame more body due box says reply its_due polls) =
      replied_so polls_on denies body shared after (behind_fetch body (head_is frame more body box says) stage) reply
      (subst (λ (n : ℕ). Polls denies set.count (fetched_by n world.shared) shared primary after) me_is polls)
  serves_so starts_fresh polls_on denies shared after moved stage (CoreServes.late_reply frame more body box says reply none same stays) =
      subst (λ (s : Shared). ComesTo set call sent true world 0 s after)
      (sym (same ∙ ap (λ (n : ℕ). fetched_by n world.shared) me_is))
      (subst (λ (p : Party). ComesTo set call sent true world 0 (fetched_by 0 world.shared) p) (sym stays)
      (late_so body (behind_fetch body (head_is frame more body box says) stage) reply))
  serves_so starts_fresh polls_on denies shared after moved stage (CoreServes.hears frame more body box says none reply same stays) =
      let head = head_is frame more body box says in
      subst (λ (s : Shared). ComesTo set call sent true world 0 s after)
      (sym (same ∙ ap (λ (n : ℕ). fetched_by n world.shared) me_is))
      (subst (λ (p : Party). ComesTo set call sent true world 0 (fetched_by 0 world.shared) p) (sym stays)
      (hears_so body
      (stage_fetched set call sent world primary (hearing body primary) is_sent base there (same_hearing body) refl body head
      (unheard_hearing body head) stage) none))

-- participant 0 serves once
pub primary_serves : StartsFresh → PollsOn → PrimaryServes
primary_serves starts_fresh polls_on denies set call sent world shared primary after moved is_sent base stage there served =
    serves_so set call sent world primary is_sent base there starts_fresh polls_on denies shared after moved stage served
