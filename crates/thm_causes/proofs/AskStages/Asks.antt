-- An ask for pages leads from a quiet world to a quiet one, while nothing is owed: it is sent, and its answer comes, or it is taken back.
use Rattle.std.proofs.Common.{◌≡◌, ◌∙◌, ℕ, ◌+◌, ◌<◌, ◌≤◌, ◌^◌, ◌==◌, true, false, List, [], ◌∷◌, length, Option, Some, None, refl, sym, ap, subst, arith, eq-eqb}
use Rattle.std.specs.Prelude.{slice_get, slice_index_or}
use Rattle.std.proofs.lemmas.Bool.{and_from}
use Rattle.std.proofs.lemmas.Option.{slice_get-get_or, slice_get_within}
use Rattle.hp_base.specs.Plans.{action_of}
use Rattle.hp_base.specs.declared.plan.Action.{Action}
use Rattle.hp_base.specs.declared.plan_entry.MsgKind.TheVariants as message
use Rattle.hp_base.specs.declared.plan_entry.PlanEntry.{PlanEntry}
use Rattle.hp_base.specs.declared.row.Run.{Run}
use Rattle.hp_core.specs.Asks.{is_armed, is_armed_by, is_same_ask}
use Rattle.hp_core.specs.declared.asked.Asked.TheVariants as want
use Rattle.hp_hall.specs.Mail.{MailStep, Notes, Posts}
use Rattle.hp_hall.specs.declared.note.Note.TheVariants.{Read}
use Rattle.hp_segs.specs.LaterSteps.{after_arm}
use Rattle.hp_segs.specs.SegsView.{SegsView, closed_number}
use Rattle.hp_segs.specs.declared.ask.Ask.{Ask}
use Rattle.hp_serve.specs.Denials.{Denials}
use Rattle.hp_serve.specs.AskSteps.{DoesAsk, IsSentAs}
use Rattle.hp_serve.specs.Asking.{alloc_body}
use Rattle.hp_serve.specs.Asking.{ask_of}
use Rattle.hp_serve.specs.Party.{Party, after_alloc, one_more}
use Rattle.hp_serve.specs.Serving.{gives_segments}
use Rattle.hp_serve.specs.declared.pages_asked.PagesAsked.{PagesAsked}
use Rattle.hp_solo.specs.Sequence.{Sequence}
use Rattle.hp_solo.specs.Solo.{SoloView}
use Rattle.thm_causes.specs.Counting.{LosesNothing, is_doubled, is_lost, lost_among}
use Rattle.thm_causes.specs.RoundTrip.{HasRoomBack, IsGoneBefore, IsInPlace, IsSetting, IsToDo, Setting, RunState, doubles}
use Rattle.thm_causes.specs.Quiet.{IsQuietOwing, IsQuietState}
use Rattle.thm_causes.specs.Outcomes.{withdrawn_outcomes}
use Rattle.thm_causes.specs.Shared.{IsSharedIn, MakesAll, Shared, posted_to, with_segs}
use Rattle.thm_causes.specs.Stages.{IsSent, world_with}
use Rattle.thm_causes.specs.Waits.{AreServingsKnown, AsksInQuiet, IsAtTurn, LeadsTo, WaitsOut}
use Rattle.thm_causes.specs.RunStates.{IsInOrder, IsRunStateOf}
use Rattle.thm_causes.proofs.AskStages.AsksBack.{quiet_claimed}
use Rattle.thm_causes.proofs.AskStages.AsksBase.{HasSent}
use Rattle.thm_causes.proofs.AskStages.AsksClaims.{HasOutcomes}
use Rattle.thm_causes.proofs.AskStages.AsksOwn.{world_own}
use Rattle.thm_causes.proofs.AskStages.AsksStage.{just_sent, world_posted}
use Rattle.thm_causes.proofs.AskStages.AsksWaits.{awaited_quiet}
use Rattle.thm_causes.proofs.LostCounts.{doubled_more, lost_more, lost_rises, never_lost}
use Rattle.thm_causes.proofs.Said.{index_set, set_found, set_unfound}
use Rattle.thm_causes.proofs.Sharing.{IsGiven, gave, posted_one, read_clock, took}
use Rattle.thm_causes.proofs.TurnSteps.TurnsCalls.{calls_are}
use Rattle.thm_causes.proofs.TurnSteps.TurnsSequence.{calls_own, cut_in}
use Rattle.thm_causes.proofs.CountingLemmas.{one_if}

same_number : (n : ℕ) → (n == n) ≡ true
same_number n = eq-eqb n n refl

-- an ask is the same as itself
itself : (ask : Ask) → is_same_ask ask ask ≡ true
itself ask =
    and_from (ask.from == ask.from) _ (same_number ask.from)
    (and_from (ask.number == ask.number) _ (same_number ask.number)
    (and_from (ask.heap == ask.heap) _ (same_number ask.heap)
    (and_from (ask.socket == ask.socket) _ (same_number ask.socket)
    (and_from (ask.page == ask.page) _ (same_number ask.page)
    (and_from (ask.request.size == ask.request.size) _ (same_number ask.request.size)
    (and_from (ask.request.align == ask.request.align) _ (same_number ask.request.align)
    (and_from (ask.request.bound == ask.request.bound) _ (same_number ask.request.bound) (same_number ask.request.flags))))))))

-- who armed itself with an ask is armed with it
arms : (ask : Ask) (segs : SegsView) → ask.from < length segs.armed → is_armed ask (after_arm ask segs) ≡ true
arms ask segs within = ap (is_armed_by ask) (index_set segs.armed ask.from (Some ask) None within) ∙ itself ask

module _ (set : Setting) (party : Party) (asked : PagesAsked) (number since : ℕ) (world : RunState) (setting : IsSetting set)
    (owing : IsQuietOwing set false world) (own : slice_get world.parties party.me ≡ Some party) (early : world.shared.clock ≤ 2 ^ 62)
    (sending : List MailStep) (sent : IsSentAs party (ask_of party.me number asked) since sending) (shared : Shared)
    (made : MakesAll party.me sending world.shared shared) where
  quiet : IsQuietState set world
  quiet = owing.quiet

  abbrev ask : Ask
  ask = ask_of party.me number asked

  abbrev after : Party
  after = after_alloc number party

  abbrev action : Action
  action = action_of party.plan message.Alloc party.me (one_more party.sent.allocs)

  place : IsInPlace set world party.me party
  place = quiet.base.places party.me party own

  declared : party.me < set.count
  declared = omega (arith, slice_get_within world.parties party.me party own, quiet.base.parties)

  -- the world in which it is armed
  abbrev armed : RunState
  armed = world_with (with_segs (after_arm ask sent.taken) world.shared) world.mail party.me party world

  -- what it does after that
  abbrev then_posts : List MailStep
  then_posts = Posts 0 sent.frame action sent.posted ∷ []

  abbrev then_reads : List MailStep
  then_reads = Notes (Read sent.now) ∷ then_posts

  began : (sent.taken ≡ world.shared.segs)
      × MakesAll party.me (gives_segments (after_arm ask sent.taken) ∷ then_reads) world.shared shared
  began =
      took party.me sent.taken (gives_segments (after_arm ask sent.taken) ∷ then_reads) world.shared shared
      (subst (λ steps. MakesAll party.me steps world.shared shared) sent.are made)

  gives : IsGiven party.me (after_arm ask sent.taken) then_reads world.shared shared
  gives = gave party.me (after_arm ask sent.taken) then_reads world.shared shared began.1

  reads : (sent.now ≡ armed.shared.clock) × MakesAll party.me then_posts armed.shared shared
  reads = read_clock party.me sent.now then_posts armed.shared shared gives.rest

  -- what is shared after it
  shared_is : shared ≡ posted_to 0 sent.frame action armed.shared
  shared_is = posted_one party.me 0 sent.frame action sent.posted armed.shared shared reads.1

  since_is : since ≡ world.shared.clock
  since_is = omega (arith, sent.read, reads.0, early)

  pub is_sent : IsSent set (want.Grow ask) since
  is_sent = record { setting = setting; declared = declared; early = omega (arith, since_is, early) }

  quiet_armed : IsQuietState set armed
  quiet_armed =
      quiet_claimed set party.me world (after_arm ask sent.taken) party quiet own gives.sound (gives.armed quiet.base.armed)
      (subst (λ (segs : SegsView). HasOutcomes segs (after_arm ask sent.taken)) began.0
      (record { log = refl; growth = refl; roster = refl; asks = refl; retiring = refl }))

  own_armed : slice_get armed.parties party.me ≡ Some party
  own_armed = set_found world.parties party.me party party own

  sends : HasSent set party.me number party after
  sends = record {
    me = refl;
    deadline = refl;
    plan = refl;
    joined = refl;
    maps = refl;
    core = refl;
    syncs = refl;
    asked = refl;
    answered = refl;
    lost = lost_rises set.plan message.Alloc party.me setting.counted party.sent.allocs;
    freed = omega arith;
  }

  above : closed_number sent.taken.asks party.me < number
  above = omega (arith, sent.number)

  to_do : IsToDo (want.Grow ask) armed
  to_do =
      let few = quiet.base.sound.places.armed_places in
      let long : length sent.taken.armed ≡ length world.shared.segs.armed = ap (λ (segs : SegsView). length segs.armed) began.0 in
      (above, arms ask sent.taken (omega (arith, few, long, declared, setting.few)))

  -- the world in which it was posted
  abbrev posted : RunState
  posted = world_posted party.me armed sent.frame (alloc_body ask) after action

  grows : doubles set party.me party + one_if (is_doubled action) ≤ doubles set party.me after
  grows =
      let more = doubled_more set.plan message.Alloc party.me setting.counted party.sent.allocs in
      let same : one_if (is_doubled action) ≡ one_if (is_doubled (action_of set.plan message.Alloc party.me (one_more party.sent.allocs))) =
      ap (λ (plan : List PlanEntry). one_if (is_doubled (action_of plan message.Alloc party.me (one_more party.sent.allocs)))) place.plan in
      omega (arith, more, same)

  -- it has the next number
  next : number ≡ party.asked + 1
  next =
      let few : closed_number sent.taken.asks party.me ≤ party.asked =
      subst (λ (segs : SegsView). closed_number segs.asks party.me ≤ party.asked) (sym began.0) place.closed in
      omega (arith, sent.number, few)

  back : is_lost action ≡ true → HasRoomBack set ask.from posted
  back lost one found =
      let more : lost_among set.plan message.Alloc party.me (one_more party.sent.allocs)
      ≡ lost_among set.plan message.Alloc party.me party.sent.allocs
      + one_if (is_lost (action_of set.plan message.Alloc party.me (one_more party.sent.allocs))) =
      lost_more set.plan message.Alloc party.me setting.counted party.sent.allocs in
      let same : one_if (is_lost (action_of set.plan message.Alloc party.me (one_more party.sent.allocs))) ≡ one_if true =
      sym (ap (λ (plan : List PlanEntry). one_if (is_lost (action_of plan message.Alloc party.me (one_more party.sent.allocs)))) place.plan)
      ∙ ap one_if lost in
      let first = slice_index_or armed.parties 0 party in
      let first_there : slice_get armed.parties 0 ≡ Some first =
      slice_get-get_or armed.parties 0 party (omega (arith, quiet_armed.base.parties, setting.some)) in
      let was = (quiet_armed.base.excused party.me first party first_there own_armed).withdrawn in
      let both : Some one ≡ Some after = sym found ∙ set_found armed.parties party.me party after own_armed in
      let its : one ≡ after = cc in
      let room : withdrawn_outcomes party.me sent.taken.asks < lost_among set.plan message.Alloc party.me after.sent.allocs =
      omega (arith, more, same, was) in
      subst (λ (one : Party). withdrawn_outcomes party.me sent.taken.asks < lost_among set.plan message.Alloc party.me one.sent.allocs)
      (sym its) room

  -- nothing is left of what was given up
  gone : LosesNothing set.plan → IsGoneBefore (want.Grow ask) armed
  gone nothing = ap (λ (segs : SegsView). segs.retiring) began.0 ∙ owing.gone nothing refl

  never : LosesNothing set.plan → is_lost action ≡ true → ⊥
  never nothing lost =
      never_lost set.plan message.Alloc party.me setting.counted party.sent.allocs refl nothing
      (sym (ap (λ (plan : List PlanEntry). is_lost (action_of plan message.Alloc party.me (one_more party.sent.allocs))) place.plan) ∙ lost)

  -- the ask was just sent
  pub at_turn_sent : IsAtTurn set (want.Grow ask) since posted
  at_turn_sent =
      just_sent set (want.Grow ask) since armed sent.frame (alloc_body ask) party after is_sent quiet_armed own_armed sends (sym since_is)
      to_do above next sent.says refl gone action grows
      back never

  -- the hall of the world in which it was posted
  pub posted_hall : (old new : SoloView) → IsRunStateOf old party.me party world → IsSharedIn new.plain shared → IsInOrder new.plain
      → new.servers ≡ old.servers → IsRunStateOf new party.me after posted
  posted_hall old new its is_shared order servers =
      world_own party.me old new party after world posted its (subst (IsSharedIn new.plain) shared_is is_shared) order servers
      (set_found armed.parties party.me party after own_armed)
      (λ who other. set_unfound armed.parties party.me who after other ∙ set_unfound world.parties party.me who party other)

module _ (known : AreServingsKnown) (denies : Denials) (waits_out : WaitsOut) where
  own_quiet : (set : Setting) (old new : SoloView) (party after : Party) (asked : PagesAsked) (run : Option Run) (steps : List MailStep)
      (world : RunState) → IsSetting set → IsRunStateOf old party.me party world → IsQuietOwing set false world → world.shared.clock ≤ 2 ^ 62
      → Sequence party.me old steps new → DoesAsk denies set.count party after asked steps run
      → LeadsTo (IsQuietOwing set false) new party.me after
  own_quiet set old new party after asked run steps world setting its owing early sequence does =
      let cut = cut_in party.me old new steps does.sending does.rest does.are sequence in
      let did =
      calls_own known.along party.me old cut.mid does.sending world.shared cut.begins
      (calls_are does.sending _ does.sent.are (tt, (tt, (tt, (tt, tt))))) its.order its.shared in
      let at = did.along.at in
      let made = did.along.made in
      awaited_quiet known denies waits_out set (ask_of party.me after.asked asked) does.since
      (is_sent set party asked after.asked does.since world setting owing its.own early does.sending does.sent at made) cut.mid new
      (after_alloc after.asked party) after does.rest run
      (posted set party asked after.asked does.since world setting owing its.own early does.sending does.sent at made)
      (posted_hall set party asked after.asked does.since world setting owing its.own early does.sending does.sent at made old cut.mid its
      did.along.shared did.along.order did.servers)
      (at_turn_sent set party asked after.asked does.since world setting owing its.own early does.sending does.sent at made) cut.ends
      does.awaited

-- it is so of each ask
pub asks_in_quiet : WaitsOut → AsksInQuiet
asks_in_quiet waits_out known denies set me old new party after asked run steps world setting its owing early sequence does =
    let same : party.me ≡ me = (owing.quiet.base.places me party its.own).me in
    subst (λ (me : ℕ). LeadsTo (IsQuietOwing set false) new me after) same
    (own_quiet known denies waits_out set old new party after asked run steps world setting
    (subst (λ (me : ℕ). IsRunStateOf old me party world) (sym same) its) owing early
    (subst (λ (me : ℕ). Sequence me old steps new) (sym same) sequence) does)
