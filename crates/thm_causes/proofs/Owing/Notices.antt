-- A notice leads from a quiet world to a quiet one in which nothing is owed: it is sent, and its answer comes, or it was lost.
use Rattle.std.proofs.Common.{◌≡◌, ◌∙◌, ℕ, ◌+◌, ◌-◌, ◌<◌, ◌≤◌, ◌^◌, true, false, min, List, [], ◌∷◌, Some, refl, sym, ap, subst, arith}
use Rattle.std.specs.Prelude.{slice_get}
use Rattle.std.proofs.lemmas.Option.{slice_get_within}
use Rattle.hp_base.specs.Plans.{action_of}
use Rattle.hp_base.specs.declared.plan.Action.{Action}
use Rattle.hp_base.specs.declared.plan_entry.MsgKind.TheVariants as message
use Rattle.hp_base.specs.declared.plan_entry.PlanEntry.{PlanEntry}
use Rattle.hp_base.specs.declared.row.Run.{Run}
use Rattle.hp_core.specs.declared.asked.Asked.{Asked}
use Rattle.hp_core.specs.declared.asked.Asked.TheVariants as want
use Rattle.hp_frame.specs.declared.frame.Frame.{Frame}
use Rattle.hp_frame.specs.declared.message.Body.{Body}
use Rattle.hp_hall.specs.Mail.{MailStep, Notes, Posts}
use Rattle.hp_hall.specs.declared.note.Note.TheVariants.{Read}
use Rattle.hp_heap.specs.Growing.{run_bytes}
use Rattle.hp_segs.specs.SegsView.{closed_number}
use Rattle.hp_serve.specs.Denials.{Denials}
use Rattle.hp_serve.specs.AskSteps.{DoesNotify, waits_until}
use Rattle.hp_serve.specs.Asking.{free_body}
use Rattle.hp_serve.specs.Frames.{Says}
use Rattle.hp_serve.specs.Party.{Party, after_free, one_more}
use Rattle.hp_serve.specs.Waiting.{IsWaited}
use Rattle.hp_solo.specs.Sequence.{Sequence}
use Rattle.hp_solo.specs.Solo.{SoloView}
use Rattle.thm_causes.specs.Counting.{LosesNothing, is_doubled, is_lost, lost_among}
use Rattle.thm_causes.specs.RoundTrip.{IsInPlace, IsSetting, Setting, RunState, doubles}
use Rattle.thm_causes.specs.Quiet.{IsQuietOwing, IsQuietState}
use Rattle.thm_causes.specs.Shared.{IsSharedIn, Shared}
use Rattle.thm_causes.specs.Stages.{IsSent}
use Rattle.thm_causes.specs.Waits.{AreServingsKnown, IsAtTurn, LeadsTo, NotifiesInQuiet, WaitsOut}
use Rattle.thm_causes.specs.RunStates.{IsRunStateOf}
use Rattle.thm_causes.proofs.AskStages.AsksBase.{HasSent}
use Rattle.thm_causes.proofs.AskStages.AsksOut.{owing_out}
use Rattle.thm_causes.proofs.AskStages.AsksOwn.{world_own}
use Rattle.thm_causes.proofs.AskStages.AsksStage.{just_sent, may_miss, world_posted}
use Rattle.thm_causes.proofs.Said.{set_found, set_unfound}
use Rattle.thm_causes.proofs.Sharing.{read_clock}
use Rattle.thm_causes.proofs.TurnSteps.TurnsSequence.{calls_own, cut_in}
use Rattle.thm_causes.proofs.CountingLemmas.{one_if}
use Rattle.thm_causes.proofs.LostCounts.{doubled_more, lost_rises, never_lost, one_lost}

module _ (set : Setting) (party : Party) (heap : ℕ) (run : Run) (since : ℕ) (world : RunState) (setting : IsSetting set)
    (quiet : IsQuietState set world) (own : slice_get world.parties party.me ≡ Some party) (early : since ≤ 2 ^ 62)
    (since_is : since ≡ world.shared.clock) where
  abbrev call : Asked
  call = want.Shrink party.me (party.asked + 1)

  abbrev body : Body
  body = free_body party.me (party.asked + 1) heap run

  abbrev after : Party
  after = after_free (party.asked + 1) party

  abbrev action : Action
  action = action_of party.plan message.Free party.me (one_more party.sent.frees)

  place : IsInPlace set world party.me party
  place = quiet.base.places party.me party own

  declared : party.me < set.count
  declared = omega (arith, slice_get_within world.parties party.me party own, quiet.base.parties)

  is_sent : IsSent set call since
  is_sent = record { setting = setting; declared = declared; early = early }

  sends : HasSent set party.me (party.asked + 1) party after
  sends = record {
    me = refl;
    deadline = refl;
    plan = refl;
    joined = refl;
    maps = refl;
    core = refl;
    syncs = refl;
    asked = refl;
    answered = refl;
    lost = omega arith;
    freed = lost_rises set.plan message.Free party.me setting.counted party.sent.frees;
  }

  to_do : closed_number world.shared.segs.asks party.me < party.asked + 1
  to_do = omega (arith, place.closed)

  grows : doubles set party.me party + one_if (is_doubled action) ≤ doubles set party.me after
  grows =
      let more = doubled_more set.plan message.Free party.me setting.counted party.sent.frees in
      let same : one_if (is_doubled action) ≡ one_if (is_doubled (action_of set.plan message.Free party.me (one_more party.sent.frees))) =
      ap (λ (plan : List PlanEntry). one_if (is_doubled (action_of plan message.Free party.me (one_more party.sent.frees)))) place.plan in
      omega (arith, more, same)

  one_more_lost : is_lost action ≡ true
      → lost_among set.plan message.Free party.me party.sent.frees + 1 ≤ lost_among set.plan message.Free party.me after.sent.frees
  one_more_lost lost =
      one_lost set.plan message.Free party.me setting.counted party.sent.frees refl
      (sym (ap (λ (plan : List PlanEntry). is_lost (action_of plan message.Free party.me (one_more party.sent.frees))) place.plan) ∙ lost)

  never : LosesNothing set.plan → is_lost action ≡ true → ⊥
  never nothing lost =
      never_lost set.plan message.Free party.me setting.counted party.sent.frees refl nothing
      (sym (ap (λ (plan : List PlanEntry). is_lost (action_of plan message.Free party.me (one_more party.sent.frees))) place.plan) ∙ lost)

  -- it was just sent, in a frame that says so
  tells_at_turn : (frame : Frame) → Says frame body → IsAtTurn set call since (world_posted party.me world frame body after action)
  tells_at_turn frame says =
      just_sent set call since world frame body party after is_sent quiet own sends (sym since_is) to_do to_do refl says
      (heap, run.addr, min (run_bytes run) (2 ^ 64 - 1), refl) (λ nothing. tt) action grows
      (λ lost.
      may_miss set call since world frame body party after is_sent quiet own sends (sym since_is) to_do to_do refl says
      (heap, run.addr, min (run_bytes run) (2 ^ 64 - 1), refl) (λ nothing. tt) (omega (arith, one_more_lost lost)) action) never

module _ (known : AreServingsKnown) (denies : Denials) (waits_out : WaitsOut) where
  own_quiet : (set : Setting) (heap : ℕ) (old new : SoloView) (party after : Party) (run : Run) (steps : List MailStep) (world : RunState)
      → IsSetting set → IsRunStateOf old party.me party world → IsQuietState set world → world.shared.clock ≤ 2 ^ 62
      → Sequence party.me old steps new → DoesNotify denies set.count party after heap run steps
      → LeadsTo (IsQuietOwing set false) new party.me after
  own_quiet set heap old new party after run steps world setting its quiet early sequence does =
      let sent_then : Party = after_free (party.asked + 1) party in
      let action_then : Action = action_of party.plan message.Free party.me (one_more party.sent.frees) in
      let first : List MailStep = Posts 0 does.frame action_then does.posted ∷ Notes (Read does.since) ∷ [] in
      let cut = cut_in party.me old new steps first does.waited does.are sequence in
      let did = calls_own known.along party.me old cut.mid first world.shared cut.begins (tt, (tt, tt)) its.order its.shared in
      let at = did.along.at in
      let made = did.along.made in
      let reads = read_clock party.me does.since [] made.0 at made.2 in
      let since_is : does.since ≡ world.shared.clock = reads.0 ∙ ap (λ (at : Shared). at.clock) made.1.1 in
      let later = world_posted party.me world does.frame (free_body party.me (party.asked + 1) heap run) sent_then action_then in
      let is_shared : IsSharedIn cut.mid.plain later.shared = subst (IsSharedIn cut.mid.plain) (reads.1 ∙ made.1.1) did.along.shared in
      let its_then : IsRunStateOf cut.mid party.me sent_then later =
      world_own party.me old cut.mid party sent_then world later its is_shared did.along.order did.servers
      (set_found world.parties party.me party sent_then its.own)
      (λ who other. set_unfound world.parties party.me who sent_then other) in
      let early_then : does.since ≤ 2 ^ 62 = omega (arith, since_is, early) in
      let turn = tells_at_turn set party heap run does.since world setting quiet its.own early_then since_is does.frame does.says in
      let sent = is_sent set party heap run does.since world setting quiet its.own early_then since_is in
      let same = (quiet.base.places party.me party its.own).deadline in
      let waits =
      subst (λ (deadline : ℕ). IsWaited denies set.count (waits_until does.since deadline) true sent_then after does.waited
      (Some does.now)) same
      does.waits in
      let out =
      waits_out known denies set (want.Shrink party.me (party.asked + 1)) does.since does.now true cut.mid new sent_then after does.waited
      later
      sent its_then turn cut.ends waits in
      record {
        world = out.world;
        its = out.its;
        holds = owing_out set party.me (party.asked + 1) does.since does.now out.world sent out.holds;
      }

-- it is so of each notice
pub notifies_in_quiet : WaitsOut → NotifiesInQuiet
notifies_in_quiet waits_out known denies set me heap old new party after run steps world setting its quiet early sequence does =
    let same : party.me ≡ me = (quiet.base.places me party its.own).me in
    subst (λ (me : ℕ). LeadsTo (IsQuietOwing set false) new me after) same
    (own_quiet known denies waits_out set heap old new party after run steps world setting
    (subst (λ (me : ℕ). IsRunStateOf old me party world) (sym same) its) quiet early
    (subst (λ (me : ℕ). Sequence me old steps new) (sym same) sequence) does)
