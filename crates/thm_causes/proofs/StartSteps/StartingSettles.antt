-- From where participant 0 is told to catch up for a rollback or a drop: its ask is over, or the round waits for its members.
use Rattle.std.proofs.Common.{◌≡◌, ◌≢◌, ◌⊎◌, ℕ, ◌+◌, ◌<◌, ◌≤◌, Bool, true, false, List, [], length, count_by, Option, Some, None, inl, inr, refl, sym, ap, subst, ◌∙◌, arith}
use Rattle.std.proofs.lemmas.Bool.{cases_Bool, cases_eq}
use Rattle.std.specs.List.{All, list_any}
use Rattle.std.specs.Option.{option_and_then}
use Rattle.std.specs.Prelude.{slice_get, slice_index_or}
use Rattle.hp_core.specs.Asks.{answer_by, asker, is_good, number_of}
use Rattle.hp_core.specs.Core.{Done, is_growth}
use Rattle.hp_core.specs.Mapped.{other_members, sync_number, synced}
use Rattle.hp_core.specs.Rounds.{ended, what_in}
use Rattle.hp_core.specs.declared.asked.Asked.{Asked}
use Rattle.hp_core.specs.declared.out.Out.{Out}
use Rattle.hp_core.specs.declared.out.Out.TheVariants as out
use Rattle.hp_core.specs.declared.phase.Phase.{Phase}
use Rattle.hp_core.specs.declared.phase.Phase.TheVariants.{Idle, Mapping, Waiting}
use Rattle.hp_core.specs.declared.phase.Round.{Round}
use Rattle.hp_core.proofs.GivingLemmas.{primary_alone}
use Rattle.hp_frame.specs.declared.frame.Frame.{Frame}
use Rattle.hp_frame.specs.declared.message.Body.TheVariants.{Sync}
use Rattle.hp_plain.specs.declared.mailbox.TheConstants.{MAILBOX_FRAMES}
use Rattle.hp_segs.specs.LaterSteps.{noted_failure}
use Rattle.hp_segs.specs.SegsView.{SegsView, closed_number, is_member, outcome_of}
use Rattle.hp_segs.specs.declared.growth.Growth.{Growth}
use Rattle.hp_segs.specs.declared.outcome.AskLog.{AskLog}
use Rattle.hp_segs.specs.declared.outcome.Cause.{Cause}
use Rattle.hp_segs.specs.declared.outcome.Outcome.{Outcome}
use Rattle.hp_serve.specs.Coordinating.{MustMap, with_room}
use Rattle.hp_serve.specs.Frames.{Says}
use Rattle.hp_serve.specs.Party.{Party}
use Rattle.thm_causes.specs.Counting.{LosesNothing}
use Rattle.thm_causes.specs.RoundTrip.{AreAnswersOrCopies, AreDoubled, HasCoordinator, IsAnsweredFor, IsBase, IsClosed, IsCopy, IsSetting, IsUnanswered, Setting, RunState, is_call, is_result_of, is_sync, mail_of, number_of_party}
use Rattle.thm_causes.specs.Servings.{CarriesOut}
use Rattle.thm_causes.specs.Shared.{Shared, with_boxes}
use Rattle.thm_causes.specs.RoundTrip.AskPhase.{settling}
use Rattle.thm_causes.proofs.Said.{set_found}
use Rattle.thm_causes.specs.Stages.{ComesTo, world_with}
use Rattle.thm_causes.proofs.StartSteps.StartingLevel.{all_taken_in}
use Rattle.thm_causes.proofs.StartSteps.StartingMaps.{HasMapped, comes_on, has_mapped, mapped_coordinator, mapped_follows}
use Rattle.thm_causes.proofs.StartSteps.StartingBase.{Follows, base_follows, logs_none, stays}
use Rattle.thm_causes.proofs.StartSteps.StartingAlong.{carries_maps, carries_posts, doubled_follows, posts_syncs, unanswered_follows}
use Rattle.thm_causes.proofs.StartSteps.StartingPosts.{base_behind, behind, coordinates_behind, doubled_behind, unanswered_behind}
use Rattle.thm_causes.proofs.StartSteps.StartingResults.{IsEnding, answered_same, ends_posted}
use Rattle.thm_causes.proofs.StartSteps.StartingSyncs.{first_unsynced, member_follows, none_synced, synced_is, synced_party, syncs_mailed, syncs_posted, syncs_said}
use Rattle.thm_causes.proofs.StartSteps.StartingDrops.{ends, mapped_settles, waits}

-- participant 0 is told to catch up for a rollback or a drop of an ask, which is closed, and for all records that there are; where a SYNC
-- lies in a mailbox, it is a member's, and there is room in each mailbox but participant 0's
pub record IsSettling (set : Setting) (call : Asked) (sent : ℕ) (holds : Bool) (round : Round) (world : RunState) : Type 0 where
  pub base : IsBase set world
  pub coordinator : HasCoordinator set world (Mapping round) call holds
  pub its_kind : is_growth round.kind ≡ false
  pub from : round.from ≡ asker call
  pub number : round.number ≡ number_of call
  pub unanswered : IsUnanswered call world
  pub alone : world.shared.segs.growth ≡ None
  pub closed : IsClosed call world
  pub answered : IsAnsweredFor call world
  pub early : world.shared.clock ≤ sent + set.deadline
  pub generation : round.generation ≡ length world.shared.segs.log
  pub gone : world.shared.segs.retiring ≡ []
  pub outcome : Outcome
  pub found : outcome_of world.shared.segs.asks round.from round.number ≡ Some outcome
  pub copies : AreAnswersOrCopies call (mail_of world 0)
  pub doubled : AreDoubled set world call holds false
  pub earlier : (member : ℕ) → list_any is_sync (mail_of world member) ≡ true
      → (member ≢ 0) × (is_member world.shared.segs.roster member ≡ true)
  pub unsettled : (member : ℕ) → member ≢ 0 → is_member world.shared.segs.roster member ≡ true
      → (number_of_party world member < round.generation) ⊎ All (IsCopy call) (mail_of world 0)
  pub room : (who : ℕ) → who ≢ 0 → length (mail_of world who) < MAILBOX_FRAMES

module _ (set : Setting) (call : Asked) (sent : ℕ) (holds : Bool) (round : Round) (world : RunState) (primary : Party) (setting : IsSetting set)
    (declared : asker call < set.count) (begun : IsSettling set call sent holds round world)
    (there : slice_get world.parties 0 ≡ Some primary) where
  module _ (mid new : Shared) (between after : Party) (next : Out) (has : HasMapped world round mid primary between next)
      (same : has.done.segs ≡ with_room world.shared.segs) where
    abbrev at_mid : RunState
    at_mid = world_with mid world.mail 0 between world

    segs_are : mid.segs ≡ with_room world.shared.segs
    segs_are = ap (λ (shared : Shared). shared.segs) has.shared ∙ same

    none_noted : (cause : Cause) → noted_failure has.done.segs ≡ Some cause → ⊥
    none_noted cause is =
        let none : noted_failure has.done.segs ≡ None =
        ap noted_failure same ∙ ap (λ (growth : Option Growth). option_and_then (λ growth. growth.noted) growth) begun.alone in
        cc (is, none)

    follows : Follows set world mid primary between
    follows =
        mapped_follows set world round mid primary between next begun.base there setting.some has
        (ap (λ (segs : SegsView). segs.roster) same)
        (omega (arith, ap (λ (segs : SegsView). length segs.log) same))
        (stays (ap (λ (segs : SegsView). segs.asks) same))
        (λ cause is. absurd (none_noted cause is))

    base_mid : IsBase set at_mid
    base_mid = base_follows set world mid primary between begun.base there follows

    there_mid : slice_get at_mid.parties 0 ≡ Some between
    there_mid = set_found world.parties 0 primary between there

    coordinator_mid : (phase : Phase) → has.done.next.phase ≡ phase → HasCoordinator set at_mid phase call holds
    coordinator_mid phase is =
        mapped_coordinator set world round mid primary between next begun.base there setting.some call holds phase has begun.coordinator is

    asks_are : mid.segs.asks ≡ world.shared.segs.asks
    asks_are = ap (λ (segs : SegsView). segs.asks) segs_are

    alone_mid : mid.segs.growth ≡ None
    alone_mid = ap (λ (segs : SegsView). segs.growth) segs_are ∙ begun.alone

    closed_mid : IsClosed call at_mid
    closed_mid = subst (λ (asks : List AskLog). number_of call ≤ closed_number asks (asker call)) (sym asks_are) begun.closed

    answered_mid : IsAnsweredFor call at_mid
    answered_mid = answered_same call world at_mid asks_are begun.answered

    doubled_mid : AreDoubled set at_mid call holds false
    doubled_mid =
        doubled_follows set world mid primary between there follows call holds false
        (logs_none call world.shared.segs.asks mid.segs.asks asks_are) begun.doubled

    gone_mid : mid.segs.retiring ≡ []
    gone_mid = ap (λ (segs : SegsView). segs.retiring) segs_are ∙ begun.gone

    log_is : length mid.segs.log ≡ length world.shared.segs.log
    log_is = ap (λ (segs : SegsView). length segs.log) segs_are

    -- participant 0 has taken in all records
    own_level : number_of_party at_mid 0 ≡ length mid.segs.log
    own_level = all_taken_in set world round mid primary between next begun.base there setting.some begun.alone has ∙ sym log_is

    member_mid : (who : ℕ) → is_member mid.segs.roster who ≡ true → is_member world.shared.segs.roster who ≡ true
    member_mid who is = ap (λ (roster : List Bool). is_member roster who) (sym follows.roster) ∙ is

    ending : other_members world.shared.segs ≡ 0 → has.done.next.phase ≡ Idle → IsEnding set call holds at_mid
    ending none phase = record {
      base = base_mid;
      coordinator = coordinator_mid Idle phase;
      alone = alone_mid;
      closed = closed_mid;
      copies = begun.copies;
      doubled = doubled_mid;
      no_sync = λ member.
          elim (cases_Bool (list_any is_sync (mail_of world member))) [
            | inl is ↦
                (let its = begun.earlier member is in
                absurd (its.0 (primary_alone world.shared.segs.roster member none its.1)))
            | inr isnt ↦ isnt
          ];
      answered = answered_mid;
      level = record {
        gone = gone_mid;
        level = λ nothing who member.
            let first = primary_alone world.shared.segs.roster who none (member_mid who member) in
            ap (number_of_party at_mid) first ∙ own_level;
      };
    }

    -- the ask is answered
    ends_so : other_members world.shared.segs ≡ 0 → has.done ≡ ended round (with_room world.shared.segs)
        → CarriesOut set.count mid new between after next → ComesTo set call sent true world 0 new after
    ends_so none is carried =
        let answers_it : next ≡ out.Answer (asker call) round.number (what_in round.kind) (is_good begun.outcome) =
        has.answer_is
        ∙ (ap (λ (done : Done). done.next.out) is
        ∙ (ap (answer_by round.from round.number (what_in round.kind)) begun.found
        ∙ ap (λ (to : ℕ). out.Answer to round.number (what_in round.kind) (is_good begun.outcome)) begun.from)) in
        comes_on set call sent true world mid new between after
        (ends_posted set call sent true holds at_mid between (ending none (ap (λ (done : Done). done.next.phase) is)) there_mid setting.few
        declared new after next round.number (what_in round.kind) (is_good begun.outcome) answers_it
        (carries_posts set.count mid new between after next (λ must. subst MustMap answers_it must) carried))

    module _ (frame : Frame) (says : Says frame (Sync round.generation (sync_number round.kind))) (members : ℕ)
        (are : members ≡ other_members mid.segs) (phase : has.done.next.phase ≡ Waiting round world.shared.clock) where
      -- who has a SYNC is another member
      its_member : (member : ℕ)
          → list_any is_sync
          (slice_index_or
          (syncs_said set at_mid between base_mid there_mid setting members are round.generation (sync_number round.kind) frame says).later member [])
          ≡ true
          → (member ≢ 0) × (is_member world.shared.segs.roster member ≡ true)
      its_member member is =
          elim (synced_is set at_mid between base_mid there_mid setting members are round.generation (sync_number round.kind) frame says member is) [
            | inl before ↦ begun.earlier member before
            | inr its ↦ (its.0, member_mid member its.1)
          ]

      -- where no message is lost each member follows
      follows_so : LosesNothing set.plan → (member : ℕ) → is_member mid.segs.roster member ≡ true
          → (list_any is_sync
          (slice_index_or
          (syncs_said set at_mid between base_mid there_mid setting members are round.generation
          (sync_number round.kind) frame says).later member []) ≡ true)
          ⊎ (round.generation ≤ number_of_party at_mid member)
      follows_so nothing member is =
          elim (cases_eq member 0) [
            | inl first ↦ inr (omega (arith, begun.generation, log_is, own_level, ap (number_of_party at_mid) first))
            | inr other ↦
                inl (member_follows set at_mid between base_mid there_mid setting members are round.generation
                (sync_number round.kind) frame says nothing member other is (begun.room member other))
          ]

      -- the SYNCs are posted
      waits_for : ComesTo set call sent true at_mid 0
          (with_boxes (syncs_said set at_mid between base_mid there_mid setting members are round.generation (sync_number round.kind) frame says).boxes mid)
          (synced_party set at_mid between base_mid there_mid setting members are)
      waits_for =
          let said = syncs_said set at_mid between base_mid there_mid setting members are round.generation (sync_number round.kind) frame says in
          let posted = syncs_posted set at_mid between base_mid there_mid setting members are in
          let mailed = syncs_mailed set at_mid between base_mid there_mid setting members are round.generation (sync_number round.kind) frame says in
          let party = synced_party set at_mid between base_mid there_mid setting members are in
          let first = first_unsynced set at_mid between base_mid there_mid setting members are round.generation (sync_number round.kind) frame says in
          record {
            mail = said.later;
            base = base_behind set at_mid said.boxes said.later between party base_mid there_mid posted mailed;
            stage = settling round world.shared.clock holds begun.its_kind begun.from begun.number
                (unanswered_behind set at_mid said.boxes said.later between party base_mid there_mid posted mailed call
                (λ who.
                none_synced set at_mid between base_mid there_mid setting members are round.generation (sync_number round.kind) frame says
                (is_result_of call) refl who (begun.unanswered.nowhere who))
                (unanswered_follows set world mid primary between there follows call begun.unanswered))
                (coordinates_behind set at_mid said.boxes said.later between party base_mid there_mid posted mailed
                (Waiting round world.shared.clock) call holds (coordinator_mid (Waiting round world.shared.clock) phase))
                alone_mid closed_mid begun.early (omega (arith, follows.clock))
                (omega (arith, begun.generation, follows.longer))
                (subst (AreAnswersOrCopies call) (sym first) begun.copies)
                (doubled_behind set at_mid said.boxes said.later between party base_mid there_mid posted mailed call holds false
                (ap (count_by is_call) first) doubled_mid)
                (λ leads member is.
                let its = its_member member is in
                record {
                  stands = follows.clock;
                  is_member = ap (λ (roster : List Bool). is_member roster member) follows.roster ∙ its.1;
                  unsettled = elim (begun.unsettled member its.0 its.1) [
                    | inl below ↦
                        inl (subst (λ (n : ℕ). n < round.generation) (sym (follows.others member its.0)) below)
                    | inr copies ↦ inr (subst (All (IsCopy call)) (sym first) copies)
                  ];
                })
                (answered_same call at_mid (behind set at_mid said.boxes said.later between party base_mid there_mid posted mailed) refl
                answered_mid)
                (record { gone = gone_mid; whole = begun.generation ∙ sym log_is; follows = follows_so });
          }

    -- the round waits for its members
    waits_so : has.done ≡ synced round world.shared.clock (other_members world.shared.segs) (with_room world.shared.segs)
        → CarriesOut set.count mid new between after next → ComesTo set call sent true world 0 new after
    waits_so is carried =
        let members = other_members world.shared.segs in
        let are : members ≡ other_members mid.segs = ap other_members (sym segs_are) in
        let tells : next ≡ out.Sync round.generation (sync_number round.kind) members = has.answer_is ∙ ap (λ (done : Done). done.next.out) is in
        let posted = posts_syncs set.count mid new between after next round.generation (sync_number round.kind) members tells
        (carries_posts set.count mid new between after next (λ must. subst MustMap tells must) carried) in
        let said = syncs_said set at_mid between base_mid there_mid setting members are round.generation (sync_number round.kind) posted.frame posted.says in
        comes_on set call sent true world mid new between after
        (subst (λ (shared : Shared). ComesTo set call sent true at_mid 0 shared after) (sym (posted.shared ∙ said.shared))
        (subst (ComesTo set call sent true at_mid 0 (with_boxes said.boxes mid)) (sym posted.after_is)
        (waits_for posted.frame posted.says members are (ap (λ (done : Done). done.next.phase) is))))

  -- where participant 0 is told to catch up for it, the ask is over, or the round waits for its members
  pub settles : (new : Shared) (after : Party) (answer : Out) → MustMap answer → CarriesOut set.count world.shared new primary after answer
      → ComesTo set call sent true world 0 new after
  settles new after answer must carried =
      let then_so = carries_maps set.count world.shared new primary after answer must carried in
      let has = has_mapped set world round then_so.mid primary then_so.between then_so.next begun.base there setting.some call holds begun.coordinator
      then_so.maps_so in
      elim (mapped_settles round has.caught world.shared.clock (with_room world.shared.segs) begun.outcome begun.found begun.alone begun.its_kind) [
        | ends none done ↦
            ends_so then_so.mid new then_so.between after then_so.next has (ap (λ (done : Done). done.segs) (has.is ∙ done)) none (has.is ∙ done)
            then_so.carried
        | waits done ↦
            waits_so then_so.mid new then_so.between after then_so.next has (ap (λ (done : Done). done.segs) (has.is ∙ done)) (has.is ∙ done)
            then_so.carried
      ]
