-- A growth that was opened while other members are there: it waits for them, and each has its SYNC in its mailbox, or it was lost.
use Rattle.std.proofs.Common.{◌≡◌, ◌⊎◌, ℕ, ◌<◌, ◌≤◌, true, false, [], length, count_by, Some, None, is_some, inl, inr, refl, sym, ap, subst, ◌∙◌, arith}
use Rattle.std.proofs.lemmas.Bool.{cases_eq}
use Rattle.std.specs.Prelude.{slice_get}
use Rattle.hp_core.specs.Asks.{asker}
use Rattle.hp_core.specs.Core.{Done, is_open_for}
use Rattle.hp_core.specs.Following.{failure_of}
use Rattle.hp_core.specs.Mapped.{other_members, sync_number, synced}
use Rattle.hp_core.specs.declared.asked.Asked.{Asked}
use Rattle.hp_core.specs.declared.out.Out.{Out}
use Rattle.hp_core.specs.declared.out.Out.TheVariants as out
use Rattle.hp_core.specs.declared.phase.Phase.TheVariants.{Waiting}
use Rattle.hp_core.specs.declared.phase.Round.{Round}
use Rattle.hp_frame.specs.declared.frame.Frame.{Frame}
use Rattle.hp_frame.specs.declared.message.Body.TheVariants.{Sync}
use Rattle.hp_segs.specs.LaterSteps.{noted_failure}
use Rattle.hp_segs.specs.SegsView.{SegsView}
use Rattle.hp_serve.specs.Coordinating.{MustMap}
use Rattle.hp_serve.specs.Frames.{Says}
use Rattle.hp_serve.specs.Party.{Party}
use Rattle.thm_causes.specs.RoundTrip.{AreAnswersOrCopies, FollowsGrowth, IsBase, IsSetting, IsToDo, Setting, RunState, is_call, is_result_of, mail_of, number_of_party}
use Rattle.thm_causes.specs.RoundTrip.AskPhase.{growing}
use Rattle.thm_causes.specs.Servings.{CarriesOut}
use Rattle.thm_causes.specs.Shared.{Shared, with_boxes}
use Rattle.thm_causes.specs.Stages.{ComesTo}
use Rattle.thm_causes.proofs.StartSteps.StartingAlong.{carries_posts, doubled_follows, posts_syncs, unanswered_follows}
use Rattle.thm_causes.proofs.StartSteps.StartingBase.{Follows, base_follows, logs_none, stays}
use Rattle.thm_causes.proofs.StartSteps.StartingGrants.{copies_or, none_syncs, others_room}
use Rattle.thm_causes.proofs.StartSteps.StartingGrowing.{IsOpening, catching, caught_segs, mid_found, mid_world, noted_call, open_still, whole_number}
use Rattle.thm_causes.proofs.StartSteps.StartingMaps.{HasMapped, comes_on, mapped_coordinator, mapped_follows}
use Rattle.thm_causes.proofs.StartSteps.StartingOutcomes.{to_do_same}
use Rattle.thm_causes.proofs.StartSteps.StartingPosts.{base_behind, behind, coordinates_behind, doubled_behind, found_behind, unanswered_behind}
use Rattle.thm_causes.proofs.StartSteps.StartingSyncs.{first_unsynced, member_synced, none_synced, room_left, synced_is, synced_party, syncs_mailed, syncs_posted, syncs_said}

module _ (set : Setting) (call : Asked) (sent : ℕ) (round : Round) (world : RunState) (primary : Party) (setting : IsSetting set)
    (declared : asker call < set.count) (begun : IsOpening set call sent round world) (there : slice_get world.parties 0 ≡ Some primary)
    (mid new : Shared) (between after : Party) (next : Out) (has : HasMapped world round mid primary between next)
    (carried : CarriesOut set.count mid new between after next) where
  -- the segment value with what was noted, and the world with it
  abbrev then_segs : SegsView
  then_segs = caught_segs set call sent round world primary setting begun there mid between next has

  abbrev at_mid : RunState
  at_mid = mid_world set call sent round world primary setting begun there mid between next has

  module _ (how : (failure_of has.caught ≡ None) ⊎ (is_some (noted_failure then_segs) ≡ true))
      (is : has.done ≡ synced round world.shared.clock (other_members then_segs) then_segs) where
    done_segs : has.done.segs ≡ then_segs
    done_segs = ap (λ (done : Done). done.segs) is

    mid_segs : mid.segs ≡ then_segs
    mid_segs = ap (λ (shared : Shared). shared.segs) has.shared ∙ done_segs

    asks_same : mid.segs.asks ≡ world.shared.segs.asks
    asks_same =
        let noting = catching set call sent round world primary setting begun there mid between next has in
        ap (λ (segs : SegsView). segs.asks) mid_segs ∙ noting.asks

    follows : Follows set world mid primary between
    follows =
        let noting = catching set call sent round world primary setting begun there mid between next has in
        mapped_follows set world round mid primary between next begun.base there setting.some has
        (ap (λ (segs : SegsView). segs.roster) done_segs ∙ noting.roster)
        (omega (arith, ap (λ (segs : SegsView). length segs.log) done_segs, ap length noting.log))
        (stays (ap (λ (segs : SegsView). segs.asks) done_segs ∙ noting.asks))
        (λ cause noted.
        noted_call set call sent round world primary setting begun there mid between next has cause (ap noted_failure (sym done_segs) ∙ noted))

    base_mid : IsBase set at_mid
    base_mid = base_follows set world mid primary between begun.base there follows

    there_mid : slice_get at_mid.parties 0 ≡ Some between
    there_mid = mid_found set call sent round world primary setting begun there mid between next has

    to_do_mid : IsToDo call at_mid
    to_do_mid =
        let noting = catching set call sent round world primary setting begun there mid between next has in
        to_do_same call world at_mid
        (ap (λ (segs : SegsView). segs.asks) mid_segs ∙ noting.asks)
        (ap (λ (segs : SegsView). segs.armed) mid_segs ∙ noting.armed) begun.to_do

    open_mid : is_open_for round mid.segs.growth ≡ true
    open_mid =
        ap (λ (segs : SegsView). is_open_for round segs.growth) mid_segs
        ∙ open_still set call sent round world primary setting begun there mid between next has

    gone_mid : mid.segs.retiring ≡ []
    gone_mid =
        let noting = catching set call sent round world primary setting begun there mid between next has in
        ap (λ (segs : SegsView). segs.retiring) mid_segs ∙ (noting.retiring ∙ begun.gone)

    -- participant 0 has acknowledged the growth, or its failure is noted
    own_way : (round.generation ≤ number_of_party at_mid 0) ⊎ (is_some (noted_failure mid.segs) ≡ true)
    own_way = elim how [
      | inl none ↦
          (let whole = whole_number set call sent round world primary setting begun there mid between next has none in
          inl (omega (arith, whole)))
      | inr fails ↦ inr (ap (λ (segs : SegsView). is_some (noted_failure segs)) mid_segs ∙ fails)
    ]

    module _ (frame : Frame) (says : Says frame (Sync round.generation (sync_number round.kind))) (members : ℕ)
        (are : members ≡ other_members mid.segs) where
      -- the SYNCs are posted
      waits_for : ComesTo set call sent true at_mid 0
          (with_boxes (syncs_said set at_mid between base_mid there_mid setting members are round.generation (sync_number round.kind) frame says).boxes mid)
          (synced_party set at_mid between base_mid there_mid setting members are)
      waits_for =
          let said = syncs_said set at_mid between base_mid there_mid setting members are round.generation (sync_number round.kind) frame says in
          let posted = syncs_posted set at_mid between base_mid there_mid setting members are in
          let mailed = syncs_mailed set at_mid between base_mid there_mid setting members are round.generation (sync_number round.kind) frame says in
          let party = synced_party set at_mid between base_mid there_mid setting members are in
          let first = first_unsynced set at_mid between base_mid there_mid setting members are round.generation (sync_number round.kind) frame says in
          let there_behind = found_behind set at_mid said.boxes said.later between party base_mid there_mid posted mailed in
          record {
            mail = said.later;
            base = base_behind set at_mid said.boxes said.later between party base_mid there_mid posted mailed;
            stage = growing round false begun.its_kind begun.from begun.number
                (unanswered_behind set at_mid said.boxes said.later between party base_mid there_mid posted mailed call
                (λ who.
                none_synced set at_mid between base_mid there_mid setting members are round.generation (sync_number round.kind) frame says
                (is_result_of call) refl who (begun.unanswered.nowhere who))
                (unanswered_follows set world mid primary between there follows call begun.unanswered))
                (coordinates_behind set at_mid said.boxes said.later between party base_mid there_mid posted mailed (Waiting round sent) call false
                (mapped_coordinator set world round mid primary between next begun.base there setting.some call false (Waiting round sent) has
                begun.coordinator (ap (λ (done : Done). done.next.phase) is ∙ ap (Waiting round) begun.clock)))
                open_mid
                (to_do_same call at_mid (behind set at_mid said.boxes said.later between party base_mid there_mid posted mailed) refl refl to_do_mid)
                (omega (arith, follows.clock, begun.clock))
                (subst (AreAnswersOrCopies call) (sym first) (copies_or call (mail_of world 0) begun.copies))
                (doubled_behind set at_mid said.boxes said.later between party base_mid there_mid posted mailed call false false
                (ap (count_by is_call) first) (doubled_follows set world mid primary between there follows call false false
                (logs_none call world.shared.segs.asks mid.segs.asks asks_same) begun.doubled))
                (λ member is_in.
                elim (cases_eq member 0) [
                  | inl zero_is ↦
                      elim own_way [
                        | inl acknowledged ↦ FollowsGrowth.has (subst (λ (n : ℕ). round.generation ≤ number_of_party at_mid n) (sym zero_is) acknowledged)
                        | inr failed ↦ FollowsGrowth.fails failed
                      ]
                  | inr other ↦
                      elim (member_synced set at_mid between base_mid there_mid setting members are round.generation (sync_number round.kind) frame says
                      member other is_in (others_room world begun.empty member other)) [
                        | inl told ↦ FollowsGrowth.told (follows.clock ∙ begun.clock) told
                        | inr lost ↦ FollowsGrowth.lost party there_behind lost
                      ]
                ])
                (λ leads member told.
                elim (synced_is set at_mid between base_mid there_mid setting members are round.generation (sync_number round.kind) frame says member told) [
                  | inl before ↦ absurd (never (sym before ∙ none_syncs set call sent round world primary setting declared begun there member))
                  | inr its ↦
                      record {
                        is_member = its.1;
                        below = omega (arith, follows.others member its.0, begun.below member);
                      }
                ])
                (record {
                  gone = gone_mid;
                  room = λ who other.
                      room_left set at_mid between base_mid there_mid setting members are round.generation
                      (sync_number round.kind) frame says who (begun.empty who other);
                });
          }
        where
          never : true ≡ false → ⊥
          never same = cc

    -- the growth waits for its members
    pub tells_so : ComesTo set call sent true world 0 new after
    tells_so =
        let members = other_members then_segs in
        let are : members ≡ other_members mid.segs = ap other_members (sym mid_segs) in
        let tells : next ≡ out.Sync round.generation (sync_number round.kind) members = has.answer_is ∙ ap (λ (done : Done). done.next.out) is in
        let posted = posts_syncs set.count mid new between after next round.generation (sync_number round.kind) members tells
        (carries_posts set.count mid new between after next (λ must. subst MustMap tells must) carried) in
        let said = syncs_said set at_mid between base_mid there_mid setting members are round.generation (sync_number round.kind) posted.frame posted.says in
        comes_on set call sent true world mid new between after
        (subst (λ (shared : Shared). ComesTo set call sent true at_mid 0 shared after) (sym (posted.shared ∙ said.shared))
        (subst (ComesTo set call sent true at_mid 0 (with_boxes said.boxes mid)) (sym posted.after_is)
        (waits_for posted.frame posted.says members are)))
