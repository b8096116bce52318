-- Polls in the rounds of an ask: a growth is granted, cancelled or waited for, and a rollback or the drops end or are waited for.
use Rattle.std.proofs.Common.{◌≡◌, ◌∙◌, ℕ, ◌+◌, ◌<◌, ◌≤◌, Bool, true, false, ◌||◌, length, Option, Some, None, inl, inr, refl, sym, ap, arith}
use Rattle.std.proofs.lemmas.Bool.{cases_Bool}
use Rattle.std.specs.List.{list_any}
use Rattle.std.specs.Prelude.{is_none, slice_get}
use Rattle.hp_core.specs.Asks.{asker, number_of}
use Rattle.hp_core.specs.Core.{Core, Done, going_on, is_growth}
use Rattle.hp_core.specs.Rounds.{what_in}
use Rattle.hp_core.specs.declared.asked.Asked.{Asked}
use Rattle.hp_core.specs.declared.event.CoreEvent.TheVariants.{Poll}
use Rattle.hp_core.specs.declared.phase.Phase.TheVariants.{Idle, Waiting}
use Rattle.hp_core.specs.declared.phase.Round.{Round}
use Rattle.hp_core.proofs.GivingLemmas.{all_acknowledged, member_within}
use Rattle.hp_core.proofs.RoundLemmas.{growth_of}
use Rattle.hp_segs.specs.SegsView.{SegsView, outcome_of}
use Rattle.hp_segs.specs.Steps.{lowest_member_below}
use Rattle.hp_segs.specs.declared.fault.NotAll.{NotAll}
use Rattle.hp_segs.specs.declared.outcome.Cause.TheVariants.{Late}
use Rattle.hp_serve.specs.Denials.{Denials}
use Rattle.hp_serve.specs.Coordinating.{with_core, with_room}
use Rattle.hp_serve.specs.Party.{Party}
use Rattle.thm_causes.specs.Counting.{LosesNothing}
use Rattle.thm_causes.specs.RoundTrip.{AreAnswersOrCopies, AreDoubled, HaveCaughtUp, HasCoordinator, IsAnsweredFor, IsBase, IsClosed, IsCoordinator, IsUnanswered, Setting, SettlesLevel, AskPhase, WaitsToSettle, RunState, is_sync, mail_of, number_of_party}
use Rattle.thm_causes.specs.Servings.{Polls}
use Rattle.thm_causes.specs.Shared.{Shared, with_segs}
use Rattle.thm_causes.specs.Stages.{ComesTo, IsSent}
use Rattle.thm_causes.proofs.CopyStages.CopiesCarried.{answered_along, growing_along, settling_along, to_do_along}
use Rattle.thm_causes.proofs.CopyStages.CopiesTaken.{like_room}
use Rattle.thm_causes.proofs.PollSteps.PollingCancels.{cancels_on, failure_fits, late_fits, not_passed}
use Rattle.thm_causes.proofs.PollSteps.PollingEnds.{ends_by}
use Rattle.thm_causes.proofs.PollSteps.PollingFits.{is_there}
use Rattle.thm_causes.proofs.PollSteps.PollingGrants.{IsGrowing, grants_on}
use Rattle.thm_causes.proofs.PollSteps.PollingGoes.{goes, goes_coordinated, goes_doubled, goes_there, goes_unheard, its_coordinator, with_phase}
use Rattle.thm_causes.proofs.PollSteps.PollingStays.{comes_taken, goes_along, goes_base}
use Rattle.thm_causes.proofs.PollSteps.PollingSteps.{MakesStep, handled, taken_by}
use Rattle.thm_causes.proofs.PollSteps.PollingWays.{DropPolled, GrowthPolled, drop_cases, ends, fails, grants, growth_cases, has_passed_at, late, polled_at, round_polled, stays, waits}
use Rattle.thm_causes.proofs.StartSteps.StartingMaps.{comes_on}
use Rattle.thm_causes.proofs.StartSteps.StartingResults.{IsEnding}

-- an ask is closed, and a rollback or the drops wait for their members, while participant 0 may serve
pub record IsSettling (set : Setting) (call : Asked) (sent : ℕ) (world : RunState) (round : Round) (since : ℕ) (holds : Bool) : Type 0 where
  pub its_kind : is_growth round.kind ≡ false
  pub from : round.from ≡ asker call
  pub number : round.number ≡ number_of call
  pub unanswered : IsUnanswered call world
  pub coordinator : HasCoordinator set world (Waiting round since) call holds
  pub alone : world.shared.segs.growth ≡ None
  pub closed : IsClosed call world
  pub early : since ≤ sent + set.deadline
  pub clock : world.shared.clock ≤ since + set.deadline
  pub logged : round.generation ≤ length world.shared.segs.log
  pub bodies : AreAnswersOrCopies call (mail_of world 0)
  pub doubled : AreDoubled set world call holds false
  pub waiting : (member : ℕ) → list_any is_sync (mail_of world member) ≡ true → WaitsToSettle call world round.generation since member
  pub answered : IsAnsweredFor call world
  pub level : SettlesLevel set world round.generation

module _ {denies : Denials} (set : Setting) (call : Asked) (sent : ℕ) (world : RunState) (shared : Shared) (primary after : Party)
    (is_sent : IsSent set call sent)
    (base : IsBase set world) (there : slice_get world.parties 0 ≡ Some primary)
    (polls : Polls denies set.count world.shared shared primary after)
    (round : Round) (holds : Bool) where
  abbrev room : SegsView
  room = with_room world.shared.segs

  -- IN THE ROUND OF A GROWTH

  module _ (grows : IsGrowing set call sent world round holds) (is : IsCoordinator set (Waiting round sent) call holds primary.core) where
    abbrev growing_core : Core
    growing_core = record is.its { phase = Waiting round sent }

    abbrev growing_world : RunState
    growing_world = goes world primary growing_core room

    still_growing : AskPhase set call sent true growing_world
    still_growing =
        let like = like_room world.shared.segs in
        let along = goes_along set world primary growing_core room base there like in
        growing_along set call sent world growing_world along round holds grows.its_kind grows.from grows.number grows.unanswered
        (goes_unheard world primary growing_core room there set call grows.unanswered)
        (goes_coordinated world primary growing_core room there set call (Waiting round sent) holds
        (with_phase set (Waiting round sent) (Waiting round sent) call holds primary.core is))
        grows.opens (to_do_along call world growing_world along grows.to_do) grows.clock grows.bodies
        (goes_doubled world primary growing_core room there set call holds holds false (omega arith) (λ who apart. refl) (like.heard call)
        grows.doubled)
        grows.follow grows.awaited grows.level

    by_growth : (done : Done) → GrowthPolled round is.its.deadline sent world.shared.clock polls.acks room done
        → MakesStep set.count (going_on is.its done) world.shared shared primary after → ComesTo set call sent true world 0 shared after
    by_growth _ (fails cause noted) step =
        let of = growth_of round world.shared.segs.growth grows.opens in
        cancels_on set call sent world primary round holds base there grows is_sent of cause
        (failure_fits set call sent world primary round holds base there grows is_sent of cause (base.noted cause noted)) shared after
        is step
    by_growth _ (grants none all) step =
        grants_on set call sent world primary round holds polls.acks base there grows polls.known is_sent all
        (growth_of round world.shared.segs.growth grows.opens) shared after is step
    by_growth _ (late member none lowest passed) step =
        let of = growth_of round world.shared.segs.growth grows.opens in
        let over : has_passed_at set.deadline sent world.shared.clock ≡ true =
        ap (λ (deadline : ℕ). has_passed_at deadline sent world.shared.clock) (sym is.deadline) ∙ passed in
        cancels_on set call sent world primary round holds base there grows is_sent of (Late member.participant sent world.shared.clock)
        (late_fits set call sent world primary round holds base there grows is_sent of polls.acks member polls.known none lowest over)
        shared after
        is step
    by_growth _ waits step =
        comes_taken set world primary growing_core room base there (like_room world.shared.segs) call sent shared after
        (taken_by set.count growing_core room world.shared shared primary after step) still_growing

  -- a growth is granted, cancelled or waited for
  pub growth_on : IsGrowing set call sent world round holds → ComesTo set call sent true world 0 shared after
  growth_on grows =
      let is = its_coordinator set world (Waiting round sent) call holds primary grows.coordinator there in
      let now = world.shared.clock in
      by_growth grows is (polled_at round is.its.deadline sent now polls.acks room)
      (growth_cases round is.its.deadline sent now polls.acks room grows.its_kind grows.opens)
      (handled set.count (Poll now polls.acks) is.its world.shared shared primary after
      (going_on is.its (polled_at round is.its.deadline sent now polls.acks room)) polls.handles is.there
      (round_polled polls.handles.steps.denied is.its world.shared.segs now polls.acks round sent is.phase_is))

  -- IN A ROUND OF DROPS

  module _ (since : ℕ) (settles : IsSettling set call sent world round since holds)
      (may : (member : ℕ) → list_any is_sync (mail_of world member) ≡ true → number_of_party world member < round.generation)
      (is : IsCoordinator set (Waiting round since) call holds primary.core) where
    abbrev waiting_core : Core
    waiting_core = record is.its { phase = Waiting round since }

    abbrev waiting_world : RunState
    waiting_world = goes world primary waiting_core room

    still_settling : AskPhase set call sent true waiting_world
    still_settling =
        let like = like_room world.shared.segs in
        let along = goes_along set world primary waiting_core room base there like in
        settling_along set call sent world waiting_world along round since holds settles.its_kind settles.from settles.number
        settles.unanswered
        (goes_unheard world primary waiting_core room there set call settles.unanswered)
        (goes_coordinated world primary waiting_core room there set call (Waiting round since) holds
        (with_phase set (Waiting round since) (Waiting round since) call holds primary.core is))
        settles.alone settles.closed settles.early settles.clock settles.logged settles.bodies
        (goes_doubled world primary waiting_core room there set call holds holds false (omega arith) (λ who apart. refl) (like.heard call)
        settles.doubled)
        settles.waiting (answered_along call world waiting_world along settles.answered) settles.level

    -- where all have acknowledged the round, or its deadline has passed, no SYNC lies in a mailbox
    awaited_none : (none passed : Bool) → is_none (lowest_member_below world.shared.segs.roster polls.acks round.generation) ≡ none
        → has_passed_at is.its.deadline since world.shared.clock ≡ passed → (none || passed) ≡ true
        → (member : ℕ) → list_any is_sync (mail_of world member) ≡ true → ⊥
    awaited_none true passed all over ended member lies =
        let waiter = settles.waiting member lies in
        let places = base.sound.places.roster_places in
        let within : member < 16 = omega (arith, places, member_within world.shared.segs.roster member waiter.is_member) in
        let none = nothing (lowest_member_below world.shared.segs.roster polls.acks round.generation) all in
        let same = polls.known member (base.declared member waiter.is_member) within in
        omega (
          arith,
          all_acknowledged world.shared.segs.roster polls.acks round.generation member places none
              waiter.is_member,
          same,
          may member lies,
        )
      where
        nothing : (lowest : Option NotAll) → is_none lowest ≡ true → lowest ≡ None
        nothing None is = refl
        nothing (Some one) is = cc
    awaited_none false true all over ended member lies =
        let waits_now : 0 < is.its.deadline = omega (arith, is_sent.setting.waits, is.deadline) in
        not_passed is.its.deadline since world.shared.clock (settles.waiting member lies).stands waits_now over
    awaited_none false false all over ended member lies = cc

    unsynced : ((member : ℕ) → list_any is_sync (mail_of world member) ≡ true → ⊥) → (member : ℕ)
        → list_any is_sync (mail_of world member) ≡ false
    unsynced none member = elim (cases_Bool (list_any is_sync (mail_of world member))) [
      | inl lies ↦ absurd (none member lies)
      | inr off ↦ off
    ]

    -- who has no SYNC in its mailbox has taken in all records, where no message is lost
    all_level : ((member : ℕ) → list_any is_sync (mail_of world member) ≡ false) → LosesNothing set.plan → HaveCaughtUp world
    all_level none loses who member =
        let found = is_there set world who base (base.declared who member) primary in
        let within = (base.places who found.0 found.1).within in
        elim (settles.level.follows loses who member) [
          | inl told ↦ absurd (clash (sym told ∙ none who))
          | inr has ↦ omega (arith, has, within, settles.level.whole)
        ]
      where
        clash : true ≡ false → ⊥
        clash same = cc

    by_drop : (done : Done) → DropPolled round is.its.deadline since world.shared.clock polls.acks room done
        → MakesStep set.count (going_on is.its done) world.shared shared primary after → ComesTo set call sent true world 0 shared after
    by_drop _ (ends over) step =
        let like = like_room world.shared.segs in
        let next = record is.its { phase = Idle } in
        let party = with_core next primary in
        let along = goes_along set world primary next room base there like in
        let none = unsynced
        (awaited_none (is_none (lowest_member_below world.shared.segs.roster polls.acks round.generation))
        (has_passed_at is.its.deadline since world.shared.clock) refl refl over) in
        let ending_world = goes world primary next room in
        let ending : IsEnding set call holds ending_world = record {
          base = goes_base set world primary next room base there like step.sound step.armed;
          coordinator = goes_coordinated world primary next room there set call Idle holds
              (with_phase set (Waiting round since) Idle call holds primary.core is);
          alone = settles.alone;
          closed = settles.closed;
          copies = settles.bodies;
          doubled = goes_doubled world primary next room there set call holds holds false (omega arith) (λ who apart. refl) (like.heard call)
              settles.doubled;
          no_sync = none;
          answered = answered_along call world ending_world along settles.answered;
          level = record { gone = settles.level.gone; level = λ loses. all_level none loses };
        } in
        comes_on set call sent true world (with_segs room world.shared) shared party after
        (ends_by set call sent holds ending_world party ending (goes_there world primary next room there) is_sent.setting.few
        is_sent.declared shared after round.from round.number (what_in round.kind)
        (outcome_of world.shared.segs.asks round.from round.number) settles.from step.carries)
    by_drop _ stays step =
        comes_taken set world primary waiting_core room base there (like_room world.shared.segs) call sent shared after
        (taken_by set.count waiting_core room world.shared shared primary after step) still_settling

  -- a rollback or the drops end, or are waited for
  pub drop_on : (since : ℕ) → IsSettling set call sent world round since holds
      → ((member : ℕ) → list_any is_sync (mail_of world member) ≡ true → number_of_party world member < round.generation)
      → ComesTo set call sent true world 0 shared after
  drop_on since settles may =
      let is = its_coordinator set world (Waiting round since) call holds primary settles.coordinator there in
      let now = world.shared.clock in
      by_drop since settles may is (polled_at round is.its.deadline since now polls.acks room)
      (drop_cases round is.its.deadline since now polls.acks room settles.its_kind)
      (handled set.count (Poll now polls.acks) is.its world.shared shared primary after
      (going_on is.its (polled_at round is.its.deadline since now polls.acks room)) polls.handles is.there
      (round_polled polls.handles.steps.denied is.its world.shared.segs now polls.acks round since is.phase_is))
