-- A growth that all members have acknowledged is granted, and its ask is over.
use Rattle.std.proofs.Common.{◌≡◌, ◌∙◌, ℕ, ◌+◌, ◌<◌, ◌≤◌, Bool, true, false, List, length, Some, None, inl, inr, refl, sym, ap, subst, arith, ◌∷◌, []}
use Rattle.std.proofs.lemmas.Bool.{cases_Bool}
use Rattle.std.proofs.lemmas.Option.{same_Some}
use Rattle.std.specs.List.{list_any}
use Rattle.std.specs.Prelude.{slice_get, slice_index}
use Rattle.hp_core.specs.Asks.{asker, number_of}
use Rattle.hp_core.specs.Core.{Core, going_on, is_open_for}
use Rattle.hp_core.specs.Rounds.{ended, granted, what_in}
use Rattle.hp_core.specs.declared.asked.Asked.{Asked}
use Rattle.hp_core.specs.declared.phase.Phase.TheVariants.{Idle, Waiting}
use Rattle.hp_core.specs.declared.phase.Round.{Round}
use Rattle.hp_core.specs.declared.phase.RoundKind.TheVariants as kind
use Rattle.hp_core.proofs.GivingLemmas.{all_acknowledged, member_within}
use Rattle.hp_core.proofs.RoundLemmas.{IsGrowthOf, grant_of_round}
use Rattle.hp_segs.specs.SegsView.{SegsView, is_member, outcome_of}
use Rattle.hp_segs.specs.SoundRows.{IsGrowth, IsLogged}
use Rattle.hp_segs.specs.Steps.{after_grant, lowest_member_below}
use Rattle.hp_segs.specs.declared.outcome.AskLog.{AskLog}
use Rattle.hp_segs.specs.declared.outcome.Outcome.TheVariants.{Granted}
use Rattle.hp_serve.specs.Coordinating.{with_core, with_room}
use Rattle.hp_serve.specs.Party.{Party}
use Rattle.thm_causes.specs.RoundTrip.{AreAnswersOrCopies, AreDoubled, HaveCaughtUp, FollowsGrowth, GrowsLevel, HasCoordinator, IsAwaited, IsBase, IsCoordinator, IsToDo, IsUnanswered, Setting, RunState, is_sync, mail_of, number_of_party}
use Rattle.thm_causes.specs.Shared.{Shared, with_segs}
use Rattle.thm_causes.specs.Stages.{ComesTo, IsSent}
use Rattle.thm_causes.proofs.PollSteps.PollingFits.{FitsIn, FitsOne, base_ended, fit_before, fits_more, is_there}
use Rattle.thm_causes.proofs.PollSteps.PollingEnds.{ends_by}
use Rattle.thm_causes.proofs.PollSteps.PollingGoes.{goes, goes_coordinated, goes_doubled, goes_there, with_phase}
use Rattle.thm_causes.proofs.PollSteps.PollingSteps.{MakesStep}
use Rattle.thm_causes.proofs.StartSteps.StartingMaps.{comes_on}
use Rattle.thm_causes.proofs.StartSteps.StartingOutcomes.{answered_behind, closed_behind}
use Rattle.thm_causes.proofs.StartSteps.StartingResults.{IsEnding}
use Rattle.thm_causes.proofs.OutcomesMore.{stale_same, withdrawn_same}
use Rattle.thm_causes.proofs.Told.{heard_more}

-- the growth of an ask waits for its members, while participant 0 may serve
pub record IsGrowing (set : Setting) (call : Asked) (sent : ℕ) (world : RunState) (round : Round) (holds : Bool) : Type 0 where
  pub its_kind : round.kind ≡ kind.Growth
  pub from : round.from ≡ asker call
  pub number : round.number ≡ number_of call
  pub unanswered : IsUnanswered call world
  pub coordinator : HasCoordinator set world (Waiting round sent) call holds
  pub opens : is_open_for round world.shared.segs.growth ≡ true
  pub to_do : IsToDo call world
  pub clock : world.shared.clock ≤ sent + set.deadline
  pub bodies : AreAnswersOrCopies call (mail_of world 0)
  pub doubled : AreDoubled set world call holds false
  pub follow : (member : ℕ) → is_member world.shared.segs.roster member ≡ true → FollowsGrowth set world round.generation sent member
  pub awaited : (member : ℕ) → list_any is_sync (mail_of world member) ≡ true → IsAwaited world round.generation member
  pub level : GrowsLevel world

module _ (set : Setting) (call : Asked) (sent : ℕ) (world : RunState) (primary : Party) (round : Round) (holds : Bool) (acks : List ℕ)
    (base : IsBase set world) (there : slice_get world.parties 0 ≡ Some primary) (grows : IsGrowing set call sent world round holds)
    (known : (who : ℕ) → who < set.count → who < 16 → slice_index acks who ≡ slice_index world.shared.numbers who)
    (is_sent : IsSent set call sent) (all : lowest_member_below world.shared.segs.roster acks round.generation ≡ None)
    (of : IsGrowthOf round world.shared.segs.growth) where
  -- each member has acknowledged the growth
  has_it : (who : ℕ) → is_member world.shared.segs.roster who ≡ true → round.generation ≤ number_of_party world who
  has_it who member =
      let places = base.sound.places.roster_places in
      let within : who < 16 = omega (arith, places, member_within world.shared.segs.roster who member) in
      let same = known who (base.declared who member) within in
      omega (arith, all_acknowledged world.shared.segs.roster acks round.generation who places all member, same)

  -- its record is the last one, and so each has taken in all records
  last_record : round.generation ≡ length world.shared.segs.log
  last_record =
      let segs = world.shared.segs in
      let growth : IsGrowth segs.pools segs.log segs.segments of.growth =
      subst (IsLogged segs.pools segs.log segs.segments) of.its_growth base.sound.rows.logged in
      omega (arith, growth.last, of.generation)

  all_level : HaveCaughtUp world
  all_level who member =
      let found = is_there set world who base (base.declared who member) primary in
      let within = (base.places who found.0 found.1).within in
      omega (arith, has_it who member, within, last_record)

  -- the outcome, and the segment value with it
  abbrev entry : AskLog
  entry = record {
    from = of.growth.ask.from;
    number = of.growth.ask.number;
    outcome = Granted of.growth.generation;
    at = length world.shared.segs.log;
    ask = Some of.growth.ask;
  }

  abbrev segs : SegsView
  segs = after_grant of.growth (with_room world.shared.segs)

  its_from : of.growth.ask.from ≡ asker call
  its_from = of.from ∙ grows.from

  its_number : of.growth.ask.number ≡ number_of call
  its_number = of.number ∙ grows.number

  entry_fits : FitsOne set world world.shared.segs.asks entry
  entry_fits = record {
    granted = λ who generation member is.
        let its : of.growth.generation ≡ generation = same_Some of.growth.generation generation is in
        omega (arith, its, of.generation, has_it who member);
    failed = λ who party found. refl;
    sent = λ party found.
        let asked = grows.unanswered.asked party (ap (slice_get world.parties) (sym its_from) ∙ found) in
        omega (arith, asked, its_number);
    late = λ who first party top found is. absurd (unlate is);
    stands = refl;
    apart = λ cause is. absurd (cc is);
  }
    where
      unlate : false ≡ true → ⊥
      unlate is = cc

  fits : FitsIn set world segs.asks
  fits = fits_more set world world.shared.segs.asks entry (fit_before set world primary base there) entry_fits

  unsynced : (member : ℕ) → list_any is_sync (mail_of world member) ≡ false
  unsynced member =
      elim (cases_Bool (list_any is_sync (mail_of world member))) [
        | inl is ↦
            (let waits = grows.awaited member is in
            let acknowledged = has_it member waits.is_member in
            let below = waits.below in
            absurd (omega (arith, acknowledged, below)))
        | inr none ↦ none
      ]

  module _ (shared : Shared) (after : Party) (is : IsCoordinator set (Waiting round sent) call holds primary.core) where
    abbrev resting : Core
    resting = record is.its { phase = Idle }

    abbrev ending : RunState
    ending = goes world primary resting segs

    is_ending : IsBase set ending → IsEnding set call holds ending
    is_ending later = record {
      base = later;
      coordinator = goes_coordinated world primary resting segs there set call Idle holds
          (with_phase set (Waiting round sent) Idle call holds primary.core is);
      alone = refl;
      closed = closed_behind call ending world.shared.segs.asks entry refl its_from its_number refl;
      copies = grows.bodies;
      doubled = goes_doubled world primary resting segs there set call holds holds false
          (omega (arith, stale_same world.shared.segs.asks entry (asker call) refl))
          (λ who apart. stale_same world.shared.segs.asks entry who refl)
          (λ who. heard_more call who world.shared.segs.asks segs.asks entry refl
          (withdrawn_same world.shared.segs.asks entry who entry_fits.stands) (inr (its_from, its_number))) grows.doubled;
      no_sync = unsynced;
      answered = answered_behind call ending world.shared.segs.asks entry refl its_from its_number refl;
      level = record { gone = grows.level.gone; level = λ loses. all_level };
    }

    -- the growth is granted, and that is answered
    pub grants_on : MakesStep set.count (going_on is.its (granted round acks (with_room world.shared.segs))) world.shared shared
        primary after
        → ComesTo set call sent true world 0 shared after
    grants_on made =
        let step : MakesStep set.count (going_on is.its (ended round segs)) world.shared shared primary after =
        subst (λ (one : SegsView). MakesStep set.count (going_on is.its (ended round one)) world.shared shared primary after)
        (grant_of_round round acks (with_room world.shared.segs) of all) made in
        let later = base_ended set world primary resting segs base there refl (omega arith) fits step.sound step.armed refl in
        comes_on set call sent true world (with_segs segs world.shared) shared (with_core resting primary) after
        (ends_by set call sent holds ending (with_core resting primary) (is_ending later)
        (goes_there world primary resting segs there) is_sent.setting.few is_sent.declared shared after round.from
        round.number (what_in round.kind) (outcome_of segs.asks round.from round.number) grows.from step.carries)
