-- A growth that failed, or for which a member is late, is cancelled, and its rollback begins.
use Rattle.std.proofs.Common.{◌≡◌, ◌∙◌, ℕ, ◌+◌, ◌-◌, ◌<◌, ◌≤◌, ◌==◌, Bool, true, false, ◌&&◌, List, [], ◌∷◌, length, Option, Some, None, inl, inr, refl, sym, ap, subst, arith, length-append}
use Rattle.std.proofs.lemmas.Bool.{and_parts, eqb-true}
use Rattle.std.proofs.lemmas.Bool.Decides.{nat_tests}
use Rattle.std.proofs.lemmas.Option.{same_Some}
use Rattle.std.specs.List.{find, list_any, range_with_len}
use Rattle.std.specs.Option.{option_map}
use Rattle.std.specs.Prelude.{is_some, nat_le, nat_lt, slice_get, slice_index}
use Rattle.hp_base.specs.declared.plan_entry.MsgKind.TheVariants as message
use Rattle.hp_core.specs.Asks.{asker, number_of}
use Rattle.hp_core.specs.Core.{Core, going_on}
use Rattle.hp_core.specs.Rounds.{cancelled, rolled_back}
use Rattle.hp_core.specs.declared.asked.Asked.{Asked}
use Rattle.hp_core.specs.declared.out.Out.TheVariants as out
use Rattle.hp_core.specs.declared.phase.Phase.TheVariants.{Mapping, Waiting}
use Rattle.hp_core.specs.declared.phase.Round.{Round}
use Rattle.hp_core.specs.declared.phase.RoundKind.TheVariants as kind
use Rattle.hp_core.proofs.GivingLemmas.{member_within}
use Rattle.hp_core.proofs.RoundLemmas.{IsGrowthOf, has_outcome, is_its_outcome}
use Rattle.hp_log.specs.declared.log_record.LogRecord.TheVariants.{Drop}
use Rattle.hp_maps.specs.MapsView.{calls_of}
use Rattle.hp_segs.proofs.SlotFacts.RangeLemmas.{find_passes}
use Rattle.hp_segs.specs.LaterSteps.{noted_failure}
use Rattle.hp_segs.specs.SegsView.{SegsView, is_member}
use Rattle.hp_segs.specs.Steps.{after_failure, cancelled_growth, is_below, lowest_member_below}
use Rattle.hp_segs.specs.declared.fault.NotAll.{NotAll}
use Rattle.hp_segs.specs.declared.outcome.AskLog.{AskLog}
use Rattle.hp_segs.specs.declared.outcome.Cause.{Cause}
use Rattle.hp_segs.specs.declared.outcome.Cause.TheVariants.{Late, MapFailed}
use Rattle.hp_segs.specs.declared.outcome.Outcome.TheVariants.{Refused}
use Rattle.hp_serve.specs.Coordinating.{with_core, with_room}
use Rattle.hp_serve.specs.Party.{Party}
use Rattle.hp_serve.specs.Posting.{times_sent}
use Rattle.thm_causes.specs.Counting.{lost_among}
use Rattle.thm_causes.specs.RoundTrip.{FollowsGrowth, IsBase, IsCoordinator, IsNotedCall, Setting, RunState, is_sync, mail_of, number_of_party}
use Rattle.thm_causes.specs.Outcomes.{late_outcomes, IsCauseApart}
use Rattle.thm_causes.specs.Shared.{Shared, with_segs}
use Rattle.thm_causes.specs.Stages.{ComesTo, IsSent}
use Rattle.thm_causes.proofs.CopyStages.CopiesBodies.{bodies_unsynced}
use Rattle.thm_causes.proofs.PollSteps.PollingFits.{FitsIn, FitsOne, base_ended, fit_before, fits_more, is_there}
use Rattle.thm_causes.proofs.PollSteps.PollingGrants.{IsGrowing}
use Rattle.thm_causes.proofs.PollSteps.PollingGoes.{goes, goes_coordinated, goes_doubled, goes_there, goes_unanswered, with_phase}
use Rattle.thm_causes.proofs.PollSteps.PollingSteps.{MakesStep}
use Rattle.thm_causes.proofs.PollSteps.PollingWays.{has_passed_at}
use Rattle.thm_causes.proofs.StartSteps.StartingMaps.{comes_on}
use Rattle.thm_causes.proofs.StartSteps.StartingOutcomes.{answered_behind, closed_behind}
use Rattle.thm_causes.proofs.StartSteps.StartingSettles.{IsSettling, settles}
use Rattle.thm_causes.proofs.OutcomesMore.{stale_same, withdrawn_same}
use Rattle.thm_causes.proofs.Told.{heard_more}
use Rattle.hp_base.specs.declared.map_answer.MapAnswer.{MapAnswer}

-- WHO IS BELOW

below_by : (roster : List Bool) (acks : List ℕ) (generation : ℕ) (found : Option ℕ) (member : NotAll)
    → find (is_below roster acks generation) (range_with_len 0 16) ≡ found
    → option_map (λ participant. record { participant = participant; acked = slice_index acks participant }) found ≡ Some member
    → is_below roster acks generation member.participant ≡ true
below_by roster acks generation None member is found = cc
below_by roster acks generation (Some participant) member is found =
    subst (λ (who : ℕ). is_below roster acks generation who ≡ true) (ap participant_of found)
    (find_passes (is_below roster acks generation) (range_with_len 0 16) participant is)
  where
    participant_of : Option NotAll → ℕ
    participant_of None = 0
    participant_of (Some one) = one.participant

-- the lowest member below a generation is a member, and below it
pub lowest_is_below : (roster : List Bool) (acks : List ℕ) (generation : ℕ) (member : NotAll)
    → lowest_member_below roster acks generation ≡ Some member
    → (is_member roster member.participant ≡ true) × (slice_index acks member.participant < generation)
lowest_is_below roster acks generation member found =
    let below = below_by roster acks generation (find (is_below roster acks generation) (range_with_len 0 16)) member refl found in
    let parts = and_parts (is_member roster member.participant) (nat_lt (slice_index acks member.participant) generation) below in
    (parts.0, less (slice_index acks member.participant) generation parts.1)
  where
    less : (n m : ℕ) → nat_lt n m ≡ true → n < m
    less n m is = grind (arith, nat_tests)

-- the deadline has not passed while the clock stands
pub not_passed : (deadline since now : ℕ) → now ≡ since → 0 < deadline → has_passed_at deadline since now ≡ true → ⊥
not_passed deadline since now stands waits passed =
    let parts = and_parts (nat_le since now) (nat_le deadline (now - since)) passed in
    never deadline (now - since) (omega (arith, stands)) waits parts.1
  where
    never : (n m : ℕ) → m ≡ 0 → 0 < n → nat_le n m ≡ true → ⊥
    never n m none some is = grind (arith, nat_tests)

module _ (set : Setting) (call : Asked) (sent : ℕ) (world : RunState) (primary : Party) (round : Round) (holds : Bool)
    (base : IsBase set world) (there : slice_get world.parties 0 ≡ Some primary) (grows : IsGrowing set call sent world round holds)
    (is_sent : IsSent set call sent) (of : IsGrowthOf round world.shared.segs.growth) where
  -- the outcome of a growth that is cancelled, and the segment value with it
  abbrev pub refusal : Cause → AskLog
  refusal cause = record {
    from = of.growth.ask.from;
    number = of.growth.ask.number;
    outcome = Refused cause;
    at = length world.shared.segs.log;
    ask = Some of.growth.ask;
  }

  abbrev segs : Cause → SegsView
  segs cause = after_failure of.growth cause (Some of.growth.ask) 2 (with_room world.shared.segs)

  its_from : of.growth.ask.from ≡ asker call
  its_from = of.from ∙ grows.from

  its_number : of.growth.ask.number ≡ number_of call
  its_number = of.number ∙ grows.number

  its_sent : (party : Party) → slice_get world.parties of.growth.ask.from ≡ Some party → of.growth.ask.number ≤ party.asked
  its_sent party found =
      let asked = grows.unanswered.asked party (ap (slice_get world.parties) (sym its_from) ∙ found) in
      omega (arith, asked, its_number)

  ungranted : (generation : ℕ) → None ≡ Some generation → ⊥
  ungranted generation is = cc

  unlate : false ≡ true → ⊥
  unlate is = cc

  by_maker : (who maker call : ℕ) (party : Party) → slice_get world.parties who ≡ Some party → (its : Bool) → (maker == who) ≡ its
      → ((party : Party) → slice_get world.parties maker ≡ Some party → call ≤ calls_of party.maps)
      → ((maker == who) && nat_le (calls_of party.maps + 1) call) ≡ false
  by_maker who maker call party found true is made =
      ap (λ (b : Bool). b && nat_le (calls_of party.maps + 1) call) is
      ∙ later call (calls_of party.maps) (made party (ap (slice_get world.parties) (eqb-true maker who is) ∙ found))
    where
      later : (call calls : ℕ) → call ≤ calls → nat_le (calls + 1) call ≡ false
      later call calls made = grind (arith, nat_tests)
  by_maker who maker call party found false is made = ap (λ (b : Bool). b && nat_le (calls_of party.maps + 1) call) is

  -- a failed mapping has no readings
  failure_apart : (who call addr : ℕ) (got : MapAnswer) (other : Cause) → Refused (MapFailed who call addr got) ≡ Refused other
      → IsCauseApart set.deadline other
  failure_apart who call addr got other is =
      let same : MapFailed who call addr got ≡ other = cc in
      subst (IsCauseApart set.deadline) same tt

  -- a failure that is noted fits
  pub failure_fits : (cause : Cause) → IsNotedCall world cause → FitsOne set world world.shared.segs.asks (refusal cause)
  failure_fits cause noted =
      subst (λ (one : Cause). FitsOne set world world.shared.segs.asks (refusal one)) (sym noted.is)
      (record {
        granted = λ who generation member is. absurd (ungranted generation is);
        failed = λ who party found.
            by_maker who noted.who noted.call party found (noted.who == who) refl noted.made;
        sent = its_sent;
        late = λ who first party top found is. absurd (unlate is);
        stands = refl;
        apart = λ other is. failure_apart noted.who noted.call noted.addr noted.got other is;
      })

  module _ (acks : List ℕ) (member : NotAll)
      (known : (who : ℕ) → who < set.count → who < 16 → slice_index acks who ≡ slice_index world.shared.numbers who)
      (none : noted_failure world.shared.segs ≡ None)
      (lowest : lowest_member_below world.shared.segs.roster acks round.generation ≡ Some member)
      (passed : has_passed_at set.deadline sent world.shared.clock ≡ true) where
    below : (is_member world.shared.segs.roster member.participant ≡ true) × (slice_index acks member.participant < round.generation)
    below = lowest_is_below world.shared.segs.roster acks round.generation member lowest

    acked_so : slice_index acks member.participant ≡ number_of_party world member.participant
    acked_so =
        let places = base.sound.places.roster_places in
        let within : member.participant < 16 = omega (arith, places, member_within world.shared.segs.roster member.participant below.0) in
        known member.participant (base.declared member.participant below.0) within

    -- the deadline has passed
    passed_by : sent + set.deadline ≤ world.shared.clock
    passed_by =
        let parts = and_parts (nat_le sent world.shared.clock) (nat_le set.deadline (world.shared.clock - sent)) passed in
        reaches sent world.shared.clock set.deadline parts.0 parts.1
      where
        reaches : (since now deadline : ℕ) → nat_le since now ≡ true → nat_le deadline (now - since) ≡ true → since + deadline ≤ now
        reaches since now deadline first second = grind (arith, nat_tests)

    -- who is late was not told
    untold : (first : Party) → slice_get world.parties 0 ≡ Some first → FollowsGrowth set world round.generation sent member.participant
        → late_outcomes member.participant world.shared.segs.asks
        < lost_among set.plan message.Sync member.participant (times_sent first.sent.syncs member.participant)
    untold first top (FollowsGrowth.told clock lies) =
        absurd (not_passed set.deadline sent world.shared.clock clock is_sent.setting.waits passed)
    untold first top (FollowsGrowth.has has) = absurd (omega (arith, has, below.1, acked_so))
    untold first top (FollowsGrowth.fails is) = absurd (unlate (ap is_some (sym none) ∙ is))
    untold first top (FollowsGrowth.lost its found less) =
        subst
        (λ (one : Party).
        late_outcomes member.participant world.shared.segs.asks
        < lost_among set.plan message.Sync member.participant (times_sent one.sent.syncs member.participant))
        (same_Some its first (sym found ∙ top)) less

    -- and so a refusal as late fits
    pub late_fits : FitsOne set world world.shared.segs.asks (refusal (Late member.participant sent world.shared.clock))
    late_fits = record {
      granted = λ who generation member_is is. absurd (ungranted generation is);
      failed = λ who party found. refl;
      sent = its_sent;
      late = λ who first party top found is.
          let same = eqb-true member.participant who is in
          subst
          (λ (n : ℕ).
          late_outcomes n world.shared.segs.asks < lost_among set.plan message.Sync n (times_sent first.sent.syncs n))
          same (untold first top (grows.follow member.participant below.0));
      stands = refl;
      apart = λ other is.
          let same : Late member.participant sent world.shared.clock ≡ other = cc in
          subst (IsCauseApart set.deadline) same (omega (arith, grows.clock, passed_by));
    }

  module _ (cause : Cause) (one : FitsOne set world world.shared.segs.asks (refusal cause)) (shared : Shared) (after : Party)
      (is : IsCoordinator set (Waiting round sent) call holds primary.core) where
    abbrev back_round : Round
    back_round = record { kind = kind.Rollback; generation = length (segs cause).log; from = round.from; number = round.number }

    abbrev mapping : Core
    mapping = record is.its { phase = Mapping back_round }

    abbrev cancelled_world : RunState
    cancelled_world = goes world primary mapping (segs cause)

    longer : length (segs cause).log ≡ length world.shared.segs.log + 1
    longer = length-append world.shared.segs.log (Drop of.growth.run ∷ [])

    fits : FitsIn set world (segs cause).asks
    fits = fits_more set world world.shared.segs.asks (refusal cause) (fit_before set world primary base there) one

    begins : IsBase set cancelled_world → IsSettling set call sent holds back_round cancelled_world
    begins later =
        let outcome = has_outcome world.shared.segs.asks (refusal cause) round.from round.number
        (is_its_outcome (refusal cause) round.from round.number of.from of.number refl) in
        record {
          base = later;
          coordinator = goes_coordinated world primary mapping (segs cause) there set call (Mapping back_round) holds
              (with_phase set (Waiting round sent) (Mapping back_round) call holds primary.core is);
          its_kind = refl;
          from = grows.from;
          number = grows.number;
          unanswered = goes_unanswered world primary mapping (segs cause) there set call grows.unanswered;
          alone = refl;
          closed = closed_behind call cancelled_world world.shared.segs.asks (refusal cause) refl its_from its_number refl;
          answered = answered_behind call cancelled_world world.shared.segs.asks (refusal cause) refl its_from its_number refl;
          early = grows.clock;
          generation = refl;
          outcome = outcome.0;
          found = outcome.1;
          copies = grows.bodies;
          doubled = goes_doubled world primary mapping (segs cause) there set call holds holds false
              (omega (arith, stale_same world.shared.segs.asks (refusal cause) (asker call) refl))
              (λ who apart. stale_same world.shared.segs.asks (refusal cause) who refl)
              (λ who. heard_more call who world.shared.segs.asks (segs cause).asks (refusal cause) refl
              (withdrawn_same world.shared.segs.asks (refusal cause) who one.stands) (inr (its_from, its_number))) grows.doubled;
          earlier = λ member lies. (
            λ first. clash (sym lies ∙ (ap (λ (n : ℕ). list_any is_sync (mail_of world n)) first
                ∙ bodies_unsynced call (mail_of world 0) grows.bodies)),
            (grows.awaited member lies).is_member,
          );
          unsettled = λ member other member_is.
              let found = is_there set world member base (base.declared member member_is) primary in
              let within = (base.places member found.0 found.1).within in
              inl (omega (arith, within, longer));
          gone = grows.level.gone;
          room = grows.level.room;
        }
      where
        clash : true ≡ false → ⊥
        clash same = cc

    -- the growth is cancelled, and participant 0 catches up for its rollback
    pub cancels_on : MakesStep set.count (going_on is.its (cancelled round cause (with_room world.shared.segs))) world.shared shared
        primary after
        → ComesTo set call sent true world 0 shared after
    cancels_on made =
        let step : MakesStep set.count (going_on is.its (rolled_back round (segs cause))) world.shared shared primary after =
        subst (λ (at : SegsView). MakesStep set.count (going_on is.its (rolled_back round at)) world.shared shared primary after)
        (ap (cancelled_growth cause (with_room world.shared.segs)) of.its_growth) made in
        let later = base_ended set world primary mapping (segs cause) base there refl
        (omega (arith, longer)) fits step.sound step.armed refl in
        comes_on set call sent true world (with_segs (segs cause) world.shared) shared (with_core mapping primary) after
        (settles set call sent holds back_round cancelled_world (with_core mapping primary) is_sent.setting is_sent.declared (begins later)
        (goes_there world primary mapping (segs cause) there) shared after (out.MapSelf (length (segs cause).log)) tt step.carries)
