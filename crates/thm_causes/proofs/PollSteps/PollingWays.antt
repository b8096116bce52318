-- What a poll makes of a coordinator, by its phase.
use Rattle.std.proofs.Common.{◌≡◌, ◌∙◌, ℕ, ◌<◌, Bool, true, false, ◌||◌, List, Option, Some, None, refl, ap, if◌then◌else◌}
use Rattle.std.proofs.lemmas.Bool.{cond-false}
use Rattle.std.specs.Prelude.{is_none, slice_index_or, slice_set}
use Rattle.hp_core.specs.Asks.{asker, is_closed, is_unarmed, number_of}
use Rattle.hp_core.specs.Core.{Core, Done, going_on, idle, is_foreign, is_growth, is_idle, is_open_for, unchanged}
use Rattle.hp_core.specs.Rounds.{agreed, cancelled, ended, granted, has_passed, polled, polled_by, rolled_back, unless_failed, waiting}
use Rattle.hp_core.specs.Starting.{started, started_by}
use Rattle.hp_core.specs.Stepping.{came, lowest_held, polled_in, released, served, served_ask, taken}
use Rattle.hp_core.specs.declared.asked.Asked.{Asked}
use Rattle.hp_core.specs.declared.event.CoreEvent.TheVariants.{Poll}
use Rattle.hp_core.specs.declared.out.Out.TheVariants.{Nothing}
use Rattle.hp_core.specs.declared.phase.Phase.{Phase}
use Rattle.hp_core.specs.declared.phase.Phase.TheVariants.{Idle, Waiting}
use Rattle.hp_core.specs.declared.phase.Round.{Round}
use Rattle.hp_core.specs.declared.phase.RoundKind.{RoundKind}
use Rattle.hp_core.specs.declared.phase.RoundKind.TheVariants as kind
use Rattle.hp_segs.specs.LaterSteps.{after_stale, noted_failure}
use Rattle.hp_segs.specs.SegsView.{SegsView}
use Rattle.hp_segs.specs.Steps.{lowest_member_below}
use Rattle.hp_segs.specs.declared.fault.NotAll.{NotAll}
use Rattle.hp_segs.specs.declared.outcome.Cause.{Cause}
use Rattle.hp_segs.specs.declared.outcome.Cause.TheVariants.{Late}
use Rattle.hp_serve.specs.Coordinating.{stepping, with_room}
use Rattle.thm_causes.proofs.AskStages.HeldAsks.{all_released, its_ask, lowest_one, none_held}

-- a poll in a round that began at a reading, at the present one, and whether its deadline has passed
abbrev pub polled_at : Round → (deadline since now : ℕ) → List ℕ → SegsView → Done
polled_at round deadline since now acks segs = polled round (record { deadline = deadline; since = since; present = now }) acks segs

abbrev pub has_passed_at : (deadline since now : ℕ) → Bool
has_passed_at deadline since now = has_passed (record { deadline = deadline; since = since; present = now })

-- whatever the judge answers, which is asked of none of these
module _ (denied : Option (List ℕ × ℕ)) (core : Core) (segs : SegsView) (now : ℕ) (acks : List ℕ) where
  -- while nothing is under way and nothing is held, nothing is done
  pub idle_polled : core.phase ≡ Idle → core.held ≡ none_held → stepping denied (Poll now acks) core segs ≡ unchanged core (with_room segs)
  idle_polled idle none =
      ap (polled_in (λ socket total. denied) core (with_room segs) now acks) idle
      ∙ ap (λ (held : List (Option Asked)). served (λ socket total. denied) core (with_room segs) (lowest_held held)) none

  -- a round under way is polled
  pub round_polled : (round : Round) (since : ℕ) → core.phase ≡ Waiting round since
      → stepping denied (Poll now acks) core segs ≡ going_on core (polled_at round core.deadline since now acks (with_room segs))
  round_polled round since waits = ap (polled_in (λ socket total. denied) core (with_room segs) now acks) waits

  closed_came : (call : Asked) (inside : Core) → inside.phase ≡ Idle → segs.growth ≡ None → is_closed call segs ≡ true
      → came (λ socket total. denied) call inside (with_room segs)
      ≡ record { core = record inside { phase = Idle }; segs = after_stale (asker call) (number_of call) (with_room segs); out = Nothing }
  closed_came call inside idle_now alone closed =
      let own : is_foreign inside.phase segs.growth ≡ false = ap (is_foreign inside.phase) alone in
      cond-false (is_foreign inside.phase segs.growth) (unchanged inside (with_room segs))
      (taken (λ socket total. denied) call inside (with_room segs)) own
      ∙ ap
      (λ (phase : Phase).
      if is_idle phase then going_on inside (started (λ socket total. denied) call (with_room segs))
      else (if is_unarmed call (with_room segs) then unchanged inside (with_room segs)
      else unchanged (record inside { held = slice_set inside.held (asker call) (Some call) }) (with_room segs))) idle_now
      ∙ ap (λ (is : Bool). going_on inside
      (if is then idle (after_stale (asker call) (number_of call) (with_room segs)) Nothing
      else started_by (λ socket total. denied) (with_room segs) call)) closed

  -- an ask that is held and closed is stale
  pub stale_polled : (call : Asked) → core.phase ≡ Idle → core.held ≡ slice_set none_held (asker call) (Some call) → asker call < 16
      → segs.growth ≡ None → is_closed call segs ≡ true
      → stepping denied (Poll now acks) core segs
      ≡ record {
        core = record { deadline = core.deadline; phase = Idle; held = none_held };
        segs = after_stale (asker call) (number_of call) (with_room segs);
        out = Nothing;
      }
  stale_polled call idle_now holds within alone closed =
      let place = asker call in
      let held = slice_set none_held place (Some call) in
      ap (polled_in (λ socket total. denied) core (with_room segs) now acks) idle_now
      ∙ ap (λ (held : List (Option Asked)). served (λ socket total. denied) core (with_room segs) (lowest_held held)) holds
      ∙ ap (served (λ socket total. denied) core (with_room segs)) (lowest_one place call within)
      ∙ ap (λ (its : Option Asked). served_ask (λ socket total. denied) (released core place) (with_room segs) its)
      (ap (λ (held : List (Option Asked)). slice_index_or held place None) holds ∙ its_ask place call within)
      ∙ closed_came call (released core place) idle_now alone closed
      ∙ ap
      (λ (held : List (Option Asked)).
      record {
        core = record { deadline = core.deadline; phase = Idle; held = held };
        segs = after_stale place (number_of call) (with_room segs);
        out = Nothing;
      })
      (ap (λ (held : List (Option Asked)). slice_set held place None) holds ∙ all_released place call)

-- how a poll ends that finds a growth open, and by what
pub data GrowthPolled (round : Round) (deadline since now : ℕ) (acks : List ℕ) (segs : SegsView) : Done → Type 0 where
  fails : (cause : Cause) → noted_failure segs ≡ Some cause → GrowthPolled round deadline since now acks segs (cancelled round cause segs)
  grants : noted_failure segs ≡ None → lowest_member_below segs.roster acks round.generation ≡ None
      → GrowthPolled round deadline since now acks segs (granted round acks segs)
  late : (member : NotAll) → noted_failure segs ≡ None → lowest_member_below segs.roster acks round.generation ≡ Some member
      → has_passed_at deadline since now ≡ true
      → GrowthPolled round deadline since now acks segs (cancelled round (Late member.participant since now) segs)
  waits : GrowthPolled round deadline since now acks segs (waiting round since Nothing segs)

-- how one ends that finds a rollback or a drop
pub data DropPolled (round : Round) (deadline since now : ℕ) (acks : List ℕ) (segs : SegsView) : Done → Type 0 where
  ends : (is_none (lowest_member_below segs.roster acks round.generation) || has_passed_at deadline since now) ≡ true
      → DropPolled round deadline since now acks segs (ended round segs)
  stays : DropPolled round deadline since now acks segs (waiting round since Nothing segs)

module _ (round : Round) (deadline since now : ℕ) (acks : List ℕ) (segs : SegsView) where
  late_or_not : (member : NotAll) (passed : Bool) → noted_failure segs ≡ None
      → lowest_member_below segs.roster acks round.generation ≡ Some member → has_passed_at deadline since now ≡ passed
      → GrowthPolled round deadline since now acks segs
      (if passed then cancelled round (Late member.participant since now) segs else waiting round since Nothing segs)
  late_or_not member true none below is = late member none below is
  late_or_not member false none below is = waits

  agreed_or_not : (below : Option NotAll) → noted_failure segs ≡ None → lowest_member_below segs.roster acks round.generation ≡ below
      → GrowthPolled round deadline since now acks segs
      (agreed round (record { deadline = deadline; since = since; present = now }) acks segs below)
  agreed_or_not None none is = grants none is
  agreed_or_not (Some member) none is = late_or_not member (has_passed_at deadline since now) none is refl

  failed_or_not : (failure : Option Cause) → noted_failure segs ≡ failure
      → GrowthPolled round deadline since now acks segs
      (unless_failed round (record { deadline = deadline; since = since; present = now }) acks segs failure)
  failed_or_not (Some cause) is = fails cause is
  failed_or_not None is = agreed_or_not (lowest_member_below segs.roster acks round.generation) is refl

  open_polled : (opens : Bool) → is_open_for round segs.growth ≡ opens → opens ≡ true
      → GrowthPolled round deadline since now acks segs
      (if opens then unless_failed round (record { deadline = deadline; since = since; present = now }) acks segs (noted_failure segs)
      else rolled_back round segs)
  open_polled true is opens = failed_or_not (noted_failure segs) refl
  open_polled false is opens = cc

  growth_by : (which : RoundKind) → which ≡ kind.Growth → is_open_for round segs.growth ≡ true
      → GrowthPolled round deadline since now acks segs
      (polled_by round (record { deadline = deadline; since = since; present = now }) acks segs which)
  growth_by kind.Growth is opens = open_polled (is_open_for round segs.growth) refl opens
  growth_by kind.Rollback is opens = cc
  growth_by kind.Drop is opens = cc

  -- the round of a growth that is open
  pub growth_cases : round.kind ≡ kind.Growth → is_open_for round segs.growth ≡ true
      → GrowthPolled round deadline since now acks segs (polled_at round deadline since now acks segs)
  growth_cases is opens = growth_by round.kind is opens

  ends_or_not : (over : Bool) → (is_none (lowest_member_below segs.roster acks round.generation) || has_passed_at deadline since
      now) ≡ over
      → DropPolled round deadline since now acks segs (if over then ended round segs else waiting round since Nothing segs)
  ends_or_not true is = ends is
  ends_or_not false is = stays

  drop_by : (which : RoundKind) → is_growth which ≡ false
      → DropPolled round deadline since now acks segs
      (polled_by round (record { deadline = deadline; since = since; present = now }) acks segs which)
  drop_by kind.Growth other = cc
  drop_by kind.Rollback other =
      ends_or_not (is_none (lowest_member_below segs.roster acks round.generation) || has_passed_at deadline since now) refl
  drop_by kind.Drop other =
      ends_or_not (is_none (lowest_member_below segs.roster acks round.generation) || has_passed_at deadline since now) refl

  -- a round of drops
  pub drop_cases : is_growth round.kind ≡ false
      → DropPolled round deadline since now acks segs (polled_at round deadline since now acks segs)
  drop_cases other = drop_by round.kind other
