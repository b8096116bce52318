-- What a step answers, and when: one of four answers, each with why it is given.
use Rattle.std.specs.Prelude.{◌≡◌, ℕ, ◌<◌, true, false, List, length, Some, None, slice_index_or}
use Rattle.hp_base.specs.declared.caught.Caught.{Caught}
use Rattle.hp_segs.specs.LaterSteps.{noted_failure}
use Rattle.hp_segs.specs.SegsView.{SegsView, outcome_of}
use Rattle.hp_segs.specs.Steps.{lowest_member_below}
use Rattle.hp_segs.specs.declared.ask.Ask.{Ask}
use Rattle.hp_segs.specs.declared.fault.NotAll.{NotAll}
use Rattle.hp_segs.specs.declared.outcome.Outcome.{Outcome}
use Rattle.hp_core.specs.Asks.{is_armed, is_closed, is_good}
use Rattle.hp_core.specs.Core.{Core, Stepped, due_of, holds_ask, is_foreign, is_idle, is_open_for}
use Rattle.hp_core.specs.Mapped.{other_members, sync_number}
use Rattle.hp_core.specs.Rounds.{has_passed}
use Rattle.hp_core.specs.Stepping.{holding, lowest_held}
use Rattle.hp_core.specs.declared.asked.Asked.{Asked}
use Rattle.hp_core.specs.declared.asked.Asked.TheVariants as want
use Rattle.hp_core.specs.declared.event.CoreEvent.{CoreEvent}
use Rattle.hp_core.specs.declared.event.CoreEvent.TheVariants.{Grow, Shrink, SelfMapped, Poll}
use Rattle.hp_core.specs.declared.out.Out.TheVariants.{Nothing, MapSelf, Sync, Answer}
use Rattle.hp_core.specs.declared.phase.Phase.{Phase}
use Rattle.hp_core.specs.declared.phase.Phase.TheVariants.{Idle, Mapping, Waiting}
use Rattle.hp_core.specs.declared.phase.Round.{Round}
use Rattle.hp_core.specs.declared.phase.RoundKind.TheVariants as kind

-- the event is that ask
abbrev pub IsAskOf : CoreEvent → Asked → Type 0
IsAskOf (Grow ask) asked = asked ≡ want.Grow ask
IsAskOf (Shrink from number) asked = asked ≡ want.Shrink from number
IsAskOf (SelfMapped caught now) asked = ⊥
IsAskOf (Poll now acks) asked = ⊥

-- the event is a poll while nothing is under way, and the ask is the held one of the lowest participant that has one
pub record IsServed (event : CoreEvent) (core : Core) (asked : Asked) : Type 0 where
  pub now : ℕ
  pub acks : List ℕ
  pub place : ℕ
  pub polled : event ≡ Poll now acks
  pub idle : is_idle core.phase ≡ true
  pub lowest : lowest_held core.held ≡ Some place
  pub its_ask : slice_index_or core.held place None ≡ Some asked

-- the ask comes, or is the held one that is started
pub data IsTaken (event : CoreEvent) (core : Core) (asked : Asked) : Type 0 where
  comes : IsAskOf event asked → IsTaken event core asked
  is_served : IsServed event core asked → IsTaken event core asked

-- a poll in that round
pub record IsPolledIn (event : CoreEvent) (core : Core) (round : Round) (since now : ℕ) (acks : List ℕ) : Type 0 where
  pub polled : event ≡ Poll now acks
  pub phase : core.phase ≡ Waiting round since

-- why nothing is answered
pub data IsQuiet (event : CoreEvent) (core : Core) (segs : SegsView) (after : Core) : Type 0 where
  -- the ask that comes or is started is Stale
  closed : (asked : Asked) → IsTaken event core asked → is_closed asked segs ≡ true → IsQuiet event core segs after
  -- it is an ask for memory, and not the one with which its participant is armed
  unarmed : (ask : Ask) → IsTaken event core (want.Grow ask) → is_armed ask segs ≡ false → IsQuiet event core segs after
  -- it is held
  held : (asked : Asked) → IsAskOf event asked → is_idle core.phase ≡ false → after ≡ holding asked core → IsQuiet event core segs after
  -- it meets a growth that the coordinator did not open
  foreign : (asked : Asked) → IsTaken event core asked → is_foreign core.phase segs.growth ≡ true → IsQuiet event core segs after
  -- participant 0 was not told to catch up
  untold : (caught : Caught) (now : ℕ) → event ≡ SelfMapped caught now → ((round : Round) → core.phase ≡ Mapping round → ⊥)
      → IsQuiet event core segs after
  -- a poll while no round is under way and no ask can be started
  no_round : (now : ℕ) (acks : List ℕ) → event ≡ Poll now acks → due_of core.deadline core.phase ≡ None → holds_ask core ≡ false
      → IsQuiet event core segs after
  -- a poll finds that the growth of its round is gone and no outcome of the ask is logged, and nothing is under way afterwards
  gone : (round : Round) (since now : ℕ) (acks : List ℕ) → IsPolledIn event core round since now acks → is_open_for round segs.growth ≡ false
      → outcome_of segs.asks round.from round.number ≡ None → is_idle after.phase ≡ true → IsQuiet event core segs after
  -- a poll in a round: a member's number is below its generation, nothing is noted for its growth, and the deadline has not passed
  waits : (round : Round) (since now : ℕ) (acks : List ℕ) (member : NotAll) → IsPolledIn event core round since now acks
      → lowest_member_below segs.roster acks round.generation ≡ Some member
      → (is_open_for round segs.growth ≡ true → noted_failure segs ≡ None)
      → has_passed (record { deadline = core.deadline; since = since; present = now }) ≡ false → IsQuiet event core segs after

-- the round is the one under way
abbrev pub IsUnderWay : Phase → Round → Type 0
IsUnderWay Idle round = ⊥
IsUnderWay (Mapping own) round = own ≡ round
IsUnderWay (Waiting own since) round = own ≡ round

-- why participant 0 is told to catch up: an ask is started, a record is appended, or the growth under way is found to be withdrawn
pub data IsMapCause (event : CoreEvent) (core : Core) (segs after : SegsView) : Type 0 where
  starts : (asked : Asked) → IsTaken event core asked → is_closed asked segs ≡ false → IsMapCause event core segs after
  appends : length segs.log < length after.log → IsMapCause event core segs after
  finds : (round : Round) → IsUnderWay core.phase round → round.kind ≡ kind.Growth → is_open_for round segs.growth ≡ false
      → IsMapCause event core segs after

-- what is answered, with why it is given
pub data IsOut (event : CoreEvent) (core : Core) (segs : SegsView) (after : Stepped) : Type 0 where
  -- the log has an outcome of the ask, and it is good or not
  answers : (from number what : ℕ) (outcome : Outcome) → after.out ≡ Answer from number what (is_good outcome)
      → outcome_of after.segs.asks from number ≡ Some outcome → IsOut event core segs after
  maps_self : after.out ≡ MapSelf (length after.segs.log) → IsMapCause event core segs after.segs → IsOut event core segs after
  -- participant 0 has caught up for a round, or failed to: the members of the roster but itself
  syncs : (caught : Caught) (now : ℕ) (round : Round) → event ≡ SelfMapped caught now → core.phase ≡ Mapping round
      → after.out ≡ Sync round.generation (sync_number round.kind) (other_members after.segs) → IsOut event core segs after
  nothing : after.out ≡ Nothing → IsQuiet event core segs after.core → IsOut event core segs after
