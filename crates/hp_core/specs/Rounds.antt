-- What a poll does in a round: a growth is granted, cancelled or waited for, and another round ends or is waited for.
use Rattle.std.specs.Prelude.{ℕ, ◌-◌, Bool, ◌&&◌, nat_le, List, length, Option, Some, None, is_none, ◌||◌, if◌then◌else◌}
use Rattle.hp_segs.specs.SegsView.{SegsView}
use Rattle.hp_segs.specs.LaterSteps.{noted_failure}
use Rattle.hp_segs.specs.Steps.{after_agree, after_cancel, lowest_member_below}
use Rattle.hp_segs.specs.declared.fault.NotAll.{NotAll}
use Rattle.hp_segs.specs.declared.outcome.Cause.{Cause}
use Rattle.hp_segs.specs.declared.outcome.Cause.TheVariants.{Late}
use Rattle.hp_core.specs.Asks.{answer_of}
use Rattle.hp_core.specs.Core.{Done, idle, is_open_for}
use Rattle.hp_core.specs.declared.out.Out.{Out}
use Rattle.hp_core.specs.declared.out.Out.TheVariants.{Nothing, MapSelf}
use Rattle.hp_core.specs.declared.phase.Phase.TheVariants.{Mapping, Waiting}
use Rattle.hp_core.specs.declared.phase.Round.{Round}
use Rattle.hp_core.specs.declared.phase.RoundKind.{RoundKind}
use Rattle.hp_core.specs.declared.phase.RoundKind.TheVariants as kind
use Rattle.hp_core.specs.declared.times.Times.{Times}

-- so long as the deadline has gone by since the first SYNC was sent
abbrev pub has_passed : Times → Bool
has_passed times = nat_le times.since times.present && nat_le times.deadline (times.present - times.since)

-- what is answered at the end of a round: 2 for memory that was asked for, 3 for a notice that memory may go back
abbrev pub what_in : RoundKind → ℕ
what_in kind.Growth = 2
what_in kind.Rollback = 2
what_in kind.Drop = 3

-- the round ends, and its ask is answered
abbrev pub ended : Round → SegsView → Done
ended round segs = idle segs (answer_of segs.asks round.from round.number (what_in round.kind))

-- the round goes on
abbrev pub waiting : Round → ℕ → Out → SegsView → Done
waiting round since out segs = record { segs = segs; next = record { phase = Waiting round since; out = out } }

-- the growth of a round is no longer open: the rollback is for the records that there are
abbrev pub rolled_back : Round → SegsView → Done
rolled_back round segs = record {
  segs = segs;
  next = record {
    phase = Mapping (record { kind = kind.Rollback; generation = length segs.log; from = round.from; number = round.number });
    out = MapSelf (length segs.log);
  };
}

-- the growth is cancelled, and its rollback begins
abbrev pub cancelled : Round → Cause → SegsView → Done
cancelled round cause segs = rolled_back round (after_cancel cause segs)

-- the growth is granted where all members have acknowledged it, and its ask is answered
abbrev pub granted : Round → List ℕ → SegsView → Done
granted round acks segs = ended round (after_agree acks segs)

-- a growth without a noted failure: it is granted where all members have acknowledged it; where one has not and the deadline has
-- passed, it is cancelled for the lowest such member
abbrev pub agreed : Round → Times → List ℕ → SegsView → Option NotAll → Done
agreed round times acks segs None = granted round acks segs
agreed round times acks segs (Some member) =
    if has_passed times then cancelled round (Late member.participant times.since times.present) segs
    else waiting round times.since Nothing segs

-- an open growth: a noted failure cancels it, before all else
abbrev pub unless_failed : Round → Times → List ℕ → SegsView → Option Cause → Done
unless_failed round times acks segs (Some cause) = cancelled round cause segs
unless_failed round times acks segs None =
    agreed round times acks segs (lowest_member_below segs.roster acks round.generation)

-- a poll in the round of a growth
abbrev pub growth_polled : Round → Times → List ℕ → SegsView → Done
growth_polled round times acks segs =
    if is_open_for round segs.growth then unless_failed round times acks segs (noted_failure segs) else rolled_back round segs

-- a poll in the round of a rollback or a drop: it ends where all members have acknowledged it or the deadline has passed
abbrev pub drop_polled : Round → Times → List ℕ → SegsView → Done
drop_polled round times acks segs =
    if is_none (lowest_member_below segs.roster acks round.generation) || has_passed times then ended round segs
    else waiting round times.since Nothing segs

abbrev pub polled_by : Round → Times → List ℕ → SegsView → RoundKind → Done
polled_by round times acks segs kind.Growth = growth_polled round times acks segs
polled_by round times acks segs kind.Rollback = drop_polled round times acks segs
polled_by round times acks segs kind.Drop = drop_polled round times acks segs

-- a poll in a round
abbrev pub polled : Round → Times → List ℕ → SegsView → Done
polled round times acks segs = polled_by round times acks segs round.kind
