-- What is done once participant 0 has caught up for a round, or has failed to.
use Rattle.std.specs.Prelude.{ℕ, Bool, false, ◌==◌, Option, Some, None, is_some, replicate, slice_set, if◌then◌else◌}
use Rattle.hp_base.specs.declared.caught.Caught.{Caught}
use Rattle.hp_segs.specs.LaterSteps.{noted_failure}
use Rattle.hp_segs.specs.SegsView.{SegsView, outcome_of, roster_bits}
use Rattle.hp_segs.specs.declared.outcome.Cause.{Cause}
use Rattle.hp_segs.specs.declared.outcome.Outcome.{Outcome}
use Rattle.hp_core.specs.Core.{Done, is_open_for}
use Rattle.hp_core.specs.Following.{after_catching, failure_of}
use Rattle.hp_core.specs.Rounds.{cancelled, ended, granted, rolled_back, waiting}
use Rattle.hp_core.specs.declared.out.Out.TheVariants.{Sync}
use Rattle.hp_core.specs.declared.phase.Round.{Round}
use Rattle.hp_core.specs.declared.phase.RoundKind.{RoundKind}
use Rattle.hp_core.specs.declared.phase.RoundKind.TheVariants as kind

-- the members of the roster without participant 0, as a number: bit p stands for participant p
abbrev pub other_members : SegsView → ℕ
other_members segs = roster_bits (slice_set segs.roster 0 false)

-- the number that SYNC has for a round: 1 for a growth and 2 where records drop rows
abbrev pub sync_number : RoundKind → ℕ
sync_number kind.Growth = 1
sync_number kind.Rollback = 2
sync_number kind.Drop = 2

-- the SYNC of the round goes to these members, and the round waits from then on
abbrev pub synced : Round → ℕ → ℕ → SegsView → Done
synced round now members segs =
    waiting round now (Sync round.generation (sync_number round.kind) members) segs

-- a growth without another member and without a noted failure: it is granted where participant 0 has mapped it
abbrev pub granted_alone : Round → ℕ → SegsView → Bool → Done
granted_alone round now segs failed = if failed then synced round now 0 segs else granted round (replicate 16 round.generation) segs

abbrev pub alone_unless_failed : Round → Caught → ℕ → SegsView → Option Cause → Done
alone_unless_failed round caught now segs (Some cause) = cancelled round cause segs
alone_unless_failed round caught now segs None = granted_alone round now segs (is_some (failure_of caught))

-- a growth without another member is settled at once
abbrev pub growth_alone : Round → Caught → ℕ → SegsView → Done
growth_alone round caught now segs =
    if is_open_for round segs.growth then alone_unless_failed round caught now segs (noted_failure segs) else rolled_back round segs

-- a rollback or a drop without another member ends at once, where its ask can be answered
abbrev pub drop_alone : Round → ℕ → SegsView → Option Outcome → Done
drop_alone round now segs None = synced round now 0 segs
drop_alone round now segs (Some outcome) = ended round segs

abbrev pub alone_by : Round → Caught → ℕ → SegsView → RoundKind → Done
alone_by round caught now segs kind.Growth = growth_alone round caught now segs
alone_by round caught now segs kind.Rollback = drop_alone round now segs (outcome_of segs.asks round.from round.number)
alone_by round caught now segs kind.Drop = drop_alone round now segs (outcome_of segs.asks round.from round.number)

-- with other members the SYNC goes out, also where participant 0 failed; without them the round is over at once
abbrev pub told : Round → Caught → ℕ → SegsView → Done
told round caught now segs =
    if other_members segs == 0 then alone_by round caught now segs round.kind else synced round now (other_members segs) segs

-- participant 0 has caught up, or failed to
abbrev pub mapped : Round → Caught → ℕ → SegsView → Done
mapped round caught now segs = told round caught now (after_catching 0 caught segs)
