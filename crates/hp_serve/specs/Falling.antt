-- The measure by which serving ends, on participant 0's side: what its round and held asks weigh: the rule "Coordinating" of
-- docs/PARTICIPANTS.md. A growth's first round weighs 96 once its SYNCs are out, and 95 once its deadline has passed; a rollback's or
-- drop's 4 and 3; what a SYNC to fifteen members may bring is 90, since each weighs 3 and may come twice. Before its SYNCs are out a
-- round weighs that much more. A held ask weighs 187, and a RESULT 2.
use Rattle.std.specs.Prelude.{◌≡◌, ℕ, ◌+◌, ◌-◌, ◌*◌, ◌^◌, ◌<◌, ◌≤◌, ◌⊎◌, Bool, true, false, List, Option, Some, None, Result, Ok, Err, sum_by}
use Rattle.hp_core.specs.Core.{Core, due_of, holds_ask}
use Rattle.hp_core.specs.declared.asked.Asked.{Asked}
use Rattle.hp_core.specs.declared.event.CoreEvent.{CoreEvent}
use Rattle.hp_core.specs.declared.event.CoreEvent.TheVariants.{Grow, Shrink, SelfMapped, Poll}
use Rattle.hp_core.specs.declared.out.Out.{Out}
use Rattle.hp_core.specs.declared.out.Out.TheVariants as out
use Rattle.hp_core.specs.declared.phase.Phase.{Phase}
use Rattle.hp_core.specs.declared.phase.Phase.TheVariants.{Idle, Mapping, Waiting}
use Rattle.hp_core.specs.declared.phase.RoundKind.{RoundKind}
use Rattle.hp_core.specs.declared.phase.RoundKind.TheVariants as kind
use Rattle.hp_hall.specs.Measures.{counted}

-- a round before its SYNCs are out
abbrev pub mapping_measure : RoundKind → ℕ
mapping_measure kind.Growth = 186
mapping_measure kind.Rollback = 94
mapping_measure kind.Drop = 94

-- a round whose deadline has passed
abbrev pub late_measure : RoundKind → ℕ
late_measure kind.Growth = 95
late_measure kind.Rollback = 3
late_measure kind.Drop = 3

-- what is under way, without its deadline, and with it
abbrev pub least_measure : Phase → ℕ
least_measure Idle = 0
least_measure (Mapping round) = mapping_measure round.kind
least_measure (Waiting round since) = late_measure round.kind

abbrev pub most_measure : Phase → ℕ
most_measure Idle = 0
most_measure (Mapping round) = mapping_measure round.kind
most_measure (Waiting round since) = late_measure round.kind + 1

abbrev pub held_measure : Option Asked → ℕ
held_measure None = 0
held_measure (Some asked) = 187

-- the held asks
abbrev pub held_sum : List (Option Asked) → ℕ
held_sum held = sum_by held_measure held

-- the coordinator of a participant, at a scale, and by what a deadline counts
abbrev pub own_measure : ℕ → (ℕ → ℕ) → Option Core → ℕ
own_measure scale pending None = 0
own_measure scale pending (Some core) =
    scale * least_measure core.phase + counted pending (due_of core.deadline core.phase) + scale * held_sum core.held

-- what an answer of the coordinator brings into mailboxes
abbrev pub out_measure : Out → ℕ
out_measure out.Nothing = 0
out_measure (out.MapSelf generation) = 0
out_measure (out.Sync generation round members) = 90
out_measure (out.Answer to number what good) = 2

-- 1 where participant 0 is told to catch up
abbrev pub maps_measure : Out → ℕ
maps_measure out.Nothing = 0
maps_measure (out.MapSelf generation) = 1
maps_measure (out.Sync generation round members) = 0
maps_measure (out.Answer to number what good) = 0

-- what an event brings: an ask that was fetched weighs what a held one does
abbrev pub brought : CoreEvent → ℕ
brought (Grow ask) = 187
brought (Shrink from number) = 187
brought (SelfMapped caught now) = 0
brought (Poll now acks) = 0

-- what a step uses up besides: 1 by a poll that does anything, and by a catch-up that is followed by another
abbrev pub used_up : CoreEvent → Out → ℕ
used_up (Grow ask) answer = 0
used_up (Shrink from number) answer = 0
used_up (SelfMapped caught now) answer = maps_measure answer
used_up (Poll now acks) answer = 1

-- all of it together falls, and so much is used up besides
abbrev pub UsesUp : ℕ → ℕ → Core → Core → Out → Type 0
UsesUp brings uses old new answer =
    most_measure new.phase + held_sum new.held + out_measure answer + uses ≤ least_measure old.phase + held_sum old.held + brings

-- what is under way stays, and the held asks bring what goes out; or all of it together falls, and so much is used up besides
abbrev pub FallsBy : ℕ → ℕ → Core → Core → Out → Type 0
FallsBy brings uses old new answer =
    ((new.phase ≡ old.phase) × (new.deadline ≡ old.deadline)
    × (held_sum new.held + out_measure answer + maps_measure answer ≤ held_sum old.held + brings))
    ⊎ UsesUp brings uses old new answer

-- what a step makes fall
abbrev pub Falls : CoreEvent → Core → Core → Out → Type 0
Falls event old new answer = FallsBy (brought event) (used_up event answer) old new answer

-- a step makes the measure of a participant's coordinator fall, where there is one before and after
pub record CoreFalls (brings uses : ℕ) (old new : Option Core) (answer : Out) : Type 0 where
  pub before : Core
  pub behind : Core
  pub old_is : old ≡ Some before
  pub new_is : new ≡ Some behind
  pub falls : FallsBy brings uses before behind answer

-- the deadline of a round has passed at a reading; one at the end of the clock's type never does
pub record HasPassedAt (core : Core) (now : ℕ) : Type 0 where
  pub due : ℕ
  pub its_due : due_of core.deadline core.phase ≡ Some due
  pub early : due < 2 ^ 64 - 1
  pub passed : due ≤ now

-- a poll is due: a held ask can be started, or the deadline of the round under way has passed
abbrev pub IsDueAt : Core → CoreEvent → Type 0
IsDueAt core (Grow ask) = ⊥
IsDueAt core (Shrink from number) = ⊥
IsDueAt core (SelfMapped caught now) = ⊥
IsDueAt core (Poll now acks) = (holds_ask core ≡ true) ⊎ HasPassedAt core now

abbrev pub IsDue : Option Core → CoreEvent → Type 0
IsDue None event = ⊥
IsDue (Some core) event = IsDueAt core event

-- 1 where something moved
abbrev pub if_moved : Bool → ℕ
if_moved true = 1
if_moved false = 0

-- 1 where a serving did something
abbrev pub served_of : {E : Type 0} → Result Bool E → ℕ
served_of (Ok true) = 1
served_of (Ok false) = 0
served_of (Err refusal) = 0
